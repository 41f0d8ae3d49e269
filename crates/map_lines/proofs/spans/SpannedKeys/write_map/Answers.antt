use Rattle.std.proofs.Common.{rules}
use Rattle.text.proofs.Stores.{shows}
use Rattle.map_lines.proofs.Drawing.{page-is}
use Rattle.map_lines.proofs.spans.SpannedKeys.write_map.Goals as goal

pub returns : goal.returns
returns c =
    let s = c.args.self.now in
    shows c.new-w.ensures (rw (page-is _ _ _ _ s.along_u s.along_v c.requires.1 _ _ c.draw-page.ensures) at c.put_lines.ensures) c.answer.ensures (search rules)
