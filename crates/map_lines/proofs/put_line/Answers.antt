use Rattle.std.proofs.Common.{rules}
use Rattle.text.proofs.Stores.{stored-then}
use Rattle.map_lines.specs.Map.{line_text}
use Rattle.map_lines.proofs.put_line.Goals as goal

pub returns : goal.returns
unfolding line_text
returns c = search (rules, stored-then) depth 12
