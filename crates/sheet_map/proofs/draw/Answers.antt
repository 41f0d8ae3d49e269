use Rattle.std.proofs.Common.{sym, ap, ◌∙◌, ◌≤◌, length, arith}
use Rattle.judged.specs.Judged.{Judged, judged_from}
use Rattle.map_lines.proofs.First.{wide-kept, map-first}
use Rattle.sheet_map.proofs.draw.Goals as goal

pub returns-then-too_wide : goal.returns-then-too_wide
returns-then-too_wide c =
    let t = c.args.columns.now.points in
    let inside : t.count ≤ length t.keys.now = omega (arith, t.few) in
    rw (sym (rw (c.of-keys.ensures, wide-kept t.count t.keys.now inside) at c.too_wide.ensures) ∙ c.if-too_wide.true) (rw c.number.ensures at c.write_refusal.ensures)

pub returns : goal.returns
unfolding judged_from
returns c =
    let t = c.args.columns.now.points in
    let inside : t.count ≤ length t.keys.now = omega (arith, t.few) in
    rw (sym (rw (c.of-keys.ensures, wide-kept t.count t.keys.now inside) at c.too_wide.ensures) ∙ c.if-too_wide.false)
    (rw (c.of-keys.ensures, map-first t.count t.keys.now inside c.judge-j.result.marks, ap (λ (x : Judged). x.marks) c.judge-j.ensures) at c.write_map.ensures)
