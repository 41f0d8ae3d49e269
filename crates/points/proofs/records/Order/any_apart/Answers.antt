use Rattle.std.proofs.Common.{◌≡◌, ◌+◌, ◌-◌, ◌<◌, true, false, sym, ◌∙◌, arith}
use Rattle.folds.proofs.Below.{some-none, some_more, some-yes}
use Rattle.points.proofs.Clashes.{clashes_at, neighbours-and-pairs, same-key, other_key}
use Rattle.points.proofs.records.Order.any_apart.Goals as goal
use Rattle.points.proofs.records.Order.any_apart.Goals.{else-key-via-then-key+else-apart, else-key-via-else-key}

pub loop-r-init : goal.loop-r-init
loop-r-init g c key same e post = some-none _

pub returns-then-apart : goal.returns-then-apart
returns-then-apart g c key same alike e post =
    let s = c.args.self.now.points in
    let l : c.loop-r.r + 1 < s.layout.count = omega arith in
    let yes : clashes_at s.file.now s.layout key same c.loop-r.r ≡ true =
    same-key s.file.now s.layout key same s.fit.records.few c.args.self.now.entries e c.loop-r.r l (omega arith)
    (rw (c.place.ensures.0, c.place-then-key.ensures.0) at (sym c.if-apart.true ∙ post _ _ _ (omega arith) (omega arith) c.apart.ensures)) in
    sym (neighbours-and-pairs s.file.now s.layout key same s.fit.records.few alike ∙ some-yes _ _ c.loop-r.r (omega arith) yes)

pub loop-r-preserved : goal.loop-r-preserved
loop-r-preserved g c key same e post =
    let s = c.args.self.now.points in
    let l : c.loop-r.r + 1 < s.layout.count = omega arith in
    let no : clashes_at s.file.now s.layout key same c.loop-r.r ≡ false = elim c.else-key.branch [
      | else-key-via-then-key+else-apart w ↦ same-key s.file.now s.layout key same s.fit.records.few c.args.self.now.entries e c.loop-r.r l (omega arith)
          (rw (w.place.ensures.0, w.place-then-key.ensures.0) at (sym w.if-apart.false ∙ post _ _ _ (omega arith) (omega arith) w.apart.ensures))
      | else-key-via-else-key w ↦ other_key s.file.now s.layout key same s.fit.records.few c.args.self.now.entries e c.loop-r.r l (λ k. omega arith)
    ] in
    some_more _ c.loop-r.r ∙ rw (c.loop-r.invariant key same e post) no

pub returns : goal.returns
returns g c key same alike e post =
    let s = c.args.self.now.points in
    let z : c.loop-r.r ≡ s.layout.count - 1 = omega arith in
    sym (neighbours-and-pairs s.file.now s.layout key same s.fit.records.few alike ∙ rw z at (c.loop-r.invariant key same e post))
