use Rattle.std.proofs.Common.{arith, refl, ◌≡◌, length, get_or}
use Rattle.folds.proofs.Column.{fill_more}
use Rattle.folds.proofs.Lists.{is-list}
use Rattle.runs.specs.Run.{summed}
use Rattle.runs.proofs.Full.{not_full}
use Rattle.runs.proofs.sums_with.Goals as goal

pub overflow_add-sums : goal.overflow_add-sums
overflow_add-sums c =
    let i = c.loop-i.i in
    omega (arith, c.loop-i.invariant.left i (omega arith), c.requires.small (get_or summed i 0), (not_full c.args.run c.requires.room).low i)

pub loop-i-preserved : goal.loop-i-preserved
loop-i-preserved c =
    fill_more _ 0 _ _ (omega arith) (rw (c.loop-i.invariant.left c.loop-i.i (omega arith)) refl) c.loop-i.invariant

pub returns : goal.returns
returns c = let e : c.loop-i.i ≡ length summed = omega arith in let g = rw e at c.loop-i.invariant in is-list 0 (length summed) _ c.loop-i.sums (omega (arith, g.long)) g.done
