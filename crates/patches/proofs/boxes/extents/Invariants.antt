use Rattle.std.proofs.Common.{get_or}
use Rattle.patches.specs.Extents.{nowhere, extent_with}
use Rattle.patches.proofs.Gathering.{AtLabels}
use Rattle.patches.proofs.boxes.extents.Given as goal

abbrev pub invariant-loop-i : goal.invariant-loop-i
invariant-loop-i l = AtLabels nowhere l.points.label l.points.sheet.lattice.count (λ k e. extent_with e (get_or l.points.keys.now k 0)) l.i l.far
