use Prim.Native.Nat.{ℕ}
use Rattle.folds.specs.Below.{some}
use Rattle.folds.specs.Marked.{Marked}
use Rattle.close_pairs.specs.Hits.{hits_from}
use Rattle.close_pairs.proofs.sweep.Sweep.mark_all.Given as goal

abbrev pub invariant-loop-i : goal.invariant-loop-i
invariant-loop-i l = Marked (λ (m : ℕ). some (λ (p : ℕ). hits_from l.self p m) l.i) l.initial.mark l.mark
