use Prim.Native.Nat.{ℕ, ◌%◌}
use Rattle.folds.specs.Column.{Filling}
use Rattle.recorded.proofs.fill.Given as goal

abbrev pub invariant-loop-i : goal.invariant-loop-i
invariant-loop-i l = Filling l.initial.buffer 0 (λ (k : ℕ). k % 251) l.i l.buffer
