use Rattle.std.specs.List.{fold}
use Rattle.view.specs.View.{value_at}
use Rattle.folds.specs.Arith.{◌⊕◌, zero_f}
use lib.Ieee.{Float}
use lib.ListN.{take}
use mathlib.Core.Path.{◌≡◌}
use Prim.Native.Nat.{ℕ}
use Rattle.lines.proofs.Rule.centre.Given as goal

abbrev pub invariant-loop-j : goal.invariant-loop-j
invariant-loop-j l = (l.cx ≡ fold (λ (s : Float) (j : ℕ). s ⊕ value_at l.self.seen.x.now j) zero_f (take l.j-index l.members)) × (l.cy ≡ fold (λ (s : Float) (j : ℕ). s ⊕ value_at l.self.seen.y.now j) zero_f (take l.j-index l.members))
