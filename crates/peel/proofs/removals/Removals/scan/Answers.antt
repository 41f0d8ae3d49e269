use Rattle.std.proofs.Common.{◌≡◌, ◌<◌, arith}
use mathlib.Core.Logic.{inl, inr, ⊎_elim}
use native.Mathlib.Nat.{eq-or-lt_of_le}
use Rattle.peel.proofs.Searching.{searched-then}
use Rattle.peel.proofs.removals.Removals.scan.Goals as goal

pub loop-k-preserved : goal.loop-k-preserved
loop-k-preserved c =
    searched-then _ (λ j l h. ⊎_elim (λ (d : j ≡ c.loop-k.k). inr d) (λ (d : j < c.loop-k.k). inl d) (eq-or-lt_of_le (omega arith))) c.loop-k.invariant c.consider.ensures
