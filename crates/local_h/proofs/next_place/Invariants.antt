use Rattle.std.proofs.Common.{◌≡◌, Bool, ◌&&◌, ℕ}
use Rattle.folds.specs.Below.{first}
use Rattle.offsets.specs.declared.Offset.{Offset}
use Rattle.view.specs.Seen.{lattice_in}
use Rattle.local_h.specs.Order.{offset_at}
use Rattle.local_h.specs.Base.{is_other}
use Rattle.local_h.proofs.next_place.Given as goal

abbrev pub invariant-loop-p : goal.invariant-loop-p
invariant-loop-p g l =
    (h : Offset → Bool) → ((o : Offset) (r : Bool) → goal.F-post g l.serves o r → r ≡ h o)
    → first (λ (p : ℕ). h (offset_at p) && is_other (lattice_in l.lattice) l.k p) l.p 24 ≡ first (λ (p : ℕ). h (offset_at p) && is_other (lattice_in l.lattice) l.k p) l.start 24
