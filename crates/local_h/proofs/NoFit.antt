-- "that finding is given in those cases only": a corner has no residual exactly where its base has fewer than four or the four are unfit.
-- Assumes nothing.
use mathlib.Core.Path.{◌≡◌, refl, sym, ◌∙◌, subst}
use mathlib.Core.Bool.{Bool, true, false, cond, not, ◌||◌}
use Prim.Native.Nat.{ℕ}
use Rattle.std.proofs.Common.{Some, None}
use Rattle.float.specs.declared.Distance.{Distance}
use Rattle.homography.specs.declared.PlanePoint.{PlanePoint}
use Rattle.homography.specs.declared.Homography.{Homography}
use Rattle.homography.specs.NoFit.{is_unfit}
use Rattle.homography.proofs.NoFit.{fit-unless}
use Rattle.cells.specs.Cell.{Cell}
use Rattle.view.specs.View.{View}
use Rattle.local_h.specs.Base.{has_four}
use Rattle.local_h.specs.Residual.{distance_by, residual_by, residual_from, residual_at}
use Rattle.local_h.specs.NoFit.{is_unfit_at}
use Rattle.std.specs.Prelude.{Option}

-- the residual r is none where b holds, and else a number
abbrev Unless : Bool → Option Distance → Type 0
Unless b r = (x : Distance) × (r ≡ cond b None (Some x))

unless : (four unfit : Bool) (h : Homography) (p q : PlanePoint) → Unless (not four || unfit) (cond four (residual_by (cond unfit None (Some h)) p q) None)
unfolding residual_by
unless true true h p q = (distance_by h p q, refl)
unless true false h p q = (distance_by h p q, refl)
unless false unfit h p q = (distance_by h p q, refl)

data IsNone : Option Distance → Type 0 where
  none : IsNone None

-- it is a number
pub data IsValue : Option Distance → Type 0 where
  value : (x : Distance) → IsValue (Some x)

none_of : (b : Bool) (x : Distance) → IsNone (cond b None (Some x)) → b ≡ true
none_of true x e = refl
none_of false x e = elim e [ ]

module _ (w : View) (cell : ℕ → Cell) (k : ℕ) where
  residual-unless : Unless (is_unfit_at w cell k) (residual_at w cell k)
  unfolding residual_at residual_from is_unfit_at
  residual-unless = rw (fit-unless _ _) (unless (has_four w k) (is_unfit _ _) _ _ _)

  -- no fit is found in these cases only
  pub no-fit-only : residual_at w cell k ≡ None → is_unfit_at w cell k ≡ true
  no-fit-only e = none_of (is_unfit_at w cell k) residual-unless.0 (subst IsNone (sym e ∙ residual-unless.1) none)

  -- and in all of them
  pub no-fit-all : is_unfit_at w cell k ≡ true → residual_at w cell k ≡ None
  no-fit-all e = residual-unless.1 ∙ rw e refl

  -- in all others the residual is a number
  pub value-else : is_unfit_at w cell k ≡ false → IsValue (residual_at w cell k)
  value-else e = rw (residual-unless.1, e) (value residual-unless.0)
