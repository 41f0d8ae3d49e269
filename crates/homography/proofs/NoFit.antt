-- "that finding is given in those cases only": four points and four others have no fit exactly in the three cases. Assumes nothing.
use mathlib.Core.Path.{◌≡◌, refl, sym, ◌∙◌}
use mathlib.Core.Bool.{Bool, true, false, cond, ◌||◌}
use mathlib.Core.List.{List}
use Rattle.std.proofs.Common.{Some, None}
use Rattle.std.specs.Option.{option_and_then, unwrap_or}
use lib.Ieee.{Float}
use Rattle.linear.specs.Rows.{entry}
use Rattle.linear.specs.Linear.{substituted, solution_of}
use Rattle.homography.specs.declared.PlanePoint.{PlanePoint}
use Rattle.homography.specs.declared.Homography.{Homography}
use Rattle.homography.specs.Fit.{over_last, normalized_map, denormalized_map, map_by, homography_from4pt}
use Rattle.homography.specs.NoFit.{has_zero_diagonal, has_zero_determinant, unscaled_map, is_unfit}

-- the three cases, where z is what is read of no solution
three : (a b : Bool) (negligible : List Float → Bool) (h : List Float → Homography) (x z : List Float)
    → option_and_then (λ y. cond b None (cond (negligible y) None (Some (h y)))) (cond a None (Some x))
    ≡ cond (a || (b || negligible (unwrap_or (cond a None (Some x)) z))) None (Some (h (unwrap_or (cond a None (Some x)) z)))
three true b negligible h x z = refl
three false true negligible h x z = refl
three false false negligible h x z = go (negligible x)
  where
    go : (c : Bool) → cond c None (Some (h x)) ≡ cond c None (Some (h x))
    go c = refl

module _ (p q : List PlanePoint) where
  -- the fit, and none in the three cases
  pub fit-unless : homography_from4pt p q ≡ cond (is_unfit p q) None (Some (over_last (unscaled_map p q) (entry (unscaled_map p q) 2 2)))
  unfolding homography_from4pt map_by denormalized_map normalized_map solution_of substituted is_unfit
  fit-unless = three (has_zero_diagonal p q) (has_zero_determinant p q) _ _ _ _

unless : (b : Bool) (h : Homography) → cond b None (Some h) ≡ None → b ≡ true
unless true h e = refl
unless false h e = cc

-- no fit is found in these cases only
pub unfit-only : (p q : List PlanePoint) → homography_from4pt p q ≡ None → is_unfit p q ≡ true
unfit-only p q e = unless (is_unfit p q) _ (sym (fit-unless p q) ∙ e)

-- and in all of them
pub unfit-all : (p q : List PlanePoint) → is_unfit p q ≡ true → homography_from4pt p q ≡ None
unfit-all p q e = fit-unless p q ∙ rw e refl
