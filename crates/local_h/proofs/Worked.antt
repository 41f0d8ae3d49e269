-- Residuals of one corner by the definitions: with a neighbour on each side, with neighbours that no map fits, and with fewer than four;
-- checked by computing. Assumes nothing.
use mathlib.Core.Bool.{true, false, cond}
use mathlib.Core.List.{List, [], ◌∷◌}
use mathlib.Core.Path.{◌≡◌, refl}
use Prim.Native.Nat.{ℕ}
use lib.Dec.{eqb}
use lib.IntN.{pos}
use lib.ListN.{get_or}
use lib.Ieee.{Float, nan, binary32, of_int}
use Rattle.folds.specs.Arith.{f32}
use Rattle.std.proofs.Common.{Some}
use Rattle.homography.specs.NoFit.{is_unfit}
use Rattle.offsets.specs.Offsets.{own, next_u, prev_u, next_v, prev_v, place_of}
use Rattle.cells.specs.Cell.{Cell}
use Rattle.view.specs.View.{View}
use Rattle.std.specs.Prelude.{None}
use Rattle.local_h.specs.Base.{has_four}
use Rattle.local_h.specs.Residual.{residual_at, residuals-compute}
use Rattle.local_h.specs.NoFit.{is_unfit_at}

-- rank 0 is the corner, and ranks 1 to 4 are at the offsets (0, -1), (-1, 0), (1, 0) and (0, 1); 5 is none
abbrev near : ℕ → ℕ
near i = cond (eqb i (place_of prev_v)) 1 (cond (eqb i (place_of prev_u)) 2 (cond (eqb i (place_of next_u)) 3 (cond (eqb i (place_of next_v)) 4 (cond (eqb i (place_of own)) 0 5))))

abbrev whole : ℕ → Float
whole n = of_int binary32 (pos n)

-- the first n of them at the positions xs and ys, each with an index of its own
abbrev around : ℕ → List Float → List Float → View
around n xs ys =
    record {
      count = n;
      near = near;
      row = λ (k : ℕ). k;
      column = λ (k : ℕ). k;
      by_idx = λ (k : ℕ). k;
      x = λ (k : ℕ). get_or xs k nan;
      y = λ (k : ℕ). get_or ys k nan;
    }

abbrev cell : ℕ → Cell
cell k = record { u = pos (get_or (10 ∷ 10 ∷ 9 ∷ 11 ∷ 10 ∷ []) k 0); v = pos (get_or (12 ∷ 11 ∷ 12 ∷ 12 ∷ 13 ∷ []) k 0) }

abbrev five : View
five = around 5 (whole 1000 ∷ whole 1003 ∷ whole 902 ∷ whole 1099 ∷ whole 1001 ∷ []) (whole 1200 ∷ whole 1097 ∷ whole 1201 ∷ whole 1205 ∷ whole 1298 ∷ [])

pub corner-residual : residual_at five cell 0 ≡ Some (record { value = f32 0x4066_62F0; remainder = Some (pos 8609536) })
unfolding residuals-compute
corner-residual = refl

pub corner-fits : is_unfit_at five cell 0 ≡ false
unfolding residuals-compute is_unfit is_unfit_at
corner-fits = refl

-- three of the four are seen at one place
abbrev seen-at-one : View
seen-at-one = around 5 (whole 1000 ∷ whole 1003 ∷ whole 1003 ∷ whole 1003 ∷ whole 1001 ∷ []) (whole 1200 ∷ whole 1097 ∷ whole 1097 ∷ whole 1097 ∷ whole 1298 ∷ [])

pub three-unfit : (is_unfit_at seen-at-one cell 0 ≡ true) × (residual_at seen-at-one cell 0 ≡ None)
unfolding residuals-compute is_unfit is_unfit_at
three-unfit = (refl, refl)

-- without the neighbour at (0, 1) there are three
abbrev without-fourth : View
without-fourth = around 4 (whole 1000 ∷ whole 1003 ∷ whole 902 ∷ whole 1099 ∷ []) (whole 1200 ∷ whole 1097 ∷ whole 1201 ∷ whole 1205 ∷ [])

pub without-four : (has_four without-fourth 0 ≡ false) × (residual_at without-fourth cell 0 ≡ None)
unfolding residuals-compute
without-four = (refl, refl)
