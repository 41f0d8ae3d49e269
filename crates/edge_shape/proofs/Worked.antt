-- Worked examples: what the least of two cosines hides and does not hide. Assumes nothing.
use Rattle.std.specs.Prelude.{Option, Some}
use mathlib.Core.Path.{◌≡◌, refl}
use mathlib.Core.Bool.{true, false, cond}
use mathlib.Core.List.{List, [], ◌∷◌}
use Prim.Native.Nat.{ℕ, ◌+◌, ◌*◌}
use lib.Dec.{eqb}
use lib.ListN.{get_or}
use lib.Ieee.{Float, nan, of_bits}
use Rattle.folds.specs.Arith.{f32}
use Rattle.float.specs.Constants.{zero, half, one, two, minus_one}
use Rattle.offsets.specs.declared.Offset.{Offset}
use Rattle.offsets.specs.Offsets.{next_u, prev_u, next_v, prev_v, place_of}
use Rattle.view.specs.View.{View}
use Rattle.sheet_file.specs.declared.EdgeShapeParams.{EdgeShapeParams}
use Rattle.edge_shape.specs.declared.Measure.{Measure}
use Rattle.edge_shape.specs.declared.Reason.TheVariants.{BadContinuation}
use Rattle.edge_shape.specs.Figures.{noted, continuation_at, continuations_at, figures_at}
use Rattle.edge_shape.specs.Continuations.{cosine_under, reason_by_each, cosine_is_nan}

-- n points at the positions of two lists, of whose ranks only the near ones matter here
abbrev sheet : ℕ → (ℕ → ℕ) → List Float → List Float → View
sheet n near xs ys =
    record { count = n; near = near; row = λ (k : ℕ). k; column = λ (k : ℕ). k; by_idx = λ (k : ℕ). k; x = λ (k : ℕ). get_or xs k nan; y = λ (k : ℕ). get_or ys k nan }

-- where the table of ranks has the rank at offset o from rank k
abbrev near : ℕ → Offset → ℕ
near k o = 25 * k + place_of o

-- a cosine and a ratio
abbrev measure : Float → Float → Measure
measure c r = record { cosine = c; ratio = r }

-- ---- one of two continuations under the least

-- Cells (-1,0), (0,-1), (0,0), (0,1), (1,0) in that order at (-100,0), (0,-100), (0,0), (100,100), (100,0): straight along u, bent along v. From
-- rank 2 the others lie at the offsets (-1,0), (0,-1), (0,1) and (1,0), and rank 2 lies at (1,0) from rank 0 and at (0,1) from rank 1.
abbrev bent : View
bent =
    sheet 5 (λ (i : ℕ). cond (eqb i (near 2 prev_u)) 0 (cond (eqb i (near 2 prev_v)) 1 (cond (eqb i (near 2 next_v)) 3 (cond (eqb i (near 2 next_u)) 4 (cond (eqb i (near 0 next_u)) 2 (cond (eqb i (near 1 next_v)) 2 5))))))
    (f32 0xc2c8_0000 ∷ zero ∷ zero ∷ f32 0x42c8_0000 ∷ f32 0x42c8_0000 ∷ []) (zero ∷ f32 0xc2c8_0000 ∷ zero ∷ f32 0x42c8_0000 ∷ zero ∷ [])

-- "Eight degrees, the Rust's default, becomes 16,613,942 / 2^24."
abbrev gate : EdgeShapeParams
gate =
    record { min_cardinal_degree = 1; continuation_cos_min = f32 0x3f7d_8236; continuation_length_ratio_max = two; cell_opposite_cos_min = zero; cell_opposite_length_ratio_max = two }

abbrev along_u : Option Measure
along_u = continuation_at bent prev_u next_u 2

abbrev along_v : Option Measure
along_v = continuation_at bent prev_v next_v 2

-- the cosine along v is under the least allowed, that along u is not; so the least of them is, and the reason is 2 either way
pub one-under : (cosine_under (f32 0x3f7d_8236) along_u ≡ false)
    × (cosine_under (f32 0x3f7d_8236) along_v ≡ true)
    × (cosine_under (f32 0x3f7d_8236) (continuations_at bent 2) ≡ true)
    × ((figures_at gate bent 2).reason ≡ Some BadContinuation)
    × (reason_by_each gate 4 0 0 along_u along_v ≡ Some BadContinuation)
unfolding figures_at of_bits
one-under = (refl, refl, refl, refl, refl)

-- ---- three cells of a row

abbrev three : List Float → List Float → View
three xs ys = sheet 3 (λ (i : ℕ). cond (eqb i (near 1 prev_u)) 0 (cond (eqb i (near 1 next_u)) 2 (cond (eqb i (near 0 next_u)) 1 3))) xs ys

-- at (0,-5), (-0,0) and (5,-0) the cosine is -0, which is not under +0, and is under 1/2
abbrev minus_zero : View
minus_zero = three (zero ∷ f32 0x8000_0000 ∷ f32 0x40a0_0000 ∷ []) (f32 0xc0a0_0000 ∷ zero ∷ f32 0x8000_0000 ∷ [])

pub minus-zero : (continuations_at minus_zero 1 ≡ Some (measure (f32 0x8000_0000) one))
    × (cosine_under zero (continuations_at minus_zero 1) ≡ false)
    × (cosine_under half (continuations_at minus_zero 1) ≡ true)
unfolding continuations_at of_bits
minus-zero = (refl, refl, refl)

-- ---- what the condition is for

-- finite positions alone do not keep a cosine from being NaN: at x = 0, 2 ^ 127 and 0 again both lengths and their product are infinite
pub too_far : cosine_is_nan (continuation_at (three (zero ∷ f32 0x7f00_0000 ∷ zero ∷ []) (zero ∷ zero ∷ zero ∷ [])) prev_u next_u 1) ≡ true
unfolding continuation_at of_bits
too_far = refl

-- and a NaN that is met first hides a cosine under the least
pub hidden : (cosine_under one (Some (measure minus_one one)) ≡ true) × (cosine_under one (noted (Some (measure nan one)) (Some (measure minus_one one))) ≡ false)
unfolding noted of_bits
hidden = (refl, refl)
