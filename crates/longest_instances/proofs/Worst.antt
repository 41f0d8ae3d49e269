-- The sheet that the program `worst` writes: of three points it has the points and strengths of the worked row of three, of 2,304 it takes
-- 2,303 rounds; and what the conditions are for: one point, a point too many, a buffer that is a byte too short. Assumes nothing.
use Rattle.std.specs.Prelude.{Ok}
use mathlib.Core.Path.{◌≡◌, refl, sym, ap, ◌∙◌}
use mathlib.Core.List.{List, ◌++◌}
use mathlib.Core.Logic.{inl}
use Prim.Native.Nat.{ℕ, ◌*◌, ◌≤◌, ◌<◌}
use native.Mathlib.Omega.{arith}
use lib.Ieee.{of_int, round, to_bits}
use lib.ListN.{drop}
use Rattle.folds.specs.Lists.{list_of}
use Rattle.folds.proofs.Lists.{length-list}
use Rattle.view.specs.View.{max_points}
use Rattle.sheet_file.specs.Grammar.{field}
use Rattle.sheet_file.specs.Refusals.{settings_in}
use Rattle.ruling.specs.Ruling.{Ruling, refused, accepted, ruling_of}
use Rattle.written_file.specs.File.{weighed_file}
use Rattle.written_file.proofs.Framed.{SettingsSize}
use Rattle.written_file.proofs.ReadBack.{many-refused, room-refused}
use Rattle.kept.specs.Answer.{answer_of}
use Rattle.worst_sheet.specs.Worst.{float_bits, point_at, worst_points, settings_data, worst_file}
use Rattle.worst_row.specs.Sheet.{worst_settings}
use Rattle.promises.specs.Words.{rounds_of}
use Rattle.promises.specs.Worst.{Reaches}
use Rattle.promises.proofs.Worst.{worst}
use Rattle.stars.specs.Stars.{rules-compute}
use Rattle.stars.specs.Listed.{file-computes, row_file}

-- ---- three points: byte for byte the row of the worked sheets, after tag 1

pub three-is : worst_file 3 ≡ field 1 settings_data ++ drop 7 row_file
unfolding worst_file to_bits of_int round
three-is = refl

pub three-answered : answer_of (worst_file 3) 84 ≡ Ok (record { points = 3; components = 1; rounds = 2 })
unfolding answer_of worst_file to_bits of_int round settings_in file-computes rules-compute
three-answered = refl

-- ---- the most points

pub most-reaches : Reaches 2304 64512
most-reaches = worst 2304 64512 (omega arith) (omega arith) (omega arith)

pub most-rounds : rounds_of worst_settings (worst_points 2304) ≡ 2303
most-rounds = most-reaches.rounds

-- ---- one point: it is weak, since its strength is the median, and goes

pub one-rounds : rounds_of worst_settings (worst_points 1) ≡ 1
unfolding rules-compute list_of to_bits of_int round
one-rounds = refl

pub two-points-needed : ((n room : ℕ) → n ≤ max_points → 28 * n ≤ room → Reaches n room) → ⊥
two-points-needed f = omega (arith, (f 1 28 (omega arith) (omega arith)).rounds, one-rounds)

-- ---- a point too many, and a byte too few

abbrev ruled_as : Ruling → ℕ
ruled_as (refused k) = k
ruled_as (accepted s ps) = 0

worst-size : SettingsSize settings_data
worst-size = inl refl

worst-is : (n : ℕ) → worst_file n ≡ weighed_file settings_data (float_bits 2) (worst_points n)
unfolding worst_file
worst-is n = refl

pub too-many : (n room : ℕ) → max_points < n → ruling_of (worst_file n) room ≡ refused 2
too-many n room h = ap (λ (file : List ℕ). ruling_of file room) (worst-is n) ∙ many-refused settings_data (float_bits 2) (worst_points n) room worst-size (omega (arith, length-list n (point_at n)))

pub limit-needed : ((n room : ℕ) → 2 ≤ n → 28 * n ≤ room → Reaches n room) → ⊥
limit-needed f = let z : ◌≡◌ {A = ℕ} 2 0 = ap ruled_as (sym (too-many 2305 64540 (omega arith)) ∙ (f 2305 64540 (omega arith) (omega arith)).ruling) in omega arith

pub too-short : (n room : ℕ) → n ≤ max_points → room < 28 * n → ruling_of (worst_file n) room ≡ refused 3
too-short n room few h =
    ap (λ (file : List ℕ). ruling_of file room) (worst-is n)
    ∙ room-refused settings_data (float_bits 2) (worst_points n) room worst-size (omega (arith, length-list n (point_at n))) (omega (arith, length-list n (point_at n)))

pub room-needed : ((n room : ℕ) → 2 ≤ n → n ≤ max_points → Reaches n room) → ⊥
room-needed f = let z : ◌≡◌ {A = ℕ} 3 0 = ap ruled_as (sym (too-short 2 55 (omega arith) (omega arith)) ∙ (f 2 55 (omega arith) (omega arith)).ruling) in omega arith
