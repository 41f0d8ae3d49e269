-- The sheet that takes longest is accepted, with its points as they stand in the file. Assumes nothing.
use Rattle.std.specs.List.{list_any}
use Rattle.std.specs.Prelude.{None}
use mathlib.Core.Path.{◌≡◌, refl, ◌∙◌}
use mathlib.Core.Bool.{Bool, true, false, cond}
use mathlib.Core.Logic.{inl}
use Prim.Native.Nat.{ℕ, ◌+◌, ◌*◌, ◌≤◌, ◌<◌}
use native.Mathlib.Omega.{arith}
use lib.Dec.{eqb}
use lib.Ieee.{lt, of_bits}
use lib.ListN.{length, get_or}
use borrow.Author.Tests.{le-ltb, ne_eqb}
use Rattle.folds.specs.Arith.{f32}
use Rattle.folds.specs.Lists.{All}
use Rattle.folds.proofs.Among.{any-list, pair-no}
use Rattle.folds.proofs.Below.{some-no}
use Rattle.folds.proofs.Lists.{length-list, list_at}
use Rattle.view.specs.View.{max_points}
use Rattle.refusals.proofs.Laws.{holds, none_passes}
use Rattle.cells.specs.Points.{nowhere, biased, key_of}
use Rattle.cells.specs.Cell.{signed, within}
use Rattle.cells.proofs.Coordinates.{ends-are}
use Rattle.cells.proofs.Keys.{range-is}
use Rattle.sort.proofs.Sorted.{at_all}
use Rattle.sheet_file.specs.Bytes.{Bytes}
use Rattle.sheet_file.specs.Refusals.{defaults_with, fraction_in}
use Rattle.points.specs.Refusals.{off_range, off_limit, off_strength, same_cell, two_positions, two_strengths, point_refusals, comes_before, cell_order}
use Rattle.ruling.specs.Ruling.{refused, accepted, ruling_for, ruling_of}
use Rattle.ruling.specs.Accepted.{Words}
use Rattle.written_file.proofs.ReadBack.{ruled, spelled-bytes, bytes_back}
use Rattle.straight_row.specs.Row.{Plain}
use Rattle.worst_sheet.specs.Worst.{float_bits, point_at, worst_points, settings_data, worst_file}
use Rattle.worst_row.specs.Sheet.{worst_settings}
use Rattle.worst_row.proofs.Patterns.{bits_small, bits_inside, two_is, seven_is}
use Rattle.sort.proofs.Listed.{sort-listed}

-- ---- the settings

pub settings-plain : Plain worst_settings
unfolding lt of_bits
settings-plain = record { cell = refl; ungated = refl; tolerant = refl }

settings-are : defaults_with 3 (f32 (float_bits 7)) None (fraction_in (f32 (float_bits 2))) ≡ worst_settings
settings-are = rw (seven_is, bits_inside 2 (omega arith), two_is)

-- ---- one point

module _ (n : ℕ) where
  point-words : (u : ℕ) → u < max_points → Words (point_at n u)
  point-words u h = record { u = omega arith; v = omega arith; index = omega arith; x = bits_small (7 * u); y = bits_small 0; strength = bits_small (cond (eqb (u + 1) n) 2 1) }

  in-range : (u : ℕ) → u < max_points → within (signed u) ≡ true
  in-range u h = range-is u (omega arith) ∙ ends-are (biased u) (omega arith) (omega arith)

  point-in-range : (u : ℕ) → u < max_points → off_range (point_at n u) ≡ false
  point-in-range u h = rw (in-range u h)

  point-in-limit : (u : ℕ) → u < max_points → off_limit (point_at n u) ≡ false
  point-in-limit u h = rw (bits_inside (7 * u) (omega arith), bits_inside 0 (omega arith))

  strength-in-limit : (u : ℕ) → off_strength (point_at n u) ≡ false
  strength-in-limit u = bits_inside (cond (eqb (u + 1) n) 2 1) (small (eqb (u + 1) n))
    where
      small : (b : Bool) → cond b 2 1 ≤ 16384
      small true = omega arith
      small false = omega arith

  key-is : (u : ℕ) → u < max_points → key_of (point_at n u) ≡ (u + 8003) * 16384 + 8003
  key-is u h = omega arith

apart : (i j : ℕ) → i < j → eqb i j ≡ false
apart i j l = ne_eqb i j (λ e. omega (arith, e))

-- ---- all of them

module _ (n : ℕ) (few : n ≤ max_points) where
  pub point-is : (k : ℕ) → k < n → get_or (worst_points n) k nowhere ≡ point_at n k
  point-is k h = list_at n (point_at n) k nowhere h

  pub point-count : length (worst_points n) ≡ n
  point-count = length-list n (point_at n)

  words : All Words (worst_points n)
  words = at_all Words nowhere (worst_points n) (λ k h. let l : k < n = omega (arith, point-count) in rw (point-is k l) (point-words n k (omega arith)))

  -- none of 6, 7, 13, 8, 9 and 14 applies
  points-pass : list_any holds (point_refusals worst_settings.score_frac (worst_points n)) ≡ false
  unfolding point_refusals
  points-pass =
      rw (
        any-list (point_at n) n off_range ∙ some-no (λ k. off_range (point_at n k)) n (λ k h. point-in-range n k (omega arith)),
        any-list (point_at n) n off_limit ∙ some-no (λ k. off_limit (point_at n k)) n (λ k h. point-in-limit n k (omega arith)),
        any-list (point_at n) n off_strength ∙ some-no (λ k. off_strength (point_at n k)) n (λ k h. strength-in-limit n k),
        pair-no (point_at n) n same_cell (λ i j l h. rw (apart i j l)),
        pair-no (point_at n) n two_positions (λ i j l h. rw (apart i j l)),
        pair-no (point_at n) n two_strengths (λ i j l h. rw (apart i j l)),
      )

  -- "from u = 0 upward": they are in cell order
  in_order : cell_order (worst_points n) ≡ worst_points n
  in_order = sort-listed comes_before (point_at n) n (λ i j l h. le-ltb (key_of (point_at n j)) (key_of (point_at n i)) (omega (arith, key-is n i (omega arith), key-is n j (omega arith))))

  points-accepted : ruling_for worst_settings (worst_points n) ≡ accepted worst_settings (worst_points n)
  unfolding ruling_for
  points-accepted = none_passes refused (accepted worst_settings (cell_order (worst_points n))) (point_refusals worst_settings.score_frac (worst_points n)) points-pass ∙ rw in_order

  pub worst-accepted : (room : ℕ) → 28 * n ≤ room → ruling_of (worst_file n) room ≡ accepted worst_settings (worst_points n)
  unfolding worst_file
  worst-accepted room enough =
      ruled (float_bits 7) 3 (float_bits 2) (worst_points n) (bits_small 7) (omega arith) room (omega (arith, point-count)) words (bits_small 2) (omega (arith, point-count)) (bits_inside 7 (omega arith))
      ∙ rw settings-are points-accepted

  pub worst-bytes : Bytes (worst_file n)
  unfolding worst_file
  worst-bytes = bytes_back settings_data (float_bits 2) (worst_points n) (inl refl) (spelled-bytes (float_bits 7) 3) (omega (arith, point-count))
