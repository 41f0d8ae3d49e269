-- The fields of the sheet, piece by piece, and how long they are. Assumes nothing.
use Rattle.std.proofs.Common.{◌≡◌, ℕ, zero, suc, ◌+◌, ◌*◌, ◌/◌, ◌%◌, List, [], ◌∷◌, ◌++◌, length, refl, ap, ◌∙◌, append_assoc, append-nil, add-one, arith}
use lib.Ieee.{to_bits, of_int}
use Rattle.folds.specs.Lists.{up_from, list_of}
use Rattle.text.specs.Text.{each}
use Rattle.text.specs.Stored.{Stored}
use Rattle.text.specs.declared.Writer.{Writer}
use Rattle.text.proofs.Stores.{stored-then, each_none, each_more, each_long}
use Rattle.cells.specs.Points.{Point}
use Rattle.sheet_file.specs.Bytes.{little_endian}
use Rattle.sheet_file.specs.Grammar.{field}
use Rattle.written_file.specs.File.{point_bytes, points_bytes, strength_bytes, weights}
use Rattle.worst_sheet.specs.Worst.{float_bits, strength_at, point_at, worst_points, settings_data, worst_file}

-- bytes that a function makes of a list of points, from its front on, are those of each point, one after the other
module _ (all : List Point → List ℕ) (one : Point → List ℕ) (none : all [] ≡ []) (more : (p : Point) (ps : List Point) → all (p ∷ ps) ≡ one p ++ all ps) (f : ℕ → Point) where
  each-then : (at n : ℕ) → each (λ u. one (f u)) at ++ all (up_from f at n) ≡ each (λ u. one (f u)) (at + n)
  unfolding up_from
  each-then at zero = let z : at + 0 ≡ at = omega arith in rw (z, none) (append-nil (each (λ u. one (f u)) at))
  each-then at (suc n) =
      let z : at + suc n ≡ suc at + n = omega arith in
      rw (z, more (f at) (up_from f (suc at) n), ← append_assoc (each (λ u. one (f u)) at) (one (f at)) (all (up_from f (suc at) n)), ← each_more (λ u. one (f u)) at, add-one at)
      (each-then (suc at) n)

  all-each : (n : ℕ) → all (list_of n f) ≡ each (λ u. one (f u)) n
  unfolding list_of
  all-each n = let z : 0 + n ≡ n = omega arith in rw (each_none (λ u. one (f u)), z) at (each-then 0 n)

pub records-are : (n : ℕ) → points_bytes (worst_points n) ≡ each (λ u. point_bytes (point_at n u)) n
records-are n = all-each points_bytes point_bytes refl (λ p ps. refl) (point_at n) n

pub strengths-are : (n : ℕ) → strength_bytes (worst_points n) ≡ each (λ u. little_endian (strength_at n u)) n
strengths-are n = all-each strength_bytes (λ p. little_endian p.strength) refl (λ p ps. refl) (point_at n) n

pub records-long : (n : ℕ) → length (points_bytes (worst_points n)) ≡ 20 * n
records-long n = ap length (records-are n) ∙ each_long (λ u. point_bytes (point_at n u)) 20 n (λ k l. refl)

pub strengths-long : (n : ℕ) → length (strength_bytes (worst_points n)) ≡ 4 * n
strengths-long n = ap length (strengths-are n) ∙ each_long (λ u. little_endian (strength_at n u)) 4 n (λ k l. refl)

-- "cell size 7", and all 21 bytes "with 3"
pub settings-are : settings_data ≡ 0 ∷ 0 ∷ 0xE0 ∷ 0x40 ∷ 0x9A ∷ 0x99 ∷ 0x19 ∷ 0x3E ∷ 3 ∷ 0 ∷ 0xCD ∷ 0xCC ∷ 0x4C ∷ 0x3E ∷ 0 ∷ 0 ∷ 0 ∷ 0 ∷ 0 ∷ 1 ∷ 1 ∷ []
unfolding to_bits of_int
settings-are = refl

-- the fields of the sheet
pub file-is : (n : ℕ) → worst_file n ≡ field 1 settings_data ++ (field 3 (points_bytes (worst_points n)) ++ weights (float_bits 2) (worst_points n))
unfolding worst_file
file-is n = refl

-- a field is stored as its tag and length, and its data after them
pub stored-field : (body : List ℕ) {w v u : Writer} {tag size : ℕ} → length body ≡ size → Stored w (tag ∷ size % 256 ∷ size / 256 ∷ []) v → Stored v body u → Stored w (field tag body) u
stored-field body h p q = rw h (stored-then p q)
