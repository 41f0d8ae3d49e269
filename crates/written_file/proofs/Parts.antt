-- What is read of the parts of a file: of lists of bytes one after the other, of records and of strengths. Assumes nothing.
use mathlib.Core.Path.{◌≡◌, refl, ◌∙◌}
use mathlib.Core.List.{List, [], ◌∷◌, ◌++◌}
use Prim.Native.Nat.{ℕ, zero, suc, ◌+◌, ◌*◌, ◌/◌, ◌%◌, ◌^◌, ◌≤◌, ◌<◌}
use native.Mathlib.Omega.{arith}
use lib.ListN.{length, get_or, get_or-append}
use lib.Seq.{get_or-append-add}
use Rattle.folds.specs.Lists.{All}
use Rattle.folds.proofs.Lists.{past_end}
use Rattle.cells.specs.Points.{Point, nowhere}
use Rattle.sheet_file.specs.Bytes.{Bytes, byte_at, le32, little_endian}
use Rattle.sheet_file.specs.Refusals.{gate_in, gate_floats}
use Rattle.sheet_file.proofs.Words.{SameBytes, bytes-join, le32-same, same-within}
use Rattle.points.specs.Records.{point_in}
use Rattle.points.proofs.Located.{point-same}
use Rattle.ruling.specs.Accepted.{Words}
use Rattle.written_file.specs.File.{point_bytes, points_bytes, strength_bytes}

-- ---- two lists

module _ (a l : List ℕ) where
  -- the bytes of the first, and those of the second
  pub first_part : (m k : ℕ) → k + m ≤ length a → SameBytes m a k (a ++ l) k
  first_part m k h j b = get_or-append a l 0 (k + j) (omega arith)

  pub second-part : (m k : ℕ) → SameBytes m l k (a ++ l) (length a + k)
  second-part m k j b = let e : length a + k + j ≡ length a + (k + j) = omega arith in rw e (get_or-append-add a l (k + j) 0)

  pub word_after : (at k : ℕ) → at ≡ length a + k → le32 (a ++ l) at ≡ le32 l k
  word_after at k e = rw e (le32-same l k (a ++ l) (length a + k) (second-part 4 k))

  pub point-after : (at k w : ℕ) → at ≡ length a + k → point_in (a ++ l) at w ≡ point_in l k w
  point-after at k w e = rw e (point-same l k (a ++ l) (length a + k) w (second-part 20 k))

-- tag 2 depends on its own bytes alone
module _ (file : List ℕ) (at : ℕ) (other : List ℕ) (to : ℕ) (h : SameBytes 17 file at other to) where
  gate-word : (j : ℕ) → j + 4 ≤ 17 → le32 other (to + j) ≡ le32 file (at + j)
  gate-word j l = le32-same file (at + j) other (to + j) (same-within 17 file at other to h j 4 l)

  pub gate-same : (gate_in other to ≡ gate_in file at) × (gate_floats other to ≡ gate_floats file at)
  unfolding gate_in
  gate-same =
      let z : to + 0 ≡ to = omega arith in
      let y : at + 0 ≡ at = omega arith in
      let first : byte_at other to ≡ byte_at file at = rw (z, y) at (h 0 (omega arith)) in
      rw (first, gate-word 1 (omega arith), gate-word 5 (omega arith), gate-word 9 (omega arith), gate-word 13 (omega arith)) (refl, refl)

pub no_bytes : Bytes []
no_bytes k = omega (arith, past_end {A = ℕ} 0 k)

-- ---- a number and its four bytes

from_bytes : (b : ℕ) → b < 2 ^ 32 → b % 256 + 256 * (b / 256 % 256) + 65536 * (b / 65536 % 256) + 16777216 * (b / 16777216 % 256) ≡ b
from_bytes b h =
    let first : b ≡ 256 * (b / 256) + b % 256 = omega arith in
    let second : b / 256 ≡ 256 * (b / 65536) + b / 256 % 256 = omega arith in
    let third : b / 65536 ≡ 256 * (b / 16777216) + b / 65536 % 256 = omega arith in
    let fourth : b / 16777216 % 256 ≡ b / 16777216 = omega arith in
    omega (arith, first, second, third, fourth)

pub word-there : (b : ℕ) (l : List ℕ) → b < 2 ^ 32 → le32 (little_endian b ++ l) 0 ≡ b
unfolding le32
word-there b l h = from_bytes b h

word_bytes : (b : ℕ) → Bytes (little_endian b)
word_bytes b zero = omega arith
word_bytes b (suc zero) = omega arith
word_bytes b (suc (suc zero)) = omega arith
word_bytes b (suc (suc (suc zero))) = omega arith
word_bytes b (suc (suc (suc (suc k)))) = no_bytes k

-- the four bytes of each of some numbers
abbrev words : List ℕ → List ℕ
words [] = []
words (b ∷ l) = little_endian b ++ words l

pub words-bytes : (l r : List ℕ) → Bytes r → Bytes (words l ++ r)
words-bytes [] r h = h
words-bytes (b ∷ l) r h = bytes-join (little_endian b) (words l ++ r) (word_bytes b) (words-bytes l r h)

-- ---- records

pub records-length : (ps : List Point) → length (points_bytes ps) ≡ 20 * length ps
records-length [] = refl
records-length (p ∷ ps) = omega (arith, records-length ps)

-- the point with another strength
abbrev pub weighing : Point → ℕ → Point
weighing p w = record { u = p.u; v = p.v; index = p.index; x = p.x; y = p.y; strength = w }

record-there : (p : Point) (l : List ℕ) (w : ℕ) → Words p → point_in (point_bytes p ++ l) 0 w ≡ weighing p w
unfolding le32
record-there p l w h = rw (from_bytes p.u h.u, from_bytes p.v h.v, from_bytes p.index h.index, from_bytes p.x h.x, from_bytes p.y h.y)

-- point i of a list is read of its records
pub records-there : (ps : List Point) (l : List ℕ) (w : ℕ) → All Words ps → (i : ℕ) → i < length ps → point_in (points_bytes ps ++ l) (20 * i) w ≡ weighing (get_or ps i nowhere) w
records-there [] l w h i b = absurd (omega arith)
records-there (p ∷ ps) l w h zero b = record-there p (points_bytes ps ++ l) w h.0
records-there (p ∷ ps) l w h (suc i) b = point-after (point_bytes p) (points_bytes ps ++ l) (20 * suc i) (20 * i) w (omega arith) ∙ records-there ps l w h.1 i (omega arith)

pub records-bytes : (ps : List Point) → Bytes (points_bytes ps)
records-bytes [] = no_bytes
records-bytes (p ∷ ps) = words-bytes (p.u ∷ p.v ∷ p.index ∷ p.x ∷ p.y ∷ []) (points_bytes ps) (records-bytes ps)

-- ---- strengths

pub strengths-length : (ps : List Point) → length (strength_bytes ps) ≡ 4 * length ps
strengths-length [] = refl
strengths-length (p ∷ ps) = omega (arith, strengths-length ps)

-- strength i of a list is read of its strengths
pub strengths-there : (ps : List Point) → All Words ps → (i : ℕ) → i < length ps → le32 (strength_bytes ps) (4 * i) ≡ (get_or ps i nowhere).strength
strengths-there [] h i b = absurd (omega arith)
strengths-there (p ∷ ps) h zero b = word-there p.strength (strength_bytes ps) h.0.strength
strengths-there (p ∷ ps) h (suc i) b = word_after (little_endian p.strength) (strength_bytes ps) (4 * suc i) (4 * i) (omega arith) ∙ strengths-there ps h.1 i (omega arith)

-- where all are 0, each is
pub strengths-none : (ps : List Point) → All (λ (p : Point). p.strength ≡ 0) ps → (i : ℕ) → i < length ps → (get_or ps i nowhere).strength ≡ 0
strengths-none [] h i b = absurd (omega arith)
strengths-none (p ∷ ps) h zero b = h.0
strengths-none (p ∷ ps) h (suc i) b = strengths-none ps h.1 i (omega arith)

pub strengths-bytes : (ps : List Point) → Bytes (strength_bytes ps)
strengths-bytes [] = no_bytes
strengths-bytes (p ∷ ps) = words-bytes (p.strength ∷ []) (strength_bytes ps) (strengths-bytes ps)
