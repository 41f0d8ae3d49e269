-- Where a point stands on the map: at its line and column, and every point has one. Assumes nothing.
use mathlib.Core.Path.{◌≡◌, refl, sym, ap, ◌∙◌}
use mathlib.Core.Bool.{true, false, true≢false}
use mathlib.Core.List.{List, [], ◌∷◌, ◌++◌}
use Prim.{yes, no}
use Prim.Native.Nat.{ℕ, zero, suc, ◌+◌, ◌-◌, ◌*◌, ◌≤◌, ◌<◌}
use native.Mathlib.Decide.{ℕ_discrete}
use native.Mathlib.Nat.{mul-suc, mul-le-mul_left}
use native.Mathlib.Numerals.{add-one}
use native.Mathlib.Omega.{arith}
use borrow.Author.Tests.{lt-ltb, le-ltb, ltb-false}
use lib.IntN.{ℤ, pos, negsuc, nat_abs, ◌+ℤ◌, ◌-ℤ◌, +ℤ_comm}
use lib.ListN.{length, get_or, length-append, get_or-append}
use lib.Seq.{get_or-append-add}
use lib.Signed.{lt_z}
use Rattle.cells.specs.Cell.{Cell, within}
use Rattle.cells.proofs.Edges.{same-cell}
use Rattle.text.specs.Text.{bytes, each, whole, right_aligned}
use Rattle.text.proofs.Stores.{each_more, each_long, right-length}
use Rattle.map_lines.specs.Map.{label_width, columns, line_length, smallest, largest, span, smallest_v, span_v, too_wide, cell_in, place_in_text, point_character, cell_character, line_characters, map_of}
use Rattle.map_lines.proofs.Whole.{distance, less-moved}
use Rattle.map_lines.proofs.Extremes.{smallest-among, none_below, none_above, span-some, line-within}
use Rattle.map_lines.proofs.Characters.{point-shown, none-shown}
use Rattle.map_lines.proofs.Size.{few-columns, characters-are, characters-long, cell-long, whole-short, line_at, map_is, line-size, line-whole}

-- ---- whole numbers from the smallest on

-- u, as so many steps up from s
steps_up : (s u : ℤ) → lt_z u s ≡ false → s +ℤ pos (nat_abs (u -ℤ s)) ≡ u
steps_up (pos s) (pos u) e = let l = ltb-false u s e in let d : s + nat_abs (pos u -ℤ pos s) ≡ u = omega (arith, distance u s l) in ap pos d
steps_up (pos s) (negsuc u) e = absurd (true≢false e)
steps_up (negsuc s) (pos u) e = let d : u + suc s - suc s ≡ u = omega arith in rw (le-ltb (u + suc s) (suc s) (omega arith)) (ap pos d)
steps_up (negsuc s) (negsuc u) e =
    let l = ltb-false s u e in
    let d : suc s - suc (suc s - suc u) ≡ u = omega arith in
    rw (le-ltb (suc s) (suc u) (omega arith), lt-ltb (suc s - suc u) (suc s) (omega arith)) (ap negsuc d)

nearer : (s u l : ℤ) → lt_z u s ≡ false → lt_z l s ≡ false → lt_z l u ≡ false → nat_abs (u -ℤ s) ≤ nat_abs (l -ℤ s)
nearer s u l p q r =
    let a = nat_abs (u -ℤ s) in
    let b = nat_abs (l -ℤ s) in
    let up : pos a +ℤ s ≡ u = +ℤ_comm (pos a) s ∙ steps_up s u p in
    let lp : pos b +ℤ s ≡ l = +ℤ_comm (pos b) s ∙ steps_up s l q in
    ltb-false b a (sym (less-moved (pos b) (pos a) s) ∙ ap (λ (x : ℤ). lt_z x (pos a +ℤ s)) lp ∙ ap (lt_z l) up ∙ r)

module _ (z : ℕ → ℤ) (n : ℕ) where
  -- how far number k is from the smallest
  abbrev steps_from : ℕ → ℕ
  steps_from k = nat_abs (z k -ℤ smallest z n)

  steps-inside : (k : ℕ) → k < n → steps_from k < span z n
  steps-inside k l =
      let a = smallest-among z n (omega arith) in
      omega (
        arith,
        span-some z n (λ e. absurd (omega arith)),
        nearer (smallest z n) (z k) (largest z n) (none_below z n k l) (ap (lt_z (largest z n)) a.2 ∙ none_above z n a.0 a.1) (none_above z n k l),
      )

  steps-reach : (k : ℕ) → k < n → smallest z n +ℤ pos (steps_from k) ≡ z k
  steps-reach k l = steps_up (smallest z n) (z k) (none_below z n k l)

-- ---- texts of equal parts

-- character j of part i
pub each_at : (f : ℕ → List ℕ) (c n : ℕ) → ((k : ℕ) → k < n → length (f k) ≡ c) → (i j : ℕ) → i < n → j < c → get_or (each f n) (c * i + j) 0 ≡ get_or (f i) j 0
each_at f c zero h i j l m = absurd (omega arith)
each_at f c (suc n) h i j l m =
    let shorter : (k : ℕ) → k < n → length (f k) ≡ c = λ k g. h k (omega arith) in
    let size = each_long f c n shorter in
    rw (← add-one n, each_more f n)
    (elim (ℕ_discrete i n) [
      | yes e ↦ rw (e, ← size) (get_or-append-add (each f n) (f n) j 0)
      | no e ↦ get_or-append (each f n) (f n) 0 (c * i + j) (omega (arith, size, mul-suc c i, mul-le-mul_left {m = suc i} {n = n} c (omega (arith, e)))) ∙ each_at f c n shorter i j (omega (arith, e)) m
    ])

one_byte : (t : List ℕ) → length t ≡ 1 → get_or t 0 0 ∷ [] ≡ t
one_byte [] e = absurd (omega arith)
one_byte (c ∷ []) e = refl
one_byte (c ∷ d ∷ t) e = absurd (omega arith)

-- ---- the map

module _ (n : ℕ) (cell : ℕ → Cell) (marks : List ℕ) where
  abbrev char_at : ℕ → ℕ → List ℕ
  char_at i j = cell_character n cell marks (cell_in n cell i j)

  in-characters : (i j : ℕ) → j < columns → get_or (line_characters n cell marks i) j 0 ≡ get_or (char_at i j) 0 0
  in-characters i j m =
      let index : j ≡ 1 * j + 0 = omega arith in
      ap (λ (k : ℕ). get_or (line_characters n cell marks i) k 0) index
      ∙ ap (λ (t : List ℕ). get_or t (1 * j + 0) 0) (characters-are n cell marks i)
      ∙ each_at (char_at i) 1 columns (λ k g. cell-long n cell marks (cell_in n cell i k)) j 0 m (omega arith)

  module _ (inside : (k : ℕ) → k < n → within (cell k).v ≡ true) where
    -- v and a space
    pub margin-wide : (i : ℕ) → i < span_v n cell → length (right_aligned label_width (whole (smallest_v n cell +ℤ pos i)) ++ bytes " ") ≡ label_width + 1
    margin-wide i l =
        let v = smallest_v n cell +ℤ pos i in
        length-append (right_aligned label_width (whole v)) (bytes " ")
        ∙ omega (arith, right-length label_width (whole v) (omega (arith, whole-short v (line-within (λ (k : ℕ). (cell k).v) n inside i l))))

    in-line : (i j : ℕ) → i < span_v n cell → j < columns → get_or (line_at n cell marks i ++ bytes "\n") (label_width + 1 + j) 0 ≡ get_or (line_characters n cell marks i) j 0
    in-line i j l m =
        let characters = line_characters n cell marks i in
        let margin = right_aligned label_width (whole (smallest_v n cell +ℤ pos i)) ++ bytes " " in
        get_or-append (line_at n cell marks i) (bytes "\n") 0 (label_width + 1 + j) (omega (arith, line-size n cell marks inside i l))
        ∙ get_or-append (margin ++ characters) (bytes " ") 0 (label_width + 1 + j) (omega (arith, length-append margin characters, margin-wide i l, characters-long n cell marks i))
        ∙ ap (λ (k : ℕ). get_or (margin ++ characters) (k + j) 0) (sym (margin-wide i l))
        ∙ get_or-append-add margin characters j 0

    in_map : (i j : ℕ) → i < span_v n cell → j < columns → get_or (map_of n cell marks) (place_in_text i j) 0 ≡ get_or (line_at n cell marks i ++ bytes "\n") (label_width + 1 + j) 0
    in_map i j l m =
        ap (λ (t : List ℕ). get_or t (place_in_text i j) 0) (map_is n cell marks)
        ∙ each_at (λ i. line_at n cell marks i ++ bytes "\n") (line_length + 1) (span_v n cell) (line-whole n cell marks inside) i (label_width + 1 + j) l (omega arith)

    -- the byte at line i and column j is the character of their cell
    map-byte : (i j : ℕ) → i < span_v n cell → j < columns → get_or (map_of n cell marks) (place_in_text i j) 0 ∷ [] ≡ cell_character n cell marks (cell_in n cell i j)
    map-byte i j l m = ap (λ (c : ℕ). c ∷ []) (in_map i j l m ∙ in-line i j l m ∙ in-characters i j m) ∙ one_byte (char_at i j) (cell-long n cell marks (cell_in n cell i j))

module _ (n : ℕ) (cell : ℕ → Cell) where
  -- the line and the column of rank k
  abbrev pub line_of_rank : ℕ → ℕ
  line_of_rank k = steps_from (λ (k : ℕ). (cell k).v) n k

  abbrev pub column_of_rank : ℕ → ℕ
  column_of_rank k = steps_from (λ (k : ℕ). (cell k).u) n k

  pub cell-of-rank : (k : ℕ) → k < n → cell_in n cell (line_of_rank k) (column_of_rank k) ≡ cell k
  cell-of-rank k l = same-cell (steps-reach (λ (k : ℕ). (cell k).u) n k l) (steps-reach (λ (k : ℕ). (cell k).v) n k l)

  pub line-drawn : (k : ℕ) → k < n → line_of_rank k < span_v n cell
  line-drawn = steps-inside (λ (k : ℕ). (cell k).v) n

  pub column-drawn : too_wide n cell ≡ false → (k : ℕ) → k < n → column_of_rank k < columns
  column-drawn narrow k l = omega (arith, steps-inside (λ (k : ℕ). (cell k).u) n k l, few-columns n cell narrow)

module _ (n : ℕ) (cell : ℕ → Cell) (marks : List ℕ) (inside : (k : ℕ) → k < n → within (cell k).v ≡ true) (narrow : too_wide n cell ≡ false)
    (apart : (j k : ℕ) → j < n → k < n → cell j ≡ cell k → j ≡ k) where
  -- every point is on the map, at its line and column, by the character of its marks
  pub point-byte : (k : ℕ) → k < n → get_or (map_of n cell marks) (place_in_text (line_of_rank n cell k) (column_of_rank n cell k)) 0 ∷ [] ≡ point_character (get_or marks k 0)
  point-byte k l =
      map-byte n cell marks inside (line_of_rank n cell k) (column_of_rank n cell k) (line-drawn n cell k l) (column-drawn n cell narrow k l)
      ∙ ap (cell_character n cell marks) (cell-of-rank n cell k l)
      ∙ point-shown n cell marks (cell k) k l refl (λ j m e. apart j k m l e)

-- a cell of the map that no point has is a full stop
pub empty-byte : (n : ℕ) (cell : ℕ → Cell) (marks : List ℕ) → ((k : ℕ) → k < n → within (cell k).v ≡ true) → (i j : ℕ) → i < span_v n cell → j < columns
    → ((k : ℕ) → k < n → cell k ≡ cell_in n cell i j → ⊥) → get_or (map_of n cell marks) (place_in_text i j) 0 ∷ [] ≡ bytes "."
empty-byte n cell marks inside i j l m none = map-byte n cell marks inside i j l m ∙ none-shown n cell marks (cell_in n cell i j) none
