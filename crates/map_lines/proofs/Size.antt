-- "Each line is 80 characters", no newline among them; how many lines a map has, and how long it is at most. Assumes nothing.
use mathlib.Core.Path.{◌≡◌, refl, ap, ◌∙◌}
use mathlib.Core.Bool.{true, false}
use mathlib.Core.List.{List, [], ◌∷◌, ◌++◌}
use Prim.Native.Nat.{ℕ, suc, ◌+◌, ◌-◌, ◌*◌, ◌≤◌, ◌<◌}
use native.Mathlib.Omega.{arith}
use borrow.Author.Tests.{ltb-false, leb-true}
use lib.Dec.{ltb, leb}
use lib.IntN.{ℤ, pos, negsuc, ◌+ℤ◌}
use lib.ListN.{length, get_or, length-append}
use Rattle.folds.proofs.Below.{fold-keeps}
use Rattle.folds.specs.Lists.{All}
use Rattle.cells.specs.Cell.{Cell, within}
use Rattle.text.specs.Text.{bytes, each, decimal, whole, spaces, right_aligned}
use Rattle.text.proofs.Numbers.{decimal-length, decimal-digits}
use Rattle.text.proofs.Stores.{each_long, right-length}
use Rattle.map_lines.specs.Map.{label_width, columns, line_length, most_lines, smallest_v, span_u, span_v, too_wide, cell_in, cell_character, line_of, line_text, lines_from, line_characters, map_of, map_size}
use Rattle.map_lines.proofs.Extremes.{line-within}
use Rattle.map_lines.proofs.Characters.{one-character, no-newline, by-points}
use Rattle.std.proofs.lemmas.Bool.{and_parts, or_parts}

-- ---- no newline

abbrev NoNewline : List ℕ → Type 0
NoNewline t = All (λ (c : ℕ). c ≡ 10 → ⊥) t

inner-then : (s t : List ℕ) → NoNewline s → NoNewline t → NoNewline (s ++ t)
inner-then [] t h g = g
inner-then (c ∷ s) t h g = (h.0, inner-then s t h.1 g)

inner-each : (f : ℕ → List ℕ) (n : ℕ) → ((k : ℕ) → k < n → NoNewline (f k)) → NoNewline (each f n)
unfolding each
inner-each f n h = fold-keeps (λ k t. NoNewline t) (λ k t. t ++ f k) [] n tt (λ k l t p. inner-then t (f k) p (h k l))

inner-one : (t : List ℕ) → length t ≡ 1 → (get_or t 0 0 ≡ 10 → ⊥) → NoNewline t
inner-one [] e f = tt
inner-one (c ∷ []) e f = (f, tt)
inner-one (c ∷ d ∷ t) e f = absurd (omega arith)

digits-inner : (t : List ℕ) → All (λ (c : ℕ). (48 ≤ c) × (c ≤ 57)) t → NoNewline t
digits-inner [] h = tt
digits-inner (c ∷ t) h = (λ e. absurd (omega (arith, h.0.0)), digits-inner t h.1)

whole-inner : (v : ℤ) → NoNewline (whole v)
unfolding whole
whole-inner (pos n) = digits-inner (decimal n) (decimal-digits n)
whole-inner (negsuc n) = (λ e. absurd (omega arith), digits-inner (decimal (suc n)) (decimal-digits (suc n)))

right-inner : (width : ℕ) (t : List ℕ) → NoNewline t → NoNewline (right_aligned width t)
unfolding right_aligned spaces
right-inner width t h = inner-then (spaces (width - length t)) t (inner-each (λ k. bytes " ") (width - length t) (λ k l. (λ e. absurd (omega arith), tt))) h

-- ---- the line of v

-- a v in range has at most five characters
pub whole-short : (v : ℤ) → within v ≡ true → length (whole v) ≤ 5
unfolding whole
whole-short (pos n) e = omega (arith, decimal-length 3 n (omega (arith, leb-true n 8000 e)))
whole-short (negsuc n) e = omega (arith, decimal-length 3 (suc n) (omega (arith, leb-true n 7999 (and_parts (leb n 7999) true e).0)))

line-long : (v : ℤ) (characters : List ℕ) → within v ≡ true → length characters ≡ columns → length (line_of v characters) ≡ line_length
line-long v characters e l = simp length-append (omega (arith, right-length label_width (whole v) (omega (arith, whole-short v e)), l))

line-inner : (v : ℤ) (characters : List ℕ) → NoNewline characters → NoNewline (line_of v characters)
line-inner v characters h =
    let space : NoNewline (bytes " ") = (λ e. absurd (omega arith), tt) in
    let a = right-inner label_width (whole v) (whole-inner v) in
    inner-then (right_aligned label_width (whole v) ++ bytes " " ++ characters) (bytes " ")
    (inner-then (right_aligned label_width (whole v) ++ bytes " ") characters (inner-then (right_aligned label_width (whole v)) (bytes " ") a space) h) space

-- ---- the lines of a map

-- a map that is not too wide has at most 60 lines
pub few-lines : (n : ℕ) (cell : ℕ → Cell) → too_wide n cell ≡ false → span_v n cell ≤ most_lines
few-lines n cell e = ltb-false most_lines (span_v n cell) (or_parts (ltb columns (span_u n cell)) (ltb most_lines (span_v n cell)) e).1

pub few-columns : (n : ℕ) (cell : ℕ → Cell) → too_wide n cell ≡ false → span_u n cell ≤ columns
few-columns n cell e = ltb-false columns (span_u n cell) (or_parts (ltb columns (span_u n cell)) (ltb most_lines (span_v n cell)) e).0

module _ (n : ℕ) (cell : ℕ → Cell) (marks : List ℕ) where
  pub cell-long : (c : Cell) → length (cell_character n cell marks c) ≡ 1
  cell-long c = by-points n cell marks c (λ (t : List ℕ). length t ≡ 1) refl one-character

  cell-inner : (c : Cell) → NoNewline (cell_character n cell marks c)
  cell-inner c =
      inner-one (cell_character n cell marks c) (cell-long c)
      (by-points n cell marks c (λ (t : List ℕ). get_or t 0 0 ≡ 10 → ⊥) (λ e. absurd (omega arith)) no-newline)

  pub characters-are : (i : ℕ) → line_characters n cell marks i ≡ each (λ j. cell_character n cell marks (cell_in n cell i j)) columns
  unfolding line_characters
  characters-are i = refl

  -- "72 cell characters"
  pub characters-long : (i : ℕ) → length (line_characters n cell marks i) ≡ columns
  characters-long i = ap length (characters-are i) ∙ each_long (λ j. cell_character n cell marks (cell_in n cell i j)) 1 columns (λ j l. cell-long (cell_in n cell i j))

  characters-inner : (i : ℕ) → NoNewline (line_characters n cell marks i)
  characters-inner i = rw (characters-are i) (inner-each (λ j. cell_character n cell marks (cell_in n cell i j)) columns (λ j l. cell-inner (cell_in n cell i j)))

  -- line i without its newline
  abbrev pub line_at : ℕ → List ℕ
  line_at i = line_of (smallest_v n cell +ℤ pos i) (line_characters n cell marks i)

  pub line-no-newline : (i : ℕ) → NoNewline (line_at i)
  line-no-newline i = line-inner (smallest_v n cell +ℤ pos i) (line_characters n cell marks i) (characters-inner i)

  pub map_is : map_of n cell marks ≡ each (λ i. line_at i ++ bytes "\n") (span_v n cell)
  unfolding map_of lines_from line_text
  map_is = refl

  module _ (inside : (k : ℕ) → k < n → within (cell k).v ≡ true) where
    -- "Each line is 80 characters"
    pub line-size : (i : ℕ) → i < span_v n cell → length (line_at i) ≡ line_length
    line-size i l = line-long (smallest_v n cell +ℤ pos i) (line_characters n cell marks i) (line-within (λ (k : ℕ). (cell k).v) n inside i l) (characters-long i)

    -- and a newline
    pub line-whole : (i : ℕ) → i < span_v n cell → length (line_at i ++ bytes "\n") ≡ line_length + 1
    line-whole i l = length-append (line_at i) (bytes "\n") ∙ ap (λ (k : ℕ). k + 1) (line-size i l)

    pub map-length : length (map_of n cell marks) ≡ (line_length + 1) * span_v n cell
    map-length = ap length map_is ∙ each_long (λ i. line_at i ++ bytes "\n") (line_length + 1) (span_v n cell) line-whole

    -- a buffer of map_size bytes has room for the map of any sheet that is not too wide
    pub map-fits : too_wide n cell ≡ false → length (map_of n cell marks) ≤ map_size
    map-fits e = omega (arith, map-length, few-lines n cell e)
