-- A page on which each point in turn puts its character. Assumes nothing.
use mathlib.Core.Path.{◌≡◌, refl, sym, ap, ◌∙◌}
use mathlib.Core.Bool.{Bool, true, false, cond, ◌&&◌}
use mathlib.Core.List.{List, [], ◌∷◌}
use Prim.{yes, no}
use Prim.Native.Nat.{ℕ, zero, suc, ◌+◌, ◌-◌, ◌/◌, ◌%◌, ◌≤◌, ◌<◌}
use native.Mathlib.Decide.{ℕ_discrete}
use native.Mathlib.Numerals.{add-one}
use native.Mathlib.Omega.{arith}
use borrow.Author.Tests.{eq-eqb, eqb-true, ltb-false}
use lib.Dec.{eqb, ltb}
use lib.IntN.{ℤ, pos, neg_ℤ, ◌+ℤ◌, ◌-ℤ◌}
use lib.ListN.{length, get_or, set, take, replicate, length-replicate, length-set}
use lib.Seq.{get_or-set_same, get_or-set_other}
use Rattle.folds.proofs.Below.{fold-none, fold_more}
use Rattle.cells.specs.Points.{bias, stride}
use Rattle.cells.specs.Cell.{Cell, agree, coincide, cells_at}
use Rattle.cells.proofs.Edges.{agree-moved, moves-swap}
use Rattle.text.specs.Text.{bytes, each}
use Rattle.text.proofs.Stores.{each_none, each_more, each-ext}
use Rattle.map_lines.specs.Map.{columns, most_lines, smallest_v, span_u, span_v, too_wide, cell_from, cell_in, point_character, cell_character, line_text, lines_from, line_characters, map_of}
use Rattle.map_lines.specs.Page.{Spans, OnPage, Drawn}
use Rattle.offsets.specs.declared.axis.Axis.TheVariants.{AlongU, AlongV}
use Rattle.map_lines.specs.declared.spans.Span.{Span}
use Rattle.std.proofs.lemmas.List.{get_or-replicate, take_all, take_more}
use Rattle.std.proofs.Math.Bool.{and-false}
use Rattle.std.proofs.lemmas.Bool.{ne_eqb, or_parts}
use Rattle.std.specs.Cmp.{both_ways}

-- a coordinate from its part of a key, and one that is some cells further
same-coordinate : (a u j : ℕ) → u ≤ a → agree (pos a -ℤ pos bias) ((pos u -ℤ pos bias) +ℤ pos j) ≡ eqb (a - u) j
same-coordinate a u j h =
    ap (agree (pos a -ℤ pos bias)) (moves-swap (pos u) (neg_ℤ (pos bias)) (pos j))
    ∙ agree-moved (pos a) (pos (u + j)) (neg_ℤ (pos bias))
    ∙ both_ways (eqb a (u + j)) (eqb (a - u) j) (λ e. eq-eqb (a - u) j (omega (arith, eqb-true a (u + j) e))) (λ e. eq-eqb a (u + j) (omega (arith, eqb-true (a - u) j e)))

-- the page with a byte put at a place
abbrev put : List (List ℕ) → ℕ → ℕ → ℕ → List (List ℕ)
put page line column byte = set page line (set (get_or page line []) column byte)

module _ (page : List (List ℕ)) (line column byte : ℕ) (long : length page ≡ most_lines) (wide : (i : ℕ) → i < most_lines → length (get_or page i []) ≡ columns) (h : line < most_lines) where
  put-same : get_or (put page line column byte) line [] ≡ set (get_or page line []) column byte
  put-same = get_or-set_same page line (set (get_or page line []) column byte) [] (omega (arith, long))

  put-wide : (i : ℕ) → i < most_lines → length (get_or (put page line column byte) i []) ≡ columns
  put-wide i l = elim (ℕ_discrete i line) [
    | yes e ↦ rw (e, put-same, length-set (get_or page line []) column byte) (wide line h)
    | no n ↦ rw (get_or-set_other page line i (set (get_or page line []) column byte) [] n) (wide i l)
  ]

  put-at : column < columns → (i j : ℕ) → get_or (get_or (put page line column byte) i []) j 0 ≡ cond (eqb column j && eqb line i) byte (get_or (get_or page i []) j 0)
  put-at m i j = elim (ℕ_discrete i line) [
    | yes e ↦ elim (ℕ_discrete j column) [
      | yes f ↦ rw (e, f, put-same, get_or-set_same (get_or page line []) column byte 0 (omega (arith, wide line h)), eq-eqb column column refl, eq-eqb line line refl)
      | no n ↦ rw (e, put-same, get_or-set_other (get_or page line []) column j byte 0 n, ne_eqb column j (λ f. n (sym f)))
    ]
    | no n ↦ rw (get_or-set_other page line i (set (get_or page line []) column byte) [] n, ne_eqb line i (λ f. n (sym f)), and-false (eqb column j))
  ]

module _ (cell : ℕ → Cell) (marks : List ℕ) where
  character-none : (c : Cell) → cell_character 0 cell marks c ≡ bytes "."
  unfolding cell_character
  character-none c = fold-none (λ k t. cond (coincide (cell k) c) (point_character (get_or marks k 0)) t) (bytes ".")

  character-more : (k : ℕ) (c : Cell) → cell_character (k + 1) cell marks c ≡ cond (coincide (cell k) c) (point_character (get_or marks k 0)) (cell_character k cell marks c)
  unfolding cell_character
  character-more k c = fold_more (λ k t. cond (coincide (cell k) c) (point_character (get_or marks k 0)) t) (bytes ".") k

  abbrev stops : List ℕ
  stops = replicate columns 46

  stops_at : (i : ℕ) → i < most_lines → get_or (replicate most_lines stops) i [] ≡ stops
  stops_at i h = get_or-replicate most_lines i stops [] h

  -- a page of full stops
  pub drawn-none : (u v : ℤ) → Drawn 0 cell marks u v (replicate most_lines stops)
  drawn-none u v =
      record {
        long = length-replicate most_lines stops;
        wide = λ i h. rw (stops_at i h) (length-replicate {A = ℕ} columns 46);
        shows = λ i j h l. rw (stops_at i h) (ap (λ (c : ℕ). c ∷ []) (get_or-replicate {A = ℕ} columns j 46 0 l) ∙ sym (character-none (cell_from u v i j)));
      }

-- one point more
pub drawn-more : (keys marks : List ℕ) (n k u v byte : ℕ) (page : List (List ℕ)) → OnPage keys n u v → k < n → (byte ∷ []) ≡ point_character (get_or marks k 0)
    → Drawn k (cells_at keys) marks (pos u -ℤ pos bias) (pos v -ℤ pos bias) page
    → Drawn (k + 1) (cells_at keys) marks (pos u -ℤ pos bias) (pos v -ℤ pos bias) (put page (get_or keys k 0 % stride - v) (get_or keys k 0 / stride - u) byte)
drawn-more keys marks n k u v byte page on h e d =
    record {
      long = length-set page line (set (get_or page line []) column byte) ∙ d.long;
      wide = put-wide page line column byte d.long d.wide below;
      shows = λ i j f g.
          rw (put-at page line column byte d.long d.wide below (omega (arith, on.in-columns k h)) i j)
          (here (eqb column j && eqb line i) (d.shows i j f g))
          ∙ ap (λ (b : Bool). cond b (point_character (get_or marks k 0)) (cell_character k (cells_at keys) marks (cell_from (pos u -ℤ pos bias) (pos v -ℤ pos bias) i j))) (sym (same_place i j))
          ∙ sym (character-more (cells_at keys) marks k (cell_from (pos u -ℤ pos bias) (pos v -ℤ pos bias) i j));
    }
  where
    line : ℕ
    line = get_or keys k 0 % stride - v

    column : ℕ
    column = get_or keys k 0 / stride - u

    below : line < most_lines
    below = omega (arith, on.in_lines k h)

    same_place : (i j : ℕ) → coincide (cells_at keys k) (cell_from (pos u -ℤ pos bias) (pos v -ℤ pos bias) i j) ≡ eqb column j && eqb line i
    same_place i j = rw (same-coordinate (get_or keys k 0 / stride) u j (on.in-columns k h).0, same-coordinate (get_or keys k 0 % stride) v i (on.in_lines k h).0)

    here : (b : Bool) {c : ℕ} {t : List ℕ} → (c ∷ []) ≡ t → (cond b byte c ∷ []) ≡ cond b (point_character (get_or marks k 0)) t
    here true r = e
    here false r = r

-- ---- the map from its page

-- a list is its entries, one after the other
singles_to : (l : List ℕ) (n : ℕ) → n ≤ length l → take n l ≡ each (λ j. get_or l j 0 ∷ []) n
singles_to l zero h = sym (each_none (λ j. get_or l j 0 ∷ []))
singles_to l (suc n) h = rw (← add-one n, take_more l n 0 h, each_more (λ j. get_or l j 0 ∷ []) n, singles_to l n (omega arith))

singles : (l : List ℕ) (n : ℕ) → length l ≡ n → l ≡ each (λ j. get_or l j 0 ∷ []) n
singles l n e = sym (take_all n l (omega arith)) ∙ singles_to l n (omega arith)

module _ (keys : List ℕ) (n : ℕ) (u v : Span) (U : Spans AlongU keys n u) (W : Spans AlongV keys n v) (narrow : too_wide n (cells_at keys) ≡ false) where
  widths : (u.count ≤ columns) × (v.count ≤ most_lines)
  widths =
      let w = or_parts (ltb columns (span_u n (cells_at keys))) (ltb most_lines (span_v n (cells_at keys))) narrow in
      (rw U.count-is (ltb-false columns (span_u n (cells_at keys)) w.0), rw W.count-is (ltb-false most_lines (span_v n (cells_at keys)) w.1))

  module _ (marks : List ℕ) (page : List (List ℕ)) (d : Drawn n (cells_at keys) marks (pos u.least -ℤ pos bias) (pos v.least -ℤ pos bias) page) where
    line-is : (i : ℕ) → i < v.count → get_or page i [] ≡ line_characters n (cells_at keys) marks i
    unfolding line_characters
    line-is i h =
        singles (get_or page i []) columns (d.wide i (omega (arith, widths)))
        ∙ each-ext (λ j. get_or (get_or page i []) j 0 ∷ []) (λ j. cell_character n (cells_at keys) marks (cell_in n (cells_at keys) i j)) columns
        (λ j l. rw (U.least-is, W.least-is) at (d.shows i j (omega (arith, widths)) l))

    -- the lines of the page are the map
    pub page-is : each (λ (i : ℕ). line_text (pos (v.least + i) -ℤ pos bias) (get_or page i [])) v.count ≡ map_of n (cells_at keys) marks
    unfolding map_of lines_from
    page-is =
        each-ext (λ (i : ℕ). line_text (pos (v.least + i) -ℤ pos bias) (get_or page i [])) (λ (i : ℕ). line_text (smallest_v n (cells_at keys) +ℤ pos i) (line_characters n (cells_at keys) marks i)) v.count
        (λ i h.
        ap (λ (z : ℤ). line_text z (get_or page i [])) (sym (moves-swap (pos v.least) (neg_ℤ (pos bias)) (pos i)) ∙ ap (λ (z : ℤ). z +ℤ pos i) W.least-is)
        ∙ ap (line_text (smallest_v n (cells_at keys) +ℤ pos i)) (line-is i h))
        ∙ ap (each (λ (i : ℕ). line_text (smallest_v n (cells_at keys) +ℤ pos i) (line_characters n (cells_at keys) marks i))) W.count-is
