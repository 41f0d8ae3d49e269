-- The map of moved cells has the same characters and number of lines; the v of its lines are moved. Assumes nothing.
use mathlib.Core.Path.{◌≡◌, refl, sym, ap, ◌∙◌, fun_ext}
use mathlib.Core.Bool.{Bool, cond, ◌||◌}
use mathlib.Core.List.{List, []}
use Prim.{yes, no}
use Prim.Native.Nat.{ℕ, ◌<◌}
use native.Mathlib.Decide.{ℕ_discrete}
use native.Mathlib.Omega.{arith}
use lib.Dec.{ltb}
use lib.IntN.{ℤ, pos, ◌+ℤ◌, +ℤ_idr}
use lib.ListN.{get_or}
use Rattle.folds.proofs.Below.{fold-ext}
use Rattle.cells.specs.Cell.{Cell, moved, coincide}
use Rattle.cells.proofs.Edges.{agree-moved, same-cell, moves-swap}
use Rattle.text.specs.Text.{bytes, each}
use Rattle.text.proofs.Stores.{each_none}
use Rattle.map_lines.specs.Map.{columns, most_lines, cell_in, smallest_u, smallest_v, span, span_u, span_v, too_wide, point_character, cell_character, line_text, lines_from, line_characters, map_of}
use Rattle.map_lines.proofs.Ends.{smallest-moved, span-moved}
use Rattle.map_lines.proofs.Extremes.{span_none}
use Rattle.map_lines.proofs.Size.{characters-are}

-- the map, as one step
pub map-lines : (n : ℕ) (cell : ℕ → Cell) (marks : List ℕ) → map_of n cell marks ≡ lines_from (smallest_v n cell) (line_characters n cell marks) (span_v n cell)
unfolding map_of
map-lines n cell marks = refl

pub no_lines : (v : ℤ) (characters : ℕ → List ℕ) → lines_from v characters 0 ≡ []
unfolding lines_from
no_lines v characters = each_none (λ i. line_text (v +ℤ pos i) (characters i))

-- "No points give no lines."
pub no-points : (cell : ℕ → Cell) (marks : List ℕ) → map_of 0 cell marks ≡ []
no-points cell marks = map-lines 0 cell marks ∙ ap (lines_from (smallest_v 0 cell) (line_characters 0 cell marks)) (span_none (λ (k : ℕ). (cell k).v) 0 refl) ∙ no_lines (smallest_v 0 cell) (line_characters 0 cell marks)

character-same : (n : ℕ) (cell : ℕ → Cell) (marks more : List ℕ) → ((k : ℕ) → k < n → get_or more k 0 ≡ get_or marks k 0) → (c : Cell) → cell_character n cell more c ≡ cell_character n cell marks c
unfolding cell_character
character-same n cell marks more same c =
    fold-ext (λ k t. cond (coincide (cell k) c) (point_character (get_or more k 0)) t) (λ k t. cond (coincide (cell k) c) (point_character (get_or marks k 0)) t) (bytes ".") n
    (λ k l t. ap (λ (m : ℕ). cond (coincide (cell k) c) (point_character m) t) (same k l))

-- the map goes by the marks of its points alone
pub map_same : (n : ℕ) (cell : ℕ → Cell) (marks more : List ℕ) → ((k : ℕ) → k < n → get_or more k 0 ≡ get_or marks k 0) → map_of n cell more ≡ map_of n cell marks
map_same n cell marks more same =
    map-lines n cell more
    ∙ ap (λ (f : ℕ → List ℕ). lines_from (smallest_v n cell) f (span_v n cell)) (fun_ext line)
    ∙ sym (map-lines n cell marks)
  where
    line : (i : ℕ) → line_characters n cell more i ≡ line_characters n cell marks i
    line i =
        characters-are n cell more i
        ∙ ap (λ (f : ℕ → List ℕ). each f columns) (fun_ext (λ (j : ℕ). character-same n cell marks more same (cell_in n cell i j)))
        ∙ sym (characters-are n cell marks i)

coincide-moved : (a b : ℤ) (c d : Cell) → coincide (moved a b c) (moved a b d) ≡ coincide c d
coincide-moved a b c d = rw (agree-moved c.u d.u a, agree-moved c.v d.v b)

module _ (a b : ℤ) (n : ℕ) (cell other : ℕ → Cell) (at : (k : ℕ) → k < n → other k ≡ moved a b (cell k)) where
  spans : (z w : ℕ → ℤ) (c : ℤ) → ((k : ℕ) → k < n → w k ≡ z k +ℤ c) → span w n ≡ span z n
  spans z w c f =
      elim (ℕ_discrete n 0) [
        | yes e ↦ span_none w n e ∙ sym (span_none z n e)
        | no h ↦ span-moved z w c n (f 0 (omega (arith, h))) f
      ]

  u-at : (k : ℕ) → k < n → (other k).u ≡ (cell k).u +ℤ a
  u-at k l = ap (λ (c : Cell). c.u) (at k l)

  v-at : (k : ℕ) → k < n → (other k).v ≡ (cell k).v +ℤ b
  v-at k l = ap (λ (c : Cell). c.v) (at k l)

  span_u-moved : span_u n other ≡ span_u n cell
  span_u-moved = spans (λ (k : ℕ). (cell k).u) (λ (k : ℕ). (other k).u) a u-at

  span_v-moved : span_v n other ≡ span_v n cell
  span_v-moved = spans (λ (k : ℕ). (cell k).v) (λ (k : ℕ). (other k).v) b v-at

  -- moved points are refused with 10 where the points are
  pub wide-moved : too_wide n other ≡ too_wide n cell
  wide-moved = ap (λ (s : ℕ). ltb columns s || ltb most_lines (span_v n other)) span_u-moved ∙ ap (λ (s : ℕ). ltb columns (span_u n cell) || ltb most_lines s) span_v-moved

  module _ (some : 0 < n) (marks more : List ℕ) (same : (k : ℕ) → k < n → get_or more k 0 ≡ get_or marks k 0) where
    first_u : smallest_u n other ≡ smallest_u n cell +ℤ a
    first_u = smallest-moved (λ (k : ℕ). (cell k).u) (λ (k : ℕ). (other k).u) a n (u-at 0 some) u-at

    first_v : smallest_v n other ≡ smallest_v n cell +ℤ b
    first_v = smallest-moved (λ (k : ℕ). (cell k).v) (λ (k : ℕ). (other k).v) b n (v-at 0 some) v-at

    cell-in : (i j : ℕ) → cell_in n other i j ≡ moved a b (cell_in n cell i j)
    cell-in i j =
        same-cell
        (ap (λ (z : ℤ). z +ℤ pos j) first_u ∙ moves-swap (smallest_u n cell) a (pos j))
        (ap (λ (z : ℤ). z +ℤ pos i) first_v ∙ moves-swap (smallest_v n cell) b (pos i))

    character-moved : (c : Cell) → cell_character n other more (moved a b c) ≡ cell_character n cell marks c
    unfolding cell_character
    character-moved c =
        fold-ext (λ k t. cond (coincide (other k) (moved a b c)) (point_character (get_or more k 0)) t) (λ k t. cond (coincide (cell k) c) (point_character (get_or marks k 0)) t) (bytes ".") n
        (λ k l t. ap (λ (x : Cell). cond (coincide x (moved a b c)) (point_character (get_or more k 0)) t) (at k l)
        ∙ ap (λ (x : Bool). cond x (point_character (get_or more k 0)) t) (coincide-moved a b (cell k) c)
        ∙ ap (λ (m : ℕ). cond (coincide (cell k) c) (point_character m) t) (same k l))

    characters-moved : line_characters n other more ≡ line_characters n cell marks
    characters-moved =
        fun_ext (λ (i : ℕ).
        characters-are n other more i
        ∙ ap (λ (f : ℕ → List ℕ). each f columns) (fun_ext (λ (j : ℕ). ap (cell_character n other more) (cell-in i j) ∙ character-moved (cell_in n cell i j)))
        ∙ sym (characters-are n cell marks i))

    pub map-moved : map_of n other more ≡ lines_from (smallest_v n cell +ℤ b) (line_characters n cell marks) (span_v n cell)
    map-moved =
        map-lines n other more
        ∙ ap (λ (v : ℤ). lines_from v (line_characters n other more) (span_v n other)) first_v
        ∙ ap (λ (f : ℕ → List ℕ). lines_from (smallest_v n cell +ℤ b) f (span_v n other)) characters-moved
        ∙ ap (lines_from (smallest_v n cell +ℤ b) (line_characters n cell marks)) span_v-moved

-- ---- the same cells

stays : (c : Cell) → moved (pos 0) (pos 0) c ≡ c
stays c = same-cell (+ℤ_idr c.u) (+ℤ_idr c.v)

module _ (n : ℕ) (cell other : ℕ → Cell) (same : (k : ℕ) → k < n → other k ≡ cell k) where
  unmoved : (k : ℕ) → k < n → other k ≡ moved (pos 0) (pos 0) (cell k)
  unmoved k l = same k l ∙ sym (stays (cell k))

  -- the map goes by the cells of its points alone
  pub wide-same : too_wide n other ≡ too_wide n cell
  wide-same = wide-moved (pos 0) (pos 0) n cell other unmoved

  pub cells-same : (marks : List ℕ) → map_of n other marks ≡ map_of n cell marks
  cells-same marks =
      elim (ℕ_discrete n 0) [
        | yes e ↦ rw e (no-points other marks ∙ sym (no-points cell marks))
        | no h ↦ (map-moved (pos 0) (pos 0) n cell other unmoved (omega (arith, h)) marks marks (λ k l. refl)
            ∙ ap (λ (v : ℤ). lines_from v (line_characters n cell marks) (span_v n cell)) (+ℤ_idr (smallest_v n cell))
            ∙ sym (map-lines n cell marks))
      ]
