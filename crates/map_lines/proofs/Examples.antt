-- Maps worked out: the letter of each filter, and a row with a leaf. Assumes nothing.
use mathlib.Core.Path.{◌≡◌, refl, ap}
use mathlib.Core.Bool.{true}
use mathlib.Core.List.{List, [], ◌∷◌, ◌++◌}
use Prim.Native.Nat.{ℕ}
use native.Mathlib.Omega.{arith}
use lib.IntN.{pos}
use lib.ListN.{get_or}
use Rattle.folds.proofs.Below.{first-before}
use Rattle.cells.specs.Cell.{Cell}
use Rattle.cells.proofs.Edges.{cell_at}
use Rattle.marks.specs.Filters.{filter_count, leaf, component}
use Rattle.marks.specs.Byte.{has_mark, first_mark}
use Rattle.text.specs.Text.{bytes}
use Rattle.map_lines.specs.Map.{point_character, map_of}
use Rattle.map_lines.proofs.Characters.{first-character}

-- "# a kept one, else the letter of the first filter": of each bit alone, of none, and of one that no filter has
letters : point_character 1 ++ point_character 2 ++ point_character 4 ++ point_character 16 ++ point_character 8 ++ point_character 0 ++ point_character 32 ≡ bytes "VOWLC##"
unfolding first_mark
letters = refl

-- of the marks of leaf and component that of leaf is shown: the first filter is that of the table, not that of the lower bit
leaf-of-both : point_character 24 ≡ bytes "L"
unfolding first_mark
leaf-of-both = first-character 24 leaf (omega arith) refl (λ g l. first-before (λ (f : ℕ). has_mark f 24) 0 filter_count g (omega arith) l)

-- component has marked it too: a letter is shown only if no filter before has marked the point
not_first : (has_mark component 24 ≡ true) × (point_character 24 ≡ bytes "C" → ⊥)
unfolding first_mark
not_first = (refl, λ e. let z : ◌≡◌ {A = ℕ} 76 67 = ap (λ (t : List ℕ). get_or t 0 0) e in omega arith)

-- a row of three: kept, a leaf, and one that the component filter marks
row : ℕ → Cell
row k = cell_at (pos k) (pos 0)

row-drawn : map_of 3 row (0 ∷ 16 ∷ 8 ∷ []) ≡ bytes "     0 #LC..................................................................... \n"
unfolding map_of row
row-drawn = refl
