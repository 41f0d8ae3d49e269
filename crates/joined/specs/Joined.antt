-- "Two cameras, one sheet" (document 02, A.10): the joined list of two halves, and the ruling on two files, a move and the length of a result
-- buffer. Assumes nothing.
use Rattle.std.specs.List.{list_any, filter}
use Rattle.std.specs.Prelude.{◌≡◌, Bool, true, false, not, ◌&&◌, ◌||◌, List, [], ◌∷◌, ◌++◌, map, ℕ, ◌+◌, ◌^◌, leb, ℤ, pos, negsuc, ◌+ℤ◌, int_le}
use Rattle.std.specs.Float.{binary32}
use Rattle.std.specs.Float.Ieee.{to_bits}
use Rattle.std.specs.Int.{w32}
use Rattle.std.proofs.Common.{of_z}
use Rattle.folds.specs.Arith.{◌⊕◌, f32}
use Rattle.refusals.specs.First.{Condition, ruled}
use Rattle.cells.specs.Points.{Point}
use Rattle.cells.specs.Cell.{signed}
use Rattle.sheet_file.specs.Limit.{outside}
use Rattle.sheet_file.specs.declared.Fraction.{Fraction}
use Rattle.sheet_file.specs.declared.Fraction.TheVariants.{Missing, Outside, Given}
use Rattle.sheet_file.specs.declared.Settings.{Settings}
use Rattle.points.specs.Refusals.{same_cell}
use Rattle.ruling.specs.Ruling.{Ruling, refused, accepted, sheet_numbers, ruling_in, ruling_of}
use Rattle.joined.specs.declared.moves.Move.{Move}

-- ---- the joined list

-- "Right cells move by a given whole offset in u and v, right positions by a given dx and dy, one addition each, and right indices gain 2^31";
-- the strength stays
abbrev pub moved_by : Move → Point → Point
moved_by m p = record {
  u = of_z w32 (signed p.u +ℤ m.du);
  v = of_z w32 (signed p.v +ℤ m.dv);
  index = p.index + 2 ^ 31;
  x = to_bits binary32 (f32 p.x ⊕ m.dx);
  y = to_bits binary32 (f32 p.y ⊕ m.dy);
  strength = p.strength;
}

-- the move with a and b added to its offset
abbrev pub moved_move : ℤ → ℤ → Move → Move
moved_move a b m = record { du = m.du +ℤ a; dv = m.dv +ℤ b; dx = m.dx; dy = m.dy }

-- no point of a list is in the cell of q
abbrev pub is_free : List Point → Point → Bool
is_free ps q = not (list_any (λ (p : Point). same_cell p q) ps)

-- "Where both hold a cell, the left point is taken": the left points, and of the moved right ones those whose cells no left one holds
unfoldable pub joined_list : Move → List Point → List Point → List Point
joined_list m ls rs = ls ++ filter (is_free ls) (map (moved_by m) rs)

-- ---- the conditions of the numbers 15 to 17

-- "with 15 an index of 2^31 or more in either file"
abbrev pub high_index : Point → Bool
high_index p = leb (2 ^ 31) p.index

-- "an offset outside −16,000 to 16,000": z lies outside (negsuc 15999 is −16,000)
abbrev pub far : ℤ → Bool
far z = not (int_le (negsuc 15999) z && int_le z (pos 16000))

-- "with 16 an offset outside −16,000 to 16,000, or a dx or dy not finite or over 16,384 in magnitude"
abbrev pub bad_move : Move → Bool
bad_move m = (far m.du || far m.dv) || (outside m.dx || outside m.dy)

-- a file has tag 4: its settings have a fraction
abbrev pub is_weighed : Fraction → Bool
is_weighed Missing = false
is_weighed Outside = true
is_weighed (Given x) = true

-- one of two holds, and the other does not
abbrev pub only_one : Bool → Bool → Bool
only_one a b = (a && not b) || (b && not a)

-- "with 17 a tag 4 in only one file"
abbrev pub unlike : Settings → Settings → Bool
unlike s t = only_one (is_weighed s.score_frac) (is_weighed t.score_frac)

-- "in this order", of two accepted files: with their settings, and their points in cell order
abbrev pub join_refusals : Move → Settings → List Point → Settings → List Point → List Condition
join_refusals m s ls t rs = (15, list_any high_index ls || list_any high_index rs) ∷ (16, bad_move m) ∷ (17, unlike s t) ∷ []

-- ---- the ruling

-- the numbers of a sheet, and these three
abbrev pub join_numbers : List ℕ
join_numbers = sheet_numbers ++ (15 ∷ 16 ∷ 17 ∷ [])

-- what is ruled of an accepted sheet; one that is refused keeps its number
abbrev pub if_accepted : Ruling → (Settings → List Point → Ruling) → Ruling
if_accepted (refused k) rule = refused k
if_accepted (accepted s ps) rule = rule s ps

-- "Both files must be accepted alone with the same buffer, left first." "It refuses, after both files' own numbers, before joining and in this
-- order, with 15 ..; with 16 ..; with 17 ..". "Tags 1 and 2 and the fraction come from the left. The joined list is then read as a sheet with
-- all its refusals"
unfoldable pub joined_ruling : List ℕ → List ℕ → Move → ℕ → Ruling
unfolding ruling_of ruling_in joined_list
joined_ruling left right m room =
    if_accepted (ruling_of left room)
    (λ (s : Settings) (ls : List Point).
    if_accepted (ruling_of right room) (λ (t : Settings) (rs : List Point). ruled refused (ruling_in room s (joined_list m ls rs)) (join_refusals m s ls t rs)))

-- "Both files must be accepted alone with the same buffer", and none of the numbers 15 to 17 applies: the left file with settings s and points ls,
-- the right one with t and rs
pub record Joinable (left right : List ℕ) (m : Move) (room : ℕ) (s : Settings) (ls : List Point) (t : Settings) (rs : List Point) : Type 0 where
  pub left-ruled : ruling_of left room ≡ accepted s ls
  pub right-ruled : ruling_of right room ≡ accepted t rs
  pub low-left : list_any high_index ls ≡ false
  pub low-right : list_any high_index rs ≡ false
  pub allowed : bad_move m ≡ false
  pub alike : unlike s t ≡ false
