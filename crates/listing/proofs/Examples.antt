-- Document 01's listing with the columns of the leaf filter, and one with a leaf. Assumes nothing.
use mathlib.Core.Path.{◌≡◌, refl}
use mathlib.Core.List.{List, [], ◌∷◌}
use Prim.Native.Nat.{ℕ}
use lib.IntN.{pos, negsuc}
use lib.Ieee.{binary32, of_bits}
use lib.ListN.{length, get_or}
use Rattle.folds.specs.Below.{fold}
use Rattle.view.specs.View.{max_points}
use Rattle.cells.specs.Cell.{Cell}
use Rattle.cells.proofs.Edges.{cell_at}
use Rattle.float.specs.Root.{root_of}
use Rattle.float.specs.Remainder.{remainder_in, whole_root_of}
use Rattle.float.specs.declared.Distance.{Distance}
use Rattle.judged.specs.Shown.{shown_at}
use Rattle.judged.specs.Judged.{Judged}
use Rattle.std.specs.Prelude.{None, Some, Option}
use Rattle.text.specs.Text.{bytes, each, digits, decimal, whole, hex}
use Rattle.listing.specs.Listing.{cell_text, marks_text, distance_text, residual_text, shown_text, line_text, head_text, tally_text, position_text, fill_text, fill_line, listing_of}

-- "Here: .. cell (5,5) index 14 ..; (0,0) 10 ..; (1,0) 11 ..; (0,1) 12 ..; (1,1) 13": in cell order
cells : ℕ → Cell
cells k = get_or (cell_at (pos 0) (pos 0) ∷ cell_at (pos 0) (pos 1) ∷ cell_at (pos 1) (pos 0) ∷ cell_at (pos 1) (pos 1) ∷ []) k (cell_at (pos 5) (pos 5))

indices : List ℕ
indices = 10 ∷ 12 ∷ 11 ∷ 13 ∷ 14 ∷ []

-- the last has the component mark, four are kept; no residual and no figures
judged : Judged
judged = record { marks = 0 ∷ 0 ∷ 0 ∷ 0 ∷ 8 ∷ []; components = 2; rounds = 0; tally = 0 ∷ 0 ∷ 0 ∷ 0 ∷ 1 ∷ 4 ∷ []; residuals = []; figures = []; boundary = [] }

example : listing_of 5 cells indices judged [] ≡ bytes "points 5 components 2 rounds 0\n0 0 10 ----- - -\n0 1 12 ----- - -\n1 0 11 ----- - -\n1 1 13 ----- - -\n5 5 14 ----C - -\nkept 4 validate 0 orientation 0 wrong 0 leaf 0 component 1\n5 5 0\n"
unfolding listing_of fill_text position_text head_text line_text cell_text shown_text marks_text distance_text shown_at tally_text decimal digits whole hex each fold cells indices judged
example = refl

-- of its first three points the third is a leaf: one round removed it, and two are kept as one patch
peeled : Judged
peeled = record { marks = 0 ∷ 0 ∷ 16 ∷ []; components = 1; rounds = 1; tally = 0 ∷ 0 ∷ 0 ∷ 1 ∷ 0 ∷ 2 ∷ []; residuals = []; figures = []; boundary = [] }

one-leaf : listing_of 3 cells indices peeled [] ≡ bytes "points 3 components 1 rounds 1\n0 0 10 ----- - -\n0 1 12 ----- - -\n1 0 11 ---L- - -\nkept 2 validate 0 orientation 0 wrong 0 leaf 1 component 0\n1 0 0\n"
unfolding listing_of fill_text position_text head_text line_text cell_text shown_text marks_text distance_text shown_at tally_text decimal digits whole hex each fold cells indices peeled
one-leaf = refl

-- the residual that is the root of the f32 with these bits
root : ℕ → Option Distance
root b = let x = of_bits binary32 b in Some (record { value = root_of x; remainder = remainder_in (whole_root_of x) })

-- a line with every column in use: the first root is rounded, the second is not
full : (line_text (cell_at (negsuc 7999) (pos 12)) 4294967295 31 2 (root 0x41e6_9986) ≡ bytes "-8000 12 4294967295 VOWLC 2 40ABCDEF\n")
    × (line_text (cell_at (negsuc 7999) (pos 12)) 4294967295 31 2 (root 0x41e6_9f12) ≡ bytes "-8000 12 4294967295 VOWLC 2 40ABD000=\n")
unfolding line_text cell_text shown_text marks_text distance_text decimal digits whole hex each fold of_bits root_of whole_root_of root
full = (refl, refl)

-- the digits alone do not tell: the nearest f32 to the root of 4 and to that of the next f32 is 2
same-digits : (residual_text (root 0x4080_0000) ≡ bytes "40000000=") × (residual_text (root 0x4080_0001) ≡ bytes "40000000")
unfolding distance_text hex of_bits root_of whole_root_of root
same-digits = (refl, refl)

-- "A residual of 0 has it; infinite and NaN residuals do not"; nor does a dash
special-residuals : (residual_text (root 0x0000_0000) ≡ bytes "00000000=")
    × (residual_text (root 0x7f80_0000) ≡ bytes "7F800000")
    × (residual_text (root 0x7fc0_0000) ≡ bytes "7FC00000")
    × (residual_text None ≡ bytes "-")
unfolding distance_text hex of_bits root_of whole_root_of root
special-residuals = (refl, refl, refl, refl)

-- the line of a dropped point with two pairs, one with none, and that of a kept one, which has no line
fill-lines : (fill_line (cell_at (negsuc 7999) (pos 12)) 5 (Some (record { x = of_bits binary32 0x43fa_0000; y = of_bits binary32 0x8000_0000; n_axis_pairs = 2 })) ≡ bytes "-8000 12 2 43FA0000 80000000\n")
    × (fill_line (cell_at (pos 5) (pos 5)) 8 None ≡ bytes "5 5 0\n")
    × (fill_line (cell_at (pos 5) (pos 5)) 0 None ≡ [])
unfolding fill_text position_text cell_text decimal digits whole hex each fold of_bits
fill-lines = (refl, refl, refl)

-- the longest first line, and a longer one with more rounds than a sheet has points
longest-head : length (head_text max_points max_points max_points) ≡ 40
unfolding head_text decimal digits
longest-head = refl

more-rounds : length (head_text max_points max_points 10000) ≡ 41
unfolding head_text decimal digits
more-rounds = refl
