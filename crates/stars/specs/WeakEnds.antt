-- Sheets with strengths (document 02, A.5, "Weak ends of a patch"), worked out by hand in the form of the starred sheets: each by computation of
-- the definitions. Cell size 100, defaults, distinct indices unless said. Assumes nothing.
use Rattle.std.specs.Prelude.{refl, List, [], ◌∷◌, ℕ, None}
use Rattle.folds.specs.Arith.{f32}
use Rattle.folds.specs.Lists.{All}
use Rattle.cells.specs.Points.{Point}
use Rattle.sheet_file.specs.declared.Fraction.TheVariants.{Given}
use Rattle.sheet_file.specs.Refusals.{defaults_for}
use Rattle.stars.specs.Stars.{rules-compute, Said, says, Star, Right}

-- the patterns of 1, 2 and 100
abbrev one : ℕ
one = 0x3F80_0000

abbrev two : ℕ
two = 0x4000_0000

abbrev hundred : ℕ
hundred = 0x42C8_0000

-- a point: its cell, its index, and the patterns of its position and its strength
abbrev pt : ℕ → ℕ → ℕ → ℕ → ℕ → ℕ → Point
pt u v i x y s = record { u = u; v = v; index = i; x = x; y = y; strength = s }

-- the patterns of the cell size and the fraction, the points in the order of the file, and what is said of the sheet
abbrev sheet : ℕ → ℕ → List Point → Said → Star
sheet cell_size fraction ps s = record { settings = defaults_for (f32 cell_size) None (Given (f32 fraction)); sheet = ps; said = s }

abbrev pub weak_ends : List Star
weak_ends =
    -- No points: nothing goes.
    sheet hundred two [] (says 0 0 [] [] [] [] (0 ∷ 0 ∷ 0 ∷ 0 ∷ 0 ∷ 0 ∷ [])) ∷
    -- One point of strength 1, fraction 2. It is below the threshold, 2, and has no neighbour: it goes.
    sheet hundred two (pt 0 0 10 0 0 one ∷ []) (says 0 1 (0 ∷ []) (0 ∷ []) (0 ∷ []) (16 ∷ []) (0 ∷ 0 ∷ 0 ∷ 1 ∷ 0 ∷ 0 ∷ [])) ∷
    -- The same with fraction 1: 1 is not below 1.
    sheet hundred one (pt 0 0 10 0 0 one ∷ []) (says 1 0 (0 ∷ []) (0 ∷ []) (0 ∷ []) (0 ∷ []) (0 ∷ 0 ∷ 0 ∷ 0 ∷ 0 ∷ 1 ∷ [])) ∷
    -- Two of strengths 1 and 2, fraction 2. The median is entry 1, which is 2, and the threshold 4: both are weak ends when the first round
    -- begins, and go in it.
    sheet hundred two (pt 0 0 10 0 0 one ∷ pt 1 0 11 hundred 0 two ∷ []) (says 0 1 (0 ∷ 0 ∷ []) (0 ∷ 0 ∷ []) (0 ∷ 0 ∷ []) (16 ∷ 16 ∷ []) (0 ∷ 0 ∷ 0 ∷ 2 ∷ 0 ∷ 0 ∷ [])) ∷
    -- A row of three of strengths 1, 1 and 2, fraction 2, listed from its end. The median is 1 and the threshold 2: the first goes, and in the
    -- next round the second, which it made an end. The third is not below 2.
    sheet hundred two (pt 2 0 12 0x4348_0000 0 two ∷ pt 1 0 11 hundred 0 one ∷ pt 0 0 10 0 0 one ∷ []) (says 1 2 (0 ∷ 0 ∷ 0 ∷ []) (0 ∷ 0 ∷ 0 ∷ []) (0 ∷ 0 ∷ 0 ∷ []) (16 ∷ 16 ∷ 0 ∷ []) (0 ∷ 0 ∷ 0 ∷ 2 ∷ 0 ∷ 1 ∷ [])) ∷
    -- A square of strength 1 at each corner, fraction 2: all are weak, each has two neighbours, none goes.
    sheet hundred two (pt 0 0 10 0 0 one ∷ pt 1 0 11 hundred 0 one ∷ pt 0 1 12 0 hundred one ∷ pt 1 1 13 hundred hundred one ∷ []) (says 1 0 (0 ∷ 0 ∷ 0 ∷ 0 ∷ []) (1 ∷ 0 ∷ 0 ∷ 0 ∷ []) (0 ∷ 0 ∷ 0 ∷ 0 ∷ []) (0 ∷ 0 ∷ 0 ∷ 0 ∷ []) (0 ∷ 0 ∷ 0 ∷ 0 ∷ 0 ∷ 4 ∷ [])) ∷
    -- The starred row at x = 0, 140, 240, 340, of strength 1, fraction 2: "it starts from the marks of the three earlier filters". With both ends
    -- marked W, the two between are ends, and go.
    sheet hundred two (pt 0 0 10 0 0 one ∷ pt 1 0 11 0x430C_0000 0 one ∷ pt 2 0 12 0x4370_0000 0 one ∷ pt 3 0 13 0x43AA_0000 0 one ∷ []) (says 0 1 (0 ∷ 0 ∷ 0 ∷ 0 ∷ []) (0 ∷ 0 ∷ 0 ∷ 0 ∷ []) (0 ∷ 0 ∷ 0 ∷ 0 ∷ []) (4 ∷ 16 ∷ 16 ∷ 4 ∷ []) (0 ∷ 0 ∷ 2 ∷ 2 ∷ 0 ∷ 0 ∷ [])) ∷
    -- A row of two of strength 2 and, apart from it, one of three of strengths 2, 1 and 1, fraction 1: it "runs before the component filter".
    -- The longer row loses its two weak points, and what is left of it is the smaller patch.
    sheet hundred one (pt 0 0 10 0 0 two ∷ pt 1 0 11 hundred 0 two ∷ pt 5 0 12 0x43FA_0000 0 two ∷ pt 6 0 13 0x4416_0000 0 one ∷ pt 7 0 14 0x442F_0000 0 one ∷ []) (says 2 2 (0 ∷ 0 ∷ 0 ∷ 0 ∷ 0 ∷ []) (0 ∷ 0 ∷ 0 ∷ 0 ∷ 0 ∷ []) (0 ∷ 0 ∷ 0 ∷ 0 ∷ 0 ∷ []) (0 ∷ 0 ∷ 8 ∷ 16 ∷ 16 ∷ []) (0 ∷ 0 ∷ 0 ∷ 2 ∷ 1 ∷ 2 ∷ [])) ∷
    -- Cell size 0, fraction 1: a row of strengths 2, 1 and 2, and its middle index again at cell (9,9). There the index has no neighbour, so it
    -- goes, in the row too, which falls into two patches. In the tally it is one corner.
    sheet 0 one (pt 0 0 10 0 0 two ∷ pt 1 0 11 hundred 0 one ∷ pt 2 0 12 0x4348_0000 0 two ∷ pt 9 9 11 hundred 0 one ∷ []) (says 2 1 (0 ∷ 0 ∷ 0 ∷ 0 ∷ []) (0 ∷ 0 ∷ 0 ∷ 0 ∷ []) (0 ∷ 0 ∷ 0 ∷ 0 ∷ []) (0 ∷ 16 ∷ 8 ∷ 16 ∷ []) (0 ∷ 0 ∷ 0 ∷ 1 ∷ 1 ∷ 1 ∷ [])) ∷
    []

pub weak-ends-right : All Right weak_ends
unfolding rules-compute
weak-ends-right = ((refl, refl), ((refl, refl), ((refl, refl), ((refl, refl), ((refl, refl), ((refl, refl), ((refl, refl), ((refl, refl), ((refl, refl), tt)))))))))
