-- The conditions of the numbers 6, 7, 13, 8, 9 and 14 on the points of a file, in the order in which it lists them, and the points in cell order.
-- Assumes nothing.
use Rattle.std.specs.List.{list_any}
use Rattle.std.specs.Prelude.{Bool, true, false, not, ◌&&◌, ◌||◌, List, [], ◌∷◌, ℕ, eqb, ltb}
use Rattle.folds.specs.Among.{pair_in}
use Rattle.folds.specs.Arith.{f32}
use Rattle.sort.specs.Sorted.{sort}
use Rattle.refusals.specs.First.{Condition, number_in}
use Rattle.cells.specs.Points.{Point, key_of}
use Rattle.cells.specs.Cell.{signed, within}
use Rattle.sheet_file.specs.Limit.{outside}
use Rattle.sheet_file.specs.declared.Fraction.{Fraction}
use Rattle.sheet_file.specs.declared.Fraction.TheVariants.{Missing, Outside, Given}

-- "6. A u or v lies outside −8,000 to 8,000."
abbrev pub off_range : Point → Bool
off_range p = not (within (signed p.u)) || not (within (signed p.v))

-- "7. A position is not finite or exceeds 16,384 in magnitude."
abbrev pub off_limit : Point → Bool
off_limit p = outside (f32 p.x) || outside (f32 p.y)

-- "with 13, right after 7, a number in it that is not finite or exceeds 16,384 in magnitude": a strength, or the fraction
abbrev pub off_strength : Point → Bool
off_strength p = outside (f32 p.strength)

abbrev pub off_fraction : Fraction → Bool
off_fraction Missing = false
off_fraction Outside = true
off_fraction (Given x) = false

-- "8. Two points have the same cell."
abbrev pub same_cell : Point → Point → Bool
same_cell p q = eqb p.u q.u && eqb p.v q.v

-- positions with the same bits
abbrev pub same_position : Point → Point → Bool
same_position p q = eqb p.x q.x && eqb p.y q.y

-- "9. One index stands at positions with different bits."
abbrev pub two_positions : Point → Point → Bool
two_positions p q = eqb p.index q.index && not (same_position p q)

-- strengths with the same bits
abbrev pub same_strength : Point → Point → Bool
same_strength p q = eqb p.strength q.strength

-- "with 14, right after 9, one index with different strength bits"
abbrev pub two_strengths : Point → Point → Bool
two_strengths p q = eqb p.index q.index && not (same_strength p q)

-- the refusals of a list of points with a fraction, in their order
unfoldable pub point_refusals : Fraction → List Point → List Condition
point_refusals x ps =
    (6, list_any off_range ps)
    ∷ (7, list_any off_limit ps)
    ∷ (13, off_fraction x || list_any off_strength ps)
    ∷ (8, pair_in same_cell ps)
    ∷ (9, pair_in two_positions ps)
    ∷ (14, pair_in two_strengths ps)
    ∷ []

-- "A call returns the first number that applies", or 0 where none does
unfoldable pub number_for : Fraction → List Point → ℕ
unfolding point_refusals
number_for x ps = number_in (point_refusals x ps)

-- one point comes before another in cell order (that this is the order by u, then v, is `cells`' key-order)
abbrev pub comes_before : Point → Point → Bool
comes_before p q = ltb (key_of p) (key_of q)

-- "Rows come in cell order, by u, then v."
abbrev pub cell_order : List Point → List Point
cell_order ps = sort comes_before ps
