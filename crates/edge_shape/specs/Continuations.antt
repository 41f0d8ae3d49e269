-- Reason 2 on the two continuations themselves, along u and along v: "a continuation cosine under the least, or a continuation ratio over the
-- largest where degree is at most 3 or valid cells at most 2". proofs/Cosines.antt proves that the test of the least cosine and the largest
-- ratio is the same where no cosine is NaN. Assumes nothing.
use Rattle.std.specs.Prelude.{Bool, false, cond, ◌&&◌, ◌||◌, ℕ, eqb, ltb, leb, Option, Some, None, Float}
use Rattle.std.specs.Float.Ieee.{lt, is_nan}
use Rattle.offsets.specs.Offsets.{next_u, prev_u, next_v, prev_v}
use Rattle.view.specs.View.{View}
use Rattle.sheet_file.specs.declared.EdgeShapeParams.{EdgeShapeParams}
use Rattle.edge_shape.specs.declared.Measure.{Measure}
use Rattle.edge_shape.specs.declared.CellShape.{CellShape}
use Rattle.edge_shape.specs.declared.Reason.{Reason}
use Rattle.edge_shape.specs.declared.Reason.TheVariants.{LowCardinalDegree, BadContinuation, NoValidAdjacentCell}
use Rattle.edge_shape.specs.Figures.{continuation_at, figures_at}

abbrev pub cosine_under : Float → Option Measure → Bool
cosine_under l None = false
cosine_under l (Some m) = lt m.cosine l

abbrev pub ratio_over : Float → Option Measure → Bool
ratio_over l None = false
ratio_over l (Some m) = lt l m.ratio

abbrev pub bad_continuation : EdgeShapeParams → ℕ → ℕ → Option Measure → Option Measure → Bool
bad_continuation g degree valid u v =
    (cosine_under g.continuation_cos_min u || cosine_under g.continuation_cos_min v)
    || ((leb degree 3 || leb valid 2) && (ratio_over g.continuation_length_ratio_max u || ratio_over g.continuation_length_ratio_max v))

-- "an edge reason, the first that holds": with the two continuations in place of their least cosine and largest ratio
abbrev pub reason_by_each : EdgeShapeParams → ℕ → ℕ → ℕ → Option Measure → Option Measure → Option Reason
reason_by_each g degree adjacent valid u v =
    cond (ltb degree g.min_cardinal_degree) (Some LowCardinalDegree)
    (cond (bad_continuation g degree valid u v) (Some BadContinuation) (cond (ltb 0 adjacent && eqb valid 0) (Some NoValidAdjacentCell) None))

-- of rank k
abbrev pub reason_at : EdgeShapeParams → View → ℕ → Option Reason
reason_at g w k =
    let f = figures_at g w k in
    reason_by_each g f.degree f.adjacent f.valid (continuation_at w prev_u next_u k) (continuation_at w prev_v next_v k)

-- ---- a cosine that is NaN

abbrev pub cosine_is_nan : Option Measure → Bool
cosine_is_nan None = false
cosine_is_nan (Some m) = is_nan m.cosine

abbrev pub cell_is_nan : Option CellShape → Bool
cell_is_nan None = false
cell_is_nan (Some c) = cosine_is_nan c.along_u || cosine_is_nan c.along_v
