-- The edge figures of a corner and the reason for which the edge-shape gate marks it, on what the filters see of a sheet.
-- "(5) an edge reason, the first that holds: degree under the minimum; a continuation cosine under the least, or a continuation ratio
-- over the largest where degree is at most 3 or valid cells at most 2; adjacent cells, none valid."
-- "What is left brief here is written out from these files' formulas": edge_shape.rs. Angles are held and judged as cosines.
-- Assumes nothing.
use Rattle.std.specs.Prelude.{Bool, false, cond, not, ◌&&◌, ◌||◌, List, [], ◌∷◌, ℕ, eqb, ltb, leb, Option, Some, None, is_some, count_by, fold}
use Rattle.std.specs.Float.Ieee.{lt, le, add, sub, mul, div, of_bits}
use Rattle.folds.specs.Arith.{◌⊕◌, ◌⊖◌, ◌⊗◌, ◌⊘◌}
use Rattle.float.specs.Scalar.{max_of, min_of, clamp_of}
use Rattle.float.specs.Constants.{epsilon}
use Rattle.folds.specs.Column.{column}
use Rattle.offsets.specs.declared.Offset.{Offset}
use Rattle.offsets.specs.Offsets.{own, next_u, prev_u, next_v, prev_v, prev_uv}
use Rattle.view.specs.View.{max_points, View, rank_at, present, degree_at}
use Rattle.edges.specs.Edges.{edge_at}
use Rattle.sheet_file.specs.declared.EdgeShapeParams.{EdgeShapeParams}
use Rattle.edge_shape.specs.declared.Side.{Side}
use Rattle.edge_shape.specs.declared.Measure.{Measure}
use Rattle.edge_shape.specs.declared.CellShape.{CellShape}
use Rattle.edge_shape.specs.declared.Reason.{Reason}
use Rattle.edge_shape.specs.declared.Reason.TheVariants.{LowCardinalDegree, BadContinuation, NoValidAdjacentCell}
use Rattle.edge_shape.specs.declared.Figures.{Figures}

-- ---- two sides

-- the edge from rank a to the point at offset o: the vector and its length as f32
unfoldable pub side_at : View → Offset → ℕ → Side
unfolding edge_at sub
side_at w o a = record { dx = w.x (rank_at w a o) ⊖ w.x a; dy = w.y (rank_at w a o) ⊖ w.y a; len = (edge_at w o a).len.value }

-- The cosine between two sides, clamped to -1 to 1, and the ratio of the longer to the shorter. There is neither where one is at most
-- f32::EPSILON long.
unfoldable pub compared : Side → Side → Option Measure
unfolding le add mul div max_of min_of clamp_of of_bits
compared a b =
    cond (le a.len epsilon || le b.len epsilon) None
    (Some (record { cosine = clamp_of ((a.dx ⊗ b.dx ⊕ a.dy ⊗ b.dy) ⊘ (a.len ⊗ b.len)); ratio = max_of a.len b.len ⊘ min_of a.len b.len }))

-- The least cosine and the largest ratio so far, m, with one more pair. "Of equal cosines, +0 and −0 included, the first met in the
-- source's order stays."
unfoldable pub noted : Option Measure → Option Measure → Option Measure
unfolding lt max_of
noted m None = m
noted None (Some p) = Some p
noted (Some m) (Some p) = Some (record { cosine = cond (lt p.cosine m.cosine) p.cosine m.cosine; ratio = max_of m.ratio p.ratio })

-- ---- continuations

-- The edge that goes on from rank k to the point at offset after, against the edge before it, which starts at offset before and leads to
-- rank k.
unfoldable pub continuation_at : View → Offset → Offset → ℕ → Option Measure
unfolding compared side_at
continuation_at w before after k =
    cond (present w k before && (present w k after && present w (rank_at w k before) after))
    (compared (side_at w after (rank_at w k before)) (side_at w after k))
    None

-- least continuation cosine, largest continuation ratio: along u, then along v
unfoldable pub continuations_at : View → ℕ → Option Measure
unfolding continuation_at noted
continuations_at w k = noted (continuation_at w prev_u next_u k) (continuation_at w prev_v next_v k)

-- ---- adjacent cells

-- the cell whose least corner is rank t: its sides along u against each other, and those along v
unfoldable pub shape_at : View → ℕ → Option CellShape
unfolding compared side_at
shape_at w t =
    cond (ltb t w.count && (present w t next_u && (present w t next_v && (present w (rank_at w t next_v) next_u && present w (rank_at w t next_u) next_v))))
    (Some (record {
      along_u = compared (side_at w next_u t) (side_at w next_u (rank_at w t next_v));
      along_v = compared (side_at w next_v t) (side_at w next_v (rank_at w t next_u));
    }))
    None

-- a pair of opposite sides within the gate
unfoldable pub within_gate : EdgeShapeParams → Option Measure → Bool
unfolding lt
within_gate g None = false
within_gate g (Some m) = not (lt m.cosine g.cell_opposite_cos_min) && not (lt g.cell_opposite_length_ratio_max m.ratio)

abbrev pub is_adjacent : Option CellShape → Bool
is_adjacent c = is_some c

abbrev pub is_valid : EdgeShapeParams → Option CellShape → Bool
is_valid g None = false
is_valid g (Some c) = within_gate g c.along_u && within_gate g c.along_v

unfoldable pub noted_cell : Option Measure → Option CellShape → Option Measure
unfolding noted
noted_cell m None = m
noted_cell m (Some c) = noted (noted m c.along_u) c.along_v

-- ---- the reason

abbrev pub continuation_fails : EdgeShapeParams → ℕ → ℕ → Option Measure → Bool
continuation_fails g degree valid None = false
continuation_fails g degree valid (Some m) =
    lt m.cosine g.continuation_cos_min || ((leb degree 3 || leb valid 2) && lt g.continuation_length_ratio_max m.ratio)

unfoldable pub reason_of : EdgeShapeParams → ℕ → ℕ → ℕ → Option Measure → Option Reason
unfolding lt
reason_of g degree adjacent valid m =
    cond (ltb degree g.min_cardinal_degree) (Some LowCardinalDegree)
    (cond (continuation_fails g degree valid m) (Some BadContinuation) (cond (ltb 0 adjacent && eqb valid 0) (Some NoValidAdjacentCell) None))

-- "Byte 1: reason, 0 none, 1 low-cardinal-degree, 2 bad-continuation, 3 no-valid-adjacent-cell."
abbrev pub reason_number : Option Reason → ℕ
reason_number None = 0
reason_number (Some LowCardinalDegree) = 1
reason_number (Some BadContinuation) = 2
reason_number (Some NoValidAdjacentCell) = 3

-- ---- all figures of rank k's cell

unfoldable pub figures_by : EdgeShapeParams → ℕ → Option Measure → List (Option CellShape) → Figures
unfolding reason_of noted_cell
figures_by g degree m cells =
    let adjacent = count_by is_adjacent cells in
    let valid = count_by (is_valid g) cells in
    record {
      degree = degree;
      adjacent = adjacent;
      valid = valid;
      continuation = m;
      cells = fold noted_cell None cells;
      reason = reason_of g degree adjacent valid m;
    }

-- the cells that have a corner at rank k stand in the source's order: least corners (0, 0), (-1, 0), (-1, -1), (0, -1) from it
unfoldable pub figures_at : EdgeShapeParams → View → ℕ → Figures
unfolding figures_by shape_at continuations_at degree_at
figures_at g w k =
    figures_by g (degree_at w k) (continuations_at w k)
    (shape_at w (rank_at w k own) ∷ shape_at w (rank_at w k prev_u) ∷ shape_at w (rank_at w k prev_uv) ∷ shape_at w (rank_at w k prev_v) ∷ [])

-- no figures, past the last rank
abbrev pub no_figures : Figures
no_figures = record { degree = 0; adjacent = 0; valid = 0; continuation = None; cells = None; reason = None }

-- by rank, what a row shows: "A row shows what the Rust holds under the point's index", which is the entry of the rank that has the index's
-- place
unfoldable pub index_figures : EdgeShapeParams → View → List Figures
unfolding column figures_at
index_figures g w = column max_points no_figures w.count (λ (k : ℕ). figures_at g w (w.by_idx k))
