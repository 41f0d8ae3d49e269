-- The edges of the lattice along u and along v, by the rank where they start: length and unit vector. Two cells share an edge "if they differ
-- by one in u and agree in v, or the other way round"; an edge in the direction next_u or next_v leads to the neighbour there.
-- Assumes nothing.
use Rattle.std.specs.Prelude.{cond, List, ℕ, pos, replicate, Float, Some}
use Rattle.std.specs.Float.{nan}
use Rattle.std.specs.Float.Ieee.{sub, div, of_bits}
use Rattle.folds.specs.Arith.{◌⊖◌, ◌⊘◌, zero_f}
use Rattle.folds.specs.Column.{column}
use Rattle.float.specs.Scalar.{norm_of}
use Rattle.float.specs.Remainder.{length_of}
use Rattle.offsets.specs.declared.Offset.{Offset}
use Rattle.offsets.specs.declared.axis.Axis.{Axis}
use Rattle.offsets.specs.declared.axis.Axis.TheVariants.{AlongU, AlongV}
use Rattle.offsets.specs.Axes.{forward}
use Rattle.view.specs.View.{max_points, View, rank_at, present}
use Rattle.edges.specs.declared.Edge.{Edge}
use Rattle.edges.specs.declared.StoredEdge.{StoredEdge}
use Rattle.edges.specs.declared.Edges.{Edges}

-- the edge along (dx, dy); its unit vector means something only where the length is above 0
unfoldable pub edge_by : Float → Float → Edge
unfolding norm_of div
edge_by dx dy = let l = length_of dx dy in record { len = l; ux = dx ⊘ l.value; uy = dy ⊘ l.value }

-- no edge; for the wrong-label rules, an edge of zero length is the same ("one of zero length is not judged")
abbrev pub no_edge : Edge
no_edge = record { len = record { value = zero_f; remainder = Some (pos 0) }; ux = zero_f; uy = zero_f }

-- the edge from rank k to the point at offset o from it
unfoldable pub edge_at : View → Offset → ℕ → Edge
unfolding edge_by sub of_bits
edge_at w o k =
    let j = rank_at w k o in
    cond (present w k o) (edge_by (w.x j ⊖ w.x k) (w.y j ⊖ w.y k)) no_edge

-- ---- the tables of edges

-- what the tables keep of an edge: no filter asks for the remainder of a length
abbrev pub stored : Edge → StoredEdge
stored e = record { len = e.len.value; ux = e.ux; uy = e.uy }

-- the edge from rank k to the point at offset o from it
abbrev pub stored_at : View → Offset → ℕ → StoredEdge
stored_at w o k = stored (edge_at w o k)

-- what stands past the last rank
abbrev pub no_stored : StoredEdge
no_stored = record { len = nan; ux = nan; uy = nan }

-- the edges along an axis, each at the rank where it starts
unfoldable pub edges_along : View → Axis → List StoredEdge
unfolding edge_at column
edges_along w axis = column max_points no_stored w.count (stored_at w (forward axis))

-- no edges yet
abbrev pub blank_column : List StoredEdge
blank_column = replicate max_points no_stored

-- the column of an axis
abbrev pub along : Axis → Edges → List StoredEdge
along AlongU e = e.along_u.now
along AlongV e = e.along_v.now
