-- One edge from what the code reads, and what a table of edges holds at each rank. Assumes nothing.
use Rattle.std.proofs.Common.{◌≡◌, ℕ, ◌<◌, ◌∙◌, get_or}
use Rattle.std.specs.Prelude.{Some, None}
use Rattle.folds.specs.Arith.{◌⊖◌, ◌⊘◌}
use Rattle.folds.proofs.Column.{column-at}
use Rattle.float.specs.declared.Distance.{Distance}
use Rattle.float.specs.Remainder.{length_of}
use Rattle.offsets.specs.declared.Offset.{Offset}
use Rattle.offsets.specs.declared.axis.Axis.{Axis}
use Rattle.offsets.specs.Axes.{forward}
use Rattle.view.specs.View.{max_points, View, rank_at}
use Rattle.view.specs.Seen.{below}
use Rattle.view.proofs.Found.{not-found, found, found-below}
use Rattle.edges.specs.declared.Edge.{Edge}
use Rattle.edges.specs.declared.StoredEdge.{StoredEdge}
use Rattle.edges.specs.declared.Edges.{Edges}
use Rattle.edges.specs.Edges.{edge_by, no_edge, edge_at, stored_at, no_stored, edges_along, along}

module _ (w : View) where
  -- ---- one edge, from the neighbour at its other end

  module _ (o : Offset) (k : ℕ) where
    pub edge_none : None ≡ below w.count (rank_at w k o) → no_edge ≡ edge_at w o k
    unfolding edge_at
    edge_none e = rw (not-found w.count (rank_at w k o) e)

    pub edge_to : {j : ℕ} {len : Distance} → Some j ≡ below w.count (rank_at w k o) → len ≡ length_of (w.x j ⊖ w.x k) (w.y j ⊖ w.y k)
        → ◌≡◌ {A = Edge} (record { len = len; ux = (w.x j ⊖ w.x k) ⊘ len.value; uy = (w.y j ⊖ w.y k) ⊘ len.value }) (edge_at w o k)
    unfolding edge_at edge_by
    edge_to e q = rw (found-below w.count (rank_at w k o) e, found w.count (rank_at w k o) e, q)

  -- ---- the tables

  pub edge-at : (axis : Axis) (k : ℕ) → k < w.count → get_or (edges_along w axis) k no_stored ≡ stored_at w (forward axis) k
  unfolding edges_along
  edge-at axis k h = column-at max_points no_stored w.count (stored_at w (forward axis)) k h

  pub table-at : (axis : Axis) (k : ℕ) (e : Edges) {r : StoredEdge} → along axis e ≡ edges_along w axis → k < w.count → r ≡ get_or (along axis e) k no_stored → r ≡ stored_at w (forward axis) k
  table-at axis k e p h q = q ∙ rw p (edge-at axis k h)
