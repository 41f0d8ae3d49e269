-- Words of the inner contracts: edges read from the table, and a window so far. Assumes nothing.
use Rattle.std.specs.Prelude.{◌≡◌, Bool, cond, ◌&&◌, ◌||◌, List, ℕ, ◌+◌, eqb, Float, Option, None, Some}
use Rattle.std.specs.Float.Ieee.{lt}
use Rattle.folds.specs.Arith.{◌⊕◌, ◌⊗◌, zero_f}
use Rattle.folds.specs.Below.{tally, sum_of}
use Rattle.folds.specs.Lists.{listed}
use Rattle.float.specs.Constants.{overlong_ratio, global_overlong_ratio}
use Rattle.median.specs.Median.{median_of}
use Rattle.offsets.specs.declared.Offset.{Offset}
use Rattle.offsets.specs.declared.axis.Axis.{Axis}
use Rattle.offsets.specs.Axes.{forward}
use Rattle.offsets.specs.Offsets.{offset_of}
use Rattle.view.specs.View.{View, rank_at, present}
use Rattle.view.specs.Seen.{view_in}
use Rattle.edges.specs.Edges.{stored_at}
use Rattle.edges.specs.declared.StoredEdge.{StoredEdge}
use Rattle.wrong_label_filters.specs.Judged.{in_window}
use Rattle.wrong_label_filters.specs.declared.judged_edges.EdgesAlong.{EdgesAlong}
use Rattle.wrong_label_filters.specs.declared.judged_edges.Known.{Known}
use Rattle.wrong_label_filters.specs.declared.judged_edges.Window.{Window}

-- the edges along an axis
abbrev pub edge_along : View → Axis → ℕ → StoredEdge
edge_along w axis = stored_at w (forward axis)

-- the sheet that the code's struct holds, and its edges along the axis that it holds
abbrev pub sheet_in : EdgesAlong → View
sheet_in a = view_in a.table.view

abbrev pub edges_in : EdgesAlong → ℕ → StoredEdge
edges_in a = edge_along (sheet_in a) a.axis

-- one edge more, if t; u says whether it is under
abbrev pub with_edge : Bool → Bool → Float → Float → Window → Window
with_edge t u x y v =
    record {
      count = cond t (v.count + 1) v.count;
      under = cond (t && u) (v.under + 1) v.under;
      sx = cond t (v.sx ⊕ x) v.sx;
      sy = cond t (v.sy ⊕ y) v.sy;
    }

module _ (w : View) (E : ℕ → StoredEdge) (k : ℕ) (len : Float) where
  -- 1.5 times the length of the edge at place j is under len
  abbrev pub is_under : ℕ → Bool
  is_under j = lt (overlong_ratio ⊗ (E (rank_at w k (offset_of j))).len) len

  -- rank k's window up to place j: how many edges, how many times 1.5 are under len, and the sum of the unit vectors
  unfoldable pub window_to : ℕ → Window
  window_to j =
      record {
        count = tally (in_window w E k) j;
        under = tally (λ i. in_window w E k i && is_under i) j;
        sx = sum_of (in_window w E k) (λ i. (E (rank_at w k (offset_of i))).ux) j;
        sy = sum_of (in_window w E k) (λ i. (E (rank_at w k (offset_of i))).uy) j;
      }

  -- a window with the edge at place j, if that is one of rank k's window
  abbrev pub with_edge_at : ℕ → Window → Window
  with_edge_at j v = with_edge (in_window w E k j) (is_under j) (E (rank_at w k (offset_of j))).ux (E (rank_at w k (offset_of j))).uy v

-- the positive lengths of the first n edges
abbrev pub positive_lens : (ℕ → StoredEdge) → ℕ → List Float
positive_lens E n = listed (λ i. lt zero_f (E i).len) (λ i. (E i).len) n

-- 1.6 times the median of the positive lengths
abbrev pub sheet_limit_of : (ℕ → StoredEdge) → ℕ → Float
sheet_limit_of E n = global_overlong_ratio ⊗ median_of (positive_lens E n)

-- a limit that is known is this
abbrev pub Limits : (ℕ → StoredEdge) → ℕ → Option Float → Type 0
Limits E n None = Unit {0}
Limits E n (Some x) = x ≡ sheet_limit_of E n

-- what is known of the edges by then
pub record Knows (a : EdgesAlong) (known : Known) : Type 0 where
  pub total-is : known.total ≡ tally (λ i. lt zero_f (edges_in a i).len) (sheet_in a).count
  pub limits : Limits (edges_in a) (sheet_in a).count known.limit

-- the edge from rank k over the offset o leads to a point, it fails, and m is one of its ends
abbrev pub failing_ends : View → Offset → (ℕ → Bool) → ℕ → ℕ → Bool
failing_ends w o t k m = present w k o && (t k && (eqb k m || eqb (rank_at w k o) m))
