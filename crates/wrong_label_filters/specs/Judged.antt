-- "An edge's window holds the other edges of its direction and positive length that start within 2 cells each way. With five or more it is
-- judged at ratio 1.5 and 30 degrees, else with eight or more on the whole sheet at 1.6, length only. An edge that fails marks both its points;
-- one of zero length is not judged." E is the edge of each rank in one direction. Assumes nothing.
use Rattle.std.specs.Prelude.{Bool, ◌&&◌, ◌||◌, List, ℕ, leb, length, Float}
use Rattle.std.proofs.Math.Bool.{cond, not}
use Rattle.std.proofs.Math.Dec.{eqb}
use Rattle.std.specs.Float.Ieee.{lt, add, mul, div, of_bits}
use Rattle.folds.specs.Arith.{◌⊕◌, ◌⊗◌, ◌⊘◌, zero_f}
use Rattle.folds.specs.Below.{some, sum_of}
use Rattle.folds.specs.Lists.{listed}
use Rattle.float.specs.Constants.{overlong_ratio, global_overlong_ratio}
use Rattle.float.specs.Scalar.{norm_of, over30_degrees}
use Rattle.offsets.specs.declared.Offset.{Offset}
use Rattle.offsets.specs.Offsets.{own, place_of, offset_of}
use Rattle.view.specs.View.{View, rank_at, present}
use Rattle.edges.specs.Edges.{stored_at}
use Rattle.edges.specs.declared.StoredEdge.{StoredEdge}
use Rattle.median.specs.Median.{median_of}

module _ (w : View) (E : ℕ → StoredEdge) where
  abbrev pub positive_edge : ℕ → Bool
  positive_edge k = lt zero_f (E k).len

  -- In what follows j is a place: the window is all 25 places in their order, u outer, v inner, rising, so no list of offsets is written down.

  -- the point at place j of the 25 round rank k starts an edge of rank k's window
  unfoldable pub in_window : ℕ → ℕ → Bool
  unfolding lt of_bits
  in_window k j = not (eqb j (place_of own)) && (present w k (offset_of j) && positive_edge (rank_at w k (offset_of j)))

  -- the lengths of the window, and of the whole sheet
  unfoldable pub window_lens : ℕ → List Float
  unfolding listed in_window
  window_lens k = listed (in_window k) (λ j. (E (rank_at w k (offset_of j))).len) 25

  unfoldable pub sheet_lens : List Float
  unfolding listed lt of_bits
  sheet_lens = listed positive_edge (λ k. (E k).len) w.count

  -- the sum of the window's unit vectors, u outer, v inner, rising
  unfoldable pub window_x : ℕ → Float
  unfolding sum_of in_window
  window_x k = sum_of (in_window k) (λ j. (E (rank_at w k (offset_of j))).ux) 25

  unfoldable pub window_y : ℕ → Float
  unfolding sum_of in_window
  window_y k = sum_of (in_window k) (λ j. (E (rank_at w k (offset_of j))).uy) 25

-- longer than the ratio times the median
unfoldable pub overlong : Float → List Float → Float → Bool
unfolding lt mul median_of
overlong ratio lens len = lt (ratio ⊗ median_of lens) len

-- the unit vector (ux, uy) and the normalised sum (sx, sy) differ by over 30 degrees; no test if the sum has no positive norm
unfoldable pub off_axis : Float → Float → Float → Float → Bool
unfolding norm_of lt add mul div over30_degrees of_bits
off_axis sx sy ux uy = let s = norm_of sx sy in lt zero_f s && over30_degrees (ux ⊗ (sx ⊘ s) ⊕ uy ⊗ (sy ⊘ s))

module _ (w : View) (E : ℕ → StoredEdge) where
  -- the edge that starts at rank k fails
  unfoldable pub fails : ℕ → Bool
  unfolding lt of_bits window_lens sheet_lens window_x window_y overlong off_axis
  fails k =
      positive_edge w E k
      && cond (leb 5 (length (window_lens w E k)))
      (overlong overlong_ratio (window_lens w E k) (E k).len || off_axis (window_x w E k) (window_y w E k) (E k).ux (E k).uy)
      (leb 8 (length (sheet_lens w E)) && overlong global_overlong_ratio (sheet_lens w E) (E k).len)

  -- rank m is an end of an edge in the direction o that fails
  unfoldable pub end_of_failing : Offset → ℕ → Bool
  unfolding some fails
  end_of_failing o m = some (λ k. (eqb k m || eqb (rank_at w k o) m) && fails k) w.count

-- rank m is marked by an edge in the direction o
abbrev pub edge_mark : View → Offset → ℕ → Bool
edge_mark w o m = end_of_failing w (stored_at w o) o m
