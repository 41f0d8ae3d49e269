-- What the inner functions lean on: the sums over the first offsets. Assumes nothing.
use mathlib.Core.Path.{◌≡◌, refl}
use mathlib.Core.Bool.{Bool, true, false}
use mathlib.Core.List.{List}
use Prim.Native.Nat.{ℕ, ◌+◌, ◌≤◌}
use lib.ListN.{length}
use Rattle.folds.specs.Arith.{zero_f}
use Rattle.folds.specs.Below.{tally, sum_of}
use Rattle.folds.proofs.Below.{tally-more, sum_more, tally-le}
use Rattle.offsets.specs.declared.Offset.{Offset}
use Rattle.view.specs.View.{View}
use Rattle.predict.specs.Predict.{side_at, midpoint, is_pair, pair_count, mean_of, prediction}
use Rattle.predict.specs.Fills.{kept_at, value_at, prediction_at}
use Rattle.predict.specs.Sums.{sums_with, sums_to, mean_by}

module _ (w : View) (marks : List ℕ) (k : ℕ) (sides : List Offset) where
  abbrev pair : ℕ → Bool
  pair = is_pair sides (kept_at w marks k)

  pub sums_none : record { x = zero_f; y = zero_f; pairs = 0 } ≡ sums_to w marks k sides 0
  unfolding tally sum_of
  sums_none = refl

  pub sums-more : (i : ℕ) (o : Offset) → o ≡ side_at sides i → sums_with w marks k o (sums_to w marks k sides i) ≡ sums_to w marks k sides (i + 1)
  sums-more i o same = rw same (go (pair i) refl)
    where
      go : (b : Bool) → pair i ≡ b → sums_with w marks k (side_at sides i) (sums_to w marks k sides i) ≡ sums_to w marks k sides (i + 1)
      go true e = rw (tally-more, sum_more pair (midpoint sides (value_at w w.x k)) i, sum_more pair (midpoint sides (value_at w w.y k)) i, e)
      go false e = rw (tally-more, sum_more pair (midpoint sides (value_at w w.x k)) i, sum_more pair (midpoint sides (value_at w w.y k)) i, e)

  pub few-pairs : (i : ℕ) → (sums_to w marks k sides i).pairs ≤ i
  few-pairs i = tally-le pair i

  pub mean-is : mean_by (sums_to w marks k sides (length sides)) ≡ prediction_at w sides marks k
  unfolding prediction mean_of pair_count
  mean-is = refl
