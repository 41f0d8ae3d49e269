-- A list of places among the 25, the sums over its first ones, and the offsets at them: what is predicted, said once more by places. Assumes
-- nothing.
use Rattle.std.specs.Prelude.{Bool, ◌&&◌, List, [], ◌∷◌, ℕ, ◌+◌, ◌-◌, ◌*◌, leb, Float, get_or}
use Rattle.folds.specs.Arith.{◌⊕◌, ◌⊗◌}
use Rattle.folds.specs.Below.{tally, sum_of}
use Rattle.float.specs.Constants.{half}
use Rattle.offsets.specs.declared.Offset.{Offset}
use Rattle.offsets.specs.Offsets.{offset_of}
use Rattle.view.specs.View.{View}
use Rattle.patches.specs.Patches.{survives}
use Rattle.predict.specs.declared.sums.Sums.{Sums}

-- the offsets at a list of places
abbrev pub offsets_of : List ℕ → List Offset
offsets_of [] = []
offsets_of (d ∷ l) = offset_of d ∷ offsets_of l

module _ (w : View) (k : ℕ) where
  -- the rank at place d of the 25 round rank k
  abbrev pub rank_of : ℕ → ℕ
  rank_of d = w.near (25 * k + d)

  -- half way between the values at places d and 24 - d
  abbrev pub midpoint_at : (ℕ → Float) → ℕ → Float
  midpoint_at f d = half ⊗ (f (rank_of d) ⊕ f (rank_of (24 - d)))

  module _ (marks : List ℕ) where
    -- places d, from the cell's own on, and 24 - d hold a pair
    abbrev pub pair_at : ℕ → Bool
    pair_at d = leb 12 d && (survives w.count marks (rank_of d) && survives w.count marks (rank_of (24 - d)))

    -- of the first i places of a list
    abbrev pub sums_to : List ℕ → ℕ → Sums
    sums_to sides i =
        record {
          x = sum_of (λ (j : ℕ). pair_at (get_or sides j 0)) (λ (j : ℕ). midpoint_at w.x (get_or sides j 0)) i;
          y = sum_of (λ (j : ℕ). pair_at (get_or sides j 0)) (λ (j : ℕ). midpoint_at w.y (get_or sides j 0)) i;
          pairs = tally (λ (j : ℕ). pair_at (get_or sides j 0)) i;
        }
