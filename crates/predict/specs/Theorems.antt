-- What holds of the rule over any list of offsets: how many pairs there are at most, where there is none, and what a prediction depends on.
-- Assumes nothing.
use Rattle.std.specs.Prelude.{◌≡◌, Bool, true, false, ◌&&◌, ◌⊎◌, List, ℕ, ◌+◌, ◌≤◌, ◌<◌, length, Float}
use Rattle.std.specs.Float.Ieee.{lt}
use Rattle.folds.specs.Arith.{f32, zero_f}
use Rattle.folds.specs.Below.{sum_of}
use Rattle.offsets.specs.declared.Offset.{Offset}
use Rattle.offsets.specs.Offsets.{own, is_near, places}
use Rattle.patches.specs.Reach.{paired}
use Rattle.peel_rounds.specs.Rounds.{none_twice}
use Rattle.predict.specs.Predict.{opposite, side_at, midpoint, is_pair, pair_count, prediction}
use Rattle.predict.specs.declared.PredictedPosition.{PredictedPosition}
use Rattle.std.specs.Prelude.{None, Some}

-- each offset of the list is within 2, and with each stands its opposite
pub record Opposed (sides : List Offset) : Type 0 where
  pub near : (i : ℕ) → i < length sides → is_near (side_at sides i) ≡ true
  pub opposites : paired (places sides) ≡ true

-- ---- how many pairs

-- "A fill has at most as many pairs as half of the lattice's offsets": of a list with none twice, round a cell whose own point is not kept
abbrev pub HalfOfOffsets : Type 0
HalfOfOffsets = (sides : List Offset) → Opposed sides → none_twice (places sides) ≡ true → (there : Offset → Bool) → there own ≡ false → pair_count sides there + pair_count sides there ≤ length sides

-- ---- where there is none

-- the points at offset i, forward or not, and at its opposite are kept
abbrev pub both_there : List Offset → (Offset → Bool) → ℕ → Bool
both_there sides there i = there (side_at sides i) && there (opposite (side_at sides i))

module _ (sides : List Offset) (there : Offset → Bool) (x y : Offset → Float) where
  -- "There is no pair exactly where no two kept points are at opposite neighbours of the cell."
  pub record NoPairExactly : Type 0 where
    pub none : ((i : ℕ) → i < length sides → both_there sides there i ≡ false) → prediction sides there x y ≡ None
    pub none_only : prediction sides there x y ≡ None → (i : ℕ) → i < length sides → both_there sides there i ≡ false

  -- a position "with its number of pairs", which is not 0; and where one of them is
  pub record WithPairs (p : PredictedPosition) : Type 0 where
    pub pairs : p.n_axis_pairs ≡ pair_count sides there
    pub some_pair : 0 < pair_count sides there
    pub found : (i : ℕ) × (i < length sides) × (both_there sides there i ≡ true)

abbrev pub NoPairTheorem : Type 0
NoPairTheorem = (sides : List Offset) → Opposed sides → (there : Offset → Bool) (x y : Offset → Float) → NoPairExactly sides there x y

-- of any list
abbrev pub PairsTheorem : Type 0
PairsTheorem = (sides : List Offset) (there : Offset → Bool) (x y : Offset → Float) (p : PredictedPosition) → prediction sides there x y ≡ Some p → WithPairs sides there x y p

-- ---- −0

-- "A −0 comes out only where the division underflows": the sum that is divided is below 0
abbrev pub MinusZeroTheorem : Type 0
MinusZeroTheorem = (sides : List Offset) (there : Offset → Bool) (x y : Offset → Float) (p : PredictedPosition) → length sides ≤ 16777216 → prediction sides there x y ≡ Some p
    → (p.x ≡ f32 0x8000_0000 → lt (sum_of (is_pair sides there) (midpoint sides x) (length sides)) zero_f ≡ true)
    × (p.y ≡ f32 0x8000_0000 → lt (sum_of (is_pair sides there) (midpoint sides y) (length sides)) zero_f ≡ true)

-- ---- what it depends on

-- o is an offset of the list, or the opposite of one
abbrev pub Met : List Offset → Offset → Type 0
Met sides o = (i : ℕ) × (i < length sides) × ((o ≡ side_at sides i) ⊎ (o ≡ opposite (side_at sides i)))

-- what is found at these offsets is the same: whether the point is kept, and where it is, its x and y
pub record SeenAlike (sides : List Offset) (there₁ there₂ : Offset → Bool) (x₁ x₂ y₁ y₂ : Offset → Float) : Type 0 where
  pub there : (o : Offset) → Met sides o → there₁ o ≡ there₂ o
  pub x : (o : Offset) → Met sides o → there₁ o ≡ true → x₁ o ≡ x₂ o
  pub y : (o : Offset) → Met sides o → there₁ o ≡ true → y₁ o ≡ y₂ o

-- "A fill depends on its cell, the cells of the kept points and their positions alone": of any list
abbrev pub DependsOnKept : Type 0
DependsOnKept = (sides : List Offset) (there₁ there₂ : Offset → Bool) (x₁ x₂ y₁ y₂ : Offset → Float) → SeenAlike sides there₁ there₂ x₁ x₂ y₁ y₂ → prediction sides there₁ x₁ y₁ ≡ prediction sides there₂ x₂ y₂
