-- "The sheet that takes longest" (document 02, A.6): how many rounds there can be, of points ps in cell order with settings s. Assumes nothing.
use Rattle.std.specs.Prelude.{◌≡◌, Bool, false, not, ◌||◌, List, ℕ, ◌+◌, ◌-◌, ◌≤◌, ◌<◌, length}
use Rattle.folds.specs.Below.{tally}
use Rattle.cells.specs.Points.{Point}
use Rattle.sheet_file.specs.declared.Settings.{Settings}
use Rattle.marks.specs.Filters.{validate, orientation, wrong}
use Rattle.marks.specs.Byte.{has_mark}
use Rattle.ruling.specs.Accepted.{AcceptedSheet}
use Rattle.promises.specs.Words.{DistinctIndices, marks_in, rounds_of}
use Rattle.promises.specs.Tally.{different, any_point, index_in}

module _ (s : Settings) (ps : List Point) where
  -- rank k was "dropped beforehand": it has a mark of one of the three filters before the weak-end filter
  abbrev pub beforehand : ℕ → Bool
  beforehand k = has_mark validate (marks_in s ps k) || (has_mark orientation (marks_in s ps k) || has_mark wrong (marks_in s ps k))

  -- how many points were not
  abbrev pub left_before : ℕ
  left_before = tally (λ (k : ℕ). not (beforehand k)) (length ps)

  pub record Longest : Type 0 where
    -- "the removing rounds number at most n − 1": of n points, also where indices repeat or points were dropped beforehand
    pub bound : 2 ≤ length ps → rounds_of s ps + 1 ≤ length ps
    -- of the points that were not dropped beforehand
    pub left : 2 ≤ left_before → rounds_of s ps + 1 ≤ left_before
    pub few : rounds_of s ps ≤ left_before
    -- of the different indices, where none repeats
    pub indices : DistinctIndices ps → 2 ≤ length ps → rounds_of s ps + 1 ≤ different any_point (index_in ps) (length ps)

-- of every accepted sheet
abbrev pub LongestPromise : Type 0
LongestPromise = (s : Settings) (ps : List Point) → AcceptedSheet s ps → Longest s ps

-- "Among sheets without repeated indices where nothing was dropped beforehand, the removing rounds number at most n − 1", with n from 2
abbrev pub FewerRoundsThanPoints : Type 0
FewerRoundsThanPoints = (s : Settings) (ps : List Point) → AcceptedSheet s ps → DistinctIndices ps → ((k : ℕ) → k < length ps → beforehand s ps k ≡ false) → 2 ≤ length ps → rounds_of s ps ≤ length ps - 1
