-- What document 02, A.5, promises of weak ends, of points ps in cell order with settings s. Assumes nothing.
use Rattle.std.specs.Prelude.{◌≡◌, Bool, true, false, ◌&&◌, List, ℕ, ◌≤◌, ◌<◌, length, get_or}
use Rattle.folds.specs.Below.{some, tally}
use Rattle.offsets.specs.Offsets.{own}
use Rattle.cells.specs.Points.{Point, nowhere, strengths_of}
use Rattle.cells.specs.Cell.{cell_of, coincide, offset_by}
use Rattle.sheet_file.specs.declared.Fraction.TheVariants.{Missing}
use Rattle.sheet_file.specs.declared.Settings.{Settings}
use Rattle.marks.specs.Filters.{validate, orientation, wrong, leaf, component}
use Rattle.marks.specs.Marks.{is_set}
use Rattle.marks.specs.Byte.{has_mark}
use Rattle.drop_set.specs.Filters.{sides_of, weak_by}
use Rattle.ruling.specs.Accepted.{AcceptedSheet}
use Rattle.promises.specs.Words.{marks_in, rounds_of, survivor}

module _ (s : Settings) (ps : List Point) where
  -- "strength is below it (strictly)": rank k is weak; without tag 4 none is
  abbrev pub weak_rank : ℕ → Bool
  weak_rank k = is_set (weak_by s.score_frac (length ps) (strengths_of ps)) k

  -- some survivor is in the cell to which side i leads from rank k's
  abbrev pub survivor_at : ℕ → ℕ → Bool
  survivor_at k i = some (λ (j : ℕ). survivor s ps j && coincide (cell_of (get_or ps j nowhere)) (offset_by (get_or (sides_of s) i own) (cell_of (get_or ps k nowhere)))) (length ps)

  -- how many "live neighbours" rank k has in the end: over how many shared edges there is a survivor
  abbrev pub live_neighbours : ℕ → ℕ
  live_neighbours k = tally (survivor_at k) (length (sides_of s))

  pub record WeakEnds : Type 0 where
    -- "every index that is left live in the end and weak has two live neighbours or more at each of its cells"
    pub left-two : (k : ℕ) → survivor s ps k ≡ true → weak_rank k ≡ true → 2 ≤ live_neighbours k
    -- "each removed one was weak", and has no other mark
    pub removed-weak : (k : ℕ) → k < length ps → has_mark leaf (marks_in s ps k) ≡ true → weak_rank k ≡ true
    pub not-validate : (k : ℕ) → k < length ps → has_mark leaf (marks_in s ps k) ≡ true → has_mark validate (marks_in s ps k) ≡ false
    pub not-orientation : (k : ℕ) → k < length ps → has_mark leaf (marks_in s ps k) ≡ true → has_mark orientation (marks_in s ps k) ≡ false
    pub not-wrong : (k : ℕ) → k < length ps → has_mark leaf (marks_in s ps k) ≡ true → has_mark wrong (marks_in s ps k) ≡ false
    pub not-component : (k : ℕ) → k < length ps → has_mark leaf (marks_in s ps k) ≡ true → has_mark component (marks_in s ps k) ≡ false
    -- there are rounds just where something is removed, and no more than points
    pub no-rounds : ((k : ℕ) → k < length ps → has_mark leaf (marks_in s ps k) ≡ false) → rounds_of s ps ≡ 0
    pub none-removed : rounds_of s ps ≡ 0 → (k : ℕ) → k < length ps → has_mark leaf (marks_in s ps k) ≡ false
    pub few-rounds : rounds_of s ps ≤ length ps

-- of every accepted sheet
abbrev pub WeakEndsPromise : Type 0
WeakEndsPromise = (s : Settings) (ps : List Point) → AcceptedSheet s ps → WeakEnds s ps

-- "Without tag 4 there are no such marks and zero rounds."
pub record NoLeaves (s : Settings) (ps : List Point) : Type 0 where
  pub marks : (k : ℕ) → k < length ps → has_mark leaf (marks_in s ps k) ≡ false
  pub rounds : rounds_of s ps ≡ 0

-- of every accepted sheet without a fraction, as a file without tag 4 has none (specs/OfFile.antt)
abbrev pub UnweighedPromise : Type 0
UnweighedPromise = (s : Settings) (ps : List Point) → AcceptedSheet s ps → s.score_frac ≡ Missing → NoLeaves s ps
