-- "One printed corner, one count": what the tally of every sheet counts. Assumes nothing.
use Rattle.std.specs.Prelude.{◌≡◌, Bool, true, not, ◌&&◌, List, [], ◌∷◌, ℕ, ◌+◌, ◌≤◌, ◌<◌, eqb, length, get_or}
use Rattle.folds.specs.Below.{some, tally}
use Rattle.folds.specs.Lists.{list_of}
use Rattle.cells.specs.Points.{Point, nowhere}
use Rattle.sheet_file.specs.declared.Settings.{Settings}
use Rattle.marks.specs.Filters.{filter_count}
use Rattle.marks.specs.Byte.{first_mark}
use Rattle.marks.specs.Tally.{is_under}
use Rattle.judging.specs.Judging.{judged_for}
use Rattle.promises.specs.Words.{DistinctIndices, marks_in}

-- how many different numbers f k there are, of the k below n that pass q: each is counted at the first such k that has it
unfoldable pub different : (ℕ → Bool) → (ℕ → ℕ) → ℕ → ℕ
unfolding tally some
different q f n = tally (λ (k : ℕ). q k && not (some (λ (j : ℕ). q j && eqb (f j) (f k)) k)) n

-- what the numbers of a list add up to
unfoldable pub total : List ℕ → ℕ
total [] = 0
total (a ∷ l) = a + total l

-- the old count, "yet the tally counts it at each cell": how many of n points with these bytes of marks are counted under filter f
unfoldable pub points_under : ℕ → List ℕ → ℕ → ℕ
unfolding tally first_mark
points_under n marks f = tally (λ (k : ℕ). is_under f (get_or marks k 0)) n

unfoldable pub point_counts : ℕ → List ℕ → List ℕ
unfolding list_of points_under
point_counts n marks = list_of (filter_count + 1) (points_under n marks)

-- every point passes
abbrev pub any_point : ℕ → Bool
any_point k = true

-- the index of rank k
abbrev pub index_in : List Point → ℕ → ℕ
index_in ps k = (get_or ps k nowhere).index

-- "From now on the tally counts indices": of points ps in cell order with settings s
pub record CountsIndices (s : Settings) (ps : List Point) : Type 0 where
  -- the cells of an index share their marks
  pub shared : (i j : ℕ) → i < length ps → j < length ps → index_in ps i ≡ index_in ps j → marks_in s ps i ≡ marks_in s ps j
  -- each index once, kept or under the first filter that marks it
  pub once : (f : ℕ) → f ≤ filter_count → get_or (judged_for s ps).tally f 0 ≡ different (λ (k : ℕ). is_under f (marks_in s ps k)) (index_in ps) (length ps)
  -- its numbers add up to the number of different indices
  pub sum : total (judged_for s ps).tally ≡ different any_point (index_in ps) (length ps)
  -- on a sheet without repeated indices it is the old count
  pub as_before : DistinctIndices ps → (judged_for s ps).tally ≡ point_counts (length ps) (judged_for s ps).marks

-- of every sheet
abbrev pub TallyPromise : Type 0
TallyPromise = (s : Settings) (ps : List Point) → CountsIndices s ps
