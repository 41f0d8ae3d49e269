-- "Another order is any rearrangement of the points in tag 3, all else and the result buffer's length unchanged"; "points listed in another order
-- take their strengths with them." Assumes nothing.
use Rattle.std.specs.Prelude.{Bool, cond, not, ◌&&◌, ℕ, ◌+◌, ◌*◌, take, drop, is_some}
use mathlib.Core.List.{List, [], ◌++◌, Permᴰ}
use Rattle.folds.specs.Lists.{list_of}
use Rattle.sheet_file.specs.Frame.{weights_of}
use Rattle.sheet_file.specs.Refusals.{misfit}
use Rattle.sheet_file.specs.declared.Layout.{Layout}
use Rattle.ruling.specs.Header.{Headed}

-- there is a strength for each point
abbrev pub has_strengths : Layout → Bool
has_strengths f = is_some f.weights && not (misfit f)

-- n bytes from a position on
abbrev pub bytes_at : List ℕ → ℕ → ℕ → List ℕ
bytes_at file at n = take n (drop at file)

-- the record of point i: its 20 bytes, and the four of its strength, if there is one. Where tag 4 has another length there is nothing to take
-- along, and both files are refused with 12.
abbrev pub record_of : List ℕ → Layout → ℕ → List ℕ
record_of file f i = bytes_at file (f.points + 20 * i) 20 ++ cond (has_strengths f) (bytes_at file ((weights_of f).at + 4 + 4 * i) 4) []

-- all of them
unfoldable pub records_in : List ℕ → Layout → List (List ℕ)
unfolding list_of
records_in file f = list_of f.count (record_of file f)

-- other is file with its records of points in another order
pub record Relisted (file other : List ℕ) (f : Layout) : Type 0 where
  pub rest : Headed file other f
  pub records : Permᴰ (records_in file f) (records_in other f)
