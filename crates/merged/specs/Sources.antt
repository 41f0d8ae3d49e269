-- For the code: the points of two tables by number, and their order. Number s is the left point of rank s, and past the left ones n + k is the
-- right point of rank k. Assumes nothing.
use Rattle.std.specs.Prelude.{cond, List, ℕ, ◌+◌, ◌-◌, ◌*◌, ◌/◌, ◌%◌, ltb, length, get_or, Option, None, Some}
use Rattle.folds.specs.Column.{column}
use Rattle.folds.specs.Lists.{up_from}
use Rattle.view.specs.View.{max_points}
use Rattle.cells.specs.Points.{stride}
use Rattle.merged.specs.Merged.{merged}
use Rattle.merged.specs.declared.halves.Halves.{Halves}
use Rattle.merged.specs.declared.halves.Sources.{Sources}

-- the key of a cell that is moved by up_u - 16,000 and up_v - 16,000, wide enough for u and v to 24,000 each way
abbrev pub widened : ℕ → ℕ → ℕ → ℕ
widened up_u up_v key = (key / stride + up_u) * 65536 + (key % stride + up_v)

-- what is added to the cells of the left points: 0, plus 16,000
abbrev pub own : ℕ
own = 16000

-- the wide key of number s
unfoldable pub source_key : Halves → ℕ → ℕ
source_key h s = cond (ltb s h.left.count) (widened own own (get_or h.left.keys.now s 0)) (widened h.up_u h.up_v (get_or h.right.keys.now (s - h.left.count) 0))

-- the numbers of the joined points in cell order
unfoldable pub sources_of : Halves → List ℕ
unfolding merged up_from source_key
sources_of h = merged (source_key h) (up_from (λ (k : ℕ). k) 0 h.left.count) (up_from (λ (k : ℕ). k) h.left.count h.right.count)

-- as an array with an entry for each point, if there are no more than a sheet may have
abbrev pub in_array : List ℕ → Option Sources
in_array l = cond (ltb max_points (length l)) None (Some (record { count = length l; order = column max_points 0 (length l) (λ (k : ℕ). get_or l k 0) }))
