-- For the code: what is read of the sheets of two halves at the rank of a joined point. Assumes nothing.
use Rattle.std.specs.Prelude.{◌≡◌, Bool, List, cond, ◌||◌, ℕ, ◌+◌, ◌-◌, ◌*◌, ◌/◌, ◌%◌, ◌^◌, ltb, get_or, Float}
use Rattle.std.specs.Float.{nan}
use Rattle.folds.specs.Arith.{◌⊕◌}
use Rattle.cells.specs.Points.{stride}
use Rattle.merged.specs.Sources.{source_key}
use Rattle.folds.specs.Column.{column}
use Rattle.view.specs.View.{max_points}
use Rattle.points.specs.declared.Table.{Table}
use Rattle.joined.specs.declared.pair.Pair.{Pair}
use Rattle.joined.specs.declared.pair.Joint.{Joint}

-- of a left point, or of a right one
abbrev pub from_half : {A : Type 0} → Pair → (ℕ → A) → (ℕ → A) → ℕ → A
from_half p l r s = cond (ltb s p.left.now.count) (l s) (r (s - p.left.now.count))

-- the index, the position and the strength of the point with number s
unfoldable pub index_of : Pair → ℕ → ℕ
index_of p s = from_half p (λ (k : ℕ). get_or p.left.now.table.idx k 0) (λ (k : ℕ). get_or p.right.now.table.idx k 0 + 2 ^ 31) s

unfoldable pub coordinate_of : Pair → List Float → List Float → Float → ℕ → Float
coordinate_of p left right shift s = from_half p (λ (k : ℕ). get_or left k nan) (λ (k : ℕ). get_or right k nan ⊕ shift) s

abbrev pub x_of : Pair → ℕ → Float
x_of p s = coordinate_of p p.left.now.table.x p.right.now.table.x p.by.dx s

abbrev pub y_of : Pair → ℕ → Float
y_of p s = coordinate_of p p.left.now.table.y p.right.now.table.y p.by.dy s

unfoldable pub strength_of : Pair → ℕ → Float
strength_of p s = from_half p (λ (k : ℕ). get_or p.left.now.table.strength k nan) (λ (k : ℕ). get_or p.right.now.table.strength k nan) s

-- the number of the point at a rank, and the wide key of its cell
abbrev pub number_at : Joint → ℕ → ℕ
number_at j r = get_or j.sources.now.order r 0

abbrev pub key_at : Joint → ℕ → ℕ
key_at j r = source_key j.halves (number_at j r)

-- a wide key is that of a cell out of range
abbrev pub out_wide : ℕ → Bool
out_wide x = (ltb (x / 65536) 16003 || ltb 32003 (x / 65536)) || (ltb (x % 65536) 16003 || ltb 32003 (x % 65536))

-- the key of a cell in range, by its wide key
abbrev pub narrowed : ℕ → ℕ
narrowed x = (x / 65536 - 16000) * stride + (x % 65536 - 16000)

-- the table of all of them, in their order
pub record TableOf (j : Joint) (t : Table) : Type 0 where
  pub keys : t.keys ≡ column max_points 0 j.sources.now.count (λ (r : ℕ). narrowed (key_at j r))
  pub indices : t.idx ≡ column max_points 0 j.sources.now.count (λ (r : ℕ). index_of j.pair (number_at j r))
  pub xs : t.x ≡ column max_points nan j.sources.now.count (λ (r : ℕ). x_of j.pair (number_at j r))
  pub ys : t.y ≡ column max_points nan j.sources.now.count (λ (r : ℕ). y_of j.pair (number_at j r))
  pub strengths : t.strength ≡ column max_points nan j.sources.now.count (λ (r : ℕ). strength_of j.pair (number_at j r))
