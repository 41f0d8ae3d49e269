-- A row of points 7 apart, as the filters see it, and the settings by which they mark none of it. Assumes nothing.
use Rattle.std.specs.Prelude.{◌≡◌, true, false, ℕ, ◌+◌, ◌*◌, ◌≤◌, ◌<◌, Float, None}
use Rattle.std.specs.Float.Ieee.{lt}
use Rattle.folds.specs.Arith.{f32, zero_f}
use Rattle.whole_floats.specs.Whole.{as_float}
use Rattle.offsets.specs.declared.Offset.{Offset}
use Rattle.offsets.specs.Offsets.{is_near, next_u, prev_u, ±0}
use Rattle.view.specs.View.{View, rank_at, present}
use Rattle.sheet_file.specs.declared.Settings.{Settings}

-- rank k stands at (7k, 0); its neighbours in the row are the ranks before and after it, and there is no point beside the row
pub record Row (w : View) : Type 0 where
  pub few : 7 * w.count ≤ 16777216
  pub x : (k : ℕ) → k < w.count → w.x k ≡ as_float (7 * k)
  pub y : (k : ℕ) → k < w.count → w.y k ≡ zero_f
  pub beside : (k : ℕ) (o : Offset) → k < w.count → is_near o ≡ true → present w k o ≡ true → o.dv ≡ ±0
  pub ahead : (k : ℕ) → k < w.count → present w k next_u ≡ true → rank_at w k next_u ≡ k + 1
  pub behind : (k : ℕ) → k < w.count → present w k prev_u ≡ true → rank_at w k prev_u + 1 ≡ k

-- 7 as f32: the cell size, and the distance of neighbours
abbrev pub seven : Float
seven = f32 0x40E0_0000

-- cell size 7, no edge-shape gate, and a line tolerance that is not negative
pub record Plain (s : Settings) : Type 0 where
  pub cell : s.cell_size ≡ seven
  pub ungated : s.edge_shape ≡ None
  pub tolerant : lt s.line_tol_rel zero_f ≡ false
