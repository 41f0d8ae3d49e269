-- A point as it stands in the file, the key of its cell, and the columns of the points in cell order. Assumes nothing.
use Rattle.std.specs.Prelude.{ℕ, ◌+◌, ◌*◌, ◌%◌, ◌^◌, List, length, get_or, slice_index_or, Float}
use Rattle.std.specs.Float.{nan}
use Rattle.folds.specs.Arith.{f32}
use Rattle.folds.specs.Column.{column}
use Rattle.view.specs.View.{max_points}

-- "each point is u i32, v i32, index u32, x f32, y f32"; "one strength f32 per point": the 32-bit patterns of these six
pub record Point : Type 0 where
  pub u : ℕ
  pub v : ℕ
  pub index : ℕ
  pub x : ℕ
  pub y : ℕ
  -- 0 without tag 4
  pub strength : ℕ

-- what is read past the end of a list of points
abbrev pub nowhere : Point
nowhere = record { u = 0; v = 0; index = 0; x = 0; y = 0; strength = 0 }

-- ---- the key of a cell: (u + bias) * stride + (v + bias)

abbrev pub bias : ℕ
bias = 8003

abbrev pub stride : ℕ
stride = 16384

-- u or v plus the bias, from its pattern: in range it leaves room for three cells each way
abbrev pub biased : ℕ → ℕ
biased b = (b + bias) % 2 ^ 32

-- cells by u, then v, are in the order of their keys (proofs/Keys.antt, key-order)
abbrev pub key_at : ℕ → ℕ → ℕ
key_at u v = biased u * stride + biased v

abbrev pub key_of : Point → ℕ
key_of p = key_at p.u p.v

-- ---- the columns of the points ps

unfoldable pub keys_of : List Point → List ℕ
unfolding column
keys_of ps = column max_points 0 (length ps) (λ (k : ℕ). key_of (slice_index_or ps k nowhere))

unfoldable pub indices_of : List Point → List ℕ
unfolding column
indices_of ps = column max_points 0 (length ps) (λ (k : ℕ). (get_or ps k nowhere).index)

unfoldable pub xs_of : List Point → List Float
unfolding column
xs_of ps = column max_points nan (length ps) (λ (k : ℕ). f32 (get_or ps k nowhere).x)

unfoldable pub ys_of : List Point → List Float
unfolding column
ys_of ps = column max_points nan (length ps) (λ (k : ℕ). f32 (get_or ps k nowhere).y)

unfoldable pub strengths_of : List Point → List Float
unfolding column
strengths_of ps = column max_points nan (length ps) (λ (k : ℕ). f32 (get_or ps k nowhere).strength)
