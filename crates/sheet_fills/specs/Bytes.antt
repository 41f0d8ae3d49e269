-- The fills of a sheet as bytes: "for each dropped cell .. the position .. with its number of pairs, or say that no pair exists". Assumes
-- nothing.
use Rattle.std.specs.Prelude.{ℕ, cond, not, List, [], ◌++◌, ℤ, ◌==◌, slice_index, slice_index_or}
use Rattle.std.specs.Float.{binary32}
use Rattle.std.specs.Float.Ieee.{to_bits}
use Rattle.std.specs.Int.{w32}
use Rattle.std.proofs.Common.{of_z}
use Rattle.folds.specs.Below.{tally}
use Rattle.cells.specs.Cell.{Cell}
use Rattle.sheet_file.specs.Bytes.{little_endian}
use Rattle.predict.specs.Predict.{Prediction}
use Rattle.std.specs.Prelude.{None, Some}
use Rattle.text.specs.Text.{each}

-- the bytes of a fill: 20 for each dropped point
abbrev pub fill_size : ℕ
fill_size = 20

-- a whole number as i32
abbrev pub signed_bytes : ℤ → List ℕ
signed_bytes z = little_endian (of_z w32 z)

-- the number of pairs as u32, and x and y as f32; zeros where there is no pair
unfoldable pub prediction_bytes : Prediction → List ℕ
unfolding to_bits
prediction_bytes None = little_endian 0 ++ little_endian 0 ++ little_endian 0
prediction_bytes (Some p) = little_endian p.n_axis_pairs ++ little_endian (to_bits binary32 p.x) ++ little_endian (to_bits binary32 p.y)

-- "u, v, pairs, x and y"
unfoldable pub fill_bytes : Cell → Prediction → List ℕ
unfolding prediction_bytes
fill_bytes cell fill = signed_bytes cell.u ++ signed_bytes cell.v ++ prediction_bytes fill

-- a point without a mark has no fill
abbrev pub bytes_for : Cell → ℕ → Prediction → List ℕ
bytes_for cell marks fill = cond (marks == 0) [] (fill_bytes cell fill)

-- "in cell order": of n ranks
unfoldable pub fills_bytes : (ℕ → Cell) → List ℕ → List Prediction → ℕ → List ℕ
unfolding each fill_bytes
fills_bytes cell marks fills n = each (λ k. bytes_for (cell k) (slice_index marks k) (slice_index_or fills k None)) n

-- how many of n ranks are dropped
unfoldable pub dropped_count : List ℕ → ℕ → ℕ
unfolding tally
dropped_count marks n = tally (λ (k : ℕ). not (slice_index marks k == 0)) n
