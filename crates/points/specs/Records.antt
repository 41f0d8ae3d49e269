-- The points of a file, in the order in which it lists them. Assumes nothing.
use Rattle.std.specs.Prelude.{◌≡◌, true, cond, List, ℕ, ◌+◌, ◌*◌, ◌≤◌, length, is_some}
use Rattle.folds.specs.Lists.{list_of}
use Rattle.view.specs.View.{max_points}
use Rattle.cells.specs.Points.{Point}
use Rattle.sheet_file.specs.Bytes.{le32}
use Rattle.sheet_file.specs.Frame.{weights_of}
use Rattle.sheet_file.specs.declared.Layout.{Layout}

-- "each point is u i32, v i32, index u32, x f32, y f32": the point in the 20 bytes from a position on, with its strength
abbrev pub point_in : List ℕ → ℕ → ℕ → Point
point_in file at strength = record {
  u = le32 file at;
  v = le32 file (at + 4);
  index = le32 file (at + 8);
  x = le32 file (at + 12);
  y = le32 file (at + 16);
  strength = strength;
}

-- "Tag 4 .. carries a fraction f32 and one strength f32 per point, in the points' order": the strength of point i; 0 without tag 4
abbrev pub ith_strength : List ℕ → Layout → ℕ → ℕ
ith_strength file f i = cond (is_some f.weights) (le32 file ((weights_of f).at + 4 + 4 * i)) 0

-- point i of a file whose fields stand so, and all of them
abbrev pub ith_point : List ℕ → Layout → ℕ → Point
ith_point file f i = point_in file (f.points + 20 * i) (ith_strength file f i)

unfoldable pub points_in : List ℕ → Layout → List Point
unfolding list_of
points_in file f = list_of f.count (ith_point file f)

-- n points, no more than a sheet may have, stand in the file from a position on
pub record RecordsFit (file : List ℕ) (at n : ℕ) : Type 0 where
  pub few : n ≤ max_points
  pub fit : at + 20 * n ≤ length file

-- and each with its strength, if there is a tag 4
pub record PointsFit (file : List ℕ) (f : Layout) : Type 0 where
  pub records : RecordsFit file f.points f.count
  pub weights : is_some f.weights ≡ true → (weights_of f).at + 4 + 4 * f.count ≤ length file
