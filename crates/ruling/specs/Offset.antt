-- "An offset is one whole number added to every u and one to every v, of either sign; index, position, listing order, settings and buffer
-- length stay": of a list of points, and of a file. Assumes nothing.
use Rattle.std.specs.Prelude.{◌≡◌, cond, ◌||◌, List, ℕ, ◌+◌, ◌-◌, ◌*◌, ◌/◌, ◌%◌, ◌^◌, ◌≤◌, ◌<◌, ltb, leb, ℤ, length, get_or}
use Rattle.std.specs.Int.{w32}
use Rattle.std.proofs.Common.{of_z}
use Rattle.folds.specs.Lists.{list_of}
use Rattle.cells.specs.Points.{Point, nowhere}
use Rattle.cells.specs.Cell.{CellInRange, cell_of, moved}
use Rattle.grid.specs.Moved.{Moved}
use Rattle.sheet_file.specs.Bytes.{byte_at}
use Rattle.sheet_file.specs.Frame.{layout_of}
use Rattle.sheet_file.specs.declared.Layout.{Layout}
use Rattle.sheet_file.specs.declared.Settings.{Settings}
use Rattle.points.specs.Records.{point_in, ith_point}
use Rattle.ruling.specs.Ruling.{Ruling, accepted}
use Rattle.ruling.specs.Header.{points_end}

-- q is p with a added to u and b to v, and nothing else changed
pub record Displaced (a b : ℤ) (p q : Point) : Type 0 where
  pub cell : cell_of q ≡ moved a b (cell_of p)
  pub index : q.index ≡ p.index
  pub x : q.x ≡ p.x
  pub y : q.y ≡ p.y
  pub strength : q.strength ≡ p.strength

-- so is each point of qs, in the order of the list
pub record AllDisplaced (a b : ℤ) (ps qs : List Point) : Type 0 where
  pub size : length qs ≡ length ps
  pub each : (i : ℕ) → i < length ps → Displaced a b (get_or ps i nowhere) (get_or qs i nowhere)

-- other is file with a added to every u and b to every v, and nothing else changed
pub record FileDisplaced (file other : List ℕ) (f : Layout) (a b : ℤ) : Type 0 where
  pub size : length other ≡ length file
  pub head : (k : ℕ) → k < f.points → get_or other k 0 ≡ get_or file k 0
  pub after : (k : ℕ) → points_end f ≤ k → get_or other k 0 ≡ get_or file k 0
  pub cell : (i : ℕ) → i < f.count → cell_of (ith_point other f i) ≡ moved a b (cell_of (ith_point file f i))
  pub rest : (i j : ℕ) → i < f.count → 8 ≤ j → j < 20 → get_or other (f.points + 20 * i + j) 0 ≡ get_or file (f.points + 20 * i + j) 0

-- this ruling accepts, with settings s, points that in cell order are those of ps moved, and no others
pub record MovedAlong (x : Ruling) (a b : ℤ) (s : Settings) (ps : List Point) : Type 0 where
  pub points : List Point
  pub ruling : x ≡ accepted s points
  pub size : length points ≡ length ps
  pub along : (k : ℕ) → k < length ps → Moved a b (get_or ps k nowhere) (get_or points k nowhere)

-- ---- the moved file

-- byte j of the 32-bit pattern of z in two's complement, the lowest first: "files are little-endian"
abbrev pub byte_of : ℤ → ℕ → ℕ
byte_of z j = of_z w32 z / 256 ^ j % 256

module _ (file : List ℕ) (a b : ℤ) where
  -- "each point is u i32, v i32, index u32, x f32, y f32": byte j of the point at a position, with a added to u and b to v
  abbrev pub moved_byte : ℕ → ℕ → ℕ
  moved_byte at j =
      let c = moved a b (cell_of (point_in file at 0)) in
      cond (ltb j 4) (byte_of c.u j) (cond (ltb j 8) (byte_of c.v (j - 4)) (byte_at file (at + j)))

  -- byte k of the moved file: before the points and after them it stays, and among them it is byte (k - start) % 20 of point (k - start) / 20
  abbrev pub byte_moved : ℕ → ℕ
  byte_moved k =
      let start = (layout_of file).points in
      cond (ltb k start || leb (points_end (layout_of file)) k) (byte_at file k) (moved_byte (start + 20 * ((k - start) / 20)) ((k - start) % 20))

  -- "An offset is one whole number added to every u and one to every v, of either sign; index, position, listing order, settings and
  -- buffer length stay": the file moved by (a, b)
  unfoldable pub moved_file : List ℕ
  unfolding list_of
  moved_file = list_of (length file) byte_moved

-- "In range means that the condition of number 6 fails": the moved cell of each point lies in −8,000 to 8,000
abbrev pub StaysInRange : ℤ → ℤ → List Point → Type 0
StaysInRange a b ps = (k : ℕ) → k < length ps → CellInRange (moved a b (cell_of (get_or ps k nowhere)))
