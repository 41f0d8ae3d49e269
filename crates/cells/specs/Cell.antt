-- Cells as document 01 speaks of them, u and v being whole numbers of either sign: range, order, a move, shared edges; and the cells of
-- points and of keys. Assumes nothing.
use Rattle.std.specs.Prelude.{◌≡◌, ℕ, ◌/◌, ◌%◌, ◌^◌, ◌<◌, Bool, true, false, not, ◌&&◌, ◌||◌, List, length, ℤ, pos, negsuc, ◌+ℤ◌, ◌-ℤ◌, ◌==◌, int_le, int_lt, slice_index, slice_index_or}
use Rattle.std.specs.Int.{w32}
use Rattle.std.proofs.Common.{to_z}
use Rattle.folds.specs.Below.{some}
use Rattle.folds.specs.Lists.{list_of}
use Rattle.offsets.specs.declared.Offset.{Offset}
use Rattle.offsets.specs.Offsets.{own}
use Rattle.cells.specs.Points.{Point, nowhere, bias, stride}

-- the whole number whose two's complement is the 32-bit pattern b
abbrev pub signed : ℕ → ℤ
signed b = to_z w32 b

-- "A u or v lies outside −8,000 to 8,000": z lies inside (negsuc 7999 is −8,000)
abbrev pub within : ℤ → Bool
within z = int_le (negsuc 7999) z && int_le z (pos 8000)

pub record Cell : Type 0 where
  pub u : ℤ
  pub v : ℤ

abbrev pub cell_of : Point → Cell
cell_of p = record { u = signed p.u; v = signed p.v }

-- u and v are patterns of 32 bits, and lie in −8,000 to 8,000
pub record InRange (p : Point) : Type 0 where
  pub fits-u : p.u < 2 ^ 32
  pub fits-v : p.v < 2 ^ 32
  pub u : within (cell_of p).u ≡ true
  pub v : within (cell_of p).v ≡ true

-- of a cell
pub record CellInRange (c : Cell) : Type 0 where
  pub u : within c.u ≡ true
  pub v : within c.v ≡ true

-- "Rows come in cell order, by u, then v": c comes before d
abbrev pub before : Cell → Cell → Bool
before c d = int_lt c.u d.u || (not (int_lt d.u c.u) && int_lt c.v d.v)

-- "An offset is one whole number added to every u and one to every v, of either sign"
abbrev pub moved : ℤ → ℤ → Cell → Cell
moved a b c = record { u = c.u +ℤ a; v = c.v +ℤ b }

-- two whole numbers agree, and they differ by one
abbrev pub agree : ℤ → ℤ → Bool
agree (pos a) (pos b) = a == b
agree (pos a) (negsuc b) = false
agree (negsuc a) (pos b) = false
agree (negsuc a) (negsuc b) = a == b

abbrev pub differ_by_one : ℤ → ℤ → Bool
differ_by_one a b = agree b (a -ℤ pos 1) || agree b (a +ℤ pos 1)

-- "Two cells share an edge if they differ by one in u and agree in v, or the other way round."
abbrev pub share_edge : Cell → Cell → Bool
share_edge c d = (differ_by_one c.u d.u && agree c.v d.v) || (agree c.u d.u && differ_by_one c.v d.v)

-- c and d are one cell
abbrev pub coincide : Cell → Cell → Bool
coincide c d = agree c.u d.u && agree c.v d.v

-- ---- offsets

-- the cell at offset o
abbrev pub offset_by : Offset → Cell → Cell
offset_by o c = moved o.du o.dv c

-- one of the offsets of a list leads from c to d
abbrev pub joined_by : List Offset → Cell → Cell → Bool
joined_by sides c d = some (λ (i : ℕ). coincide d (offset_by (slice_index_or sides i own) c)) (length sides)

-- ---- cells by rank

-- the cell with this key
abbrev pub cell_of_key : ℕ → Cell
cell_of_key key = record { u = pos (key / stride) -ℤ pos bias; v = pos (key % stride) -ℤ pos bias }

-- the cells whose keys an array holds
abbrev pub cells_at : List ℕ → ℕ → Cell
cells_at keys k = cell_of_key (slice_index keys k)

-- the cells of the points ps; past their end the cell that cells_at gives past the end of an array
unfoldable pub cells_of : List Point → ℕ → Cell
unfolding list_of
cells_of ps = let cells = list_of (length ps) (λ (k : ℕ). cell_of (slice_index_or ps k nowhere)) in λ (k : ℕ). slice_index_or cells k (cell_of_key 0)
