-- The table of the points in cell order, one column a field, and what is read of a list of points. Assumes nothing.
use Rattle.std.specs.Prelude.{◌≡◌, List, Result, Ok, Err}
use Rattle.refusals.specs.Number.{refusal_number}
use Rattle.refusals.specs.declared.Refusal.{Refusal}
use Rattle.cells.specs.Points.{Point, keys_of, indices_of, xs_of, ys_of, strengths_of}
use Rattle.sheet_file.specs.declared.Fraction.{Fraction}
use Rattle.points.specs.Refusals.{number_for, cell_order}
use Rattle.points.specs.declared.Table.{Table}

-- the table has the columns of these points
pub record Tabled (ps : List Point) (t : Table) : Type 0 where
  pub keys-are : t.keys ≡ keys_of ps
  pub indices-are : t.idx ≡ indices_of ps
  pub xs-are : t.x ≡ xs_of ps
  pub ys-are : t.y ≡ ys_of ps
  pub strengths-are : t.strength ≡ strengths_of ps

-- "A call returns the first number that applies": the refusal of that number; or where none applies, the points in cell order
abbrev pub TableFor : Fraction → List Point → Result Table Refusal → Type 0
TableFor x ps (Ok t) = (number_for x ps ≡ 0) × Tabled (cell_order ps) t
TableFor x ps (Err e) = refusal_number e ≡ number_for x ps
