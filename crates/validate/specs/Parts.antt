-- What `validate` asks for, and what it gives. Assumes nothing.
use Rattle.std.specs.Prelude.{◌≡◌, List, ℕ, ◌<◌, get_or}
use Rattle.view.specs.View.{View}
use Rattle.cells.specs.Cell.{Cell}
use Rattle.patches.specs.Boxes.{CellKeys}
use Rattle.sheet_file.specs.declared.Settings.{Settings}
use Rattle.edge_shape.specs.Figures.{no_figures}
use Rattle.edge_shape.specs.declared.Figures.{Figures}
use Rattle.judged.specs.declared.Measured.{Measured}
use Rattle.validate.specs.Validate.{figures_of, boundary_in, validate_marks}

-- the keys of the cells of an accepted sheet, and the edge reasons
pub record Prepared (s : Settings) (w : View) (keys : List ℕ) (figures : List Figures) : Type 0 where
  pub cells : CellKeys w.count keys
  pub reasons : (k : ℕ) → k < w.count → (get_or figures k no_figures).reason ≡ (get_or (figures_of s w) k no_figures).reason

-- the marks of the five rules, and the boundary
unfoldable pub validated_of : Settings → View → (ℕ → Cell) → Measured
validated_of s w cell = record { marks = validate_marks s w cell; boundary = boundary_in s w cell }
