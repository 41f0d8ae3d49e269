-- What is shown of each rank of a judged sheet: "A row shows what the Rust holds under the point's index." Assumes nothing.
use Rattle.std.specs.Prelude.{ℕ, get_or, Option, None}
use Rattle.local_h.specs.Residual.{Distance}
use Rattle.edge_shape.specs.Figures.{no_figures}
use Rattle.edge_shape.specs.declared.Figures.{Figures}
use Rattle.judged.specs.Judged.{Judged}

pub record Shown : Type 0 where
  pub marks : ℕ
  pub residual : Option Distance
  pub figures : Figures
  -- box boundary, 0 or 1
  pub boundary : ℕ

-- of rank k
unfoldable pub shown_at : Judged → ℕ → Shown
shown_at j k =
    record {
      marks = get_or j.marks k 0;
      residual = get_or j.residuals k None;
      figures = get_or j.figures k no_figures;
      boundary = get_or j.boundary k 0;
    }
