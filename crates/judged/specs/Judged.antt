-- A judged sheet: what the filters find of its points, by rank. Assumes nothing.
use Rattle.std.specs.Prelude.{List, ℕ, replicate, Option}
use Rattle.view.specs.View.{max_points}
use Rattle.local_h.specs.Residual.{Distance}
use Rattle.edge_shape.specs.declared.Figures.{Figures}
use Rattle.edge_shape.specs.Figures.{no_figures}
use Rattle.judged.specs.declared.Findings.{Findings}

pub record Judged : Type 0 where
  -- the byte of marks of each rank's index
  pub marks : List ℕ
  -- how many patches the survivors have
  pub components : ℕ
  -- "the number of rounds that removed something", of the peel
  pub rounds : ℕ
  -- how many indices are counted under each filter, and how many are kept
  pub tally : List ℕ
  -- the residual of each rank's index
  pub residuals : List (Option Distance)
  -- the edge figures and the box boundary that are held under its index
  pub figures : List Figures
  pub boundary : List ℕ

-- no figures yet
abbrev pub blank_figures : List Figures
blank_figures = replicate max_points no_figures

-- as the code holds it
unfoldable pub judged_from : Findings → List Figures → Judged
judged_from f figures =
    record {
      marks = f.marks;
      components = f.components;
      rounds = f.rounds;
      tally = f.tally;
      residuals = f.residuals;
      figures = figures;
      boundary = f.boundary;
    }
