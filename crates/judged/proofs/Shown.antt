-- What is shown of a rank, by what the code reads. Assumes nothing.
use Rattle.std.proofs.Common.{◌≡◌, ℕ, List, refl, get_or}
use Rattle.std.specs.Prelude.{None}
use Rattle.edge_shape.specs.Figures.{no_figures}
use Rattle.edge_shape.specs.declared.Figures.{Figures}
use Rattle.judged.specs.declared.Findings.{Findings}
use Rattle.judged.specs.Judged.{judged_from}
use Rattle.judged.specs.Shown.{Shown, shown_at}

pub shown-is : (f : Findings) (figures : List Figures) (k : ℕ)
    → ◌≡◌ {A = Shown} (record { marks = get_or f.marks k 0; residual = get_or f.residuals k None; figures = get_or figures k no_figures; boundary = get_or f.boundary k 0 })
    (shown_at (judged_from f figures) k)
unfolding shown_at judged_from
shown-is f figures k = refl
