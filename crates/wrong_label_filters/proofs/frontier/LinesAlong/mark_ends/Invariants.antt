use Rattle.std.proofs.Common.{ℕ, Bool, ◌&&◌, eqb}
use Rattle.folds.specs.Below.{some}
use Rattle.folds.specs.Marked.{Marked}
use Rattle.offsets.specs.declared.axis.Axis.{Axis}
use Rattle.view.specs.View.{View}
use Rattle.view.specs.Seen.{view_in}
use Rattle.wrong_label_filters.specs.Lasts.{line_in, line_mark, Lasts}
use Rattle.wrong_label_filters.proofs.frontier.LinesAlong.mark_ends.Given as goal

-- rank j is marked, and it is m
abbrev pub hits : View → Axis → ℕ → ℕ → Bool
hits w axis j m = line_mark w axis j && eqb j m

abbrev pub invariant-loop-k : goal.invariant-loop-k
invariant-loop-k l =
    Marked (λ (m : ℕ). some (λ (j : ℕ). hits (view_in l.self.view) l.self.axis j m) l.k) l.initial.mark l.mark
    × Lasts (line_in l.self) l.self.view.sheet.lattice.count l.lasts
