use Rattle.std.proofs.Common.{rules, ℕ, get_or}
use lib.Ieee.{nan}
use Rattle.folds.specs.Marked.{bit}
use Rattle.float.specs.declared.Distance.{Distance}
use Rattle.std.specs.Prelude.{Option, None}
use Rattle.residuals.specs.ByIndex.{over_at, high_at, rank_flags}
use Rattle.residuals.proofs.flags_of.Goals as goal

pub returns : goal.returns
unfolding rank_flags
returns c =
    let r : ℕ → Option Distance = λ k. get_or c.args.values.now k None in
    let scale = λ (k : ℕ). get_or c.args.scale.now k nan in
    rw (
      c.filled-over.ensures (λ (k : ℕ). bit (over_at r scale c.args.tolerance k)) (λ k r h p. search rules),
      c.filled-high.ensures (λ (k : ℕ). bit (high_at r scale c.args.tolerance k)) (λ k r h p. search rules),
    )
