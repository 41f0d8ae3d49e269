use Rattle.std.proofs.Common.{sym, ◌∙◌}
use Rattle.view.specs.Seen.{lattice_in}
use Rattle.local_h.proofs.Finding.{no-point, own-index, other-index}
use Rattle.local_h.proofs.other.Goals as goal

pub returns-in_err-rank : goal.returns-in_err-rank
returns-in_err-rank c =
    c.from_residual.ensures ∙ no-point (lattice_in c.args.lattice.now) c.args.k c.args.p c.offset_at-offset.ensures c.in_err-rank.ensures.value

pub returns-then-index : goal.returns-then-index
returns-then-index c =
    own-index (lattice_in c.args.lattice.now) c.args.k c.args.p c.offset_at-offset.ensures c.in_ok-rank.ensures.value (sym c.index.ensures ∙ c.if-index.true ∙ c.index-2.ensures)

pub returns : goal.returns
returns c =
    other-index (lattice_in c.args.lattice.now) c.args.k c.args.p c.offset_at-offset.ensures c.in_ok-rank.ensures.value (λ e. c.if-index.false (c.index.ensures ∙ e ∙ sym c.index-2.ensures))
