use Rattle.std.proofs.Common.{◌≡◌, refl, arith}
use Rattle.folds.specs.Below.{some}
use Rattle.folds.proofs.Marked.{marked-none, marked_more}
use Rattle.view.specs.Seen.{view_in}
use Rattle.orientation.specs.Voters.{voters}
use Rattle.orientation.proofs.Laws.{members-column}
use Rattle.orientation.proofs.side_members.Goals as goal

pub loop-k-init : goal.loop-k-init
unfolding some
loop-k-init c = marked-none _ _ (λ m. refl)

pub loop-k-preserved : goal.loop-k-preserved
loop-k-preserved c = marked_more (voters _ _ _) c.loop-k.k c.loop-k.invariant c.mark_voters.ensures

pub returns : goal.returns
returns c =
    let a = c.args in
    let lattice = a.view.now.sheet.lattice in
    let h : c.loop-k.k ≡ lattice.count = omega arith in
    members-column (view_in a.view.now) a.vote.now a.side lattice.few (rw h at c.loop-k.invariant)
