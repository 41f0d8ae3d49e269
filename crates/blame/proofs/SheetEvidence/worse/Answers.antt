use Rattle.std.proofs.Common.{rules, ◌≡◌}
use borrow.Author.Tests.{lt-ltb, le-ltb}
use Rattle.view.proofs.Found.{found}
use Rattle.blame.specs.Marks.{flags_in, worse_of}
use Rattle.blame.proofs.SheetEvidence.worse.Goals as goal

pub returns-in_default-clause-value : goal.returns-in_default-clause-value
unfolding worse_of
returns-in_default-clause-value c = rw c.in_default.is

pub returns-then-map_or-f-clause-value : goal.returns-then-map_or-f-clause-value
unfolding worse_of
returns-then-map_or-f-clause-value c =
    let most : c.map_or.result ≡ flags_in c.args.worst = search rules in
    rw (c.in-Some.is, found _ _ c.in-Some-present_member.ensures.value, ← c.index-at.ensures, ← most, lt-ltb _ _ c.if-map_or-f.true)

pub returns-else-map_or-f-clause-value : goal.returns-else-map_or-f-clause-value
unfolding worse_of
returns-else-map_or-f-clause-value c =
    let most : c.map_or.result ≡ flags_in c.args.worst = search rules in
    rw (c.in-Some.is, found _ _ c.in-Some-present_member.ensures.value, ← c.index-at.ensures, ← most, le-ltb _ _ c.if-map_or-f.false)
