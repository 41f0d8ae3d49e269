use Rattle.peel.specs.Work.{Chained}
use Rattle.peel.proofs.links.Links.new.Given as goal

abbrev pub invariant-loop-k : goal.invariant-loop-k
invariant-loop-k l = Chained l.sheet.lattice.ranks.now l.k l.last l.before
