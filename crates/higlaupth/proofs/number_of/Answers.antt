use Rattle.higlaupth.proofs.number_of.Goals as goal

pub packed-requires : goal.packed-requires
packed-requires c = rw c.in-Ok.is at c.requires
