use native.Mathlib.Omega.{arith}
use Rattle.higlaupth.proofs.fill_number_of.Goals as goal

pub packed-requires : goal.packed-requires
packed-requires c =
    let h = rw c.in-Ok.is at c.requires in
    record { few-components = h.few-fills; few-rounds = omega arith; few-points = h.few-points }
