use lib.IntN.{◌*ℤ◌}
use mir.Syntax.{w8}
use mir.ValLaws.{to_z-of_z}
use Rattle.offsets.specs.declared.Offset.{Offset}
use Rattle.offsets.proofs.Places.{within-u, within-v, held-u, held-v}
use Rattle.local_h.proofs.Steps.{small-held, product-fits}
use Rattle.local_h.proofs.product.Goals as goal

pub difference-requires : goal.difference-requires
difference-requires c =
    let a : Offset = record { du = c.a.inside.du; dv = c.a.inside.dv } in
    let b : Offset = record { du = c.b.inside.du; dv = c.b.inside.dv } in
    rw (held-u b c.b.invariant, held-u a c.a.invariant) (within-u b c.b.invariant, within-u a c.a.invariant)

pub difference-requires-2 : goal.difference-requires-2
difference-requires-2 c =
    let a : Offset = record { du = c.a.inside.du; dv = c.a.inside.dv } in
    let b : Offset = record { du = c.c.inside.du; dv = c.c.inside.dv } in
    rw (held-v b c.c.invariant, held-v a c.a.invariant) (within-v b c.c.invariant, within-v a c.a.invariant)

pub overflow_mul-result : goal.overflow_mul-result
overflow_mul-result c =
    let d = c.difference in
    let e = c.difference-2 in
    rw (small-held d.result d.ensures.1, small-held e.result e.ensures.1) (product-fits d.result e.result d.ensures.1 e.ensures.1)

pub returns : goal.returns
returns c =
    let d = c.difference in
    let e = c.difference-2 in
    let x : Offset = record { du = c.a.inside.du; dv = c.a.inside.dv } in
    let y : Offset = record { du = c.b.inside.du; dv = c.b.inside.dv } in
    let z : Offset = record { du = c.c.inside.du; dv = c.c.inside.dv } in
    rw (
      ← c.a.view_is,
      ← c.b.view_is,
      ← c.c.view_is,
      small-held d.result d.ensures.1,
      small-held e.result e.ensures.1,
      to_z-of_z w8 (d.result *ℤ e.result) (product-fits d.result e.result d.ensures.1 e.ensures.1),
      d.ensures.0,
      e.ensures.0,
      held-u y c.b.invariant,
      held-u x c.a.invariant,
      held-v z c.c.invariant,
      held-v x c.a.invariant,
    )
