use Rattle.std.proofs.Common.{rules, true, not, ◌&&◌}
use Rattle.offsets.specs.declared.Offset.{Offset}
use Rattle.local_h.specs.Base.{on_line}
use Rattle.local_h.proofs.Finding.{none-found, one-found, two-found, all_found}
use Rattle.local_h.proofs.search_base.Goals as goal

pub returns-in_default : goal.returns-in_default
returns-in_default c xs ys =
    let l = c.args.lattice.now in
    none-found l.count l.ranks.now c.args.k xs ys (c.in_default.ensures.value (λ (o : Offset). true) (λ o r p. search rules))

pub returns-in_default-next_place : goal.returns-in_default-next_place
returns-in_default-next_place c xs ys =
    let l = c.args.lattice.now in
    one-found l.count l.ranks.now c.args.k xs ys (c.in-Some.ensures.value (λ (o : Offset). true) (λ o r p. search rules)) (c.in_default-next_place.ensures.value (λ (o : Offset). true) (λ o r p. search rules))

pub returns-in_default-next_place-2 : goal.returns-in_default-next_place-2
returns-in_default-next_place-2 c xs ys =
    let l = c.args.lattice.now in
    two-found l.count l.ranks.now c.args.k xs ys (c.in-Some.ensures.value (λ (o : Offset). true) (λ o r p. search rules)) (c.in-Some-next_place.ensures.value (λ (o : Offset). true) (λ o r p. search rules)) (c.in_default-next_place-2.ensures.value (λ (o : Offset). true) (λ o r p. search rules))

pub returns : goal.returns
returns c xs ys =
    let l = c.args.lattice.now in
    let a = c.in-Some.a in
    let b = c.in-Some-next_place.b in
    all_found l.count l.ranks.now c.args.k xs ys (c.in-Some.ensures.value (λ (o : Offset). true) (λ o r p. search rules)) (c.in-Some-next_place.ensures.value (λ (o : Offset). true) (λ o r p. search rules)) (c.in-Some-next_place-2.ensures.value (λ (o : Offset). true) (λ o r p. search rules))
    c.on_line-leave.ensures (c.next_place-d.ensures.value (λ (o : Offset). not (c.on_line-leave.result && on_line a.offset b.offset o)) (λ o r p. search rules))
