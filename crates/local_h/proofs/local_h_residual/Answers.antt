use Rattle.std.proofs.Common.{arith}
use Rattle.view.specs.Seen.{seen_in}
use Rattle.cells.specs.Cell.{cells_at}
use Rattle.local_h.proofs.Finding.{four-found, no-first, no-second, no-third, no-fourth, members-ranked, fitted, unfitted}
use Rattle.local_h.proofs.local_h_residual.Goals as goal

pub residual_from-requires : goal.residual_from-requires
residual_from-requires c =
    let p = c.args.seen.now.points in
    let w = seen_in p in
    let t = c.in-Some-Some-Some-Some in
    (omega (arith, p.lattice.few), members-ranked w c.args.k (four-found w c.args.k (c.find_base.ensures p.seen.x.now p.seen.y.now) _ _ _ _ t.is-0 t.is-1 t.is-2 t.is-3) p.lattice.few)

pub returns : goal.returns
returns c =
    let s = c.args.seen.now in
    let p = s.points in
    let w = seen_in p in
    let t = c.in-Some-Some-Some-Some in
    rw c.residual_from.ensures
    (fitted w (cells_at s.keys.now) c.args.k (four-found w c.args.k (c.find_base.ensures p.seen.x.now p.seen.y.now) _ _ _ _ t.is-0 t.is-1 t.is-2 t.is-3))

-- where the fourth, the third, the second or the first is missing
pub returns-in_default : goal.returns-in_default
returns-in_default c =
    let s = c.args.seen.now in
    let p = s.points in
    unfitted (seen_in p) (cells_at s.keys.now) c.args.k (no-fourth (seen_in p) c.args.k (c.find_base.ensures p.seen.x.now p.seen.y.now) _ c.in_default.is-3)

pub returns-in_default-2 : goal.returns-in_default-2
returns-in_default-2 c =
    let s = c.args.seen.now in
    let p = s.points in
    unfitted (seen_in p) (cells_at s.keys.now) c.args.k (no-third (seen_in p) c.args.k (c.find_base.ensures p.seen.x.now p.seen.y.now) _ c.in_default.is-2)

pub returns-in_default-3 : goal.returns-in_default-3
returns-in_default-3 c =
    let s = c.args.seen.now in
    let p = s.points in
    unfitted (seen_in p) (cells_at s.keys.now) c.args.k (no-second (seen_in p) c.args.k (c.find_base.ensures p.seen.x.now p.seen.y.now) _ c.in_default.is-1)

pub returns-in_default-4 : goal.returns-in_default-4
returns-in_default-4 c =
    let s = c.args.seen.now in
    let p = s.points in
    unfitted (seen_in p) (cells_at s.keys.now) c.args.k (no-first (seen_in p) c.args.k (c.find_base.ensures p.seen.x.now p.seen.y.now) _ c.in_default.is-0)
