use Rattle.std.proofs.Common.{◌≡◌, ◌≤◌, ◌<◌, ◌+◌, ◌*◌, ◌&&◌, ℕ, ◌∙◌, sym, ap, refl, cond, ltb, length, get_or, Bool, true, false, arith, lt-ltb}
use mir.Val.{bool_byte}
use Rattle.folds.proofs.Below.{tally-none, tally-turn, tally-le}
use Rattle.offsets.specs.Offsets.{places}
use Rattle.offsets.proofs.Places.{places-long}
use Rattle.view.proofs.Found.{not-found, found}
use Rattle.patches.proofs.Lattices.{item-place}
use Rattle.peel.specs.Work.{near_at, lives_at}
use Rattle.peel.proofs.Leaves.{leaf-by}
use Rattle.peel.proofs.round.Round.is_leaf.Goals as goal
use Rattle.peel.proofs.round.Round.is_leaf.Goals.{in-Some, in_default}

pub returns-then-not-is_weak : goal.returns-then-not-is_weak
returns-then-not-is_weak c =
    let v = c.args.self.now.links.now in
    leaf-by v.sheet.lattice.count v.sheet.lattice.ranks.now c.args.self.now.state.now (places v.sides.now) c.args.k false (sym c.is_weak.ensures ∙ c.if-not-is_weak.true)

pub loop-o-init : goal.loop-o-init
loop-o-init c = sym (tally-none _)

bit-le : (b : Bool) → bool_byte b ≤ 1
bit-le true = omega arith
bit-le false = omega arith

one-more : (c : ℕ) (b : Bool) → c + bool_byte b ≡ cond b (c + 1) c
one-more c true = refl
one-more c false = omega arith

pub overflow_add-count : goal.overflow_add-count
overflow_add-count c =
    let v = c.args.self.now.links.now in
    let p : ℕ → Bool = λ i. ltb (near_at v.sheet.lattice.ranks.now (25 * c.args.k + get_or (places v.sides.now) i 0)) v.sheet.lattice.count && lives_at c.args.self.now.state.now (near_at v.sheet.lattice.ranks.now (25 * c.args.k + get_or (places v.sides.now) i 0)) in
    omega (arith, c.loop-o.invariant, tally-le p c.loop-o.o-index, c.from-count.ensures, bit-le c.is_live.result)

pub loop-o-preserved : goal.loop-o-preserved
loop-o-preserved c =
    let v = c.args.self.now.links.now in
    let i = c.loop-o.o-index in
    let below : i < length v.sides.now = omega arith in
    let at = ap (λ d. near_at v.sheet.lattice.ranks.now (25 * c.args.k + d)) (item-place v.sides.now i c.o-item.result below c.o-item.is) in
    elim c.match-neighbour.branch [
      | in-Some w ↦
          let same = at ∙ found _ _ w.in-Some.ensures.value in
          tally-turn _ i {b = w.is_live.result} (w.count-is ∙ ap (λ (m : ℕ). c.loop-o.count + m) w.from-count.ensures ∙ one-more c.loop-o.count w.is_live.result)
          (w.is_live.ensures ∙ sym (rw (same, lt-ltb _ _ w.in-Some.ensures.inside) refl)) c.loop-o.invariant
      | in_default w ↦ tally-turn _ i {b = false} w.count-is (sym (rw (at, not-found _ _ w.in_default.ensures.value) refl)) c.loop-o.invariant
    ]

pub returns : goal.returns
returns c =
    let v = c.args.self.now.links.now in
    let e : c.loop-o.o-index ≡ length (places v.sides.now) = omega (arith, places-long v.sides.now) in
    ap (λ (m : ℕ). ltb m 2) (rw e at c.loop-o.invariant)
    ∙ leaf-by v.sheet.lattice.count v.sheet.lattice.ranks.now c.args.self.now.state.now (places v.sides.now) c.args.k true (sym c.is_weak.ensures ∙ c.if-not-is_weak.false)
