use mathlib.Core.Path.{ap}
use Prim.Native.Nat.{ℕ, ◌+◌, ◌/◌}
use native.Mathlib.Omega.{arith}
use Rattle.grid.specs.Tables.{entry_in}
use Rattle.grid.proofs.Standing.{keys-small}
use Rattle.grid.proofs.Swept.{swept-start, swept-more}
use Rattle.grid.proofs.KeyedPoints.fill_near.Goals as goal

pub loop-i-init : goal.loop-i-init
loop-i-init c =
    (omega arith, swept-start _ _ _)

pub five-requires : goal.five-requires
five-requires c =
    let l = c.loop-i in
    let ks = c.args.self.now.keyed in (
      c.advance-p.ensures,
      record {
        fit = omega (arith, ks.few);
        small = omega (arith, c.steps.ensures, keys-small _ _ ks (l.i / 5) (omega arith));
      },
    )

pub loop-i-preserved : goal.loop-i-preserved
loop-i-preserved c =
    let l = c.loop-i in
    let s = c.args.self.now in (
      omega arith,
      swept-more s.points.keys.now _ _ s.keyed c.told-ranks c.loop-i-test.true
          (ap (λ (x : ℕ). entry_in s.points.keys.now (l.i / 5) + x) c.steps.ensures) l.invariant.1 c.advance-p.ensures c.five.ensures,
    )
