use Rattle.std.proofs.Common.{◌≡◌, ◌+◌, sym, ◌∙◌, arith}
use lib.ListN.{length-set}
use Rattle.grid.specs.Tables.{entry_in}
use Rattle.grid.specs.Sweep.{standing, standing_from}
use Rattle.grid.proofs.Splicing.{spliced-none, spliced-more}
use Rattle.grid.proofs.Passing.{reached-hit, reached-miss, stands-there, stands-not}
use Rattle.grid.proofs.KeyedPoints.five.Goals as goal
use Rattle.grid.proofs.KeyedPoints.five.Goals.{then-stands, else-stands}

pub loop-e-init : goal.loop-e-init
loop-e-init c = record { most = omega arith; size = c.told-ranks; reached = let z : c.args.target + 0 ≡ c.args.target = omega arith in rw z c.requires.0; five = spliced-none _ _ _ }

pub loop-e-preserved : goal.loop-e-preserved
loop-e-preserved c =
    let a = c.args in
    let l = c.loop-e in
    elim c.if-stands.branch [
      | then-stands w ↦
          let h = stands-there l.p a.self.now.points.count _ (a.target + l.e) c.stands.ensures w.if-stands.true in
          let r = reached-hit _ _ c.args.self.now.keyed.rising l.invariant.reached h.0 h.1 in
          rw (w.ranks-is, w.p-is) (record {
            most = omega arith;
            size = length-set l.ranks _ _ ∙ l.invariant.size;
            reached = let z : a.target + (l.e + 1) ≡ a.target + l.e + 1 = omega arith in rw z r.1;
            five = spliced-more a.at l.e (standing_from a.self.now.points.count (entry_in a.self.now.points.keys.now) a.target) l.p a.ranks.now (omega (arith, c.requires.1)) (sym r.0) l.invariant.five;
          })
      | else-stands w ↦
          let r = reached-miss _ _ c.args.self.now.keyed.rising l.invariant.reached (stands-not l.p a.self.now.points.count _ (a.target + l.e) c.stands.ensures w.if-stands.false) in
          rw (w.ranks-is, w.p-is) (record {
            most = omega arith;
            size = length-set l.ranks _ _ ∙ l.invariant.size;
            reached = let z : a.target + (l.e + 1) ≡ a.target + l.e + 1 = omega arith in rw z r.1;
            five = spliced-more a.at l.e (standing_from a.self.now.points.count (entry_in a.self.now.points.keys.now) a.target) a.self.now.points.count a.ranks.now (omega (arith, c.requires.1)) (sym r.0) l.invariant.five;
          })
    ]
