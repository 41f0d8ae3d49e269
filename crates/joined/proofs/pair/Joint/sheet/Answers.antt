use Rattle.std.proofs.Common.{refl, sym, ◌∙◌, arith}
use Rattle.std.proofs.Math.Logic.{∥∥₁_elim}
use Rattle.std.proofs.Props.{props}
use Rattle.joined.proofs.Reading.{short-found, range-ruled, limit-ruled, list-ruled, arrays-found}
use Rattle.joined.proofs.pair.Joint.sheet.Goals as goal

pub returns-then-room-count : goal.returns-then-room-count
returns-then-room-count c h = short-found c.args.self.now h c.args.room (omega (arith, c.if-room-count.true))

pub returns-then-any_off_range : goal.returns-then-any_off_range
returns-then-any_off_range c h = range-ruled c.args.self.now h c.args.room (omega (arith, c.if-room-count.false)) (sym c.any_off_range.ensures ∙ c.if-any_off_range.true)

pub returns-then-any_off_limit : goal.returns-then-any_off_limit
returns-then-any_off_limit c h =
    limit-ruled c.args.self.now h c.args.room (omega (arith, c.if-room-count.false)) (sym c.any_off_range.ensures ∙ c.if-any_off_range.false) (sym c.any_off_limit.ensures ∙ c.if-any_off_limit.true)

pub invariant_of-result : goal.invariant_of-result
invariant_of-result c = record {
  arrays = ∥∥₁_elim c.args.self.now.pair.halved (Prim.hlevel props)
      (λ h. arrays-found c.args.self.now h c.args.room (omega (arith, c.if-room-count.false)) (sym c.any_off_range.ensures ∙ c.if-any_off_range.false)
      (sym c.any_off_limit.ensures ∙ c.if-any_off_limit.false) c.table.result c.table.ensures);
}

pub returns : goal.returns
returns c h =
    list-ruled c.args.self.now h c.args.room (omega (arith, c.if-room-count.false)) (sym c.any_off_range.ensures ∙ c.if-any_off_range.false)
    (sym c.any_off_limit.ensures ∙ c.if-any_off_limit.false) _ refl refl c.table.ensures
