use Rattle.std.proofs.Common.{◌≡◌, ◌<◌, ap, ◌∙◌, length, arith}
use Rattle.patches.proofs.Lattices.{item-is}
use Rattle.predict.specs.Sums.{sums_with, sums_to, mean_by}
use Rattle.predict.specs.Steps.{view_of}
use Rattle.predict.specs.declared.sums.Sums.{Sums}
use Rattle.predict.proofs.Laws.{sums_none, sums-more, few-pairs, mean-is}
use Rattle.predict.proofs.kept.Kept.prediction.Goals as goal

pub loop-o-init : goal.loop-o-init
loop-o-init c = let p = c.args.self.now in sums_none (view_of p) p.marks.now c.args.k p.sides.now

pub with_pair-sums-requires : goal.with_pair-sums-requires
with_pair-sums-requires c =
    let p = c.args.self.now in
    let pairs = few-pairs (view_of p) p.marks.now c.args.k p.sides.now c.loop-o.o-index in
    (c.requires, omega (arith, pairs, ap (λ (s : Sums). s.pairs) c.loop-o.invariant, p.few))

pub loop-o-preserved : goal.loop-o-preserved
loop-o-preserved c =
    let p = c.args.self.now in
    let w = view_of p in
    let i = c.loop-o.o-index in
    let o = c.o-item.result in
    let below : i < length p.sides.now = omega arith in
    c.with_pair-sums.ensures ∙ ap (sums_with w p.marks.now c.args.k o) c.loop-o.invariant ∙ sums-more w p.marks.now c.args.k p.sides.now i o (item-is p.sides.now i o below c.o-item.is)

pub returns : goal.returns
returns c =
    let p = c.args.self.now in
    let w = view_of p in
    let end : c.loop-o.o-index ≡ length p.sides.now = omega arith in
    c.mean.ensures ∙ ap mean_by (c.loop-o.invariant ∙ ap (sums_to w p.marks.now c.args.k p.sides.now) end) ∙ mean-is w p.marks.now c.args.k p.sides.now
