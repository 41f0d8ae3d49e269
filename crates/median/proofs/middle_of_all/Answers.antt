use Rattle.median.specs.Keys.{key_at}
use Rattle.median.proofs.Sorting.{key-in-order, no-median, median-at}
use Rattle.float.proofs.Nan.{nan-is}
use Rattle.folds.proofs.Lists.{length-list}
use Rattle.sort.proofs.Packed.{placed_below}
use native.Mathlib.Omega.{arith}
use Prim.Native.Nat.{◌/◌}
use mathlib.Core.Path.{sym, ◌∙◌}
use Rattle.median.proofs.middle_of_all.Goals as goal

pub returns-then-v-eq0 : goal.returns-then-v-eq0
returns-then-v-eq0 c =
    nan-is ∙ sym (no-median _ (length-list _ _ ∙ c.if-v-eq0.true))

pub bounds-v-place : goal.bounds-v-place
bounds-v-place c =
    let g = c.args in
    omega (arith, c.place.ensures, key-in-order c.keys_in_order-a.ensures c.index-a-v.result (g.v.now.count / 2) (omega arith) (omega arith), placed_below (key_at g.v.now.values.now) g.v.now.count (omega arith) (g.v.now.count / 2) (omega arith))

pub returns : goal.returns
returns c =
    let g = c.args in
    let k = c.keys_in_order-a.ensures in
    rw (c.place.ensures, key-in-order k c.index-a-v.result (g.v.now.count / 2) (omega arith) (omega arith)) (median-at g.v.now.values.now g.v.now.count (omega arith) k.numbers (omega arith))
