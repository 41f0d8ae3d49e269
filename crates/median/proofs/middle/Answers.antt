use Rattle.median.proofs.Steps.{patterns-length, middle-is, middle-fits}
use Rattle.median.proofs.Sorting.{no-median}
use Rattle.float.proofs.Nan.{nan-is, no-nan-pattern}
use Rattle.float.proofs.Bits.{bits-top}
use Rattle.sort.proofs.Rearranged.{in-order}
use lib.Ieee.Bits.{of_bits-to_bits}
use borrow.Author.Tests.{eqb-true, eqb-false}
use lib.Ieee.{binary32, of_bits}
use native.Mathlib.Omega.{arith}
use mathlib.Core.Path.{sym, ap, ◌∙◌}
use Rattle.median.proofs.middle.Goals as goal

pub returns-then-is_empty : goal.returns-then-is_empty
returns-then-is_empty c =
    nan-is ∙ sym (no-median _ (patterns-length _ c.pack-a.ensures.packed ∙ eqb-true _ 0 (sym c.is_empty.ensures ∙ c.if-is_empty.true)))

-- after the sort, the pattern that is read is that of the median, which is above zero
pub float_from_bits-result : goal.float_from_bits-result
float_from_bits-result c =
    let e = c.pack-a.ensures in
    let s = in-order _ _ c.sort_unstable.ensures.permutation c.sort_unstable.ensures.sorted in
    let some = eqb-false _ 0 (sym c.is_empty.ensures ∙ c.if-is_empty.false) in
    let above = middle-fits _ _ _ _ e.packed e.floats some s in
    no-nan-pattern _ (omega (arith, middle-is _ _ _ _ e.packed e.floats some s, bits-top _ above.0 above.1))

pub returns : goal.returns
returns c =
    let e = c.pack-a.ensures in
    let s = in-order _ _ c.sort_unstable.ensures.permutation c.sort_unstable.ensures.sorted in
    let some = eqb-false _ 0 (sym c.is_empty.ensures ∙ c.if-is_empty.false) in
    ap (of_bits binary32) (middle-is _ _ _ _ e.packed e.floats some s) ∙ of_bits-to_bits binary32 _ (middle-fits _ _ _ _ e.packed e.floats some s).1
