use Rattle.std.proofs.Common.{sym, ◌∙◌}
use Rattle.std.proofs.lemmas.Grind.{merely}
use Rattle.ruling.proofs.Parts.{handed-on}
use Rattle.joined.proofs.Reading.{left-refused, right-refused, unlike-found, low-index, high-left, high-right, move-refused, halves-refused, halved, ruled-as-list}
use Rattle.joined.proofs.read.Goals as goal
use Rattle.joined.proofs.read.Goals.{then-has_high_index-via-then-has_high_index, then-has_high_index-via-else-has_high_index+then-has_high_index-2}

pub returns-in_err-left : goal.returns-in_err-left
returns-in_err-left c = handed-on _ _ _ c.from_residual.ensures.1 (left-refused _ _ _ _ _ c.in_err-left.ensures)

pub returns-in_err-right : goal.returns-in_err-right
returns-in_err-right c = handed-on _ _ _ c.from_residual-in_err-right.ensures.1 (right-refused _ _ _ _ c.in_ok-left.left _ c.in_ok-left.ensures c.in_err-right.ensures)

pub returns-then-has_high_index : goal.returns-then-has_high_index
returns-then-has_high_index c =
    let f = c.in_ok-left.ensures in
    let g = c.in_ok-right.ensures in
    elim c.then-has_high_index.branch [
      | then-has_high_index-via-then-has_high_index w ↦ high-left _ _ _ _ _ _ f g (sym c.has_high_index.ensures ∙ w.if-has_high_index.true)
      | then-has_high_index-via-else-has_high_index+then-has_high_index-2 w ↦ high-right _ _ _ _ _ _ f g (sym c.has_high_index.ensures ∙ w.if-has_high_index.false)
          (sym w.has_high_index-else-has_high_index.ensures ∙ w.if-has_high_index-2.true)
    ]

pub returns-then-is_bad : goal.returns-then-is_bad
returns-then-is_bad c =
    move-refused _ _ _ _ _ _ c.in_ok-left.ensures c.in_ok-right.ensures (sym c.has_high_index.ensures ∙ c.if-has_high_index.false)
    (sym c.has_high_index-else-has_high_index.ensures ∙ c.if-has_high_index-2.false) (sym c.is_bad.ensures ∙ c.if-is_bad.true)

pub returns-then-is_weighed : goal.returns-then-is_weighed
returns-then-is_weighed c =
    halves-refused _ _ _ _ _ _ c.in_ok-left.ensures c.in_ok-right.ensures (sym c.has_high_index.ensures ∙ c.if-has_high_index.false)
    (sym c.has_high_index-else-has_high_index.ensures ∙ c.if-has_high_index-2.false) (sym c.is_bad.ensures ∙ c.if-is_bad.false)
    (unlike-found c.is_weighed.ensures c.is_weighed-2.ensures c.if-is_weighed.true)

pub invariant_of-join : goal.invariant_of-join
invariant_of-join c =
    let d = sym c.has_high_index.ensures ∙ c.if-has_high_index.false in
    let e = sym c.has_high_index-else-has_high_index.ensures ∙ c.if-has_high_index-2.false in
    let h = sym c.is_bad.ensures ∙ c.if-is_bad.false in
    record {
      halved = merely (halved _ _ _ _ _ _ c.in_ok-left.ensures c.in_ok-right.ensures (λ k. (c.type_inv.left k).fits) (λ k. (c.type_inv.right k).fits) d e h);
      allowed = h;
      low = low-index c.in_ok-right.right e;
    }

pub returns : goal.returns
returns c =
    let f = c.in_ok-left.ensures in
    let g = c.in_ok-right.ensures in
    let d = sym c.has_high_index.ensures ∙ c.if-has_high_index.false in
    let e = sym c.has_high_index-else-has_high_index.ensures ∙ c.if-has_high_index-2.false in
    let h = sym c.is_bad.ensures ∙ c.if-is_bad.false in
    let l = c.in_ok-left.left in
    let r = c.in_ok-right.right in
    let a = c.args in
    rw (ruled-as-list a.left.now a.right.now a.by a.room l r f g d e h (unlike-found c.is_weighed.ensures c.is_weighed-2.ensures c.if-is_weighed.false))
    (c.join.ensures (halved a.left.now a.right.now a.by a.room l r f g (λ k. (c.type_inv.left k).fits) (λ k. (c.type_inv.right k).fits) d e h))
