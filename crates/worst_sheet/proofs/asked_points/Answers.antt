use Rattle.std.proofs.Common.{◌≡◌, Option, None, Some, ℕ, sym, ◌∙◌, arith, rules}
use Rattle.worst_sheet.proofs.Asked.{asked-else, asked-told, some_same}
use Rattle.worst_sheet.proofs.asked_points.Goals as goal

pub returns-in_err-number_of-clause-points : goal.returns-in_err-number_of-clause-points
returns-in_err-number_of-clause-points c = rw c.from_residual.ensures (sym (asked-else _ (λ m g l e. let f : ◌≡◌ {A = Option ℕ} None (Some m) = sym c.in_err-number_of.was ∙ c.number_of.ensures m (omega arith) e in cc)))

pub returns-then-n-lt2 : goal.returns-then-n-lt2
returns-then-n-lt2 c = record { points = sym (asked-else _ (λ m g l e. omega (arith, c.then-n-lt2.either, c.from-n.ensures, some_same (sym c.in_ok-number_of.was ∙ c.number_of.ensures m (omega arith) e)))); few = search rules }

pub returns : goal.returns
returns c =
    rw c.then_some.ensures
    (record { points = asked-told _ _ (omega arith) (omega arith) (λ m l e. sym (c.from-n.ensures ∙ some_same (sym c.in_ok-number_of.was ∙ c.number_of.ensures m l e))) _ c.is_decimal.ensures; few = search rules })
