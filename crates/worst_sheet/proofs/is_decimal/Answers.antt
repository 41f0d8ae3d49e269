use Rattle.std.proofs.Common.{◌≡◌, ℕ, ◌≤◌, Bool, true, List, length, take, Result, Ok, refl, sym, ◌∙◌, arith, rules}
use Rattle.folds.specs.Same.{same_list}
use Rattle.folds.proofs.Same.{told}
use Rattle.text.specs.Answer.{Shows}
use Rattle.text.specs.declared.NoRoom.{NoRoom}
use Rattle.text.proofs.Numbers.{decimal-length}
use Rattle.text.proofs.Stores.{shows, shown-whole, shown-first}
use Rattle.worst_sheet.proofs.is_decimal.Goals as goal

-- what is printed whole is compared
compared : {t before after argument : List ℕ} {r : Result ℕ NoRoom} {size : ℕ} {same : Bool}
    → (same ≡ true → take size after ≡ argument) × (take size after ≡ argument → same ≡ true) → r ≡ Ok size
    → length t ≤ length before → Shows t before after r → same ≡ same_list t argument
compared {t} {before} {after} {argument} {r} {size} q e room h =
    let long : ◌≡◌ {A = Result ℕ NoRoom} (Ok size) (Ok (length t)) = sym e ∙ shown-whole h room in
    let z : size ≡ length t = cc in
    let first : take size after ≡ t = rw z (shown-first h room) in
    rw (← first) (told _ _ q.0 q.1)

pub unreachable-requires : goal.unreachable-requires
unreachable-requires c = c.in_default.not-Ok _ (shown-whole (shows c.new-w.ensures c.decimal.ensures c.answer.ensures (λ e. refl)) (decimal-length 19 c.args.n (omega arith)))

pub returns : goal.returns
returns c = compared c.same.ensures c.in-Ok.is (decimal-length 19 c.args.n (omega arith)) (shows c.new-w.ensures c.decimal.ensures c.answer.ensures (search rules))
