use Rattle.std.proofs.Common.{◌≡◌, ℕ, ◌≤◌, Bool, true, List, length, take, Result, Ok, sym, refl, ◌∙◌, rules}
use Rattle.std.specs.Int.{w32}
use Rattle.std.proofs.lemmas.Int.{to_z-of_z}
use Rattle.folds.specs.Same.{same_list}
use Rattle.folds.proofs.Same.{told}
use Rattle.text.specs.Answer.{Shows}
use Rattle.text.specs.declared.NoRoom.{NoRoom}
use Rattle.text.proofs.Stores.{shows, shown-whole, shown-first}
use Rattle.join_arguments.proofs.Printed.{whole-length}
use Rattle.join_arguments.proofs.is_whole.Goals as goal

-- what is printed whole is compared
compared : {t before after argument : List ℕ} {r : Result ℕ NoRoom} {size : ℕ} {same : Bool}
    → (same ≡ true → take size after ≡ argument) × (take size after ≡ argument → same ≡ true) → r ≡ Ok size
    → length t ≤ length before → Shows t before after r → same ≡ same_list t argument
compared {t} {before} {after} {argument} {r} {size} q e room h =
    let long : ◌≡◌ {A = Result ℕ NoRoom} (Ok size) (Ok (length t)) = sym e ∙ shown-whole h room in
    let z : size ≡ length t = cc in
    let first : take size after ≡ t = rw z (shown-first h room) in
    rw (← first) (told _ _ q.0 q.1)

pub unreachable-requires : goal.unreachable-requires
unreachable-requires c = c.in_default.not-Ok _ (shown-whole (shows c.new-w.ensures (rw (to_z-of_z w32 c.args.z c.ranges.z) at c.put_whole.ensures) c.answer.ensures (λ e. refl)) (whole-length c.args.z c.ranges.z))

pub returns : goal.returns
returns c =
    compared c.same.ensures c.in-Ok.is (whole-length c.args.z c.ranges.z) (shows c.new-w.ensures (rw (to_z-of_z w32 c.args.z c.ranges.z) at c.put_whole.ensures) c.answer.ensures (search rules))
