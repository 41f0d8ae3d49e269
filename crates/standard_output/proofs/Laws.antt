-- A text that is shown whole in a buffer can be printed from it. Assumes nothing.
use Rattle.std.proofs.Common.{◌≡◌, sym, subst, List, ℕ, ◌≤◌, length, arith, Result, Ok}
use Rattle.text.specs.Answer.{Shows}
use Rattle.text.specs.declared.NoRoom.{NoRoom}
use Rattle.text.proofs.Stores.{shown-within}
use Rattle.standard_output.specs.Within.{Within}

pub printable : {t before after : List ℕ} {size : ℕ} {r : Result ℕ NoRoom} → Shows t before after r → r ≡ Ok (length t) → length before ≤ size → Within size r
printable {t} {before} {after} {size} h whole room = subst (Within size) (sym whole) (omega (arith, room, shown-within h whole))
