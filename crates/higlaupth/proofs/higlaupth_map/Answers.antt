use Rattle.std.proofs.Common.{◌≡◌, refl, ap, ◌∙◌, Bool, true, false, cond, List, ℕ, ◌-◌, ◌^◌, leb, length, Result, Ok, Err}
use Rattle.text.specs.Answer.{no_room, Shows}
use Rattle.text.specs.declared.NoRoom.{NoRoom}
use Rattle.higlaupth.specs.Number.{text_number}
use Rattle.higlaupth.proofs.higlaupth_map.Goals as goal

-- what is made of each answer
abbrev number : Result ℕ NoRoom → ℕ
number (Ok n) = n
number (Err e) = 2 ^ 64 - 1

answered : {t before after : List ℕ} {r : Result ℕ NoRoom} → Shows t before after r → number r ≡ text_number (length t) (length before)
answered {t} {before} h = ap number h.answer ∙ go (leb (length t) (length before))
  where
    go : (b : Bool) → number (cond b (Ok (length t)) (Err no_room)) ≡ cond b (length t) (2 ^ 64 - 1)
    go true = refl
    go false = refl

pub returns-in-Ok : goal.returns-in-Ok
returns-in-Ok c = record { number = answered c.in-Ok.ensures; text = c.in-Ok.ensures.buffer }

pub returns-in-Err : goal.returns-in-Err
returns-in-Err c = record { number = answered c.in-Err.ensures; text = c.in-Err.ensures.buffer }
