-- What stands in a buffer before the call, and when what came is what is recorded. Assumes nothing.
use Rattle.std.specs.Prelude.{◌≡◌, Bool, true, false, cond, ◌&&◌, List, ◌++◌, ℕ, ◌%◌, ◌≤◌, eqb, leb, length, take, drop, Result, Ok, Err}
use Rattle.folds.specs.Lists.{list_of}
use Rattle.folds.specs.Same.{same_list}
use Rattle.text.specs.declared.NoRoom.{NoRoom}
use Rattle.runs.specs.declared.Run.{Run}
use Rattle.kept.specs.Answer.{Answer}
use Rattle.sheet_fills.specs.Answer.{FillAnswer}
use Rattle.recorded.specs.declared.RecordedAnswer.{RecordedAnswer}
use Rattle.recorded.specs.declared.RecordedFills.{RecordedFills}

-- a part that was read fits the buffer
abbrev pub Fits : Bool → ℕ → ℕ → Type 0
Fits read size room = read ≡ true → size ≤ room

-- byte i is i mod 251
unfoldable pub filler : ℕ → List ℕ
unfolding list_of
filler size = list_of size (λ (i : ℕ). i % 251)

-- a call that is lent the first `room` bytes of a buffer of this size came as recorded, and the buffer, what stood beyond them there still, is
-- what is expected; of a shorter buffer no call is made
abbrev pub Leaves : (List ℕ → Bool → List ℕ → Type 0) → ℕ → ℕ → List ℕ → Bool → Type 0
Leaves calls size room expected r =
    cond (leb room size)
    ((came : Bool) × (after : List ℕ) × calls (take room (filler size)) came after × (r ≡ came && same_list (after ++ drop room (filler size)) expected))
    (r ≡ false)

-- the number of a refusal is the recorded one; of an accepted sheet 0 is recorded, and its counts, that of the rounds too
abbrev pub is_recorded : Answer → RecordedAnswer → Bool
is_recorded (Err k) r = eqb k r.number
is_recorded (Ok c) r = eqb r.number 0 && (eqb c.points r.counts.points && (eqb c.components r.counts.components && eqb c.rounds r.counts.rounds))

-- of the call for the fills: the number of a refusal; of an accepted sheet 0, and how many fills there are
abbrev pub is_filled : FillAnswer → RecordedFills → Bool
is_filled (Err k) r = eqb k r.number
is_filled (Ok c) r = eqb r.number 0 && eqb c.fills r.fills

-- two records of a run are the same
abbrev pub same_run : Run → Run → Bool
same_run a b = (same_list a.old_sums b.old_sums && eqb a.sheets b.sheets) && same_list a.new_sums b.new_sums

-- t was written whole to the start of the buffer
abbrev pub is_shown : Result ℕ NoRoom → List ℕ → List ℕ → Bool
is_shown (Ok n) out t = leb n (length out) && same_list (take n out) t
is_shown (Err e) out t = false

-- the recorded text was, which is the first `size` bytes of what was read
abbrev pub is_text : Result ℕ NoRoom → List ℕ → List ℕ → ℕ → Bool
is_text written out recorded size = leb size (length recorded) && is_shown written out (take size recorded)

-- how many differ, of one case
abbrev pub differing : Bool → ℕ
differing agrees = cond agrees 0 1
