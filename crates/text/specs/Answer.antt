-- What a function that writes a text answers, and what it leaves in the buffer. Assumes nothing.
use Rattle.std.specs.Prelude.{◌≡◌, cond, List, ◌++◌, ℕ, leb, length, take, drop, Result, Ok, Err}
use Rattle.text.specs.declared.NoRoom.{NoRoom}

abbrev pub no_room : NoRoom
no_room = record {}

-- the answer for a text of `size` bytes in a buffer of `room` bytes
abbrev pub written_of : ℕ → ℕ → Result ℕ NoRoom
written_of size room = cond (leb size room) (Ok size) (Err no_room)

-- The text stands at the start of the buffer, cut off at the buffer's end, and what stood beyond the text stands there still.
pub record Shows (t before after : List ℕ) (r : Result ℕ NoRoom) : Type 0 where
  pub buffer : after ≡ take (length before) t ++ drop (length t) before
  pub answer : r ≡ written_of (length t) (length before)
