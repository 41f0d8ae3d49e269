-- What a function must keep to for its text to be printed. Assumes nothing.
use Rattle.std.specs.Prelude.{◌≡◌, ℕ, ◌<◌, List, length, slice_index, Result}
use Rattle.std.specs.Borrow.{Bor, MutBor}
use Rattle.text.specs.declared.NoRoom.{NoRoom}
use Rattle.standard_output.specs.Within.{Within}

-- whatever bytes a file has, its text stands whole in a buffer of this size
abbrev pub WritesWhole : (Bor (List ℕ) → MutBor (List ℕ) → Result ℕ NoRoom → MutBor (List ℕ) → Type 0) → ℕ → Type 0
WritesWhole writes size =
    (file : Bor (List ℕ)) (before : MutBor (List ℕ)) (r : Result ℕ NoRoom) (after : MutBor (List ℕ)) → ((k : ℕ) → slice_index file.now k < 256)
    → length before.now ≡ size → length after.now ≡ size → writes file before r after → Within size r
