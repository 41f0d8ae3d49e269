-- What a caller of `read_file` may count on, whatever the input. Assumes nothing.
use Rattle.std.specs.Prelude.{ℕ, ◌≤◌, ◌<◌, List, length, take, Result, IfOk}
use Rattle.std.specs.Io.KnownBytes.{Consumes, IsAtEnd}
use Rattle.std.specs.declared.option.Option.{Option}

-- no more bytes came than a buffer of this size holds
abbrev pub Within : {E : Type 0} → ℕ → Result ℕ E → Type 0
Within size r = IfOk r (λ n. n ≤ size)

-- Of a reader whose bytes are known before and after: those that came stand at the start of the buffer and are taken from it, no other is, and
-- where the buffer is not full none is left.
abbrev pub Holds : {E : Type 0} → Option (List ℕ) → Option (List ℕ) → List ℕ → Result ℕ E → Type 0
Holds before after file r = IfOk r (λ n. Consumes before after (take n file) × (n < length file → IsAtEnd after))
