-- "the default line minimum becomes 4 for length-4 settings. Stored sheets that rely on 3 .. now spell out all 21 bytes with 3" (document 02, A.9).
-- Assumes nothing.
use Rattle.std.specs.Prelude.{List, ℕ}
use Rattle.sheet_file.specs.Bytes.{little_endian}
use Rattle.written_file.specs.File.{spelled_out}
use Rattle.written_file.specs.Spelled.{settled}
use Rattle.promises.specs.Promises.{SameResult}

-- settings of length 4 are the same as all 21 bytes with 4, whatever follows them
abbrev pub ShortPromise : Type 0
ShortPromise = (size : ℕ) (rest : List ℕ) → SameResult (settled (little_endian size) rest) (settled (spelled_out size 4) rest)
