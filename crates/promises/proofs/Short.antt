-- Settings of length 4 are the same as all 21 bytes with 4. Assumes nothing.
use Rattle.sheet_file.specs.Bytes.{little_endian}
use Rattle.written_file.specs.File.{spelled_out}
use Rattle.written_file.specs.Spelled.{settled}
use Rattle.written_file.proofs.SpelledOut.{short-spelled}
use Rattle.promises.proofs.Theorems.{same-results}
use Rattle.promises.specs.Short.{ShortPromise}

pub short : ShortPromise
short size rest = same-results (settled (little_endian size) rest) (settled (spelled_out size 4) rest) (short-spelled size rest)
