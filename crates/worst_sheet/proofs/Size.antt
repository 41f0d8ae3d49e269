-- A buffer of worst_size bytes has room for every sheet. Assumes nothing.
use Rattle.std.proofs.Common.{◌≡◌, ℕ, ◌+◌, ◌*◌, ◌≤◌, List, length, take, Result, Ok, ap, arith, length-append}
use native.Mathlib.Decide.{dec_lt}
use Rattle.view.specs.View.{max_points}
use Rattle.text.specs.Answer.{Shows}
use Rattle.text.specs.declared.NoRoom.{NoRoom}
use Rattle.text.proofs.Stores.{shown-whole, shown-first}
use Rattle.written_file.specs.File.{points_bytes, weights}
use Rattle.worst_sheet.specs.Worst.{float_bits, worst_points, settings_data, worst_file, asked, worst_of, worst_size}
use Rattle.worst_sheet.proofs.Asked.{worst-is, worst-none}
use Rattle.worst_sheet.proofs.Pieces.{file-is, records-long, strengths-long}

-- three fields, and 24 bytes for each point
pub file-long : (n : ℕ) → length (worst_file n) ≡ (3 + length settings_data) + (3 + 20 * n) + (3 + 4 + 4 * n)
file-long n = omega (arith, ap length (file-is n), length-append (points_bytes (worst_points n)) (weights (float_bits 2) (worst_points n)), records-long n, strengths-long n)

pub worst-fits : (argument : List ℕ) → length (worst_of argument) ≤ worst_size
worst-fits argument = elim (dec_lt max_points (asked argument)) [
  | yes m ↦ rw (worst-none argument m) (omega arith)
  | no m ↦ rw (worst-is argument (omega arith), file-long (asked argument)) (omega arith)
]

-- so write_worst, lent such a buffer, writes the sheet whole
pub whole : (argument before after : List ℕ) (r : Result ℕ NoRoom) → worst_size ≤ length before → Shows (worst_of argument) before after r → r ≡ Ok (length (worst_of argument))
whole argument before after r l h = shown-whole h (omega (arith, worst-fits argument))

-- and the first bytes of the buffer are then the sheet
pub printed : (argument before after : List ℕ) (r : Result ℕ NoRoom) → worst_size ≤ length before → Shows (worst_of argument) before after r → take (length (worst_of argument)) after ≡ worst_of argument
printed argument before after r l h = shown-first h (omega (arith, worst-fits argument))
