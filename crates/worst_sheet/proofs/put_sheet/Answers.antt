use Rattle.std.proofs.Common.{◌++◌, refl, arith}
use Rattle.text.proofs.Stores.{stored-then}
use Rattle.sheet_file.specs.Bytes.{little_endian}
use Rattle.written_file.specs.File.{points_bytes, strength_bytes}
use Rattle.worst_sheet.specs.Worst.{float_bits, worst_points, settings_data}
use Rattle.worst_sheet.proofs.Pieces.{records-are, strengths-are, records-long, strengths-long, settings-are, file-is, stored-field}
use Rattle.worst_sheet.proofs.put_sheet.Goals as goal

pub returns : goal.returns
returns c =
    let n = c.args.n in
    rw (file-is n)
    (stored-then (stored-field settings_data refl c.put_head.ensures (rw settings-are c.text.ensures))
    (stored-then (stored-field (points_bytes (worst_points n)) (records-long n) c.put_head-2.ensures (rw (records-are n) c.put_points.ensures))
    (stored-field (little_endian (float_bits 2) ++ strength_bytes (worst_points n)) (omega (arith, strengths-long n)) c.put_head-3.ensures
    (stored-then (rw c.float_bits.ensures at c.put_u32.ensures) (rw (strengths-are n) c.put_strengths.ensures)))))
