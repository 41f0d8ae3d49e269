use Rattle.text.specs.Text.{each}
use Rattle.text.specs.Stored.{Stored}
use Rattle.sheet_file.specs.Bytes.{little_endian}
use Rattle.worst_sheet.specs.Worst.{strength_at}
use Rattle.worst_sheet.proofs.put_strengths.Given as goal

abbrev pub invariant-loop-u : goal.invariant-loop-u
invariant-loop-u l = Stored l.initial.w (each (λ k. little_endian (strength_at l.n k)) l.u) l.w
