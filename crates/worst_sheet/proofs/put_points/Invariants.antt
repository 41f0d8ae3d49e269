use Rattle.text.specs.Text.{each}
use Rattle.text.specs.Stored.{Stored}
use Rattle.written_file.specs.File.{point_bytes}
use Rattle.worst_sheet.specs.Worst.{point_at}
use Rattle.worst_sheet.proofs.put_points.Given as goal

abbrev pub invariant-loop-u : goal.invariant-loop-u
invariant-loop-u l = Stored l.initial.w (each (λ k. point_bytes (point_at l.n k)) l.u) l.w
