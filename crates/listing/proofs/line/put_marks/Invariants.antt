use Rattle.text.specs.Text.{each}
use Rattle.text.specs.Stored.{Stored}
use Rattle.listing.specs.Listing.{mark_text}
use Rattle.listing.proofs.line.put_marks.Given as goal

abbrev pub invariant-loop-f : goal.invariant-loop-f
invariant-loop-f l = Stored l.initial.w (each (mark_text l.marks) l.f-index) l.w
