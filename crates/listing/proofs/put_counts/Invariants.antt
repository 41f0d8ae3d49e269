use lib.ListN.{get_or}
use Rattle.text.specs.Text.{each}
use Rattle.text.specs.Stored.{Stored}
use Rattle.listing.specs.Listing.{count_text}
use Rattle.listing.proofs.put_counts.Given as goal

abbrev pub invariant-loop-f : goal.invariant-loop-f
invariant-loop-f l = Stored l.initial.w (each (λ j. count_text j (get_or l.counts j 0)) l.f-index) l.w
