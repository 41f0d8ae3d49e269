use Rattle.std.proofs.Common.{◌≡◌, arith, rules}
use Rattle.marks.specs.Filters.{filter_count}
use Rattle.marks.proofs.Places.{place-at}
use Rattle.listing.specs.Listing.{mark_text, marks_text}
use Rattle.text.proofs.Stores.{stored-start, stored_more}
use Rattle.listing.proofs.line.put_marks.Goals as goal

pub loop-f-init : goal.loop-f-init
loop-f-init c = search (rules, stored-start)

pub loop-f-preserved : goal.loop-f-preserved
loop-f-preserved c =
    let at = place-at c.loop-f.f-index c.loop-f-test.true in
    let text = rw at at c.mark_byte.ensures in
    stored_more (mark_text c.args.marks) c.loop-f.invariant (rw text at c.byte.ensures)

pub returns : goal.returns
unfolding marks_text
returns c =
    let e : c.loop-f.f-index ≡ filter_count = omega arith in
    rw e at c.loop-f.invariant
