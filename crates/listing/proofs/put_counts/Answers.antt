use Rattle.std.proofs.Common.{◌≡◌, ◌∙◌, ◌++◌, get_or, rules}
use Rattle.text.specs.Text.{bytes}
use Rattle.marks.specs.Filters.{filter_at}
use Rattle.marks.specs.Places.{place, all_filters}
use Rattle.marks.specs.declared.filters.Filter.TheVariants.{Validate}
use Rattle.marks.proofs.Places.{place-at}
use Rattle.text.proofs.Stores.{stored-start, stored-then, stored_more}
use Rattle.listing.specs.Listing.{count_text}
use Rattle.listing.proofs.put_counts.Goals as goal

pub loop-f-init : goal.loop-f-init
loop-f-init c = search (rules, stored-start)

pub loop-f-preserved : goal.loop-f-preserved
loop-f-preserved c =
    let at = place-at c.loop-f.f-index c.loop-f-test.true in
    let p : c.place.result ≡ place (get_or all_filters c.loop-f.f-index Validate) = c.place.ensures.0 in
    let i : c.place.result ≡ c.loop-f.f-index = p ∙ at in
    let w : c.word.result.now ≡ bytes " " ++ bytes (filter_at c.loop-f.f-index).word ++ bytes " " = rw at at c.word.ensures in
    stored_more (λ j. count_text j (get_or c.args.counts.now j 0)) c.loop-f.invariant
    (stored-then (rw w at c.text.ensures) (rw i at c.decimal.ensures))
