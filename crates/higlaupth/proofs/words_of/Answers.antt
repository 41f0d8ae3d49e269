use Rattle.std.proofs.Common.{rules, length, refl, ◌≡◌}
use Rattle.folds.specs.Lists.{up_from, list_of}
use Rattle.runs.specs.Run.{old_sums, summed}
use Rattle.higlaupth.proofs.Words.{entries}
use Rattle.higlaupth.proofs.words_of.Goals as goal

pub returns : goal.returns
unfolding list_of up_from
returns c =
    let r = c.args.run in
    let e : length r.old_sums ≡ old_sums = search rules in
    let f : length r.new_sums ≡ length summed = search rules in
    rw (c.copy_from_slice.ensures.after, c.copy_from_slice-2.ensures.after, ← entries old_sums r.old_sums e, ← entries (length summed) r.new_sums f) refl
