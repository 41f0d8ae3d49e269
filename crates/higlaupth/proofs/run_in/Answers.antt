use Rattle.std.proofs.Common.{rules, length, refl, ◌≡◌, ◌+◌}
use Rattle.folds.specs.Lists.{up_from, list_of}
use Rattle.runs.specs.Run.{old_sums, summed}
use Rattle.higlaupth.specs.Words.{run_in}
use Rattle.higlaupth.proofs.Words.{entries}
use Rattle.higlaupth.proofs.run_in.Goals as goal

pub returns : goal.returns
unfolding run_in list_of up_from
returns c =
    let e : length c.args.words.now ≡ old_sums + 1 + length summed = search rules in
    rw (c.copy_from_slice.ensures.after, c.copy_from_slice-2.ensures.after, ← entries (old_sums + 1 + length summed) c.args.words.now e) refl
