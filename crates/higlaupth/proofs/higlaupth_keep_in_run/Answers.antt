use Rattle.std.proofs.Common.{◌≡◌, true, false, true≢false, refl, sym, ap, ◌∙◌, List, ℕ, Result, Ok, Err}
use Rattle.std.specs.Result.{is_ok}
use Rattle.refusals.specs.Number.{numbered}
use Rattle.refusals.specs.declared.Refusal.{Refusal}
use Rattle.runs.specs.declared.Run.{Run}
use Rattle.kept.specs.declared.Counts.{Counts}
use Rattle.kept_in_run.specs.InRun.{answer_in_run, run_after}
use Rattle.higlaupth.specs.Words.{words_of, words_by, run_in, words_after}
use Rattle.higlaupth.proofs.Number.{countable-in-run}
use Rattle.higlaupth.proofs.higlaupth_keep_in_run.Goals as goal

pub number_of-number-requires : goal.number_of-number-requires
number_of-number-requires c =
    rw c.keep_in_run-answer.ensures.answer (countable-in-run _ _ _ (λ k. (c.type_inv.file k).fits))

-- the words after the call, by what it gives of the record that the words hold
module _ (words file : List ℕ) (room : ℕ) {run after : Run} (answer : Result Counts Refusal) (e : run ≡ run_in words) (f : numbered answer ≡ answer_in_run run file room) (g : after ≡ run_after run file room) where
  after_is : words_by words after (numbered answer) ≡ words_after words file room
  unfolding words_after
  after_is =
      ap (λ (r : Run). words_by words r (numbered answer)) g ∙ ap (words_by words (run_after run file room)) f
      ∙ ap (λ (r : Run). words_by words (run_after r file room) (answer_in_run r file room)) e

  written : true ≡ is_ok answer → words_of after ≡ words_after words file room
  written t = go answer t ∙ after_is
    where
      go : (a : Result Counts Refusal) → true ≡ is_ok a → words_of after ≡ words_by words after (numbered a)
      go (Ok c) t = refl
      go (Err d) t = absurd (true≢false t)

  left : false ≡ is_ok answer → words ≡ words_after words file room
  left t = go answer t ∙ after_is
    where
      go : (a : Result Counts Refusal) → false ≡ is_ok a → words ≡ words_by words after (numbered a)
      go (Ok c) t = absurd (true≢false (sym t))
      go (Err d) t = refl

pub returns-then-is_ok-clause-run : goal.returns-then-is_ok-clause-run
returns-then-is_ok-clause-run c =
    let k = c.keep_in_run-answer.ensures in
    c.words_of-words.ensures ∙ written c.args.run.now c.args.file.now _ _ c.run_in-after.ensures k.answer k.run c.if-is_ok.ensures.value

pub returns-else-is_ok-clause-run : goal.returns-else-is_ok-clause-run
returns-else-is_ok-clause-run c =
    let k = c.keep_in_run-answer.ensures in
    left c.args.run.now c.args.file.now _ _ c.run_in-after.ensures k.answer k.run c.if-is_ok.ensures.value
