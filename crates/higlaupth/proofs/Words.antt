-- The words of a record, one by one; and that nothing is lost between a record and its words. Assumes nothing.
use Rattle.std.specs.Prelude.{Ok, Err}
use mathlib.Core.Path.{◌≡◌, refl, sym, ap, ◌∙◌}
use mathlib.Core.List.{List, [], ◌∷◌, ◌++◌}
use mathlib.Core.Option.{none, some}
use Prim.Native.Nat.{ℕ, ◌+◌}
use lib.ListN.{length, get_or}
use Rattle.folds.specs.Lists.{up_from, list_of}
use Rattle.folds.proofs.Lists.{length-list, is-list}
use Rattle.runs.specs.Run.{summed, old_sums, with_sheet, Yield, taken, added}
use Rattle.runs.specs.declared.Run.{Run}
use Rattle.runs.proofs.Adding.{with-is}
use Rattle.kept.specs.Answer.{Answer, tally_of}
use Rattle.kept_in_run.specs.InRun.{answer_in_run, run_after}
use Rattle.kept_in_run.proofs.Laws.{after_is, refused-record}
use Rattle.kept_in_run.specs.Through.{Call, run_through}
use Rattle.higlaupth.specs.Words.{words_of, run_in, words_by, words_after, words_through}

-- the entries of a list of this length, one by one
pub entries : (n : ℕ) (l : List ℕ) → length l ≡ n → list_of n (λ (i : ℕ). get_or l i 0) ≡ l
entries n l e = sym (is-list 0 n (λ (i : ℕ). get_or l i 0) l e (λ k h. refl))

module _ (r : Run) (old : length r.old_sums ≡ old_sums) (new : length r.new_sums ≡ length summed) where
  abbrev one_by_one : List ℕ → ℕ → List ℕ
  one_by_one l n = list_of n (λ (i : ℕ). get_or l i 0)

  words_are : one_by_one r.old_sums old_sums ++ (r.sheets ∷ one_by_one r.new_sums (length summed)) ≡ words_of r
  words_are =
      ap (λ (l : List ℕ). l ++ (r.sheets ∷ one_by_one r.new_sums (length summed))) (entries old_sums r.old_sums old)
      ∙ ap (λ (l : List ℕ). r.old_sums ++ (r.sheets ∷ l)) (entries (length summed) r.new_sums new)

  -- a record is read again of its words
  pub run-again : run_in (words_of r) ≡ r
  unfolding run_in list_of up_from
  run-again =
      ap run_in (sym words_are)
      ∙ ap (λ (l : List ℕ). record { old_sums = l; sheets = r.sheets; new_sums = one_by_one r.new_sums (length summed) }) (entries old_sums r.old_sums old)
      ∙ ap (λ (l : List ℕ). record { old_sums = r.old_sums; sheets = r.sheets; new_sums = l }) (entries (length summed) r.new_sums new)

-- and so many words are those of their record
pub words-again : (words : List ℕ) → length words ≡ old_sums + 1 + length summed → words_of (run_in words) ≡ words
unfolding run_in list_of up_from
words-again words e = entries (old_sums + 1 + length summed) words e

-- ---- one call after the other

-- the record that words hold has as many sums as it should, and so has it with a sheet added
pub record Sized (r : Run) : Type 0 where
  pub old : length r.old_sums ≡ old_sums
  pub new : length r.new_sums ≡ length summed

added-sized : (words : List ℕ) (y : Yield) → Sized (added (run_in words) y)
unfolding run_in with_sheet
added-sized words none = record { old = length-list old_sums (λ (i : ℕ). get_or words i 0); new = length-list (length summed) (λ (i : ℕ). get_or words (old_sums + 1 + i) 0) }
added-sized words (some t) = record { old = length-list old_sums (λ (i : ℕ). get_or words i 0); new = length-list (length summed) (λ (i : ℕ). get_or (run_in words).new_sums i 0 + get_or t (get_or summed i 0) 0) }

after-sized : (words file : List ℕ) (room : ℕ) → Sized (run_after (run_in words) file room)
after-sized words file room =
    rw (after_is (run_in words) file room, with-is (run_in words) (tally_of file room)) (added-sized words (taken (run_in words) (tally_of file room)))

-- the words after a call are those of the record after it, or it is the record that they were of
pub after-words : (words file buffer : List ℕ) → run_in (words_after words file (length buffer)) ≡ run_after (run_in words) file (length buffer)
unfolding words_after
after-words words file buffer = go (answer_in_run (run_in words) file (length buffer)) refl
  where
    go : (a : Answer) → answer_in_run (run_in words) file (length buffer) ≡ a → run_in (words_by words (run_after (run_in words) file (length buffer)) a) ≡ run_after (run_in words) file (length buffer)
    go (Err k) e = sym (refused-record (run_in words) file buffer k e)
    go (Ok c) e = let z = after-sized words file (length buffer) in run-again (run_after (run_in words) file (length buffer)) z.old z.new

-- the record that the words hold goes through the calls as the promises on runs say (promises/specs/Runs.antt)
pub words-through : (words : List ℕ) (calls : List Call) → run_in (words_through words calls) ≡ run_through (run_in words) calls
unfolding words_through run_through
words-through words [] = refl
words-through words (c ∷ l) =
    words-through (words_after words c.file (length c.buffer)) l ∙ ap (λ (r : Run). run_through r l) (after-words words c.file c.buffer)
