-- The promises of specs/Runs.antt: what is proved of records and tallies, carried over to files and buffers. Assumes nothing.
use Rattle.std.specs.Prelude.{Ok, Err}
use mathlib.Core.Path.{◌≡◌, refl, sym, ap, ◌∙◌}
use mathlib.Core.Bool.{Bool, true, false, cond, ◌||◌, true≢false}
use mathlib.Core.Logic.{inl, inr}
use mathlib.Core.List.{List, [], ◌∷◌, ◌++◌, Option-to_list, Permᴰ}
use mathlib.Core.Option.{none, some}
use Prim.Native.Nat.{ℕ, suc}
use native.Mathlib.Omega.{arith}
use lib.ListN.{length}
use Rattle.folds.specs.Lists.{All}
use Rattle.ruling.specs.Ruling.{Ruling, refused, accepted, ruling_of, rows_size}
use Rattle.ruling.proofs.Given.{is-given, sheet-number}
use Rattle.ruling.proofs.Order.{same-ruling}
use Rattle.runs.specs.Run.{full, run_from, Yield, taken, run_with, run_over, tallies_in, some_full}
use Rattle.runs.specs.Promises.{NoneFull, SmallYield}
use Rattle.runs.specs.declared.Run.{Run}
use Rattle.runs.proofs.Adding.{taken_is, over_none, over-cons, full-none, full-cons}
use Rattle.runs.proofs.Theorems.{run-totals, order-free, nothing-wraps, from_start}
use Rattle.kept.specs.Answer.{Answer, answer_by, tally_by, answer_of, tally_of}
use Rattle.kept.specs.declared.Counts.{Counts}
use Rattle.kept.proofs.Bounds.{tally-bounded}
use Rattle.kept_in_run.specs.InRun.{answer_in_run, run_after}
use Rattle.kept_in_run.specs.Through.{Call, run_through, answers_in}
use Rattle.kept_in_run.proofs.Laws.{answer-is, after_is, never-eleven, eleven, else-answer, else-rows, eleven-only, refused-record, refused-rows, sheet-added}
use Rattle.sheet_map.proofs.Laws.{number-given}
use Rattle.promises.specs.Runs.{CallInRunPromise, ElevenAlonePromise, if_accepted, accepted_tallies, accepted_count, RunTotalsPromise, NoneEleven, RunOrderPromise, OtherListing, RunListingPromise, RunSizePromise}
use Rattle.std.proofs.lemmas.Bool.{false_from_ne_true, or_parts}

-- ---- one call

pub eleven-alone : ElevenAlonePromise
eleven-alone file = record {
  sheet = never-eleven file;
  map = λ e. (sheet-number 11 (is-given file rows_size 11 (number-given file 11 e (λ q. absurd (omega arith)))).listed).not-run refl;
}

pub call-in-run : CallInRunPromise
call-in-run r file buffer = record {
  eleven = eleven r file buffer;
  eleven-only = eleven-only r file buffer;
  else-answer = else-answer r file buffer;
  else-rows = else-rows r file buffer;
  refused-record = refused-record r file buffer;
  refused-rows = refused-rows r file buffer;
  added = sheet-added r file buffer;
}

-- ---- one call after the other

-- what the sheet of a call hands a run
abbrev yield_of : Call → Yield
yield_of c = tally_of c.file (length c.buffer)

abbrev yields : List Call → List Yield
yields [] = []
yields (c ∷ l) = yield_of c ∷ yields l

through-is : (r : Run) (calls : List Call) → run_through r calls ≡ run_over r (yields calls)
unfolding run_through
through-is r [] = sym (over_none r)
through-is r (c ∷ l) = through-is (run_after r c.file (length c.buffer)) l ∙ ap (λ (x : Run). run_over x (yields l)) (after_is r c.file (length c.buffer)) ∙ sym (over-cons r (yield_of c) (yields l))

-- the tally is there if the answer is accepted
by_answer : (file : List ℕ) (room : ℕ) → if_accepted (answer_of file room) (tally_of file room) ≡ Option-to_list (tally_of file room)
unfolding answer_of tally_of Option-to_list
by_answer file room = go (ruling_of file room)
  where
    go : (x : Ruling) → if_accepted (answer_by x) (tally_by x) ≡ Option-to_list (tally_by x)
    go (refused j) = refl
    go (accepted s ps) = refl

-- what the run takes of a sheet
taken-tally : (r : Run) (c : Call) → if_accepted (answer_in_run r c.file (length c.buffer)) (yield_of c) ≡ Option-to_list (taken r (yield_of c))
unfolding Option-to_list
taken-tally r c = rw (answer-is r c.file (length c.buffer), taken_is r (yield_of c)) (go (full r))
  where
    go : (b : Bool) → if_accepted (cond b (Err 11) (answer_of c.file (length c.buffer))) (yield_of c) ≡ Option-to_list (cond b none (yield_of c))
    go true = refl
    go false = by_answer c.file (length c.buffer)

tallies-are : (r : Run) (calls : List Call) → accepted_tallies r calls ≡ tallies_in r (yields calls)
unfolding accepted_tallies tallies_in
tallies-are r [] = refl
tallies-are r (c ∷ l) =
    ap (λ (t : List (List ℕ)). t ++ accepted_tallies (run_after r c.file (length c.buffer)) l) (taken-tally r c)
    ∙ ap (λ (t : List (List ℕ)). Option-to_list (taken r (yield_of c)) ++ t) (tallies-are (run_after r c.file (length c.buffer)) l ∙ ap (λ (x : Run). tallies_in x (yields l)) (after_is r c.file (length c.buffer)))

-- a tally for each that is accepted
accepted-length : (a : Answer) (t : Yield) (answers : List Answer) (tallies : List (List ℕ)) → ((c : Counts) → a ≡ Ok c → (x : List ℕ) × (t ≡ some x)) → length tallies ≡ accepted_count answers
    → length (if_accepted a t ++ tallies) ≡ accepted_count (a ∷ answers)
unfolding accepted_count Option-to_list
accepted-length (Err k) t answers tallies h e = e
accepted-length (Ok c) t answers tallies h e = rw (h c refl).1 (omega (arith, e))

each-tally : (r : Run) (calls : List Call) → length (accepted_tallies r calls) ≡ accepted_count (answers_in r calls)
unfolding accepted_tallies answers_in accepted_count
each-tally r [] = refl
each-tally r (c ∷ l) =
    let next = run_after r c.file (length c.buffer) in
    accepted-length (answer_in_run r c.file (length c.buffer)) (yield_of c) (answers_in next l) (accepted_tallies next l)
    (λ n e. let a = sheet-added r c.file c.buffer n e in (a.0, a.1)) (each-tally next l)

pub totals-through : RunTotalsPromise
totals-through r calls = record { totals = rw (tallies-are r calls, through-is r calls) (run-totals r (yields calls)); each = each-tally r calls }

-- ---- another order

none-full : (r : Run) (calls : List Call) → NoneEleven r calls → NoneFull r (yields calls)
unfolding answers_in
none-full r [] h = full-none r
none-full r (c ∷ l) h =
    full-cons r (yield_of c) (yields l)
    ∙ ap (λ (b : Bool). b || some_full (run_with r (yield_of c)) (yields l)) (false_from_ne_true (full r) (λ e. h.0 (eleven r c.file c.buffer e)))
    ∙ ap (λ (x : Run). some_full x (yields l)) (sym (after_is r c.file (length c.buffer)))
    ∙ none-full (run_after r c.file (length c.buffer)) l h.1

none-eleven : (r : Run) (calls : List Call) → NoneFull r (yields calls) → NoneEleven r calls
unfolding answers_in
none-eleven r [] h = tt
none-eleven r (c ∷ l) h =
    let e = or_parts (full r) (some_full (run_with r (yield_of c)) (yields l)) (sym (full-cons r (yield_of c) (yields l)) ∙ h) in
    ((λ q. true≢false (sym (eleven-only r c.file c.buffer q) ∙ e.0)), none-eleven (run_after r c.file (length c.buffer)) l (rw (after_is r c.file (length c.buffer)) e.1))

yields-order : {a b : List Call} → Permᴰ a b → Permᴰ (yields a) (yields b)
yields-order Permᴰ.nil = Permᴰ.nil
yields-order (Permᴰ.cons e p) = Permᴰ.cons (ap yield_of e) (yields-order p)
yields-order (Permᴰ.swap e f) = Permᴰ.swap (ap yield_of e) (ap yield_of f)
yields-order (Permᴰ.trans p q) = Permᴰ.trans (yields-order p) (yields-order q)

pub run-order : RunOrderPromise
run-order r a b p ha hb = through-is r a ∙ order-free r (yields a) (yields b) (yields-order p) (none-full r a ha) (none-full r b hb) ∙ sym (through-is r b)

-- ---- another listing of each sheet

abbrev ruling_in : Call → Ruling
ruling_in c = ruling_of c.file (length c.buffer)

one-ruling : (c d : Call) → OtherListing c d → ruling_in d ≡ ruling_in c
one-ruling c d o =
    ap (ruling_of d.file) o.room ∙ sym (same-ruling c.file d.file o.layout o.bytes o.framed o.relisted (length c.buffer))

answer-same : (r : Run) (c d : Call) → ruling_in d ≡ ruling_in c → answer_in_run r d.file (length d.buffer) ≡ answer_in_run r c.file (length c.buffer)
unfolding answer_of
answer-same r c d e = answer-is r d.file (length d.buffer) ∙ ap (λ (x : Ruling). cond (full r) (Err 11) (answer_by x)) e ∙ sym (answer-is r c.file (length c.buffer))

after_same : (r : Run) (c d : Call) → ruling_in d ≡ ruling_in c → run_after r d.file (length d.buffer) ≡ run_after r c.file (length c.buffer)
unfolding tally_of
after_same r c d e = after_is r d.file (length d.buffer) ∙ ap (λ (x : Ruling). run_with r (tally_by x)) e ∙ sym (after_is r c.file (length c.buffer))

pub run-listing : RunListingPromise
unfolding run_through answers_in
run-listing r [] [] h = record { record_same = refl; answers-same = refl }
run-listing r [] (d ∷ m) h = absurd h
run-listing r (c ∷ l) [] h = absurd h
run-listing r (c ∷ l) (d ∷ m) h =
    let e : ruling_in d ≡ ruling_in c = elim h.0 [ inl q ↦ ap ruling_in (sym q) | inr o ↦ one-ruling c d o ] in
    let next = run_after r c.file (length c.buffer) in
    let rest = run-listing next l m h.1 in
    record {
      record_same = ap (λ (x : Run). run_through x m) (after_same r c d e) ∙ rest.record_same;
      answers-same =
          ap (λ (a : Answer). a ∷ answers_in (run_after r d.file (length d.buffer)) m) (answer-same r c d e)
          ∙ ap (λ (x : Run). answer_in_run r c.file (length c.buffer) ∷ answers_in x m) (after_same r c d e)
          ∙ ap (λ (a : List Answer). answer_in_run r c.file (length c.buffer) ∷ a) rest.answers-same;
    }

-- ---- the size of the numbers

smalls : (calls : List Call) → All SmallYield (yields calls)
smalls [] = tt
smalls (c ∷ l) = (go (yield_of c) refl, smalls l)
  where
    go : (y : Yield) → yield_of c ≡ y → SmallYield y
    go none e = tt
    go (some t) e = tally-bounded c.file (length c.buffer) e

yields-length : (calls : List Call) → length (yields calls) ≡ length calls
yields-length [] = refl
yields-length (c ∷ l) = ap suc (yields-length l)

pub run-size : RunSizePromise
run-size = record {
  fits = λ r calls h. rw (through-is r calls) (nothing-wraps r (yields calls) (smalls calls) h);
  bounded = λ old calls. rw (through-is (run_from old) calls) (from_start.stays (run_from old) (yields calls) (smalls calls) (from_start.start old));
  none-eleven = λ old calls h. none-eleven (run_from old) calls (from_start.none-full (run_from old) (yields calls) (smalls calls) (from_start.start old) (omega (arith, h, yields-length calls)));
}
