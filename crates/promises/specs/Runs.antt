-- "totals of a run": what holds of one call in a run, and of any list of files and buffers from any record on. What holds of records and
-- tallies alone stands in runs/specs/Promises.antt. Assumes nothing.
use Rattle.std.specs.Prelude.{◌≡◌, true, false, ◌⊎◌, ℕ, ◌+◌, ◌≤◌, length, Some, Ok, Err}
use mathlib.Core.List.{List, [], ◌∷◌, ◌++◌, Option-to_list, Permᴰ}
use Rattle.std.proofs.Math.Option.{Option, some}
use Rattle.folds.specs.Lists.{All}
use Rattle.sheet_file.specs.Bytes.{Bytes}
use Rattle.sheet_file.specs.Frame.{framing_of}
use Rattle.sheet_file.specs.declared.Layout.{Layout}
use Rattle.ruling.specs.Ruling.{refused}
use Rattle.ruling.specs.Order.{Relisted}
use Rattle.runs.specs.Run.{most_sheets, full, run_from, with_sheet}
use Rattle.runs.specs.Promises.{Totals, FitsU32, Bounded}
use Rattle.runs.specs.declared.Run.{Run}
use Rattle.kept.specs.Answer.{Answer, answer_of, rows_after, tally_of}
use Rattle.kept.specs.declared.Counts.{Counts}
use Rattle.kept_in_run.specs.InRun.{answer_in_run, run_after, rows_in_run}
use Rattle.kept_in_run.specs.Through.{Call, run_through, answers_in}
use Rattle.sheet_map.specs.Text.{map_ruling_of}

-- ---- one call

-- "The run's call alone refuses with 11, before reading the file, any sheet if its record counts 65,535 or more accepted ones or has a new sum
-- of 2^31 or more": whatever the file and the buffer
pub record CallInRun (r : Run) (file buffer : List ℕ) : Type 0 where
  -- 11 is given exactly where the record is full; else the sheet's own answer and rows
  pub eleven : full r ≡ true → answer_in_run r file (length buffer) ≡ Err 11
  pub eleven-only : answer_in_run r file (length buffer) ≡ Err 11 → full r ≡ true
  pub else-answer : full r ≡ false → answer_in_run r file (length buffer) ≡ answer_of file (length buffer)
  pub else-rows : full r ≡ false → rows_in_run r file buffer ≡ rows_after file buffer
  -- a refusal writes nothing and leaves the record as it was
  pub refused-record : (k : ℕ) → answer_in_run r file (length buffer) ≡ Err k → run_after r file (length buffer) ≡ r
  pub refused-rows : (k : ℕ) → answer_in_run r file (length buffer) ≡ Err k → rows_in_run r file buffer ≡ buffer
  -- an accepted sheet is added with its tally
  pub added : (c : Counts) → answer_in_run r file (length buffer) ≡ Ok c → (t : List ℕ) × (tally_of file (length buffer) ≡ some t) × (run_after r file (length buffer) ≡ with_sheet r t)

abbrev pub CallInRunPromise : Type 0
CallInRunPromise = (r : Run) (file buffer : List ℕ) → CallInRun r file buffer

-- "The run's call alone": neither the call on a sheet nor the map gives 11
pub record ElevenAlone (file : List ℕ) : Type 0 where
  pub sheet : (room : ℕ) → answer_of file room ≡ Err 11 → ⊥
  pub map : map_ruling_of file ≡ refused 11 → ⊥

abbrev pub ElevenAlonePromise : Type 0
ElevenAlonePromise = (file : List ℕ) → ElevenAlone file

-- ---- one call after the other

-- the tally of a sheet, if this is its answer
abbrev pub if_accepted : Answer → Option (List ℕ) → List (List ℕ)
if_accepted (Err k) tally = []
if_accepted (Ok c) tally = Option-to_list tally

-- the tallies of the sheets that are accepted, in their order
unfoldable pub accepted_tallies : Run → List Call → List (List ℕ)
unfolding run_after answer_in_run tally_of Option-to_list
accepted_tallies r [] = []
accepted_tallies r (c ∷ l) =
    if_accepted (answer_in_run r c.file (length c.buffer)) (tally_of c.file (length c.buffer)) ++ accepted_tallies (run_after r c.file (length c.buffer)) l

-- how many of the answers accept
unfoldable pub accepted_count : List Answer → ℕ
accepted_count [] = 0
accepted_count (Err k ∷ l) = accepted_count l
accepted_count (Ok c ∷ l) = accepted_count l + 1

-- the new sums are up by those of the accepted sheets' tallies, the old ones stand, the count is up by the number of accepted sheets
pub record RunTotals (r : Run) (calls : List Call) : Type 0 where
  pub totals : Totals r (accepted_tallies r calls) (run_through r calls)
  -- each accepted sheet has its tally among them
  pub each : length (accepted_tallies r calls) ≡ accepted_count (answers_in r calls)

abbrev pub RunTotalsPromise : Type 0
RunTotalsPromise = (r : Run) (calls : List Call) → RunTotals r calls

-- ---- the sheets in another order

-- none of the calls is answered with 11
abbrev pub NoneEleven : Run → List Call → Type 0
NoneEleven r calls = All (λ (a : Answer). a ≡ Err 11 → ⊥) (answers_in r calls)

-- the order of the sheets does not matter while none is refused with 11
abbrev pub RunOrderPromise : Type 0
RunOrderPromise = (r : Run) (a b : List Call) → Permᴰ a b → NoneEleven r a → NoneEleven r b → run_through r a ≡ run_through r b

-- ---- each sheet in another listing

-- "Another order is any rearrangement of the points in tag 3, all else and the result buffer's length unchanged": of a well-framed file
pub record OtherListing (c d : Call) : Type 0 where
  pub layout : Layout
  pub bytes : Bytes c.file
  pub framed : framing_of c.file ≡ Some layout
  pub relisted : Relisted c.file d.file layout
  pub room : length d.buffer ≡ length c.buffer

-- each of the calls is as it was, or of another listing of the same sheet
abbrev pub OtherListings : List Call → List Call → Type 0
OtherListings [] [] = Unit {0}
OtherListings [] (d ∷ m) = ⊥
OtherListings (c ∷ l) [] = ⊥
OtherListings (c ∷ l) (d ∷ m) = ((c ≡ d) ⊎ OtherListing c d) × OtherListings l m

pub record SameRun (r : Run) (a b : List Call) : Type 0 where
  pub record_same : run_through r b ≡ run_through r a
  pub answers-same : answers_in r b ≡ answers_in r a

-- another listing of each sheet gives the same record, and the same answers
abbrev pub RunListingPromise : Type 0
RunListingPromise = (r : Run) (a b : List Call) → OtherListings a b → SameRun r a b

-- ---- the size of the numbers

pub record RunSizePromise : Type 0 where
  -- nothing wraps, from any record of u32s on
  pub fits : (r : Run) (calls : List Call) → FitsU32 r → FitsU32 (run_through r calls)
  -- from its start on a run counts at most 65,535 sheets, and each adds at most max_points to a sum: far below 2^31
  pub bounded : (old : List ℕ) (calls : List Call) → Bounded (run_through (run_from old) calls)
  -- none of its first 65,535 sheets gets 11
  pub none-eleven : (old : List ℕ) (calls : List Call) → length calls ≤ most_sheets → NoneEleven (run_from old) calls
