-- "The bench also keeps totals of a run, kept and the four filters, in a record that a second form of the call takes and hands back": the
-- record, when it is full, what it is after one sheet, and after one sheet after the other. Assumes nothing.
use Rattle.std.specs.List.{list_any, fold}
use Rattle.std.specs.Prelude.{◌≡◌, Bool, false, ◌||◌, ℕ, ◌+◌, ◌^◌, ◌≤◌, leb, length, get_or, replicate}
use mathlib.Core.List.{List, [], ◌∷◌, ◌++◌, Option-to_list}
use Rattle.std.proofs.Math.Option.{Option, none, some}
use Rattle.folds.specs.Lists.{list_of}
use Rattle.refusals.specs.First.{Condition, ruled}
use Rattle.view.specs.View.{max_points}
use Rattle.marks.specs.Filters.{filter_count, validate, orientation, wrong, leaf, component}
use Rattle.runs.specs.declared.Run.{Run}

-- "kept and the four filters"; "the tally and the run's new sums gain `leaf` before `component`": the places in a tally whose numbers a run
-- adds up, in the order of its sums. A tally is a list of counts of indices: at the place of each filter in the table those under it, at
-- filter_count those kept.
abbrev pub summed : List ℕ
summed = filter_count ∷ validate ∷ orientation ∷ wrong ∷ leaf ∷ component ∷ []

-- "its five old sums": how many there are, whatever is added up since
abbrev pub old_sums : ℕ
old_sums = 5

-- ---- the start

-- "A run that started under the old count hands in its five old sums as u32s; they stand unchanged in a column of their own, the new sums and
-- the count of sheets beside them from 0"
abbrev pub run_from : List ℕ → Run
run_from old = record { old_sums = old; sheets = 0; new_sums = replicate (length summed) 0 }

-- a run that starts now: zeros throughout
abbrev pub new_run : Run
new_run = run_from (replicate old_sums 0)

-- ---- a full record

abbrev pub most_sheets : ℕ
most_sheets = 65535

abbrev pub sum_limit : ℕ
sum_limit = 2 ^ 31

-- "its record counts 65,535 or more accepted ones or has a new sum of 2^31 or more"
unfoldable pub full : Run → Bool
full r = leb most_sheets r.sheets || list_any (leb sum_limit) r.new_sums

-- "The run's call alone refuses with 11, before reading the file, any sheet if .."
unfoldable pub run_refusals : Run → List Condition
unfolding full
run_refusals r = (11, full r) ∷ []

-- ---- one sheet more

-- "totals of a run": one more sheet, and each new sum up by its number of the tally; the old sums "stand unchanged"
unfoldable pub with_sheet : Run → List ℕ → Run
unfolding list_of
with_sheet r tally =
    record {
      old_sums = r.old_sums;
      sheets = r.sheets + 1;
      new_sums = list_of (length summed) (λ (i : ℕ). get_or r.new_sums i 0 + get_or tally (get_or summed i 0) 0);
    }

-- no number of a tally is above the most points of a sheet
abbrev pub Small : List ℕ → Type 0
Small tally = (f : ℕ) → get_or tally f 0 ≤ max_points

-- the record takes a sheet with this tally
pub record Takes (r : Run) (tally : List ℕ) : Type 0 where
  pub room : full r ≡ false
  pub small : Small tally

-- ---- a sheet, and one sheet after the other

-- what a sheet hands a run: its tally, or none where it is refused
abbrev pub Yield : Type 0
Yield = Option (List ℕ)

-- what the run takes of it: none where the run refuses it first
unfoldable pub taken : Run → Yield → Yield
unfolding run_refusals
taken r sheet = ruled (λ (k : ℕ). none) sheet (run_refusals r)

-- "a refused sheet adds nothing"
abbrev pub added : Run → Yield → Run
added r none = r
added r (some tally) = with_sheet r tally

-- the record after one sheet, and after one sheet after the other
unfoldable pub run_with : Run → Yield → Run
unfolding taken with_sheet
run_with r sheet = added r (taken r sheet)

unfoldable pub run_over : Run → List Yield → Run
unfolding run_with
run_over r sheets = fold run_with r sheets

-- ---- what the run accepts

-- the tallies of the sheets that the run accepts, in their order
unfoldable pub tallies_in : Run → List Yield → List (List ℕ)
unfolding taken run_with Option-to_list
tallies_in r [] = []
tallies_in r (sheet ∷ l) = Option-to_list (taken r sheet) ++ tallies_in (run_with r sheet) l

-- the sum of their numbers at one place
unfoldable pub sum_in : ℕ → List (List ℕ) → ℕ
sum_in f [] = 0
sum_in f (tally ∷ l) = get_or tally f 0 + sum_in f l

-- some sheet is refused with 11: the record is full before it
unfoldable pub some_full : Run → List Yield → Bool
unfolding full run_with
some_full r [] = false
some_full r (sheet ∷ l) = full r || some_full (run_with r sheet) l
