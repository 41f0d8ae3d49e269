-- What holds of every run. Each promise is a type; proofs/Theorems.antt proves them. Assumes nothing.
use Rattle.std.specs.Prelude.{◌≡◌, true, false, ℕ, ◌+◌, ◌*◌, ◌^◌, ◌≤◌, ◌<◌, eqb, length, get_or}
use mathlib.Core.List.{List, Permᴰ}
use Rattle.std.proofs.Math.Option.{none, some}
use Rattle.folds.specs.Lists.{All}
use Rattle.view.specs.View.{max_points}
use Rattle.runs.specs.Run.{summed, run_from, most_sheets, sum_limit, full, with_sheet, Small, Yield, run_with, run_over, tallies_in, sum_in, some_full}
use Rattle.runs.specs.declared.Run.{Run}

-- ---- one sheet

-- "a refused sheet adds nothing", whether the run refuses it or it is refused by itself; an accepted one is added
pub record AfterSheet (r : Run) : Type 0 where
  pub when-full : full r ≡ true → (sheet : Yield) → run_with r sheet ≡ r
  pub refused : run_with r none ≡ r
  pub accepted : full r ≡ false → (tally : List ℕ) → run_with r (some tally) ≡ with_sheet r tally

abbrev pub SheetPromise : Type 0
SheetPromise = (r : Run) → AfterSheet r

-- ---- the totals

-- the old sums "stand unchanged", the count of sheets is up by the number of these tallies, and each new sum by their numbers
pub record Totals (before : Run) (tallies : List (List ℕ)) (after : Run) : Type 0 where
  pub old : after.old_sums ≡ before.old_sums
  pub count : after.sheets ≡ before.sheets + length tallies
  pub new : (i : ℕ) → i < length summed → get_or after.new_sums i 0 ≡ get_or before.new_sums i 0 + sum_in (get_or summed i 0) tallies

-- "totals of a run": from any record on, over any sheets, they are those of the sheets that the run accepts
abbrev pub TotalsPromise : Type 0
TotalsPromise = (r : Run) (sheets : List Yield) → Totals r (tallies_in r sheets) (run_over r sheets)

-- ---- another order of the sheets

-- no sheet is refused with 11
abbrev pub NoneFull : Run → List Yield → Type 0
NoneFull r sheets = some_full r sheets ≡ false

-- the record is the same, if no sheet is refused with 11 in either order
abbrev pub OrderPromise : Type 0
OrderPromise = (r : Run) (a b : List Yield) → Permᴰ a b → NoneFull r a → NoneFull r b → run_over r a ≡ run_over r b

-- ---- the size of the numbers

-- no number of the tally that a sheet hands the run is above the most points of a sheet
abbrev pub SmallYield : Yield → Type 0
SmallYield none = Unit {0}
SmallYield (some tally) = Small tally

-- "as u32s"
pub record FitsU32 (r : Run) : Type 0 where
  pub old : (i : ℕ) → get_or r.old_sums i 0 < 2 ^ 32
  pub count : r.sheets < 2 ^ 32
  pub new : (i : ℕ) → get_or r.new_sums i 0 < 2 ^ 32

-- nothing wraps, from any record of u32s on
abbrev pub FitsPromise : Type 0
FitsPromise = (r : Run) (sheets : List Yield) → All SmallYield sheets → FitsU32 r → FitsU32 (run_over r sheets)

-- at most 65,535 sheets, each of which adds at most max_points to a sum
pub record Bounded (r : Run) : Type 0 where
  pub few : r.sheets ≤ most_sheets
  pub each : (i : ℕ) → get_or r.new_sums i 0 ≤ max_points * r.sheets

-- So is a run from its start on, "from 0": each of its sums is below 2^31, it is full just where it counts 65,535 sheets, and 11 is given to none of
-- the first 65,535. The limit of 2^31 is for records from elsewhere.
pub record StartPromise : Type 0 where
  pub start : (old : List ℕ) → Bounded (run_from old)
  pub stays : (r : Run) (sheets : List Yield) → All SmallYield sheets → Bounded r → Bounded (run_over r sheets)
  pub low : (r : Run) → Bounded r → (i : ℕ) → get_or r.new_sums i 0 < sum_limit
  pub full-by-count : (r : Run) → Bounded r → full r ≡ eqb r.sheets most_sheets
  pub none-full : (r : Run) (sheets : List Yield) → All SmallYield sheets → Bounded r → r.sheets + length sheets ≤ most_sheets → NoneFull r sheets
