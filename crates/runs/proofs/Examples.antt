-- Runs worked out: records at their limits, three sheets of which one is refused, another order, and what fails without each condition of the
-- promises. Assumes nothing.
use mathlib.Core.Path.{◌≡◌, refl}
use mathlib.Core.Bool.{true, false}
use mathlib.Core.List.Permᴰ
use mathlib.Core.List.{List, [], ◌∷◌}
use mathlib.Core.Option.{none, some}
use Prim.Native.Nat.{ℕ, ◌+◌, ◌-◌, ◌*◌, ◌^◌}
use native.Mathlib.Omega.{arith}
use lib.Dec.{ltb}
use lib.ListN.{length, get_or, replicate}
use Rattle.folds.specs.Lists.{All}
use Rattle.view.specs.View.{max_points}
use Rattle.runs.specs.Run.{summed, old_sums, run_from, new_run, most_sheets, sum_limit, full, run_refusals, Yield, run_with, run_over, tallies_in, sum_in, some_full}
use Rattle.runs.specs.declared.Run.{Run}
use Rattle.runs.specs.Promises.{NoneFull, SmallYield, Bounded}
use Rattle.runs.proofs.Adding.{small_by}
use Rattle.runs.proofs.Theorems.{order-free, from_start}

-- a sheet's tally: kept, validate, orientation, wrong, leaf, component
abbrev tallied : ℕ → ℕ → ℕ → ℕ → ℕ → ℕ → Yield
tallied kept v o w l c = some (v ∷ o ∷ w ∷ l ∷ c ∷ kept ∷ [])

-- a sheet that keeps so many indices, and marks none
abbrev keeping : ℕ → Yield
keeping n = tallied n 0 0 0 0 0

abbrev pub record_of : List ℕ → ℕ → List ℕ → Run
record_of old sheets new = record { old_sums = old; sheets = sheets; new_sums = new }

-- so many sheets, on which so many indices were kept and none marked
abbrev record_at : ℕ → ℕ → Run
record_at sheets kept = record_of (replicate old_sums 0) sheets (kept ∷ replicate (length summed - 1) 0)

-- so many sheets, and the same number for each sum
abbrev evenly : ℕ → ℕ → ℕ → Run
evenly old sheets new = record_of (replicate old_sums old) sheets (replicate (length summed) new)

-- ---- the limits

count-below : full (record_at 65534 0) ≡ false
unfolding full
count-below = refl

count-reached : run_refusals (record_at 65535 0) ≡ (11, true) ∷ []
unfolding run_refusals
count-reached = refl

sum_below : full (record_at 0 (2 ^ 31 - 1)) ≡ false
unfolding full
sum_below = refl

-- a record from elsewhere: a run from its start on is full by its count alone
sum-reached : full (record_at 0 (2 ^ 31)) ≡ true
unfolding full
sum-reached = refl

-- the last sum counts as the first does
last-reached : full (record_of [] 0 (0 ∷ 0 ∷ 0 ∷ 0 ∷ 0 ∷ 2 ^ 31 ∷ [])) ≡ true
unfolding full
last-reached = refl

-- old sums are not looked at
old-at-most : full (evenly (2 ^ 32 - 1) 0 0) ≡ false
unfolding full
old-at-most = refl

-- ---- the totals: three sheets, of which one is refused

abbrev three : List Yield
three = tallied 4 0 0 0 0 1 ∷ none ∷ tallied 20 3 0 2 4 5 ∷ []

abbrev old : List ℕ
old = 100 ∷ 7 ∷ 1 ∷ 0 ∷ 9 ∷ []

three-totals : run_over (run_from old) three ≡ record_of old 2 (24 ∷ 3 ∷ 0 ∷ 2 ∷ 4 ∷ 6 ∷ [])
unfolding run_over
three-totals = refl

-- five old sums and six new ones; a sheet that keeps two indices and peels off a third
old-and-new : new_run ≡ record_of (0 ∷ 0 ∷ 0 ∷ 0 ∷ 0 ∷ []) 0 (0 ∷ 0 ∷ 0 ∷ 0 ∷ 0 ∷ 0 ∷ [])
old-and-new = refl

one-leaf : run_over (run_from old) (tallied 2 0 0 0 1 0 ∷ []) ≡ record_of old 1 (2 ∷ 0 ∷ 0 ∷ 0 ∷ 1 ∷ 0 ∷ [])
unfolding run_over
one-leaf = refl

three-tallies : tallies_in (run_from old) three ≡ (0 ∷ 0 ∷ 0 ∷ 0 ∷ 1 ∷ 4 ∷ []) ∷ (3 ∷ 0 ∷ 2 ∷ 4 ∷ 5 ∷ 20 ∷ []) ∷ []
unfolding tallies_in
three-tallies = refl

-- a full run takes none of them
three-refused : run_over (record_at 65535 0) three ≡ record_at 65535 0
unfolding run_over
three-refused = refl

-- past the last sum there is nothing, though what is read there of `summed` is a place in a tally, that of validate
past-last : get_or (run_over new_run (tallied 0 1 0 0 0 0 ∷ [])).new_sums (length summed) 0 ≡ 0
unfolding run_over
past-last = refl

past-last-sum : sum_in (get_or summed (length summed) 0) (tallies_in new_run (tallied 0 1 0 0 0 0 ∷ [])) ≡ 1
unfolding tallies_in sum_in
past-last-sum = refl

-- ---- another order of the sheets

abbrev turned : List Yield
turned = none ∷ tallied 20 3 0 2 4 5 ∷ tallied 4 0 0 0 0 1 ∷ []

three-turned : run_over (run_from old) three ≡ run_over (run_from old) turned
unfolding some_full
three-turned = order-free (run_from old) three turned (Permᴰ.trans (Permᴰ.swap refl refl) (Permᴰ.cons refl (Permᴰ.swap refl refl))) refl refl

-- near 2^31 one order takes both sheets, and the other refuses the second with 11
abbrev near : Run
near = record_at 0 (2 ^ 31 - 5)

small-first : run_over near (keeping 1 ∷ keeping 10 ∷ []) ≡ record_at 2 (2 ^ 31 + 6)
unfolding run_over
small-first = refl

large-first : run_over near (keeping 10 ∷ keeping 1 ∷ []) ≡ record_at 1 (2 ^ 31 + 5)
unfolding run_over
large-first = refl

small-first-none : some_full near (keeping 1 ∷ keeping 10 ∷ []) ≡ false
unfolding some_full
small-first-none = refl

large-first-eleven : some_full near (keeping 10 ∷ keeping 1 ∷ []) ≡ true
unfolding some_full
large-first-eleven = refl

-- ---- nothing wraps

-- the largest numbers with which a record still takes a sheet, and the largest sheet
at-limits : run_with (evenly (2 ^ 32 - 1) 65534 (2 ^ 31 - 1)) (tallied max_points max_points max_points max_points max_points max_points) ≡ evenly (2 ^ 32 - 1) 65535 (2 ^ 31 - 1 + max_points)
unfolding run_with
at-limits = refl

-- with a number above max_points a sum may reach 2^32
large-wraps : run_with (record_at 0 (2 ^ 31 - 1)) (keeping (2 ^ 31 + 1)) ≡ record_at 1 (2 ^ 32)
unfolding run_with
large-wraps = refl

-- a number that is no u32 stands as it is
no-u32 : (run_over (run_from (2 ^ 32 ∷ [])) []).old_sums ≡ 2 ^ 32 ∷ []
unfolding run_over
no-u32 = refl

-- ---- a run from its start on

three-small : All SmallYield three
three-small = (small_by (0 ∷ 0 ∷ 0 ∷ 0 ∷ 1 ∷ 4 ∷ []) refl, (tt, (small_by (3 ∷ 0 ∷ 2 ∷ 4 ∷ 5 ∷ 20 ∷ []) refl, tt)))

three-bounded : Bounded (run_over (run_from old) three)
three-bounded = from_start.stays (run_from old) three three-small (from_start.start old)

three-none-full : NoneFull (run_from old) three
three-none-full = from_start.none-full (run_from old) three three-small (from_start.start old) (omega arith)

-- as many sheets as a run counts, each of as many points as one has
largest-low : ltb (max_points * most_sheets) sum_limit ≡ true
largest-low = refl

-- one sheet with one more than max_points
one-over : get_or (run_over new_run (keeping (max_points + 1) ∷ [])).new_sums 0 0 ≡ max_points * 1 + 1
unfolding run_over
one-over = refl

-- a sheet of 2^31 fills the record by itself
one-fills : some_full new_run (keeping (2 ^ 31) ∷ none ∷ []) ≡ true
unfolding some_full
one-fills = refl

-- after the sheet with which the run counts 65,535 the next is refused
last-sheet : some_full (record_at 65534 0) (keeping 1 ∷ []) ≡ false
unfolding some_full
last-sheet = refl

one-too-many : some_full (record_at 65534 0) (keeping 1 ∷ keeping 1 ∷ []) ≡ true
unfolding some_full
one-too-many = refl
