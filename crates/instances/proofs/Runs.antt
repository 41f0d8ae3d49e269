-- "totals of a run": three small files, one of them refused, in two orders and in another listing; records near their limits, where an order
-- matters. Assumes nothing.
use Rattle.std.specs.List.{list_any}
use Rattle.std.specs.Prelude.{Some, Ok, Err}
use mathlib.Core.Path.{◌≡◌, refl, sym, ap, ◌∙◌}
use mathlib.Core.Bool.{false}
use mathlib.Core.Logic.{inl, inr}
use mathlib.Core.List.Permᴰ
use mathlib.Core.List.{List, [], ◌∷◌, Permᴰ}
use Prim.Native.Nat.{ℕ, ◌+◌, ◌-◌, ◌^◌, ◌<◌}
use native.Mathlib.Omega.{arith}
use lib.Dec.{leb}
use lib.ListN.{length, get_or, replicate}
use borrow.Author.Tests.{leb-false}
use Rattle.sheet_file.specs.Bytes.{Bytes}
use Rattle.sheet_file.specs.Frame.{framing_of, layout_of}
use Rattle.sheet_file.specs.declared.Layout.{Layout}
use Rattle.ruling.specs.Order.{records_in, Relisted}
use Rattle.ruling.proofs.Weights.{bytes-by}
use Rattle.runs.specs.Run.{full, new_run, run_from, run_refusals, run_with}
use Rattle.runs.specs.Promises.{FitsU32, Bounded}
use Rattle.runs.specs.declared.Run.{Run}
use Rattle.runs.proofs.Full.{none-at}
use Rattle.refusals.proofs.Number.{err-no-ok}
use Rattle.kept.specs.Answer.{answer_of, tally_of}
use Rattle.kept_in_run.specs.InRun.{answer_in_run, run_after}
use Rattle.kept_in_run.specs.Through.{Call, run_through, answers_in}
use Rattle.promises.specs.Runs.{accepted_tallies, RunTotals, NoneEleven, OtherListing, SameRun}
use Rattle.promises.proofs.Running.{call-in-run, eleven-alone, totals-through, run-order, run-listing, run-size}
use Rattle.stars.specs.Stars.{rules-compute}
use Rattle.stars.specs.Listed.{file, file-computes, row_file}
use Rattle.instances.specs.Files.{doubled_file, cut_file}
use Rattle.instances.proofs.KeptPatch.{file-bytes}
use Rattle.instances.proofs.AnotherOrder.{turned, framed, is-relisted, near_file, zero_size_file, near-framed, records-same}
use Rattle.runs.proofs.Examples.{record_of}

-- the call on a file, with a buffer of so many bytes
abbrev call_on : List ℕ → ℕ → Call
call_on file room = record { file = file; buffer = replicate room 0 }

-- This name on an `unfolding` line opens every definition that a run of files computes by.
unfoldable runs-compute : ℕ
unfolding run_through answers_in accepted_tallies answer_in_run run_after run_with run_refusals answer_of tally_of file-computes rules-compute
runs-compute = 0

-- ---- three sheets, of which the second is refused

abbrev three : List Call
three = call_on file 140 ∷ call_on cut_file 140 ∷ call_on doubled_file 56 ∷ []

abbrev old : List ℕ
old = 812 ∷ 40 ∷ 3 ∷ 25 ∷ 120 ∷ []

pub three-answers : answers_in (run_from old) three ≡ Ok (record { points = 5; components = 2; rounds = 0 }) ∷ Err 1 ∷ Ok (record { points = 2; components = 1; rounds = 0 }) ∷ []
unfolding runs-compute
three-answers = refl

pub three-run : run_through (run_from old) three ≡ record_of old 2 (5 ∷ 0 ∷ 0 ∷ 0 ∷ 0 ∷ 1 ∷ [])
unfolding runs-compute
three-run = refl

-- what the promise says of it: the old sums stand, two sheets are counted, and kept has the sum of 4 and 1
pub three-totals : RunTotals (run_from old) three
three-totals = totals-through (run_from old) three

pub three-tallies : accepted_tallies (run_from old) three ≡ (0 ∷ 0 ∷ 0 ∷ 0 ∷ 1 ∷ 4 ∷ []) ∷ (0 ∷ 0 ∷ 0 ∷ 0 ∷ 0 ∷ 1 ∷ []) ∷ []
unfolding runs-compute
three-tallies = refl

-- ---- the same sheets the other way round

abbrev three_turned : List Call
three_turned = call_on doubled_file 56 ∷ call_on cut_file 140 ∷ call_on file 140 ∷ []

turned_round : Permᴰ three three_turned
turned_round = Permᴰ.trans (Permᴰ.swap refl refl) (Permᴰ.trans (Permᴰ.cons refl (Permᴰ.swap refl refl)) (Permᴰ.swap refl refl))

pub three-turned : run_through (run_from old) three_turned ≡ record_of old 2 (5 ∷ 0 ∷ 0 ∷ 0 ∷ 0 ∷ 1 ∷ [])
three-turned =
    sym (run-order (run_from old) three three_turned turned_round (run-size.none-eleven old three (omega arith))
    (run-size.none-eleven old three_turned (omega arith)))
    ∙ three-run

-- ---- a sheet with L marks: the row of three whose first two points go, "leaf" the fifth of the new sums

pub row-run : run_through (run_from old) (call_on row_file 84 ∷ []) ≡ record_of old 1 (1 ∷ 0 ∷ 0 ∷ 0 ∷ 2 ∷ 0 ∷ [])
unfolding runs-compute
row-run = refl

-- ---- a record from elsewhere, with 2^31 - 3 indices kept: one order takes both sheets, the other refuses the second with 11

abbrev nearly : Run
nearly = record_of (replicate 5 0) 0 ((2 ^ 31 - 3) ∷ 0 ∷ 0 ∷ 0 ∷ 0 ∷ 0 ∷ [])

abbrev few_first : List Call
few_first = call_on doubled_file 56 ∷ call_on file 140 ∷ []

abbrev many_first : List Call
many_first = call_on file 140 ∷ call_on doubled_file 56 ∷ []

few-answers : answers_in nearly few_first ≡ Ok (record { points = 2; components = 1; rounds = 0 }) ∷ Ok (record { points = 5; components = 2; rounds = 0 }) ∷ []
unfolding runs-compute
few-answers = refl

pub many-answers : answers_in nearly many_first ≡ Ok (record { points = 5; components = 2; rounds = 0 }) ∷ Err 11 ∷ []
unfolding runs-compute
many-answers = refl

few-run : run_through nearly few_first ≡ record_of (replicate 5 0) 2 ((2 ^ 31 + 2) ∷ 0 ∷ 0 ∷ 0 ∷ 0 ∷ 1 ∷ [])
unfolding runs-compute
few-run = refl

many-run : run_through nearly many_first ≡ record_of (replicate 5 0) 1 ((2 ^ 31 + 1) ∷ 0 ∷ 0 ∷ 0 ∷ 0 ∷ 1 ∷ [])
unfolding runs-compute
many-run = refl

none-in-few : NoneEleven nearly few_first
none-in-few = rw few-answers ((λ e. err-no-ok (sym e)), ((λ e. err-no-ok (sym e)), tt))

-- so the promise on the order of sheets needs its condition, and of both orders
pub both-needed : ((r : Run) (a b : List Call) → Permᴰ a b → NoneEleven r a → run_through r a ≡ run_through r b) → ⊥
both-needed f =
    let e = f nearly few_first many_first (Permᴰ.swap refl refl) none-in-few in
    let z : ◌≡◌ {A = ℕ} 2 1 = ap (λ (r : Run). r.sheets) (sym few-run ∙ e ∙ many-run) in
    omega arith

-- ---- 11 comes first, and from this call alone

abbrev counted : ℕ → Run
counted sheets = record_of (replicate 5 (2 ^ 32 - 1)) sheets (replicate 6 0)

-- no bytes are refused with 1; in a run that counts 65,535 sheets, with 11
pub eleven-before-one : answer_in_run (counted 65535) [] 0 ≡ Err 11
unfolding full
eleven-before-one = (call-in-run (counted 65535) [] []).eleven refl

-- with 65,534 sheets it is the sheet's own number, and an accepted one is the last
pub one-by-itself : answer_in_run (counted 65534) [] 0 ≡ Err 1
unfolding runs-compute
one-by-itself = refl

pub last-sheet : run_after (counted 65534) file 140 ≡ record_of (replicate 5 (2 ^ 32 - 1)) 65535 (4 ∷ 0 ∷ 0 ∷ 0 ∷ 0 ∷ 1 ∷ [])
unfolding runs-compute
last-sheet = refl

pub not-by-itself : answer_of [] 0 ≡ Err 11 → ⊥
not-by-itself = (eleven-alone []).sheet 0

-- ---- another listing of a sheet

other-listing : OtherListing (call_on file 140) (call_on turned 140)
other-listing = record { layout = layout_of file; bytes = file-bytes; framed = framed; relisted = is-relisted; room = refl }

pub listed-again : SameRun (run_from old) three (call_on turned 140 ∷ call_on cut_file 140 ∷ call_on doubled_file 56 ∷ [])
listed-again = run-listing (run_from old) three _ (inr other-listing, (inl refl, (inl refl, tt)))

pub listed-run : run_through (run_from old) (call_on turned 140 ∷ call_on cut_file 140 ∷ call_on doubled_file 56 ∷ []) ≡ record_of old 2 (5 ∷ 0 ∷ 0 ∷ 0 ∷ 0 ∷ 1 ∷ [])
listed-run = listed-again.record_same ∙ three-run

-- the same records of points with another cell size: two indices under wrong, or two kept
near-run : run_through new_run (call_on near_file 56 ∷ []) ≡ record_of (replicate 5 0) 1 (0 ∷ 0 ∷ 0 ∷ 2 ∷ 0 ∷ 0 ∷ [])
unfolding runs-compute
near-run = refl

zero-size-run : run_through new_run (call_on zero_size_file 56 ∷ []) ≡ record_of (replicate 5 0) 1 (2 ∷ 0 ∷ 0 ∷ 0 ∷ 0 ∷ 0 ∷ [])
unfolding runs-compute
zero-size-run = refl

-- so the promise on listings needs its condition on the rest of the file
pub rest-needed-for-run : ((r : Run) (c d : Call) (f : Layout) → Bytes c.file → framing_of c.file ≡ Some f
    → Permᴰ (records_in c.file f) (records_in d.file f) → length d.buffer ≡ length c.buffer → SameRun r (c ∷ []) (d ∷ [])) → ⊥
rest-needed-for-run f =
    let l = layout_of near_file in
    let same = f new_run (call_on near_file 56) (call_on zero_size_file 56) l (bytes-by near_file refl) near-framed (rw (← records-same) (Permᴰ.refl (records_in near_file l))) refl in
    let z : ◌≡◌ {A = ℕ} 2 0 = ap (λ (r : Run). get_or r.new_sums 0 0) (sym zero-size-run ∙ same.record_same ∙ near-run) in
    omega arith

-- the other listing with a buffer one byte too short is refused with 3
short-turned : run_through new_run (call_on turned 139 ∷ []) ≡ new_run
unfolding runs-compute
short-turned = refl

long-run : run_through new_run (call_on file 140 ∷ []) ≡ record_of (replicate 5 0) 1 (4 ∷ 0 ∷ 0 ∷ 0 ∷ 0 ∷ 1 ∷ [])
unfolding runs-compute
long-run = refl

-- so it needs its condition on the length of the buffer too
pub room-needed-for-run : ((r : Run) (c d : Call) (f : Layout) → Bytes c.file → framing_of c.file ≡ Some f → Relisted c.file d.file f → SameRun r (c ∷ []) (d ∷ [])) → ⊥
room-needed-for-run f =
    let same = f new_run (call_on file 140) (call_on turned 139) (layout_of file) file-bytes framed is-relisted in
    let z : ◌≡◌ {A = ℕ} 0 1 = ap (λ (r : Run). r.sheets) (sym short-turned ∙ same.record_same ∙ long-run) in
    omega arith

-- ---- the size of the numbers: from its start on, and from the last record that takes a sheet

pub three-bounded : Bounded (run_through (run_from old) three)
three-bounded = run-size.bounded old three

-- every number as large as it can be in a record that takes a sheet
abbrev largest : Run
largest = record_of (replicate 5 (2 ^ 32 - 1)) 65534 (replicate 6 (2 ^ 31 - 1))

largest-fits : FitsU32 largest
largest-fits = record { old = words-by (replicate 5 (2 ^ 32 - 1)) refl; count = omega arith; new = words-by (replicate 6 (2 ^ 31 - 1)) refl }
  where
    words-by : (l : List ℕ) → list_any (leb (2 ^ 32)) l ≡ false → (i : ℕ) → get_or l i 0 < 2 ^ 32
    words-by l e i = leb-false (2 ^ 32) (get_or l i 0) (none-at (leb (2 ^ 32)) 0 l refl e i)

pub last_fits : FitsU32 (run_through largest (call_on file 140 ∷ []))
last_fits = run-size.fits largest (call_on file 140 ∷ []) largest-fits

pub last-run : run_through largest (call_on file 140 ∷ []) ≡ record_of (replicate 5 (2 ^ 32 - 1)) 65535 ((2 ^ 31 + 3) ∷ (2 ^ 31 - 1) ∷ (2 ^ 31 - 1) ∷ (2 ^ 31 - 1) ∷ (2 ^ 31 - 1) ∷ (2 ^ 31) ∷ [])
unfolding runs-compute
last-run = refl
