-- The promises of specs/Promises.antt. Assumes nothing.
use Rattle.std.specs.List.{fold}
use mathlib.Core.Path.{◌≡◌, refl, sym, ap, ◌∙◌}
use mathlib.Core.Bool.{Bool, true, false, cond}
use mathlib.Core.List.{List, [], ◌∷◌, ◌++◌, Option-to_list, Permᴰ}
use mathlib.Core.Option.{none, some}
use Prim.Native.Nat.{ℕ, ◌+◌, ◌≤◌, ◌<◌}
use native.Mathlib.Omega.{arith}
use lib.Dec.{eqb, leb}
use lib.ListN.{length, get_or}
use borrow.Author.Tests.{eqb-true, leb-true, eq-eqb, le-leb, lt-leb}
use Rattle.folds.specs.Lists.{All}
use Rattle.folds.proofs.Column.{replicate-at}
use Rattle.runs.specs.Run.{summed, most_sheets, sum_limit, full, with_sheet, Small, Yield, taken, added, run_with, run_over, tallies_in, sum_in, some_full}
use Rattle.runs.specs.Promises.{SheetPromise, Totals, TotalsPromise, NoneFull, OrderPromise, SmallYield, FitsU32, FitsPromise, Bounded, StartPromise}
use Rattle.runs.specs.declared.Run.{Run}
use Rattle.runs.proofs.Full.{not_full, full_by}
use Rattle.runs.proofs.Adding.{sum-at, sum-le, old-stands, count-up, sum-cons, added-swap, taken_is, with-is, over_none, full-none, over-cons, tallies-cons, full-cons}
use Rattle.std.proofs.lemmas.Bool.{or_parts}
use Rattle.std.specs.Cmp.{both_ways}

-- ---- one sheet

pub after-sheet : SheetPromise
after-sheet r = record {
  when-full = λ e sheet. rw (with-is r sheet, taken_is r sheet, e);
  refused = rw (with-is r none, taken_is r none, none-either (full r));
  accepted = λ e tally. rw (with-is r (some tally), taken_is r (some tally), e);
}
  where
    none-either : (b : Bool) → ◌≡◌ {A = Yield} (cond b none none) none
    none-either true = refl
    none-either false = refl

-- ---- the totals

totals-none : (r : Run) → Totals r (tallies_in r []) (run_over r [])
unfolding tallies_in run_over sum_in
totals-none r = record { old = refl; count = omega arith; new = λ i h. omega arith }

-- what one sheet adds, and then the others
totals-cons : (r : Run) (sheet : Yield) {tallies : List (List ℕ)} {after : Run} → Totals (added r sheet) tallies after → Totals r (Option-to_list sheet ++ tallies) after
unfolding Option-to_list
totals-cons r none t = t
totals-cons r (some tally) {tallies} t = record {
  old = t.old ∙ old-stands r tally;
  count = omega (arith, t.count, count-up r tally);
  new = λ i h. omega (arith, t.new i h, sum-at r tally i h, sum-cons (get_or summed i 0) tally tallies);
}

pub run-totals : TotalsPromise
run-totals r [] = totals-none r
run-totals r (sheet ∷ l) = rw (over-cons r sheet l, tallies-cons r sheet l, with-is r sheet) (totals-cons r (taken r sheet) (run-totals (added r (taken r sheet)) l))

-- ---- another order of the sheets

-- steps that may change places
over-order : {A B : Type 0} (step : A → B → A) → ((a : A) (x y : B) → step (step a x) y ≡ step (step a y) x) → {l m : List B} → Permᴰ l m → (a : A) → fold step a l ≡ fold step a m
over-order step s Permᴰ.nil c = refl
over-order step s (Permᴰ.cons {a} {b} {l₁} {l₂} e p) c = over-order step s p (step c a) ∙ ap (λ x. fold step (step c x) l₂) e
over-order step s (Permᴰ.swap {a} {b} {a'} {b'} {l} e f) c = rw (s c a b, e, f)
over-order step s (Permᴰ.trans p q) c = over-order step s p c ∙ over-order step s q c

-- where the record is never full, each accepted sheet is added
all-added : (r : Run) (sheets : List Yield) → NoneFull r sheets → run_over r sheets ≡ fold added r sheets
all-added r [] e = over_none r
all-added r (sheet ∷ l) e =
    let w = or_parts (full r) (some_full (run_with r sheet) l) (sym (full-cons r sheet l) ∙ e) in
    let t : run_with r sheet ≡ added r sheet = rw (with-is r sheet, taken_is r sheet, w.0) in
    over-cons r sheet l ∙ rw t (all-added (added r sheet) l (rw t at w.1))

pub order-free : OrderPromise
order-free r a b p e f = all-added r a e ∙ over-order added added-swap p r ∙ sym (all-added r b f)

-- ---- the size of the numbers

-- what each sheet that is added keeps, the run keeps
module _ (P : Run → Type 0) (keeps : (r : Run) (tally : List ℕ) → full r ≡ false → Small tally → P r → P (with_sheet r tally)) where
  one-keeps : (r : Run) (sheet : Yield) → SmallYield sheet → P r → P (run_with r sheet)
  one-keeps r sheet s p = rw (with-is r sheet, taken_is r sheet) (go (full r) refl sheet s)
    where
      go : (b : Bool) → full r ≡ b → (y : Yield) → SmallYield y → P (added r (cond b none y))
      go true e y s = p
      go false e none s = p
      go false e (some tally) s = keeps r tally e s p

  run-keeps : (r : Run) (sheets : List Yield) → All SmallYield sheets → P r → P (run_over r sheets)
  run-keeps r [] s p = rw (over_none r) p
  run-keeps r (sheet ∷ l) s p = rw (over-cons r sheet l) (run-keeps (run_with r sheet) l s.1 (one-keeps r sheet s.0 p))

pub nothing-wraps : FitsPromise
nothing-wraps r sheets s f = run-keeps FitsU32 one r sheets s f
  where
    one : (r : Run) (tally : List ℕ) → full r ≡ false → Small tally → FitsU32 r → FitsU32 (with_sheet r tally)
    one r tally e s f =
        let b = not_full r e in
        record {
          old = λ i. rw (old-stands r tally) (f.old i);
          count = omega (arith, count-up r tally, b.few);
          new = λ i. omega (arith, sum-le r tally i s, b.low i);
        }

-- ---- a run from its start on

bounded-more : (r : Run) (tally : List ℕ) → full r ≡ false → Small tally → Bounded r → Bounded (with_sheet r tally)
bounded-more r tally e s b = record {
  few = omega (arith, count-up r tally, (not_full r e).few);
  each = λ i. omega (arith, count-up r tally, sum-le r tally i s, b.each i);
}

bounded-low : (r : Run) → Bounded r → (i : ℕ) → get_or r.new_sums i 0 < sum_limit
bounded-low r b i = omega (arith, b.few, b.each i)

-- one sheet more counts at most one more
count-le : (r : Run) (sheet : Yield) → (run_with r sheet).sheets ≤ r.sheets + 1
count-le r sheet = rw (with-is r sheet) (go (taken r sheet))
  where
    go : (y : Yield) → (added r y).sheets ≤ r.sheets + 1
    go none = omega arith
    go (some tally) = omega (arith, count-up r tally)

bounded-room : (r : Run) (sheets : List Yield) → All SmallYield sheets → Bounded r → r.sheets + length sheets ≤ most_sheets → NoneFull r sheets
bounded-room r [] s b h = full-none r
bounded-room r (sheet ∷ l) s b h =
    rw (full-cons r sheet l, full_by r (bounded-low r b), lt-leb most_sheets r.sheets (omega arith))
    (bounded-room (run_with r sheet) l s.1 (one-keeps Bounded bounded-more r sheet s.0 b) (omega (arith, count-le r sheet)))

by_count : (n : ℕ) → n ≤ most_sheets → leb most_sheets n ≡ eqb n most_sheets
by_count n h =
    both_ways (leb most_sheets n) (eqb n most_sheets)
    (λ e. eq-eqb n most_sheets (omega (arith, leb-true most_sheets n e)))
    (λ e. le-leb most_sheets n (omega (arith, eqb-true n most_sheets e)))

pub from_start : StartPromise
from_start = record {
  start = λ old. record { few = omega arith; each = λ i. omega (arith, replicate-at {A = ℕ} (length summed) 0 i) };
  stays = run-keeps Bounded bounded-more;
  low = bounded-low;
  full-by-count = λ r b. full_by r (bounded-low r b) ∙ by_count r.sheets b.few;
  none-full = bounded-room;
}
