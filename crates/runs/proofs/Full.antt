-- A record that is not full has every number below its limit; and whether some element of a list passes, place by place. Assumes nothing.
use Rattle.std.specs.List.{list_any}
use mathlib.Core.Path.{◌≡◌, refl}
use mathlib.Core.Bool.{Bool, false, ◌||◌}
use mathlib.Core.List.{List, [], ◌∷◌}
use Prim.Native.Nat.{ℕ, zero, suc, ◌+◌, ◌≤◌, ◌<◌}
use native.Mathlib.Numerals.{add-one}
use lib.Dec.{leb}
use lib.ListN.{length, get_or, drop, drop_of_length-le}
use lib.Seq.{drop-cons}
use borrow.Author.Tests.{leb-false, lt-leb}
use Rattle.runs.specs.Run.{most_sheets, sum_limit, full}
use Rattle.runs.specs.declared.Run.{Run}
use Rattle.std.proofs.Math.Bool.{or-false}
use Rattle.std.proofs.lemmas.Bool.{or_parts}

-- ---- of any list

module _ {A : Type 0} (t : A → Bool) (l : List A) where
  -- whether some element from place i on passes
  pub any_next : (i : ℕ) (d : A) → i < length l → list_any t (drop i l) ≡ t (get_or l i d) || list_any t (drop (i + 1) l)
  any_next i d h = rw (add-one i, drop-cons l i d h)

  pub any-end : (i : ℕ) → length l ≤ i → list_any t (drop i l) ≡ false
  any-end i h = rw (drop_of_length-le l h)

module _ {A : Type 0} (t : A → Bool) (d : A) where
  -- none passes just where what is read at any place fails
  pub none-at : (l : List A) → t d ≡ false → list_any t l ≡ false → (i : ℕ) → t (get_or l i d) ≡ false
  none-at [] e h zero = e
  none-at [] e h (suc i) = e
  none-at (a ∷ l) e h zero = (or_parts (t a) (list_any t l) h).0
  none-at (a ∷ l) e h (suc i) = none-at l e (or_parts (t a) (list_any t l) h).1 i

  pub none_of : (l : List A) → ((i : ℕ) → t (get_or l i d) ≡ false) → list_any t l ≡ false
  none_of [] h = refl
  none_of (a ∷ l) h = rw (h 0) (none_of l (λ i. h (suc i)))

-- ---- of a record

-- every number is below its limit
pub record Below (r : Run) : Type 0 where
  pub few : r.sheets < most_sheets
  pub low : (i : ℕ) → get_or r.new_sums i 0 < sum_limit

pub not_full : (r : Run) → full r ≡ false → Below r
unfolding full
not_full r e =
    let w = or_parts (leb most_sheets r.sheets) (list_any (leb sum_limit) r.new_sums) e in
    record {
      few = leb-false most_sheets r.sheets w.0;
      low = λ i. leb-false sum_limit (get_or r.new_sums i 0) (none-at (leb sum_limit) 0 r.new_sums refl w.1 i);
    }

-- where every new sum is below its limit, the count of sheets decides
pub full_by : (r : Run) → ((i : ℕ) → get_or r.new_sums i 0 < sum_limit) → full r ≡ leb most_sheets r.sheets
unfolding full
full_by r h = rw (none_of (leb sum_limit) 0 r.new_sums (λ i. lt-leb sum_limit (get_or r.new_sums i 0) (h i))) (or-false (leb most_sheets r.sheets))
