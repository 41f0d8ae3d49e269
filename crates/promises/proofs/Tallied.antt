-- The tally counts indices, each once; its numbers add up to the number of different indices; without repeated indices it is the old count.
-- Assumes nothing.
use mathlib.Core.Path.{◌≡◌, refl, sym, ap, ◌∙◌}
use mathlib.Core.Bool.{Bool, true, false, cond, ◌&&◌}
use mathlib.Core.List.{List}
use Prim.{yes, no}
use Prim.Native.Nat.{ℕ, zero, suc, ◌+◌, ◌≤◌, ◌<◌}
use native.Mathlib.Decide.{ℕ_discrete}
use native.Mathlib.Omega.{arith}
use lib.Dec.{eqb}
use lib.ListN.{length, get_or}
use borrow.Author.Tests.{eqb-true, eq-eqb, ne_eqb}
use Rattle.folds.specs.Below.{tally}
use Rattle.folds.proofs.Below.{some-ext, some-no, tally-ext, first-le}
use Rattle.folds.specs.Lists.{up_from, list_of}
use Rattle.folds.proofs.Lists.{list_at, list_ext}
use Rattle.cells.specs.Points.{Point, strengths_of}
use Rattle.cells.specs.Cell.{cells_of}
use Rattle.grid.specs.Tables.{entry_in, last_with_index}
use Rattle.grid.specs.Views.{view_of}
use Rattle.grid.proofs.Views.{index_list, index_read}
use Rattle.grid.proofs.Alike.{index_same}
use Rattle.sheet_file.specs.declared.Settings.{Settings}
use Rattle.marks.specs.Filters.{filter_count}
use Rattle.marks.specs.Byte.{has_mark, first_mark}
use Rattle.marks.specs.Tally.{is_under, is_place, count_under, counts_of}
use Rattle.drop_set.specs.Filters.{patched_of, judged_of}
use Rattle.judging.specs.Judging.{judged_for}
use Rattle.promises.specs.Words.{DistinctIndices, marks_in}
use Rattle.promises.specs.Tally.{different, total, points_under, point_counts, any_point, index_in, CountsIndices}
use Rattle.promises.proofs.Different.{is_last, last-different}
use Rattle.promises.proofs.Shared.{byte-shared}
use Rattle.std.proofs.Math.Bool.{and-true}
use Rattle.std.proofs.lemmas.Bool.{and_parts, false_from_ne_true}

-- ---- the sum of the counts

same_total : (g h : ℕ → ℕ) (at m : ℕ) → ((f : ℕ) → at ≤ f → g f ≡ h f) → total (up_from g at m) ≡ total (up_from h at m)
unfolding total up_from
same_total g h at zero e = refl
same_total g h at (suc m) e = rw (e at (omega arith), same_total g h (suc at) m (λ f l. e f (omega arith)))

no-total : (at m : ℕ) → total (up_from (λ (f : ℕ). 0) at m) ≡ 0
unfolding total up_from
no-total at zero = refl
no-total at (suc m) = omega (arith, no-total (suc at) m)

-- one number of a list is one more
total-up : (h : ℕ → ℕ) (at m a : ℕ) (b : Bool) → at ≤ a → a < at + m → total (up_from (λ (f : ℕ). cond (eqb a f && b) (h f + 1) (h f)) at m) ≡ cond b (total (up_from h at m) + 1) (total (up_from h at m))
unfolding total up_from
total-up h at zero a b l u = absurd (omega arith)
total-up h at (suc m) a b l u = elim (ℕ_discrete a at) [
  | yes e ↦ rw (eq-eqb a at e, same_total (λ (f : ℕ). cond (eqb a f && b) (h f + 1) (h f)) h (suc at) m (λ f k. rw (ne_eqb a f (λ q. omega arith)))) (at_head b (h at) (total (up_from h (suc at) m)))
  | no n ↦ rw (ne_eqb a at n, total-up h (suc at) m a b (omega (arith, n)) (omega arith)) (in_rest b (h at) (total (up_from h (suc at) m)))
]
  where
    at_head : (b : Bool) (x t : ℕ) → cond b (x + 1) x + t ≡ cond b (x + t + 1) (x + t)
    at_head true x t = omega arith
    at_head false x t = refl

    in_rest : (b : Bool) (x t : ℕ) → x + cond b (t + 1) t ≡ cond b (x + t + 1) (x + t)
    in_rest true x t = omega arith
    in_rest false x t = refl

-- if each k that passes is counted once, at g k, the counts add up to how many pass
total-counts : (g : ℕ → ℕ) (p : ℕ → Bool) (m n : ℕ) → ((k : ℕ) → g k < m) → total (list_of m (λ (f : ℕ). tally (λ (k : ℕ). eqb (g k) f && p k) n)) ≡ tally p n
unfolding tally list_of
total-counts g p m zero h = no-total 0 m
total-counts g p m (suc n) h =
    total-up (λ (f : ℕ). tally (λ (k : ℕ). eqb (g k) f && p k) n) 0 m (g n) (p n) (omega arith) (omega (arith, h n))
    ∙ ap (λ (t : ℕ). cond (p n) (t + 1) t) (total-counts g p m n h)

-- ---- different numbers

different-ext : (p q : ℕ → Bool) (f g : ℕ → ℕ) (n : ℕ) → ((k : ℕ) → k < n → p k ≡ q k) → ((k : ℕ) → k < n → f k ≡ g k) → different p f n ≡ different q g n
unfolding different
different-ext p q f g n e h =
    tally-ext _ _ n
    (λ k l. rw (e k l, some-ext (λ (j : ℕ). p j && eqb (f j) (f k)) (λ (j : ℕ). q j && eqb (g j) (g k)) k (λ j m. rw (e j (omega arith), h j (omega arith), h k l))))

-- numbers of which no two are alike
pub different-all : (q : ℕ → Bool) (f : ℕ → ℕ) (n : ℕ) → ((j k : ℕ) → j < n → k < n → f j ≡ f k → j ≡ k) → different q f n ≡ tally q n
unfolding different
different-all q f n one =
    tally-ext _ q n
    (λ k l. rw (some-no (λ (j : ℕ). q j && eqb (f j) (f k)) k
    (λ j m. false_from_ne_true (q j && eqb (f j) (f k)) (λ e. omega (arith, one j k (omega arith) l (eqb-true (f j) (f k) (and_parts (q j) (eqb (f j) (f k)) e).1)))))
    (and-true (q k)))

-- ---- the tally of a sheet

module _ (s : Settings) (ps : List Point) where
  pub marks-shared : (i j : ℕ) → i < length ps → j < length ps → index_in ps i ≡ index_in ps j → marks_in s ps i ≡ marks_in s ps j
  unfolding judged_for view_of
  marks-shared i j a b e = byte-shared s (view_of ps) (cells_of ps) (strengths_of ps) i j a b (index_same ps i j a b e)

  tally-is : (judged_for s ps).tally ≡ counts_of (view_of ps) (judged_for s ps).marks
  unfolding judged_for judged_of patched_of
  tally-is = refl

  abbrev held : ℕ → ℕ
  held = entry_in (index_list ps)

  held-is : (k : ℕ) → k < length ps → held k ≡ index_in ps k
  held-is k h = list_at (length ps) (index_in ps) k 0 h

  -- the places of indices are the last ranks that have them
  place-last : (k : ℕ) → k < length ps → is_place (view_of ps) k ≡ is_last held (length ps) k
  unfolding last_with_index
  place-last k h = ap (λ (m : ℕ). eqb m k) (index_read ps k h)

  -- of the indices whose points pass, one place for each
  places : (q : ℕ → Bool) → ((i j : ℕ) → i < length ps → j < length ps → index_in ps i ≡ index_in ps j → q i ≡ q j)
      → tally (λ (k : ℕ). q k && is_place (view_of ps) k) (length ps) ≡ different q (index_in ps) (length ps)
  places q alike =
      tally-ext (λ (k : ℕ). q k && is_place (view_of ps) k) (λ (k : ℕ). q k && is_last held (length ps) k) (length ps) (λ k l. ap (λ (b : Bool). q k && b) (place-last k l))
      ∙ last-different held q (length ps) (λ i j a b e. alike i j a b (sym (held-is i a) ∙ e ∙ held-is j b))
      ∙ different-ext q q held (index_in ps) (length ps) (λ k l. refl) held-is

  abbrev marks : List ℕ
  marks = (judged_for s ps).marks

  count-once : (f : ℕ) → count_under (view_of ps) marks f ≡ different (λ (k : ℕ). is_under f (get_or marks k 0)) (index_in ps) (length ps)
  unfolding count_under view_of
  count-once f = places (λ (k : ℕ). is_under f (get_or marks k 0)) (λ i j a b e. ap (is_under f) (marks-shared i j a b e))

  once : (f : ℕ) → f ≤ filter_count → get_or (judged_for s ps).tally f 0 ≡ different (λ (k : ℕ). is_under f (marks_in s ps k)) (index_in ps) (length ps)
  unfolding counts_of
  once f l = ap (λ (t : List ℕ). get_or t f 0) tally-is ∙ list_at (filter_count + 1) (count_under (view_of ps) marks) f 0 (omega arith) ∙ count-once f

  adds-up : total (judged_for s ps).tally ≡ different any_point (index_in ps) (length ps)
  unfolding counts_of count_under first_mark view_of
  adds-up =
      ap total tally-is
      ∙ total-counts (λ (k : ℕ). first_mark (get_or marks k 0)) (is_place (view_of ps)) (filter_count + 1) (length ps) (λ k. omega (arith, first-le (λ (f : ℕ). has_mark f (get_or marks k 0)) 0 filter_count (omega arith)))
      ∙ places any_point (λ i j a b e. refl)

  as_before : DistinctIndices ps → (judged_for s ps).tally ≡ point_counts (length ps) marks
  unfolding counts_of point_counts points_under
  as_before one =
      tally-is
      ∙ list_ext 0 (filter_count + 1) (count_under (view_of ps) marks) (points_under (length ps) marks)
      (λ f l. count-once f ∙ different-all (λ (k : ℕ). is_under f (get_or marks k 0)) (index_in ps) (length ps) one)

  pub counts-indices : CountsIndices s ps
  counts-indices = record { shared = marks-shared; once = once; sum = adds-up; as_before = as_before }
