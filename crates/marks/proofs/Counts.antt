-- The tally's counts, one rank after the other. Assumes nothing.
use mathlib.Core.Path.{◌≡◌, ◌∙◌}
use mathlib.Core.List.{List}
use Prim.Native.Nat.{ℕ, ◌+◌, ◌≤◌, ◌<◌}
use Prim.{yes, no}
use native.Mathlib.Decide.{dec_lt}
use native.Mathlib.Omega.{arith}
use lib.ListN.{get_or, set, replicate, get_or-replicate}
use borrow.Author.Tests.{eq-eqb, ne_eqb}
use Rattle.folds.proofs.Below.{tally-le}
use Rattle.folds.proofs.Lists.{is-list, list_at, list_over}
use Rattle.folds.specs.Scattered.{Scattered, counts, one_more}
use Rattle.folds.proofs.Scattered.{scattered-none, scattered-skip, scattered-put, fold-tally, counted-le}
use Rattle.view.specs.View.{View}
use Rattle.marks.specs.Filters.{filter_count}
use Rattle.marks.specs.Byte.{first_mark}
use Rattle.marks.specs.Tally.{is_place, count_under, counts_of}

-- the filter that rank j counts under
abbrev under : List ℕ → ℕ → ℕ
under marks j = first_mark (get_or marks j 0)

abbrev none : List ℕ
none = replicate (filter_count + 1) 0

module _ (w : View) (marks : List ℕ) where
  -- the counts of the first k ranks
  abbrev pub Counted : ℕ → List ℕ → Type 0
  Counted k a = Scattered 0 (under marks) (is_place w) one_more none k a

  pub counted_start : Counted 0 none
  counted_start = scattered-none 0 (under marks) (is_place w) one_more none

  pub counted_skip : (k : ℕ) (a : List ℕ) → (w.by_idx k ≡ k → ⊥) → Counted k a → Counted (k + 1) a
  counted_skip k a e t = scattered-skip 0 (under marks) (is_place w) one_more none k a (ne_eqb (w.by_idx k) k e) t

  pub counted-more : (k f : ℕ) (a : List ℕ) → w.by_idx k ≡ k → f ≡ under marks k → f ≤ filter_count → Counted k a → Counted (k + 1) (set a f (get_or a f 0 + 1))
  counted-more k f a q e h t = scattered-put 0 (under marks) (is_place w) one_more none k f a (omega arith) e (eq-eqb (w.by_idx k) k q) t

  pub counted-small : (k f : ℕ) (a : List ℕ) → f ≤ filter_count → Counted k a → get_or a f 0 ≤ k
  counted-small k f a h t = omega (arith, counted-le (under marks) (is_place w) none k f a (omega arith) t, get_or-replicate {A = ℕ} (filter_count + 1) f 0 0 (omega arith))

  pub counted : (a : List ℕ) → Counted w.count a → a ≡ counts_of w marks
  unfolding counts_of count_under
  counted a t = is-list 0 (filter_count + 1) (count_under w marks) a t.size at
    where
      at : (f : ℕ) → f < filter_count + 1 → get_or a f 0 ≡ count_under w marks f
      at f l =
          t.at f l
          ∙ fold-tally (counts (under marks) (is_place w) f) (get_or none f 0) w.count
          ∙ rw (get_or-replicate {A = ℕ} (filter_count + 1) f 0 0 l) (omega arith)

  -- no count is larger than the number of points
  pub counts-few : (f : ℕ) → get_or (counts_of w marks) f 0 ≤ w.count
  unfolding counts_of count_under
  counts-few f = elim (dec_lt f (filter_count + 1)) [
    | yes l ↦ rw (list_at (filter_count + 1) (count_under w marks) f 0 l) (tally-le (counts (under marks) (is_place w) f) w.count)
    | no l ↦ rw (list_over (filter_count + 1) (count_under w marks) f 0 (omega (arith, l))) (omega arith)
  ]
