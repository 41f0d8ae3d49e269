-- What is live after each round, and who is an end then. Assumes nothing.
use mathlib.Core.Path.{◌≡◌, refl, sym, ◌∙◌}
use mathlib.Core.Bool.{Bool, true, false, true≢false}
use mathlib.Core.Logic.{⊎_elim}
use mathlib.Core.List.{List}
use Prim.Native.Nat.{ℕ, zero, suc, ◌+◌, ◌≤◌, ◌<◌}
use native.Mathlib.Omega.{arith}
use Rattle.folds.specs.Below.{tally}
use Rattle.folds.proofs.Below.{some_at, tally-mono}
use Rattle.folds.proofs.Counting.{tally-grows}
use Rattle.view.specs.View.{View}
use Rattle.marks.specs.Marks.{is_set}
use Rattle.patches.specs.Patches.{survives}
use Rattle.patches.proofs.Surviving.{survives-lt}
use Rattle.peel.specs.Peel.{live, live_sides, ended, rounds_in, peeled_in, leaf_of, gone_of, peeled_of}
use Rattle.peel.specs.Theorems.{Placed}
use Rattle.peel.proofs.Rounds.{gone-more, end-gone, busy-before}
use Rattle.peel.proofs.Leaves.{live-alive, live-stays, live-is, leaf-live, leaf-weak, leaf-few, leaf-many}
use Rattle.peel.proofs.Theorems.{known}
use Rattle.peel_rounds.specs.Rounds.{left_count}
use Rattle.std.proofs.lemmas.Bool.{cases_Bool, false_from_ne_true, not-false}

module _ (w : View) (sides dropped weak : List ℕ) where
  abbrev alive : ℕ → Bool
  alive = survives w.count dropped

  abbrev ends : (ℕ → Bool) → ℕ → Bool
  ends = leaf_of w sides dropped weak

  -- the index at place b has gone after r rounds
  abbrev pub out : ℕ → ℕ → Bool
  out r = is_set (gone_of w sides dropped weak r)

  -- rank k is live, or an end, after r rounds
  abbrev pub lives : ℕ → ℕ → Bool
  lives r = live alive w.by_idx (out r)

  abbrev pub is_end : ℕ → ℕ → Bool
  is_end r = ends (out r)

  -- how many of its neighbours are live
  abbrev pub sides_live : ℕ → ℕ → ℕ
  sides_live r = live_sides alive w.near w.by_idx sides (out r)

  -- after r rounds there is an end
  abbrev pub GoesOn : ℕ → Type 0
  GoesOn r = ended w.count w.by_idx ends (gone_of w sides dropped weak) r ≡ false

  pub rounds-is : (peeled_of w sides dropped weak).rounds ≡ rounds_in w.count w.by_idx ends (gone_of w sides dropped weak)
  unfolding peeled_in
  rounds-is = refl

  module _ (r k : ℕ) where
    pub lives-lt : lives r k ≡ true → k < w.count
    lives-lt e = survives-lt w.count dropped k (live-alive alive w.by_idx (out r) k e)

    pub end-lives : is_end r k ≡ true → lives r k ≡ true
    end-lives = leaf-live alive w.near w.by_idx sides (is_set weak) (out r) k

    pub end-weak : is_end r k ≡ true → is_set weak k ≡ true
    end-weak = leaf-weak alive w.near w.by_idx sides (is_set weak) (out r) k

    pub end-few : is_end r k ≡ true → sides_live r k < 2
    end-few = leaf-few alive w.near w.by_idx sides (is_set weak) (out r) k

    pub many-sides : is_end r k ≡ false → lives r k ≡ true → is_set weak k ≡ true → 2 ≤ sides_live r k
    many-sides = leaf-many alive w.near w.by_idx sides (is_set weak) (out r) k

    pub end_is : lives r k ≡ true → is_set weak k ≡ true → sides_live r k < 2 → is_end r k ≡ true
    end_is e f h = ⊎_elim (λ t. t) (λ t. absurd (omega (arith, h, many-sides t e f))) (cases_Bool (is_end r k))

  pub some_end : (r : ℕ) → GoesOn r → (k : ℕ) × (k < w.count) × (is_end r k ≡ true)
  some_end r e = some_at (is_end r) w.count (not-false _ e)

  module _ (placed : Placed w) where
    module _ (r k : ℕ) where
      -- the index of an end goes
      pub end-out : is_end r k ≡ true → out (r + 1) (w.by_idx k) ≡ true
      end-out = end-gone w.count w.by_idx ends (known w sides dropped weak placed) r k

      pub out-dead : out r (w.by_idx k) ≡ true → lives r k ≡ false
      out-dead e = false_from_ne_true (lives r k) (λ t. true≢false (sym e ∙ live-stays alive w.by_idx (out r) k t))

      pub lived : lives (r + 1) k ≡ true → lives r k ≡ true
      lived e =
          live-is alive w.by_idx (out r) k (live-alive alive w.by_idx (out (r + 1)) k e)
          (false_from_ne_true (out r (w.by_idx k))
          (λ t. true≢false (sym (gone-more w.count w.by_idx ends (known w sides dropped weak placed) r (w.by_idx k) t) ∙ live-stays alive w.by_idx (out (r + 1)) k e)))

    -- before the last round there is always one more
    pub before_last : (r : ℕ) → r < (peeled_of w sides dropped weak).rounds → GoesOn r
    before_last r h = busy-before w.count w.by_idx ends (known w sides dropped weak placed) r (rw rounds-is at h)

    -- ---- how many are live

    fewer : (r : ℕ) → GoesOn r → tally (lives (r + 1)) w.count < tally (lives r) w.count
    fewer r e =
        let v = some_end r e in
        tally-grows (lives (r + 1)) (lives r) w.count v.0 v.1 (out-dead (r + 1) v.0 (end-out r v.0 v.2)) (end-lives r v.0 v.2) (λ k h. lived r k)

    -- each round removes a live point
    pub left_after : (r : ℕ) → r ≤ (peeled_of w sides dropped weak).rounds → r + tally (lives r) w.count ≤ left_count w dropped
    left_after zero h =
        omega (arith, tally-mono (lives 0) alive w.count (λ k l. live-alive alive w.by_idx (out 0) k))
    left_after (suc r) h =
        let z : suc r ≡ r + 1 = omega arith in
        rw z (omega (arith, fewer r (before_last r (omega arith)), left_after r (omega arith)))
