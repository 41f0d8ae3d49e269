-- What it is to survive, and what a link between two survivors is. Assumes nothing.
use mathlib.Core.Path.{◌≡◌, refl, sym, ◌∙◌}
use mathlib.Core.Bool.{Bool, true, false, not, ◌&&◌}
use mathlib.Core.List.{List}
use Prim.{yes, no}
use Prim.Native.Nat.{ℕ, ◌+◌, ◌*◌, ◌≤◌, ◌<◌}
use native.Mathlib.Decide.{dec_lt}
use native.Mathlib.Omega.{arith}
use borrow.Author.Tests.{eq-eqb, eqb-true, lt-ltb, le-ltb, ltb-true}
use lib.Dec.{eqb, ltb}
use lib.ListN.{length, get_or}
use Rattle.folds.proofs.Below.{some-yes, some_at}
use Rattle.folds.proofs.Lists.{get_d_any}
use Rattle.folds.proofs.Column.{length-column, column-at, column-over}
use Rattle.folds.specs.Marked.{bit}
use Rattle.view.specs.View.{max_points}
use Rattle.patches.specs.Patches.{survives, touches, linked}
use Rattle.patches.specs.Search.{start_marks}
use Rattle.std.proofs.lemmas.Bool.{and_from, and_parts}
use Rattle.std.specs.Cmp.{both_ways}

module _ (n : ℕ) (dropped : List ℕ) (k : ℕ) where
  pub survives-lt : survives n dropped k ≡ true → k < n
  survives-lt a = ltb-true k n (and_parts (ltb k n) (eqb (get_or dropped k 0) 0) a).0

  module _ (few : n ≤ max_points) where
    -- before the search a rank is marked just where it does not survive
    start-at : k < max_points → get_or (start_marks n dropped) k 0 ≡ bit (not (survives n dropped k))
    start-at h =
        get_d_any (start_marks n dropped) k 0 1 (omega (arith, length-column max_points 1 n (λ (k : ℕ). bit (not (eqb (get_or dropped k 0) 0))) few))
        ∙ elim (dec_lt k n) [
          | yes l ↦ column-at max_points 1 n (λ (k : ℕ). bit (not (eqb (get_or dropped k 0) 0))) k l ∙ sym (rw (lt-ltb k n l) refl)
          | no f ↦ let g : n ≤ k = omega (arith, f) in column-over max_points 1 n (λ (k : ℕ). bit (not (eqb (get_or dropped k 0) 0))) k g ∙ sym (rw (le-ltb k n g) refl)
        ]

    pub start-open : k < max_points → get_or (start_marks n dropped) k 0 ≡ 0 → survives n dropped k ≡ true
    start-open h z = go (survives n dropped k) (sym (start-at h) ∙ z)
      where
        go : (b : Bool) → bit (not b) ≡ 0 → b ≡ true
        go true e = refl
        go false e = absurd (omega (arith, e))

    pub start-alive : survives n dropped k ≡ true → get_or (start_marks n dropped) k 0 ≡ 0
    start-alive a = start-at (omega (arith, survives-lt a, few)) ∙ rw a

-- where the same ranks survive, no other number does either
pub survive-alike : (n : ℕ) (dropped dropped' : List ℕ) → ((k : ℕ) → k < n → survives n dropped k ≡ survives n dropped' k) → (k : ℕ) → survives n dropped k ≡ survives n dropped' k
survive-alike n dropped dropped' s k = both_ways (survives n dropped k) (survives n dropped' k) (λ e. sym (s k (survives-lt n dropped k e)) ∙ e) (λ e. s k (survives-lt n dropped' k e) ∙ e)

module _ (n : ℕ) (near : ℕ → ℕ) (sides dropped : List ℕ) (a b : ℕ) where
  pub link-from : linked n near sides dropped a b ≡ true → survives n dropped a ≡ true
  link-from e = (and_parts (survives n dropped a) (survives n dropped b && touches near sides a b) e).0

  rest : linked n near sides dropped a b ≡ true → survives n dropped b && touches near sides a b ≡ true
  rest e = (and_parts (survives n dropped a) (survives n dropped b && touches near sides a b) e).1

  pub link-to : linked n near sides dropped a b ≡ true → survives n dropped b ≡ true
  link-to e = (and_parts (survives n dropped b) (touches near sides a b) (rest e)).0

  pub link-side : linked n near sides dropped a b ≡ true → (i : ℕ) × (i < length sides) × (near (25 * a + get_or sides i 0) ≡ b)
  link-side e =
      let w = some_at (λ (i : ℕ). eqb (near (25 * a + get_or sides i 0)) b) (length sides) (and_parts (survives n dropped b) (touches near sides a b) (rest e)).1 in
      (w.0, w.1, eqb-true (near (25 * a + get_or sides w.0 0)) b w.2)

  pub link-by : survives n dropped a ≡ true → survives n dropped b ≡ true → (i : ℕ) → i < length sides → near (25 * a + get_or sides i 0) ≡ b → linked n near sides dropped a b ≡ true
  link-by p q i h e =
      and_from (survives n dropped a) (survives n dropped b && touches near sides a b) p
      (and_from (survives n dropped b) (touches near sides a b) q (some-yes (λ (i : ℕ). eqb (near (25 * a + get_or sides i 0)) b) (length sides) i h (eq-eqb (near (25 * a + get_or sides i 0)) b e)))
