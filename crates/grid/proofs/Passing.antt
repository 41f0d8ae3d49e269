-- Ranks passed on the way to a target. Assumes nothing.
use mathlib.Core.Path.{◌≡◌, sym, ◌∙◌}
use mathlib.Core.Bool.{Bool, true, false, ◌&&◌, true≢false}
use mathlib.Core.Logic.{◌⊎◌, inl, inr}
use Prim.Native.Nat.{ℕ, ◌+◌, ◌≤◌, ◌<◌}
use Prim.{Dec, yes, no}
use native.Mathlib.Omega.{arith}
use native.Mathlib.Nat.{eq-or-lt_of_le}
use native.Mathlib.Decide.{dec_lt}
use lib.Dec.{eqb, ltb}
use borrow.Author.Tests.{lt-ltb, eq-eqb, ltb-true, eqb-true}
use Rattle.grid.specs.Sweep.{key_centre, standing, Behind, Reached}
use Rattle.grid.proofs.Standing.{KeysRise, standing-hit, standing-miss}
use Rattle.std.proofs.lemmas.Bool.{and_from, and_parts}

module _ (n : ℕ) (key : ℕ → ℕ) where
  pub behind-none : (t : ℕ) → Behind n key 0 t
  behind-none t = record { within = omega arith; before = λ j l. absurd (omega arith) }

  pub behind_more : {p t : ℕ} → Behind n key p t → p < n → key p + key_centre < t → Behind n key (p + 1) t
  behind_more {p} {t} b h k = record { within = omega arith; before = λ j l. go j (eq-or-lt_of_le (omega arith)) }
    where
      go : (j : ℕ) → (j ≡ p) ⊎ (j < p) → key j + key_centre < t
      go j (inl e) = rw e k
      go j (inr l) = b.before j l

  pub behind-up : {p t t' : ℕ} → Behind n key p t → t ≤ t' → Behind n key p t'
  behind-up b h = record { within = b.within; before = λ j l. omega (arith, b.before j l) }

  module _ (rising : KeysRise n key) where
    -- rank p stands at the target
    pub reached-hit : {p t : ℕ} → Reached n key p t → p < n → key p + key_centre ≡ t → (standing n key t ≡ p) × Reached n key (p + 1) (t + 1)
    reached-hit {p} {t} r h e = (
      standing-hit n key rising t p h e,
      record {
        behind = behind_more (behind-up r.behind (omega arith)) h (omega arith);
        stop = λ l. omega (arith, rising p (p + 1) (omega arith) l);
      },
    )

    -- no rank does
    pub reached-miss : {p t : ℕ} → Reached n key p t → (p < n → key p + key_centre ≡ t → ⊥) → (standing n key t ≡ n) × Reached n key p (t + 1)
    reached-miss {p} {t} r f =
        (standing-miss n key t (λ j l e. go j l e (dec_lt j p)), record { behind = behind-up r.behind (omega arith); stop = λ l. let ne : (key p + key_centre ≡ t → ⊥) = f l in omega (arith, r.stop l, ne) })
      where
        go : (j : ℕ) → j < n → key j + key_centre ≡ t → Dec (j < p) → ⊥
        go j l e (yes m) = omega (arith, r.behind.before j m)
        go j l e (no x) = after (eq-or-lt_of_le (omega arith))
          where
            after : (p ≡ j) ⊎ (p < j) → ⊥
            after (inl q) = f (omega arith) (rw (← q) at e)
            after (inr m) = omega (arith, r.stop (omega arith), rising p j m l)

-- the test of a rank
pub stands-there : (p n k t : ℕ) {r : Bool} → r ≡ ltb p n && eqb k t → r ≡ true → (p < n) × (k ≡ t)
stands-there p n k t e f = (ltb-true p n (and_parts (ltb p n) (eqb k t) (sym e ∙ f)).0, eqb-true k t (and_parts (ltb p n) (eqb k t) (sym e ∙ f)).1)

pub stands-not : (p n k t : ℕ) {r : Bool} → r ≡ ltb p n && eqb k t → r ≡ false → p < n → k ≡ t → ⊥
stands-not p n k t e f h g = true≢false (sym (and_from (ltb p n) (eqb k t) (lt-ltb p n h) (eq-eqb k t g)) ∙ sym e ∙ f)
