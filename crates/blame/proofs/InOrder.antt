-- Rule 3 as the Rust walks it: the corners in some order, each only if it is not marked yet. The order does not show, since rule 3 looks
-- at indices with no line flag and marks indices with one. Assumes nothing.
use Rattle.std.specs.List.{list_any, fold}
use mathlib.Core.Path.{◌≡◌, refl, sym, ap, ◌∙◌}
use mathlib.Core.Logic.{◌⊎◌, inl, inr}
use mathlib.Core.Bool.{Bool, true, false, not, cond, ◌&&◌, ◌||◌, false≢true, true≢false}
use mathlib.Core.List.Memᴰ
use mathlib.Core.List.{List, [], ◌∷◌, Memᴰ}
use Prim.Native.Nat.{ℕ, ◌<◌}
use Rattle.std.specs.Prelude.{Option, Some, None}
use native.Mathlib.Omega.{arith}
use borrow.Author.Tests.{eqb-true, ltb-true, lt-leb}
use lib.Dec.{eqb, ltb}
use Rattle.folds.specs.Below.{some}
use Rattle.folds.proofs.Below.{some-yes, some_at, or-right-first}
use Rattle.view.specs.View.{View}
use Rattle.marks.specs.Marks.{is_at}
use Rattle.local_h.specs.Base.{member_at, base_of}
use Rattle.blame.specs.declared.Worst.{Worst}
use Rattle.blame.specs.Marks.{Evidence, rule1, rule2, rule3, rule4, flags_in, place_in, worse_of, worst_of, blamed, is_visited, blames, is_marked}
use Rattle.std.proofs.Math.Bool.{and-false, or-false, or_assoc}
use Rattle.std.proofs.lemmas.Bool.{and_parts, false_from_ne_true}
use Rattle.std.specs.Cmp.{both_ways}

-- one turn: k, if it passes q and is not marked, marks its key
abbrev pub visit : (ℕ → Option ℕ) → (ℕ → Bool) → (ℕ → Bool) → ℕ → ℕ → Bool
visit key q s k = cond (q k && not (s k)) (λ m. s m || is_at (key k) m) s

-- a number with q marks its key
abbrev hits : (ℕ → Option ℕ) → (ℕ → Bool) → ℕ → ℕ → Bool
hits key q m k = q k && is_at (key k) m

module _ (key : ℕ → Option ℕ) (q : ℕ → Bool) (n : ℕ) (apart : (j k : ℕ) → k < n → q k ≡ true → is_at (key j) k ≡ false) where
  -- no number below n with q is marked
  abbrev Fresh : (ℕ → Bool) → Type 0
  Fresh s = (k : ℕ) → k < n → q k ≡ true → s k ≡ false

  -- what the turns of numbers below n leave, in any order
  walked : (l : List ℕ) → ((k : ℕ) → Memᴰ k l → k < n) → (s : ℕ → Bool) → Fresh s → (m : ℕ) → fold (visit key q) s l m ≡ s m || list_any (hits key q m) l
  walked [] below s fresh m = sym (or-false (s m))
  walked (a ∷ l) below s fresh m = go (q a) refl (walked l (λ k d. below k (Memᴰ.tail d)))
    where
      go : (b : Bool) → q a ≡ b → ((t : ℕ → Bool) → Fresh t → (m : ℕ) → fold (visit key q) t l m ≡ t m || list_any (hits key q m) l) → fold (visit key q) (visit key q s a) l m ≡ s m || list_any (hits key q m) (a ∷ l)
      go true e h = rw (e, fresh a (below a (Memᴰ.head refl)) e) (h (λ j. s j || is_at (key a) j) (λ k g d. rw (fresh k g d) (apart a k g d)) m ∙ or_assoc (s m) (is_at (key a) m) (list_any (hits key q m) l))
      go false e h = rw e (h s fresh m)

any-yes : (t : ℕ → Bool) (l : List ℕ) (k : ℕ) → Memᴰ k l → t k ≡ true → list_any t l ≡ true
any-yes t [] k d e = absurd (Memᴰ.not-nil d)
any-yes t (a ∷ l) k d e = go (t a) refl (any-yes t l k) (Memᴰ.cases_cons d)
  where
    go : (b : Bool) → t a ≡ b → (Memᴰ k l → t k ≡ true → list_any t l ≡ true) → (k ≡ a) ⊎ Memᴰ k l → b || list_any t l ≡ true
    go true f r w = refl
    go false f r (inl w) = absurd (true≢false (sym e ∙ ap t w ∙ f))
    go false f r (inr w) = r w e

any_at : (t : ℕ → Bool) (l : List ℕ) → list_any t l ≡ true → (k : ℕ) × Memᴰ k l × (t k ≡ true)
any_at t [] e = absurd (false≢true e)
any_at t (a ∷ l) e = go (t a) refl e (any_at t l)
  where
    go : (b : Bool) → t a ≡ b → b || list_any t l ≡ true → (list_any t l ≡ true → (k : ℕ) × Memᴰ k l × (t k ≡ true)) → (k : ℕ) × Memᴰ k (a ∷ l) × (t k ≡ true)
    go true f h r = (a, Memᴰ.head refl, f)
    go false f h r = let w = r h in (w.0, Memᴰ.tail w.1, w.2)

-- a list of numbers below n that has each with t
any_some : (t : ℕ → Bool) (l : List ℕ) (n : ℕ) → ((k : ℕ) → Memᴰ k l → k < n) → ((k : ℕ) → k < n → t k ≡ true → Memᴰ k l) → list_any t l ≡ some t n
any_some t l n below all =
    both_ways (list_any t l) (some t n)
    (λ e. let w = any_at t l e in some-yes t n w.0 (below w.0 w.1) w.2)
    (λ e. let w = some_at t n e in any-yes t l w.0 (all w.0 w.1 w.2) w.2)

-- ---- whom a corner blames has a line flag

Flagged : (ℕ → ℕ) → Option Worst → Type 0
Flagged flags None = Unit {0}
Flagged flags (Some worst) = (worst.flags ≡ flags worst.at) × (0 < worst.flags)

worse-flagged : (w : View) (flags : ℕ → ℕ) (k : ℕ) (worst : Option Worst) (p : Option ℕ) → Flagged flags worst → Flagged flags (worse_of w flags k worst p)
unfolding Flagged worse_of
worse-flagged w flags k worst None h = h
worse-flagged w flags k worst (Some p) h = go (ltb (flags_in worst) (flags m)) refl
  where
    m : ℕ
    m = w.by_idx (member_at w k p)

    go : (b : Bool) → ltb (flags_in worst) (flags m) ≡ b → Flagged flags (cond b (Some (record { at = m; flags = flags m })) worst)
    go true e = (refl, omega (arith, ltb-true (flags_in worst) (flags m) e))
    go false e = h

worst-flagged : (w : View) (flags : ℕ → ℕ) (k : ℕ) (b : List (Option ℕ)) → Flagged flags (worst_of w flags k b)
unfolding worst_of Flagged
worst-flagged w flags k b = go b None tt
  where
    go : (b : List (Option ℕ)) (worst : Option Worst) → Flagged flags worst → Flagged flags (fold (worse_of w flags k) worst b)
    go [] worst h = h
    go (p ∷ b) worst h = go b (worse_of w flags k worst p) (worse-flagged w flags k worst p h)

-- a corner that rule 3 looks at is blamed by none
blamed-apart : (w : View) (e : Evidence) (j k : ℕ) → k < w.count → is_visited w e k ≡ true → is_at (blamed w e.flags j) k ≡ false
unfolding Flagged blamed
blamed-apart w e j k l v =
    let z = eqb-true (e.flags k) 0 (and_parts (e.over k) (eqb (e.flags k) 0) (and_parts (eqb (w.by_idx k) k) (e.over k && eqb (e.flags k) 0) v).1).1 in
    false_from_ne_true (is_at (place_in (worst_of w e.flags j (base_of w j))) k) (go (worst_of w e.flags j (base_of w j)) z (worst-flagged w e.flags j (base_of w j)))
  where
    go : (worst : Option Worst) → e.flags k ≡ 0 → Flagged e.flags worst → is_at (place_in worst) k ≡ true → ⊥
    go None z h d = false≢true d
    go (Some worst) z h d = omega (arith, z, h.0, h.1, ap (λ (x : ℕ). e.flags x) (eqb-true worst.at k d))

-- the marks of rules 1 and 2, with which the Rust starts on rule 3
abbrev marked12 : Evidence → ℕ → Bool
marked12 e m = rule1 e m || rule2 e m

fresh : (w : View) (e : Evidence) (k : ℕ) → k < w.count → is_visited w e k ≡ true → marked12 e k ≡ false
fresh w e k l v =
    let z = eqb-true (e.flags k) 0 (and_parts (e.over k) (eqb (e.flags k) 0) (and_parts (eqb (w.by_idx k) k) (e.over k && eqb (e.flags k) 0) v).1).1 in
    rw (lt-leb 2 (e.flags k) (omega arith), lt-leb 1 (e.flags k) (omega arith)) (and-false (e.high k))

-- "(3) in index order, .. not yet marked": after rules 1 and 2, the corners of any listing of ranks that has each corner rule 3 looks at,
-- one after the other and each only if it is not marked yet, leave with rule 4 the marks of the definition.
pub in_order : (w : View) (e : Evidence) (l : List ℕ) → ((k : ℕ) → Memᴰ k l → k < w.count) → ((k : ℕ) → k < w.count → is_visited w e k ≡ true → Memᴰ k l)
    → (m : ℕ) → fold (visit (blamed w e.flags) (is_visited w e)) (marked12 e) l m || rule4 e m ≡ is_marked w e m
unfolding is_marked blames
in_order w e l below all m =
    ap (λ (b : Bool). b || rule4 e m)
    (walked (blamed w e.flags) (is_visited w e) w.count (blamed-apart w e) l below (marked12 e) (fresh w e) m
    ∙ ap (λ (b : Bool). marked12 e m || b) (any_some (hits (blamed w e.flags) (is_visited w e) m) l w.count below (λ k h c. all k h (and_parts (is_visited w e k) (is_at (blamed w e.flags k) m) c).0)))
    ∙ or-right-first (rule1 e m) (rule2 e m) (rule3 w e m) (rule4 e m)
