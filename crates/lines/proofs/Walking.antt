-- The chain of each line, as it is made from the last rank down and walked from the first rank up. Assumes nothing.
use mathlib.Core.Path.{◌≡◌, refl, sym, ap, ◌∙◌}
use mathlib.Core.Bool.{Bool, true, false}
use mathlib.Core.List.{List}
use Prim.Native.Nat.{ℕ, zero, suc, ◌+◌, ◌-◌, ◌≤◌, ◌<◌}
use Prim.{Dec, yes, no}
use native.Mathlib.Decide.{ℕ_discrete, dec_lt}
use native.Mathlib.Omega.{arith}
use borrow.Author.Tests.{eq-eqb, ne_eqb, eqb-true, lt-ltb, le-ltb}
use lib.ListN.{length, get_or, set, take, length-set, replicate, length-replicate}
use Rattle.std.specs.Prelude.{Option, None, Some}
use Rattle.std.proofs.lemmas.List.{length-take-le, get_or-take}
use lib.Seq.{get_or-set_same, get_or-set_other}
use Rattle.folds.specs.Below.{first}
use Rattle.folds.proofs.Below.{first_more, first-end, first-le, first-before, first-from, first_holds}
use Rattle.folds.specs.Lists.{Gathered}
use Rattle.folds.proofs.Lists.{gathered_none, gathered-skip, gathered-put}
use Rattle.folds.proofs.Column.{replicate-at}
use Rattle.view.specs.View.{max_points}
use Rattle.view.specs.Seen.{below}
use Rattle.lines.specs.Flags.{is_on}
use Rattle.lines.specs.Lines.{Members, Chained}

-- ---- the rank that a link leads to, if there is one

below-at : (n r : ℕ) → r < n → below n r ≡ Some r
below-at n r h = rw (lt-ltb r n h) refl

below-none : (n r : ℕ) → n ≤ r → below n r ≡ None
below-none n r h = rw (le-ltb r n h) refl

-- its number, or n
abbrev pub to : ℕ → Option ℕ → ℕ
to n None = n
to n (Some k) = k

to-below : (n r : ℕ) → r ≤ n → to n (below n r) ≡ r
to-below n r h = elim (dec_lt r n) [
  | yes l ↦ rw (below-at n r l) refl
  | no f ↦ rw (below-none n r (omega (arith, f))) (omega (arith, f, h))
]

-- a link that leads up leaves fewer ranks
pub up : (n r k : ℕ) → k < r → k < n → n ≤ max_points → max_points - to max_points (below n r) < max_points - k
up n r k h l few = elim (dec_lt r n) [
  | yes m ↦ rw (below-at n r m) (omega (arith, h, m, few))
  | no f ↦ rw (below-none n r (omega (arith, f))) (omega (arith, l, few))
]

-- ---- the chain

module _ (n : ℕ) (line : ℕ → ℕ) where
  -- no rank is chained yet
  pub chain-start : n ≤ max_points → Chained n line n (replicate max_points None) (replicate max_points None)
  chain-start few = record {
    heads = λ number l. replicate-at {A = Option ℕ} max_points None number ∙ sym (rw (first-end (is_on line number) n n (omega arith)) (below-none n n (omega arith)));
    nexts = λ k l m. absurd (omega arith);
    few = few;
    head-size = length-replicate {A = Option ℕ} max_points None;
    next-size = length-replicate {A = Option ℕ} max_points None;
  }

  -- rank i is put before the others of its line
  pub chain_more : (i number : ℕ) (head next : List (Option ℕ)) → i < n → number < max_points → number ≡ line i → Chained n line (i + 1) head next
      → Chained n line i (set head number (Some i)) (set next i (get_or head number None))
  chain_more i number head next l h e t = record {
    heads = λ m g. at m g (ℕ_discrete m number);
    nexts = λ k g f. after k g f (ℕ_discrete k i);
    few = t.few;
    head-size = length-set head number (Some i) ∙ t.head-size;
    next-size = length-set next i (get_or head number None) ∙ t.next-size;
  }
    where
      at : (m : ℕ) → m < max_points → Dec (m ≡ number) → get_or (set head number (Some i)) m None ≡ below n (first (is_on line m) i n)
      at m g (yes s) = rw (first_more (is_on line m) i n l, eq-eqb (line i) m (sym (s ∙ e)), s) (get_or-set_same head number (Some i) None (omega (arith, t.head-size)) ∙ sym (below-at n i l))
      at m g (no s) = rw (first_more (is_on line m) i n l, ne_eqb (line i) m (λ r. s (sym (e ∙ r)))) (get_or-set_other head number m (Some i) None s ∙ t.heads m g)

      after : (k : ℕ) → i ≤ k → k < n → Dec (k ≡ i) → get_or (set next i (get_or head number None)) k None ≡ below n (first (is_on line (line k)) (k + 1) n)
      after k g f (yes s) = rw (s, get_or-set_same next i (get_or head number None) None (omega (arith, t.next-size, t.few)), ← e) (t.heads number h)
      after k g f (no s) = get_or-set_other next i k (get_or head number None) None s ∙ t.nexts k (omega (arith, s)) f

-- from one rank with p to the next
gathered-on : (p : ℕ → Bool) (i m : ℕ) (l : List ℕ) (c : ℕ) → ((j : ℕ) → i ≤ j → j < i + m → p j ≡ false) → Gathered p i l c → Gathered p (i + m) l c
gathered-on p i zero l c h g = let e : i + 0 ≡ i = omega arith in rw e g
gathered-on p i (suc m) l c h g =
    let e : i + suc m ≡ i + m + 1 = omega arith in
    rw e (gathered-skip p (i + m) l c (gathered-on p i m l c (λ j a b. h j a (omega arith)) g) (h (i + m) (omega arith) (omega arith)))

-- on to the next rank with p, or to the end
pub gathered-to : (p : ℕ → Bool) (i n : ℕ) {l : List ℕ} {c : ℕ} → i ≤ n → Gathered p i l c → Gathered p (first p i n) l c
gathered-to p i n {l} {c} h g =
    let e : i + (first p i n - i) ≡ first p i n = omega (arith, first-from p i n) in
    rw e at (gathered-on p i (first p i n - i) l c (λ j a b. first-before p i n j a (omega arith)) g)

-- ---- the walk: next is the rank to come, and the c ranks with p before it are written

pub record Walked (n : ℕ) (p : ℕ → Bool) (next : Option ℕ) (l : List ℕ) (c : ℕ) : Type 0 where
  pub size : length l ≡ max_points
  pub gathered : Gathered p (to n next) l c
  pub rank : (k : ℕ) → next ≡ Some k → (k < n) × (p k ≡ true)

-- the rank to come is the first with p from i on
walk-from : {n : ℕ} {p : ℕ → Bool} {next : Option ℕ} {l : List ℕ} {c : ℕ} (i : ℕ) → i ≤ n → next ≡ below n (first p i n) → length l ≡ max_points → Gathered p i l c → Walked n p next l c
walk-from {n} {p} {next} {l} {c} i h e size g = record {
  size = size;
  gathered = rw (e, to-below n (first p i n) (first-le p i n h)) (gathered-to p i n h g);
  rank = λ k d. elim (dec_lt (first p i n) n) [
    | yes m ↦
        let s : first p i n ≡ k = let z : Some (first p i n) ≡ Some k = sym (below-at n (first p i n) m) ∙ sym e ∙ d in cc in
        (omega (arith, m, s), ap p (sym s) ∙ first_holds p i n m)
    | no f ↦ let z : None ≡ Some k = sym (below-none n (first p i n) (omega (arith, f))) ∙ sym e ∙ d in cc
  ];
}

module _ {n : ℕ} {line : ℕ → ℕ} {head next : List (Option ℕ)} (t : Chained n line 0 head next) where
  pub walk-start : (number : ℕ) (l : List ℕ) → number < max_points → length l ≡ max_points → Walked n (is_on line number) (get_or head number None) l 0
  walk-start number l h size = walk-from 0 (omega arith) (t.heads number h) size (gathered_none _ l)

  pub walk-more : (number k : ℕ) {c : ℕ} {l : List ℕ} → Walked n (is_on line number) (Some k) l c → Walked n (is_on line number) (get_or next k None) (set l c k) (c + 1)
  walk-more number k {c} {l} w =
      let r = w.rank k refl in
      walk-from (k + 1) (omega (arith, r.0)) (t.nexts k (omega arith) r.0 ∙ ap (λ (m : ℕ). below n (first (is_on line m) (k + 1) n)) (eqb-true (line k) number r.1))
      (length-set l c k ∙ w.size) (gathered-put (is_on line number) k l c (omega (arith, w.size, r.0, t.few)) w.gathered r.1)

  pub walk-up : (k : ℕ) → k < n → max_points - to max_points (get_or next k None) < max_points - k
  walk-up k h = rw (t.nexts k (omega arith) h) (up n (first (is_on line (line k)) (k + 1) n) k (omega (arith, first-from (is_on line (line k)) (k + 1) n)) h t.few)

-- at the end of the chain its members are written; they are ranks
pub walk-members : {p : ℕ → Bool} {n : ℕ} {l : List ℕ} {c : ℕ} → n ≤ max_points → Walked n p None l c → Members (take c l)
walk-members {p} {n} {l} {c} few w =
    let g = w.gathered in
    let long : length (take c l) ≡ c = length-take-le c l (omega (arith, g.few, few, w.size)) in
    record { few = omega (arith, long, g.few); ranks = λ i h. let lt : i < c = omega (arith, long) in rw get_or-take (omega (arith, g.each i lt)) }
