-- Steps of the loops over line ends. Assumes nothing.
use mathlib.Core.Path.{◌≡◌, refl, sym, ◌∙◌}
use mathlib.Core.Bool.{Bool, true, false, cond, ◌&&◌, ◌||◌}
use mathlib.Core.List.{List, []}
use Prim.Native.Nat.{ℕ, ◌+◌, ◌<◌}
use native.Mathlib.Omega.{arith}
use native.Mathlib.Decide.{ℕ_discrete, dec_lt}
use Prim.{Dec, yes, no}
use lib.Dec.{eqb, ltb, leb}
use borrow.Author.Tests.{lt-ltb, le-ltb, lt-leb, le-leb, eq-eqb, ne_eqb}
use lib.ListN.{get_or, set, replicate, length-set, length-replicate}
use lib.Seq.{get_or-set_same, get_or-set_other}
use lib.Ieee.{Float}
use Rattle.folds.specs.Arith.{◌⊖◌}
use Rattle.folds.specs.Below.{some, last}
use Rattle.folds.proofs.Below.{some-no, some_one, last_none, last_more}
use Rattle.folds.proofs.Column.{replicate-at}
use Rattle.folds.specs.Marked.{Marked}
use Rattle.folds.proofs.Marked.{marked-as, marked-then}
use Rattle.float.specs.Scalar.{norm_of}
use Rattle.offsets.specs.declared.Offset.{Offset}
use Rattle.offsets.specs.declared.axis.Axis.TheVariants.{AlongU, AlongV}
use Rattle.offsets.specs.Offsets.{next_u, prev_u, next_v, prev_v}
use Rattle.view.specs.View.{View, view_at, max_points, rank_at, degree_at}
use Rattle.std.specs.Prelude.{Option, None, Some}
use Rattle.view.specs.Seen.{lattice_in, view_in, below}
use Rattle.view.specs.declared.lattice.View.{View as Held}
use Rattle.wrong_label_filters.specs.Frontier.{kink, kink_at, last_in_line, end_mark, frontier_mark}
use Rattle.wrong_label_filters.specs.Lasts.{line_mark, Lasts}
use Rattle.std.proofs.Math.Bool.{and-false}

-- ---- the kink at a rank

-- a degree goes by the neighbours alone
pub degree-same : (n : ℕ) (ranks : List ℕ) (xs ys : List Float) (k : ℕ) → degree_at (view_at n ranks xs ys) k ≡ degree_at (view_at n ranks [] []) k
unfolding degree_at
degree-same n ranks xs ys k = refl

module _ (w : View) where
  abbrev pub between : ℕ → ℕ → Float
  between a b = norm_of (w.x b ⊖ w.x a) (w.y b ⊖ w.y a)

  pub kink-is : (inward : Offset) (k a b c : ℕ) → rank_at w k inward ≡ a → rank_at w a inward ≡ b → rank_at w b inward ≡ c
      → kink_at w inward k ≡ ltb a w.count && (ltb b w.count && (ltb c w.count && (leb (degree_at w k) 2 && kink (between k a) (between a b) (between b c))))
  unfolding kink_at
  kink-is inward k a b c p q r = rw (p, q, r)

-- the ranks of a kink one after the other, as the code looks for them
abbrev if_there : Option ℕ → (ℕ → Bool) → Bool
if_there None f = false
if_there (Some k) f = f k

next : (n r : ℕ) (b : Bool) (f : ℕ → Bool) → b ≡ f r → ltb r n && b ≡ if_there (below n r) f
next n r b f e = go (ltb r n)
  where
    go : (t : Bool) → t && b ≡ if_there (cond t (Some r) None) f
    go true = e
    go false = refl

few-sides : (d : ℕ) (b : Bool) → leb d 2 && b ≡ cond (ltb 2 d) false b
few-sides d b = go (dec_lt 2 d)
  where
    go : Dec (2 < d) → leb d 2 && b ≡ cond (ltb 2 d) false b
    go (yes h) = rw (lt-ltb 2 d h, lt-leb d 2 h)
    go (no h) = rw (le-ltb 2 d (omega (arith, h)), le-leb d 2 (omega (arith, h)))

module _ (v : Held) where
  abbrev from : ℕ → Offset → (ℕ → Bool) → Bool
  from k o f = if_there (below v.sheet.lattice.count (rank_at (view_in v) k o)) f

  -- a kink by its four ranks
  abbrev kink_by : ℕ → ℕ → ℕ → ℕ → Bool
  kink_by k a b c = cond (ltb 2 (degree_at (lattice_in v.sheet.lattice) k)) false (kink (between (view_in v) k a) (between (view_in v) a b) (between (view_in v) b c))

  pub kink_steps : (inward : Offset) (k : ℕ) → kink_at (view_in v) inward k ≡ from k inward (λ a. from a inward (λ b. from b inward (kink_by k a b)))
  kink_steps inward k =
      let w = view_in v in
      let n = v.sheet.lattice.count in
      let a = rank_at w k inward in
      let b = rank_at w a inward in
      let c = rank_at w b inward in
      let x = leb (degree_at w k) 2 && kink (between w k a) (between w a b) (between w b c) in
      kink-is w inward k a b c refl refl refl
      ∙ next n a (ltb b n && (ltb c n && x)) (λ d. from d inward (λ e. from e inward (kink_by k d e)))
      (next n b (ltb c n && x) (λ e. from e inward (kink_by k a e))
      (next n c x (kink_by k a b)
      (rw (degree-same n v.sheet.lattice.ranks.now v.seen.x.now v.seen.y.now k) (few-sides (degree_at (lattice_in v.sheet.lattice) k) (kink (between w k a) (between w a b) (between w b c))))))

-- ---- the ends that a loop marks

pub end-marks : (t : ℕ → Bool) (n : ℕ) {a b : List ℕ} → Marked (λ (m : ℕ). some (λ (k : ℕ). t k && eqb k m) n) a b → Marked (λ (m : ℕ). ltb m n && t m) a b
end-marks t n r = marked-as (λ (m : ℕ). some (λ (k : ℕ). t k && eqb k m) n) (λ (m : ℕ). ltb m n && t m) (λ m l. go m (dec_lt m n)) r
  where
    go : (m : ℕ) → Dec (m < n) → some (λ (k : ℕ). t k && eqb k m) n ≡ ltb m n && t m
    go m (yes h) = rw (lt-ltb m n h) (some_one t n m h)
    go m (no h) = rw (le-ltb m n (omega (arith, h))) (some-no (λ (k : ℕ). t k && eqb k m) n (λ k l. rw (ne_eqb k m (λ q. omega (arith, h, l, q))) (and-false (t k))))

-- ---- lines

pub lasts-none : (line : ℕ → ℕ) → Lasts line 0 (replicate max_points 0)
lasts-none line = record { size = length-replicate {A = ℕ} max_points 0; at = λ m l. replicate-at {A = ℕ} max_points 0 m ∙ sym (last_none (λ (j : ℕ). eqb (line j) m) 0) }

pub lasts-more : (line : ℕ → ℕ) (k a v : ℕ) {lasts : List ℕ} → a ≡ line k → v ≡ k → a < max_points → Lasts line k lasts → Lasts line (k + 1) (set lasts a v)
lasts-more line k a v {lasts} e f h r = record {
  size = length-set lasts a v ∙ r.size;
  at = λ m l. rw (last_more (λ (j : ℕ). eqb (line j) m) 0 k, ← e) (go m l (ℕ_discrete a m));
}
  where
    go : (m : ℕ) → m < max_points → Dec (a ≡ m) → get_or (set lasts a v) m 0 ≡ cond (eqb a m) k (last (λ (j : ℕ). eqb (line j) m) 0 k)
    go m l (yes q) = rw (eq-eqb a m q, ← q, get_or-set_same lasts a v 0 (omega (arith, r.size))) f
    go m l (no q) = rw (ne_eqb a m q, get_or-set_other lasts a m v 0 (λ s. q (sym s))) (r.at m l)

pub last-is : (w : View) (line : ℕ → ℕ) (lasts : List ℕ) (k m : ℕ) → Lasts line w.count lasts → m ≡ line k → m < max_points → get_or lasts m 0 ≡ last_in_line w line k
unfolding last_in_line
last-is w line lasts k m r e h = r.at m h ∙ rw e

-- both ends of rows and columns
pub all-ends : (w : View) {a b c : List ℕ} → Marked (λ (m : ℕ). ltb m w.count && line_mark w AlongU m) a b → Marked (λ (m : ℕ). ltb m w.count && line_mark w AlongV m) b c
    → Marked (λ (m : ℕ). ltb m w.count && frontier_mark w m) a c
unfolding frontier_mark line_mark
all-ends w p q =
    marked-as _ (λ (m : ℕ). ltb m w.count && frontier_mark w m)
    (λ m l. join (ltb m w.count) (end_mark w w.row next_u m) (end_mark w (last_in_line w w.row) prev_u m) (end_mark w w.column next_v m) (end_mark w (last_in_line w w.column) prev_v m))
    (marked-then _ _ p q)
  where
    join : (l a b c d : Bool) → (l && (a || b)) || (l && (c || d)) ≡ l && (a || (b || (c || d)))
    join false a b c d = refl
    join true true b c d = refl
    join true false true c d = refl
    join true false false c d = refl
