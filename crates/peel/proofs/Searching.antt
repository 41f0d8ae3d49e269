-- Laws of the search of a round: the ranks of an index that are put on the queue, one rank after the other, and one search after another.
-- Assumes nothing.
use mathlib.Core.Path.{◌≡◌, refl, sym, ap, ◌∙◌}
use mathlib.Core.Bool.{Bool, true, false, true≢false}
use mathlib.Core.Logic.{◌⊎◌, inl, inr, ⊎_elim}
use mathlib.Core.List.{List}
use Rattle.std.proofs.Common.{None}
use Prim.{yes, no}
use Prim.Native.Nat.{ℕ, ◌+◌, ◌*◌, ◌≤◌, ◌<◌}
use native.Mathlib.Nat.{eq-or-lt_of_le}
use native.Mathlib.Decide.{ℕ_discrete, dec_lt, dec_le}
use native.Mathlib.Omega.{arith}
use borrow.Author.Tests.{eq-eqb, ne_eqb, eqb-true, lt-ltb, ltb-true}
use lib.Dec.{ltb}
use lib.ListN.{length, get_or, set, length-set, get_or-eq_default}
use lib.Seq.{get_or-set_same, get_or-set_other}
use Rattle.folds.proofs.Below.{tally-le}
use Rattle.folds.proofs.Counting.{tally-grows, tally-below}
use Rattle.view.specs.View.{max_points}
use Rattle.marks.specs.Marks.{is_set}
use Rattle.peel.specs.declared.state.State.{State}
use Rattle.peel.specs.Work.{index_at, leaf_at, last_below, with_index, Queued, point_has, Whole, Searched, near_at, Beside, BesideQueued}
use Rattle.peel.proofs.Chaining.{Last, last-none}
use Rattle.std.proofs.lemmas.Bool.{and_from, and_parts, cases_Bool}

-- ---- the queue

module _ {marks queue : List ℕ} {tail : ℕ} (g : Queued marks queue tail) where
  pub queue-few : tail ≤ max_points
  queue-few = omega (arith, g.room, tally-le (is_set marks) max_points)

  -- what is on the queue has a mark
  pub queue-place : (p : ℕ) → p < tail → get_or queue p 0 < max_points
  queue-place p h = elim (dec_lt (get_or queue p 0) max_points) [
    | yes l ↦ l
    | no f ↦ let z : get_or marks (get_or queue p 0) 0 ≡ 0 = get_or-eq_default marks 0 (omega (arith, f, g.marks-long)) in absurd (omega (arith, g.marked p h, z))
  ]

  module _ (x : ℕ) (h : x < max_points) (new : get_or marks x 0 ≡ 1 → ⊥) where
    unset : is_set marks x ≡ false
    unset = ne_eqb (get_or marks x 0) 1 new

    -- there is room for a rank that has no mark
    pub queue-room : tail < max_points
    queue-room = omega (arith, g.room, tally-below (is_set marks) max_points x h unset)

    stays : (y : ℕ) → get_or marks y 0 ≡ 1 → get_or (set marks x 1) y 0 ≡ 1
    stays y e = elim (ℕ_discrete y x) [
      | yes d ↦ rw d (get_or-set_same marks x 1 0 (omega (arith, g.marks-long)))
      | no f ↦ get_or-set_other marks x y 1 0 f ∙ e
    ]

    pub queue-put : Queued (set marks x 1) (set queue tail x) (tail + 1)
    queue-put = record {
      marks-long = length-set marks x 1 ∙ g.marks-long;
      queue_long = length-set queue tail x ∙ g.queue_long;
      room = omega (
        arith,
        g.room,
        tally-grows (is_set marks) (is_set (set marks x 1)) max_points x h unset (rw (get_or-set_same marks x 1 0 (omega (arith, g.marks-long))) refl)
            (λ y m e. eq-eqb (get_or (set marks x 1) y 0) 1 (stays y (eqb-true (get_or marks y 0) 1 e))),
      );
      marked = λ p m. ⊎_elim
          (λ (q : p ≡ tail). rw (q, get_or-set_same queue tail x 0 (omega (arith, queue-room, g.queue_long))) (get_or-set_same marks x 1 0 (omega (arith, g.marks-long))))
          (λ (q : p < tail). rw (get_or-set_other queue tail p x 0 (λ z. omega (arith, z, q))) (stays (get_or queue p 0) (g.marked p q)))
          (eq-or-lt_of_le (omega arith));
      bits = λ y. elim (ℕ_discrete y x) [
        | yes d ↦ rw (d, get_or-set_same marks x 1 0 (omega (arith, g.marks-long))) (omega arith)
        | no f ↦ rw (get_or-set_other marks x y 1 0 f) (g.bits y)
      ];
    }

-- nothing is put
pub searched-none : {n : ℕ} {ranks : List ℕ} {state : List State} {sides marks queue : List ℕ} {tail : ℕ} → Whole n ranks marks → (Met : ℕ → Type 0)
    → ((k : ℕ) → k < n → Met k → leaf_at n ranks state sides k ≡ true → get_or marks k 0 ≡ 1) → Searched n ranks state sides Met marks queue tail marks queue tail
searched-none w Met m = record {
  whole = w;
  kept = λ k e. e;
  longer = omega arith;
  front = λ p h. refl;
  ending = λ p g h. absurd (omega arith);
  listed = λ k e. inl e;
  met = m;
}

-- ---- the ranks of the index at place b are put, from the last one down: those from m on are

pub record Putting (n : ℕ) (ranks : List ℕ) (b m : ℕ) (marks queue : List ℕ) (tail : ℕ) (marks' queue' : List ℕ) (tail' : ℕ) : Type 0 where
  pub within : m ≤ n
  pub new : (x : ℕ) → point_has n ranks b x ≡ true → get_or marks x 0 ≡ 1 → ⊥
  pub longer : tail ≤ tail'
  pub front : (p : ℕ) → p < tail → get_or queue' p 0 ≡ get_or queue p 0
  pub put : (x : ℕ) → m ≤ x → point_has n ranks b x ≡ true → get_or marks' x 0 ≡ 1
  pub other : (x : ℕ) → point_has n ranks b x ≡ false → get_or marks' x 0 ≡ get_or marks x 0
  pub below : (x : ℕ) → x < m → get_or marks' x 0 ≡ get_or marks x 0
  pub entries : (p : ℕ) → tail ≤ p → p < tail' → point_has n ranks b (get_or queue' p 0) ≡ true
  pub listed : (x : ℕ) → m ≤ x → point_has n ranks b x ≡ true → (p : ℕ) × (tail ≤ p) × (p < tail') × (get_or queue' p 0 ≡ x)

is-below : (n : ℕ) (ranks : List ℕ) (b x : ℕ) → point_has n ranks b x ≡ true → x < n
is-below n ranks b x e = ltb-true x n (and_parts (ltb x n) (with_index ranks b x) e).0

module _ {n : ℕ} {ranks : List ℕ} {b : ℕ} where
  pub put-start : {marks queue : List ℕ} {tail : ℕ} → ((x : ℕ) → point_has n ranks b x ≡ true → get_or marks x 0 ≡ 1 → ⊥) → Putting n ranks b n marks queue tail marks queue tail
  put-start new = record {
    within = omega arith;
    new = new;
    longer = omega arith;
    front = λ p h. refl;
    put = λ x h e. absurd (omega (arith, h, is-below n ranks b x e));
    other = λ x e. refl;
    below = λ x h. refl;
    entries = λ p g h. absurd (omega arith);
    listed = λ x h e. absurd (omega (arith, h, is-below n ranks b x e));
  }

  module _ {m x : ℕ} {marks queue : List ℕ} {tail : ℕ} {marks' queue' : List ℕ} {tail' : ℕ} (g : Putting n ranks b m marks queue tail marks' queue' tail')
      (l : Last (with_index ranks b) m x) where
    own : point_has n ranks b x ≡ true
    own = and_from _ (with_index ranks b x) (lt-ltb x n (omega (arith, l.below, g.within))) l.has

    -- the next has no mark yet
    pub put-new : get_or marks' x 0 ≡ 1 → ⊥
    put-new e = g.new x own (sym (g.below x l.below) ∙ e)

    -- a rank of the index from it on is it, or was put before
    cases : (y : ℕ) → x ≤ y → point_has n ranks b y ≡ true → (m ≤ y) ⊎ (y ≡ x)
    cases y h e = ⊎_elim
        (λ (d : x ≡ y). inr (sym d))
        (λ (d : x < y). elim (dec_le m y) [
          | yes f ↦ inl f
          | no f ↦ absurd (true≢false (sym (and_parts _ (with_index ranks b y) e).1 ∙ l.none y d (omega (arith, f))))
        ])
        (eq-or-lt_of_le h)

    -- the next is put
    module _ (few : n ≤ max_points) (q : Queued marks' queue' tail') where
      at_x : get_or (set marks' x 1) x 0 ≡ 1
      at_x = get_or-set_same marks' x 1 0 (omega (arith, few, q.marks-long, l.below, g.within))

      at_other : (y : ℕ) → (y ≡ x → ⊥) → get_or (set marks' x 1) y 0 ≡ get_or marks' y 0
      at_other y f = get_or-set_other marks' x y 1 0 f

      at_tail : get_or (set queue' tail' x) tail' 0 ≡ x
      at_tail = get_or-set_same queue' tail' x 0 (omega (arith, queue-room q x (omega (arith, few, l.below, g.within)) put-new, q.queue_long))

      before : (p : ℕ) → p < tail' → get_or (set queue' tail' x) p 0 ≡ get_or queue' p 0
      before p m = get_or-set_other queue' tail' p x 0 (λ z. omega (arith, z, m))

      pub put-more : Putting n ranks b x marks queue tail (set marks' x 1) (set queue' tail' x) (tail' + 1)
      put-more = record {
        within = omega (arith, l.below, g.within);
        new = g.new;
        longer = omega (arith, g.longer);
        front = λ p m. before p (omega (arith, g.longer)) ∙ g.front p m;
        put = λ y m e. ⊎_elim
            (λ (q : m' ≤ y). at_other y (λ z. omega (arith, z, q, l.below)) ∙ g.put y q e)
            (λ (q : y ≡ x). rw q at_x)
            (cases y m e);
        other = λ y e. at_other y (λ z. true≢false (sym own ∙ ap (point_has n ranks b) (sym z) ∙ e)) ∙ g.other y e;
        below = λ y m. at_other y (λ z. omega (arith, z, m)) ∙ g.below y (omega (arith, l.below));
        entries = λ p m h. ⊎_elim
            (λ (q : p ≡ tail'). rw (q, at_tail) own)
            (λ (q : p < tail'). rw (before p q) (g.entries p m q))
            (eq-or-lt_of_le (omega arith));
        listed = λ y m e. ⊎_elim
            (λ (q : m' ≤ y). let s = g.listed y q e in (s.0, s.1, omega (arith, s.2), before s.0 s.2 ∙ s.3))
            (λ (q : y ≡ x). (tail', g.longer, omega arith, at_tail ∙ sym q))
            (cases y m e);
      }
        where
          m' : ℕ
          m' = m

-- all are put: the index of the end k has gone
pub put-end : {n : ℕ} {ranks : List ℕ} {state : List State} {sides marks queue : List ℕ} {tail : ℕ} {marks' queue' : List ℕ} {tail' m k b : ℕ} → Whole n ranks marks → leaf_at n ranks state sides k ≡ true → k < n → b ≡ index_at ranks k
    → last_below (with_index ranks b) m ≡ None → Putting n ranks b m marks queue tail marks' queue' tail' → Searched n ranks state sides (λ (j : ℕ). j ≡ k) marks queue tail marks' queue' tail'
put-end {n} {ranks} {state} {sides} {marks} {queue} {tail} {marks'} {queue'} {tail'} {m} {k} {b} w end point own done g = record {
  whole = record {
    points = λ x e. ⊎_elim (λ (t : has x ≡ true). is-below n ranks b x t) (λ (f : has x ≡ false). w.points x (sym (g.other x f) ∙ e)) (cases_Bool (has x));
    shared = λ i j p q e m. ⊎_elim
        (λ (t : has i ≡ true). all j (and_from _ (with_index ranks b j) (lt-ltb j n q) (eq-eqb (index_at ranks j) b (sym e ∙ eqb-true (index_at ranks i) b (and_parts _ (with_index ranks b i) t).1))))
        (λ (f : has i ≡ false). keeps j (w.shared i j p q e (sym (g.other i f) ∙ m)))
        (cases_Bool (has i));
  };
  kept = keeps;
  longer = g.longer;
  front = g.front;
  ending = λ p l h. (k, end, sym own ∙ sym (eqb-true (index_at ranks (get_or queue' p 0)) b (and_parts _ (with_index ranks b (get_or queue' p 0)) (g.entries p l h)).1));
  listed = λ x e. ⊎_elim (λ (t : has x ≡ true). inr (g.listed x (late x t) t)) (λ (f : has x ≡ false). inl (sym (g.other x f) ∙ e)) (cases_Bool (has x));
  met = λ j l d e. rw d (all k (and_from _ (with_index ranks b k) (lt-ltb k n point) (eq-eqb (index_at ranks k) b (sym own))));
}
  where
    has : ℕ → Bool
    has = point_has n ranks b

    late : (x : ℕ) → has x ≡ true → m ≤ x
    late x t = elim (dec_le m x) [
      | yes h ↦ h
      | no f ↦ absurd (true≢false (sym (and_parts _ (with_index ranks b x) t).1 ∙ last-none (with_index ranks b) m done x (omega (arith, f))))
    ]

    all : (x : ℕ) → has x ≡ true → get_or marks' x 0 ≡ 1
    all x t = g.put x (late x t) t

    keeps : (x : ℕ) → get_or marks x 0 ≡ 1 → get_or marks' x 0 ≡ 1
    keeps x e = ⊎_elim (λ (t : has x ≡ true). all x t) (λ (f : has x ≡ false). g.other x f ∙ e) (cases_Bool (has x))

-- ---- one search after another

module _ {n : ℕ} {ranks : List ℕ} {state : List State} {sides : List ℕ} {M : ℕ → Type 0} {a q : List ℕ} {t : ℕ} {a' q' : List ℕ} {t' : ℕ} (Met : ℕ → Type 0) where
  pub searched-then : {N : ℕ → Type 0} {a'' q'' : List ℕ} {t'' : ℕ} → ((k : ℕ) → k < n → Met k → M k ⊎ N k) → Searched n ranks state sides M a q t a' q' t' → Searched n ranks state sides N a' q' t' a'' q'' t''
      → Searched n ranks state sides Met a q t a'' q'' t''
  searched-then {N} cases f g = record {
    whole = g.whole;
    kept = λ k e. g.kept k (f.kept k e);
    longer = omega (arith, f.longer, g.longer);
    front = λ p h. g.front p (omega (arith, f.longer)) ∙ f.front p h;
    ending = λ p l h. elim (dec_lt p t') [
      | yes y ↦ rw (g.front p y) (f.ending p l y)
      | no n ↦ g.ending p (omega (arith, n)) h
    ];
    listed = λ k e. ⊎_elim
        (λ (o : get_or a' k 0 ≡ 1). ⊎_elim inl (λ w. inr (w.0, w.1, omega (arith, w.2, g.longer), g.front w.0 w.2 ∙ w.3)) (f.listed k o))
        (λ w. inr (w.0, omega (arith, w.1, f.longer), w.2, w.3))
        (g.listed k e);
    met = λ k l m e. ⊎_elim (λ (o : M k). g.kept k (f.met k l o e)) (λ (o : N k). g.met k l o e) (cases k l m);
  }

  -- what is met besides is no point
  pub searched-same : ((k : ℕ) → k < n → Met k → M k) → Searched n ranks state sides M a q t a' q' t' → Searched n ranks state sides Met a q t a' q' t'
  searched-same cases f = record {
    whole = f.whole;
    kept = f.kept;
    longer = f.longer;
    front = f.front;
    ending = f.ending;
    listed = f.listed;
    met = λ k l m e. f.met k l (cases k l m) e;
  }

-- ---- the ranks beside one side more, and beside one entry more

module _ (ranks sides : List ℕ) where
  pub beside-more : (x i j : ℕ) → near_at ranks (25 * x + get_or sides i 0) ≡ j → (k : ℕ) → Beside ranks sides (i + 1) x k → Beside ranks sides i x k ⊎ (k ≡ j)
  beside-more x i j e k w =
      ⊎_elim
      (λ (d : w.0 ≡ i). inr (sym w.2 ∙ ap (λ (m : ℕ). near_at ranks (25 * x + get_or sides m 0)) d ∙ e))
      (λ (d : w.0 < i). inl (w.0, d, w.2))
      (eq-or-lt_of_le (omega (arith, w.1)))

  pub queued-more : (queue : List ℕ) (from p x : ℕ) → x ≡ get_or queue p 0 → (k : ℕ) → BesideQueued ranks sides queue from (p + 1) k → BesideQueued ranks sides queue from p k ⊎ Beside ranks sides (length sides) x k
  queued-more queue from p x e k w =
      ⊎_elim
      (λ (d : w.0 ≡ p). let q : get_or queue w.0 0 ≡ x = ap (λ (m : ℕ). get_or queue m 0) d ∙ sym e in inr (rw q at w.3))
      (λ (d : w.0 < p). inl (w.0, w.1, d, w.3))
      (eq-or-lt_of_le (omega (arith, w.2)))

-- no point at the side
pub beside-none : (n : ℕ) (ranks sides : List ℕ) (x i : ℕ) → n ≤ near_at ranks (25 * x + get_or sides i 0) → (k : ℕ) → k < n → Beside ranks sides (i + 1) x k → Beside ranks sides i x k
beside-none n ranks sides x i h k l w = ⊎_elim (λ b. b) (λ (d : k ≡ near_at ranks (25 * x + get_or sides i 0)). absurd (omega (arith, h, l, d))) (beside-more ranks sides x i _ refl k w)
