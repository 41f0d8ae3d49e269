-- Laws of the search for patches: a visit keeps the state, so does one entry of the worklist more, and at its end the next patch may begin.
-- Assumes nothing.
use mathlib.Core.Path.{◌≡◌, refl, sym, ap, ◌∙◌, subst}
use mathlib.Core.Bool.{Bool, true}
use mathlib.Core.Logic.{⊎_elim}
use mathlib.Core.List.{List, [], ◌∷◌}
use Prim.{yes, no}
use Prim.Native.Nat.{ℕ, zero, suc, ◌+◌, ◌*◌, ◌≤◌, ◌<◌, zero-le, suc-le-suc}
use native.Mathlib.Nat.{le_step, eq-or-lt_of_le}
use native.Mathlib.Decide.{ℕ_discrete, dec_lt}
use native.Mathlib.Omega.{arith}
use borrow.Author.Count.{below_more}
use lib.ListN.{length, get_or, set, length-set}
use lib.Seq.{get_or-set_same, get_or-set_other}
use Rattle.offsets.specs.declared.Offset.{Offset}
use Rattle.offsets.specs.Offsets.{places}
use Rattle.view.specs.View.{View, max_points, rank_at}
use Rattle.patches.specs.Patches.{survives, linked}
use Rattle.patches.specs.Reach.{Reach, here, step}
use Rattle.patches.specs.Search.{Visited, marks_set, Worklist, Visit, stays, pushed, Met, start_marks, unlabelled, Searching, SearchingIn, Advanced}
use Rattle.patches.proofs.Lattices.{item-place}
use Rattle.patches.proofs.Surviving.{survives-lt, start-open, start-alive, link-from, link-to, link-side, link-by}

-- ---- the arrays

marks-le : (m : List ℕ) → marks_set m ≤ length m
unfolding marks_set
marks-le [] = zero-le
marks-le (zero ∷ l) = le_step (marks-le l)
marks-le (suc a ∷ l) = suc-le-suc (marks-le l)

marks-more : (m : List ℕ) (j : ℕ) → j < length m → get_or m j 0 ≡ 0 → marks_set (set m j 1) ≡ suc (marks_set m)
unfolding marks_set
marks-more [] j h z = absurd (omega arith)
marks-more (zero ∷ l) zero h z = refl
marks-more (suc a ∷ l) zero h z = absurd (omega (arith, z))
marks-more (zero ∷ l) (suc j) h z = marks-more l j (omega arith) z
marks-more (suc a ∷ l) (suc j) h z = ap suc (marks-more l j (omega arith) z)

module _ {m l q : List ℕ} {t : ℕ} (w : Worklist m l q t) where
  -- where a mark is not set, there is room for one more
  pub list-room : (j : ℕ) → j < max_points → get_or m j 0 ≡ 0 → t < max_points
  list-room j h z = omega (arith, marks-more m j (omega (arith, w.marks)) z, marks-le (set m j 1), length-set m j 1, w.marks, w.room)

  pub list-few : t ≤ max_points
  list-few = omega (arith, w.room, marks-le m, w.marks)

-- what holds of the old entries of a worklist and of the new one
at_entry : (P : ℕ → Type 0) (q : List ℕ) (t j p : ℕ) → t < length q → p < t + 1 → (p < t → P (get_or q p 0)) → P j → P (get_or (set q t j) p 0)
at_entry P q t j p b h o y =
    ⊎_elim
    (λ (e : p ≡ t). subst P (sym (ap (λ (i : ℕ). get_or (set q t j) i 0) e ∙ get_or-set_same q t j 0 b)) y)
    (λ (g : p < t). subst P (sym (get_or-set_other q t p j 0 (λ e. omega (arith, e, g)))) (o g))
    (eq-or-lt_of_le (omega arith))

-- ---- a visit

-- a rank that has no mark yet is put on the worklist
pub list-push : (s : ℕ) {j : ℕ} {m l q : List ℕ} {t : ℕ} → Worklist m l q t → j < max_points → get_or m j 0 ≡ 0 → Worklist (set m j 1) (set l j s) (set q t j) (t + 1)
list-push s {j} {m} {l} {q} {t} w b z = record {
  marks = length-set m j 1 ∙ w.marks;
  labels = length-set l j s ∙ w.labels;
  work = length-set q t j ∙ w.work;
  room = omega (arith, marks-more m j (omega (arith, b, w.marks)) z, w.room);
  ranks = λ p h. at_entry (λ (k : ℕ). k < max_points) q t j p (omega (arith, list-room w j b z, w.work)) h (w.ranks p) b;
}

module _ {s j : ℕ} {m l q : List ℕ} {t : ℕ} where
  -- no mark is lost
  visit-kept : (k : ℕ) {m' l' q' : List ℕ} {t' : ℕ} → Visit s j m l q t m' l' q' t' → Visited m k → Visited m' k
  visit-kept k (stays h) d y = d y
  visit-kept k (pushed z) d y = elim (ℕ_discrete k j) [
    | yes f ↦ d (ap (λ (i : ℕ). get_or m i 0) f ∙ z)
    | no f ↦ d (sym (get_or-set_other m j k 1 0 f) ∙ y)
  ]

  module _ (w : Worklist m l q t) (b : j < max_points) where
    -- a rank is marked by a visit
    visit-marks : {m' l' q' : List ℕ} {t' : ℕ} → Visit s j m l q t m' l' q' t' → Visited m' j
    visit-marks (stays h) y = h y
    visit-marks (pushed z) y = omega (arith, get_or-set_same m j 1 0 (omega (arith, b, w.marks)), y)

    -- the search goes on, where the rank is reached from s
    search-visit : {alive : ℕ → Bool} {link : ℕ → ℕ → Bool} {n head : ℕ} {m' l' q' : List ℕ} {t' : ℕ} → (alive j ≡ true → Reach alive link s j)
        → Searching alive link n s head m l q t → Visit s j m l q t m' l' q' t' → Searching alive link n s head m' l' q' t'
    search-visit way c (stays h) = c
    search-visit {alive} {link} {n} {head} way c (pushed z) = record {
      within = omega (arith, c.within);
      unmarked = λ k h y. elim (ℕ_discrete k j) [
        | yes e ↦ absurd (marked-j (ap (λ (i : ℕ). get_or (set m j 1) i 0) (sym e) ∙ y))
        | no f ↦ c.unmarked k h (sym (get_or-set_other m j k 1 0 f) ∙ y)
      ];
      entered = λ p h. at_entry (λ (k : ℕ). alive k ≡ true) q t j p in-q h (c.entered p) a;
      current = λ p g h. at_entry (Reach alive link s) q t j p in-q h (c.current p g) (way a);
      found = λ k d. elim (ℕ_discrete k j) [
        | yes e ↦ (t, omega arith, get_or-set_same q t j 0 in-q ∙ sym e)
        | no f ↦ let w = c.found k (old k f d) in (w.0, omega (arith, w.1), get_or-set_other q t w.0 j 0 (λ e. omega (arith, e, w.1)) ∙ w.2)
      ];
      label = λ k d. elim (ℕ_discrete k j) [
        | yes e ↦ rw (e, get_or-set_same l j s 0 (omega (arith, b, w.labels))) (record { reached = way a; least = first })
        | no f ↦ rw (get_or-set_other l j k s 0 f) (c.label k (old k f d))
      ];
      rest = λ k d. elim (ℕ_discrete k j) [
        | yes e ↦ absurd (d (subst (Met alive (set m j 1)) (sym e) (a, marked-j)))
        | no f ↦ get_or-set_other l j k s 0 f ∙ c.rest k (λ o. d (o.0, visit-kept k (pushed z) o.1))
      ];
      done = λ o k h r. visit-kept k (pushed z) (c.done o k h r);
      closed = λ p h i e. visit-kept i (pushed z) (c.closed p h i (rw (get_or-set_other q t p j 0 (λ f. omega (arith, f, h, c.within))) at e));
    }
      where
        a : alive j ≡ true
        a = c.unmarked j b z

        in-q : t < length q
        in-q = omega (arith, list-room w j b z, w.work)

        marked-j : Visited (set m j 1) j
        marked-j = visit-marks (pushed z)

        old : (k : ℕ) → (k ≡ j → ⊥) → Met alive (set m j 1) k → Met alive m k
        old k f d = (d.0, λ y. d.1 (get_or-set_other m j k 1 0 f ∙ y))

        -- a rank before s from which j is reached would have marked it
        first : (o : ℕ) → Reach alive link o j → s ≤ o
        first o r = elim (dec_lt o s) [ yes h ↦ absurd (c.done o j h r z) | no f ↦ omega (arith, f) ]

  visit-more : {m' l' q' : List ℕ} {t' : ℕ} → Visit s j m l q t m' l' q' t' → t ≤ t'
  visit-more (stays h) = omega arith
  visit-more (pushed z) = omega arith

  visit-front : (p : ℕ) {m' l' q' : List ℕ} {t' : ℕ} → Visit s j m l q t m' l' q' t' → p < t → get_or q' p 0 ≡ get_or q p 0
  visit-front p (stays h) b = refl
  visit-front p (pushed z) b = get_or-set_other q t p j 0 (λ e. omega (arith, e, b))

-- ---- one entry, and one patch

module _ {alive : ℕ → Bool} {link : ℕ → ℕ → Bool} {n s head : ℕ} {m l q : List ℕ} {t : ℕ} (c : Searching alive link n s head m l q t) where
  -- each neighbour of the entry at head is visited
  search-next : head < t → ((j : ℕ) → link (get_or q head 0) j ≡ true → Visited m j) → Searching alive link n s (head + 1) m l q t
  search-next h all = record {
    within = omega arith;
    unmarked = c.unmarked;
    entered = c.entered;
    current = λ p g b. c.current p (omega arith) b;
    found = c.found;
    label = c.label;
    rest = c.rest;
    done = c.done;
    closed = λ p b. ⊎_elim
        (λ (e : p ≡ head). subst (λ (i : ℕ). (j : ℕ) → link (get_or q i 0) j ≡ true → Visited m j) (sym e) all)
        (λ (g : p < head). c.closed p g)
        (eq-or-lt_of_le (omega arith));
  }

  -- the worklist is empty: the patch of s is marked
  search-over : ((a b : ℕ) → link a b ≡ true → alive a ≡ true) → t ≤ head → (alive s ≡ true → Visited m s) → Searching alive link n (s + 1) t m l q t
  search-over from h seed = record {
    within = omega arith;
    unmarked = c.unmarked;
    entered = c.entered;
    current = λ p g b. absurd (omega arith);
    found = c.found;
    label = c.label;
    rest = c.rest;
    done = λ a k b r. ⊎_elim
        (λ (e : a ≡ s). along seed (subst (λ (i : ℕ). Reach alive link i k) e r))
        (λ (g : a < s). c.done a k g r)
        (eq-or-lt_of_le (omega arith));
    closed = λ p b. c.closed p (omega arith);
  }
    where
      along : {a k : ℕ} → (alive a ≡ true → Visited m a) → Reach alive link a k → Visited m k
      along f (here e) = f e
      along {k = k} f (step {b} r e) =
          let w = c.found b (from b k e, along f r) in
          c.closed w.0 (omega (arith, w.1)) k (rw w.2 e)

module _ {w : View} {sides : List ℕ} {s head : ℕ} {m l q : List ℕ} {t : ℕ} where
  pub advance-none : Advanced w sides s head m l q t s head m l q t
  advance-none = record { kept = λ k d. d; search = λ dropped c. c }

  pub advance-then : {s' head' s'' head'' : ℕ} {m' l' q' m'' l'' q'' : List ℕ} {t' t'' : ℕ} → Advanced w sides s head m l q t s' head' m' l' q' t'
      → Advanced w sides s' head' m' l' q' t' s'' head'' m'' l'' q'' t'' → Advanced w sides s head m l q t s'' head'' m'' l'' q'' t''
  advance-then f g = record { kept = λ k d. g.kept k (f.kept k d); search = λ dropped c. g.search dropped (f.search dropped c) }

-- ---- the neighbours of one entry

-- the rank at the i-th offset from x
abbrev side : View → List ℕ → ℕ → ℕ → ℕ
side w sides x i = w.near (25 * x + get_or sides i 0)

-- by the offset that a loop over the list is at
pub side-is : (w : View) (sides : List Offset) (x i : ℕ) (o : Offset) → i < length sides → o ≡ get_or sides i o → side w (places sides) x i ≡ rank_at w x o
side-is w sides x i o h e = ap (λ d. w.near (25 * x + d)) (item-place sides i o h e)

-- while the entry x at head is expanded: its neighbours at the first d offsets are visited
pub record Expanding (w : View) (sides : List ℕ) (s head x : ℕ) (m₀ l₀ q₀ : List ℕ) (t₀ : ℕ) (m l q : List ℕ) (t d : ℕ) : Type 0 where
  pub inside : head < t
  pub entry : get_or q head 0 ≡ x
  pub so_far : Advanced w sides s head m₀ l₀ q₀ t₀ s head m l q t
  pub visited : (i : ℕ) → i < d → side w sides x i < w.count → Visited m (side w sides x i)

module _ {w : View} {sides : List ℕ} {s head x : ℕ} {m₀ l₀ q₀ : List ℕ} {t₀ : ℕ} where
  pub expand-start : head < t₀ → x ≡ get_or q₀ head 0 → Expanding w sides s head x m₀ l₀ q₀ t₀ m₀ l₀ q₀ t₀ 0
  expand-start h e = record { inside = h; entry = sym e; so_far = advance-none; visited = λ i h. absurd (omega arith) }

  module _ {m l q : List ℕ} {t d : ℕ} (c : Expanding w sides s head x m₀ l₀ q₀ t₀ m l q t d) where
    -- no point at the offset
    pub expand-skip : w.count ≤ side w sides x d → Expanding w sides s head x m₀ l₀ q₀ t₀ m l q t (d + 1)
    expand-skip h = record {
      inside = c.inside;
      entry = c.entry;
      so_far = c.so_far;
      visited = below_more (λ (i : ℕ). side w sides x i < w.count → Visited m (side w sides x i)) d c.visited (λ b. absurd (omega (arith, h, b)));
    }

    pub expand-more : {m' l' q' : List ℕ} {j t' : ℕ} → Worklist m l q t → j < max_points → d < length sides → side w sides x d ≡ j → Visit s j m l q t m' l' q' t'
        → Expanding w sides s head x m₀ l₀ q₀ t₀ m' l' q' t' (d + 1)
    expand-more {m' = m'} {j = j} list b h e v = record {
      inside = omega (arith, visit-more v, c.inside);
      entry = visit-front head v c.inside ∙ c.entry;
      so_far = advance-then c.so_far (record { kept = λ k. visit-kept k v; search = λ dropped o. search-visit list b (way dropped o) o v });
      visited = below_more (λ (i : ℕ). side w sides x i < w.count → Visited m' (side w sides x i)) d (λ i g b. visit-kept (side w sides x i) v (c.visited i g b))
          (λ g. subst (Visited m') (sym e) (visit-marks list b v));
    }
      where
        -- the neighbour is reached by way of the entry
        way : (dropped : List ℕ) → SearchingIn w sides dropped s head m l q t → survives w.count dropped j ≡ true → Reach (survives w.count dropped) (linked w.count w.near sides dropped) s j
        way dropped o a = step (o.current head (omega arith) c.inside) (link-by w.count w.near sides dropped (get_or q head 0) j (o.entered head c.inside) a d h (rw c.entry e))

    pub expand-end : length sides ≤ d → Advanced w sides s head m₀ l₀ q₀ t₀ s (head + 1) m l q t
    expand-end h = advance-then c.so_far (record { kept = λ k d. d; search = λ dropped o. search-next o c.inside (all dropped) })
      where
        all : (dropped : List ℕ) → (j : ℕ) → linked w.count w.near sides dropped (get_or q head 0) j ≡ true → Visited m j
        all dropped j e =
            let p = link-side w.count w.near sides dropped x j (rw c.entry at e) in
            let b = survives-lt w.count dropped j (link-to w.count w.near sides dropped (get_or q head 0) j e) in
            subst (Visited m) p.2 (c.visited p.0 (omega (arith, p.1)) (rw p.2 b))

-- ---- one patch

-- from the visit to the least rank of a patch to the end of the worklist
pub fill_end : {w : View} {sides : List ℕ} {s start head : ℕ} {m l q m' l' q' m'' l'' q'' : List ℕ} {t' t'' : ℕ} → s < max_points → Worklist m l q start → Visit s s m l q start m' l' q' t'
    → Advanced w sides s start m' l' q' t' s head m'' l'' q'' t'' → t'' ≤ head → Advanced w sides s start m l q start (s + 1) t'' m'' l'' q'' t''
fill_end {w} {sides} {s} b list v g h = record {
  kept = λ k d. g.kept k (visit-kept k v d);
  search = λ dropped c. search-over (g.search dropped (search-visit list b (λ a. here a) c v)) (link-from w.count w.near sides dropped) h
      (λ a. g.kept s (visit-marks list b v));
}

-- ---- before the first patch

module _ (w : View) (dropped : List ℕ) (few : w.count ≤ max_points) {m l q : List ℕ} {t : ℕ} (e : m ≡ start_marks w.count dropped) (f : l ≡ unlabelled w.count) (z : t ≡ 0) where
  pub search-none : (sides : List ℕ) → SearchingIn w sides dropped 0 t m l q t
  search-none sides = record {
    within = omega arith;
    unmarked = λ k h z. start-open w.count dropped k few h (rw e at z);
    entered = λ p h. absurd (omega (arith, h, z));
    current = λ p g h. absurd (omega (arith, h, z));
    found = λ k d. absurd (unmet k d);
    label = λ k d. absurd (unmet k d);
    rest = λ k d. rw f;
    done = λ a k h. absurd (omega arith);
    closed = λ p h. absurd (omega (arith, h, z));
  }
    where
      unmet : (k : ℕ) → Met (survives w.count dropped) m k → ⊥
      unmet k d = d.1 (rw e (start-alive w.count dropped k few d.0))
