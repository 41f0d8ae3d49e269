-- Laws of ends: the parts of the test, that a new end has a neighbour that went, and that the states of ranks tell what is an end. Assumes nothing.
use mathlib.Core.Path.{◌≡◌, refl, sym, ap, ◌∙◌}
use mathlib.Core.Bool.{Bool, true, false, not, ◌&&◌, true≢false}
use mathlib.Core.List.{List}
use Prim.{yes, no}
use Prim.Native.Nat.{ℕ, ◌+◌, ◌*◌, ◌≤◌, ◌<◌}
use native.Mathlib.Decide.{dec_lt}
use native.Mathlib.Omega.{arith}
use borrow.Author.Tests.{lt-ltb, ltb-true, ltb-false}
use lib.Dec.{ltb}
use lib.ListN.{length, get_or}
use Rattle.folds.proofs.Below.{tally-ext}
use Rattle.folds.proofs.Column.{column-at, column-over}
use Rattle.view.specs.View.{max_points}
use Rattle.peel.specs.Peel.{live, live_sides, leaf}
use Rattle.peel.specs.Work.{state_of, states_of, is_live, is_weak, lives_at, near_at, index_at, live_beside, leaf_at}
use Rattle.peel.specs.declared.state.State.{State}
use Rattle.peel.specs.declared.state.State.TheVariants.{Dead}
use Rattle.folds.proofs.Counting.{tally-lost}
use Rattle.peel.proofs.Rounds.{Ends}
use Rattle.std.proofs.Math.Bool.{and-false, and_assoc}
use Rattle.std.proofs.lemmas.Bool.{and_from, and_parts, false_from_ne_true, not-true}

module _ (alive : ℕ → Bool) (by_idx : ℕ → ℕ) (gone : ℕ → Bool) (k : ℕ) where
  pub live-alive : live alive by_idx gone k ≡ true → alive k ≡ true
  live-alive e = (and_parts (alive k) (not (gone (by_idx k))) e).0

  pub live-stays : live alive by_idx gone k ≡ true → gone (by_idx k) ≡ false
  live-stays e = not-true (gone (by_idx k)) (and_parts (alive k) (not (gone (by_idx k))) e).1

  pub live-is : alive k ≡ true → gone (by_idx k) ≡ false → live alive by_idx gone k ≡ true
  live-is a e = and_from (alive k) (not (gone (by_idx k))) a (ap not e)

module _ (alive : ℕ → Bool) (near by_idx : ℕ → ℕ) (sides : List ℕ) (weak : ℕ → Bool) where
  module _ (gone : ℕ → Bool) (k : ℕ) where
    pub leaf-live : leaf alive near by_idx sides weak gone k ≡ true → live alive by_idx gone k ≡ true
    unfolding leaf
    leaf-live e = (and_parts (live alive by_idx gone k) _ e).0

    leaf-rest : leaf alive near by_idx sides weak gone k ≡ true → weak k && ltb (live_sides alive near by_idx sides gone k) 2 ≡ true
    unfolding leaf
    leaf-rest e = (and_parts (live alive by_idx gone k) _ e).1

    pub leaf-weak : leaf alive near by_idx sides weak gone k ≡ true → weak k ≡ true
    leaf-weak e = (and_parts (weak k) (ltb (live_sides alive near by_idx sides gone k) 2) (leaf-rest e)).0

    pub leaf-few : leaf alive near by_idx sides weak gone k ≡ true → live_sides alive near by_idx sides gone k < 2
    leaf-few e = ltb-true (live_sides alive near by_idx sides gone k) 2 (and_parts (weak k) _ (leaf-rest e)).1

    -- a live weak rank that is no end has two live neighbours or more
    pub leaf-many : leaf alive near by_idx sides weak gone k ≡ false → live alive by_idx gone k ≡ true → weak k ≡ true → 2 ≤ live_sides alive near by_idx sides gone k
    unfolding leaf
    leaf-many e a h = ltb-false (live_sides alive near by_idx sides gone k) 2 (sym (rw (a, h)) ∙ e)

  -- each end is a rank whose index has not gone
  pub leaf-ends : (n : ℕ) → ((k : ℕ) → alive k ≡ true → k < n) → ((k : ℕ) → k < n → by_idx k < n) → Ends n by_idx (leaf alive near by_idx sides weak)
  leaf-ends n few place = record {
    rank = λ g k e. few k (live-alive alive by_idx g k (leaf-live g k e));
    stays = λ g k e. live-stays alive by_idx g k (leaf-live g k e);
    place = place;
  }

  -- an end that was none, when less had gone: one of its neighbours has gone
  pub leaf-new : (gone gone' : ℕ → Bool) → ((b : ℕ) → gone b ≡ true → gone' b ≡ true) → (k : ℕ) → leaf alive near by_idx sides weak gone k ≡ false → leaf alive near by_idx sides weak gone' k ≡ true
      → (i : ℕ) × (i < length sides) × (live alive by_idx gone (near (25 * k + get_or sides i 0)) ≡ true) × (live alive by_idx gone' (near (25 * k + get_or sides i 0)) ≡ false)
  unfolding live_sides
  leaf-new g g' more k e f =
      let l = leaf-live g' k f in
      let s = false_from_ne_true (g (by_idx k)) (λ t. true≢false (sym (more (by_idx k) t) ∙ live-stays alive by_idx g' k l)) in
      tally-lost _ _ (length sides) (omega (arith, leaf-few g' k f, leaf-many g k e (live-is alive by_idx g k (live-alive alive by_idx g' k l) s) (leaf-weak g' k f)))

-- ---- the states of ranks

module _ (n : ℕ) (ranks : List ℕ) (state : List State) (sides : List ℕ) (k : ℕ) where
  pub leaf-by : (t : Bool) → is_weak (get_or state k Dead) ≡ t → t && ltb (live_beside n ranks state sides (length sides) k) 2 ≡ leaf_at n ranks state sides k
  unfolding leaf_at
  leaf-by t e = sym (ap (λ (x : Bool). x && ltb (live_beside n ranks state sides (length sides) k) 2) e)

module _ (n : ℕ) (lives weak : ℕ → Bool) where
  pub states-over : (k : ℕ) → n ≤ k → get_or (states_of n lives weak) k Dead ≡ Dead
  states-over k h = column-over max_points Dead n (λ (k : ℕ). state_of (lives k) (weak k)) k h

  pub states-at : (k : ℕ) → k < n → get_or (states_of n lives weak) k Dead ≡ state_of (lives k) (weak k)
  states-at k h = column-at max_points Dead n (λ (k : ℕ). state_of (lives k) (weak k)) k h

  module _ (below : (k : ℕ) → lives k ≡ true → k < n) where
    -- a state is read as a test of what is live, and of whether it is weak
    read : (t : State → Bool) (u : Bool → Bool → Bool) → ((l w : Bool) → t (state_of l w) ≡ u l w) → t Dead ≡ false → ((w : Bool) → u false w ≡ false) → (k : ℕ) → t (get_or (states_of n lives weak) k Dead) ≡ u (lives k) (weak k)
    read t u e z f k = elim (dec_lt k n) [
      | yes h ↦ ap t (states-at k h) ∙ e (lives k) (weak k)
      | no g ↦ ap t (states-over k (omega (arith, g))) ∙ z ∙ sym (ap (λ (l : Bool). u l (weak k)) (false_from_ne_true (lives k) (λ e. g (below k e))) ∙ f (weak k))
    ]

    lives-is : (k : ℕ) → lives_at (states_of n lives weak) k ≡ lives k
    lives-is k = read is_live (λ (l w : Bool). l) go refl (λ w. refl) k
      where
        go : (l w : Bool) → is_live (state_of l w) ≡ l
        go true true = refl
        go true false = refl
        go false w = refl

    -- of a point
    pub lives-below : (k : ℕ) → ltb k n && lives_at (states_of n lives weak) k ≡ lives k
    lives-below k = rw (lives-is k) (go (lives k) refl)
      where
        go : (l : Bool) → lives k ≡ l → ltb k n && l ≡ l
        go true e = rw (lt-ltb k n (below k e)) refl
        go false e = and-false (ltb k n)

    pub weak-is : (k : ℕ) → is_weak (get_or (states_of n lives weak) k Dead) ≡ lives k && weak k
    weak-is k = read is_weak (λ (l w : Bool). l && w) go refl (λ w. refl) k
      where
        go : (l w : Bool) → is_weak (state_of l w) ≡ l && w
        go true true = refl
        go true false = refl
        go false w = refl

-- an end by the states is an end
pub leaf-is : (n : ℕ) (alive weak gone : ℕ → Bool) → ((k : ℕ) → alive k ≡ true → k < n) → (ranks sides : List ℕ) (k : ℕ)
    → leaf_at n ranks (states_of n (live alive (index_at ranks) gone) weak) sides k ≡ leaf alive (near_at ranks) (index_at ranks) sides weak gone k
unfolding leaf leaf_at live_sides
leaf-is n alive weak gone below ranks sides k =
    ap (λ (x : Bool). x && ltb (live_beside n ranks states sides (length sides) k) 2) (weak-is n lives weak within k)
    ∙ ap (λ (m : ℕ). (lives k && weak k) && ltb m 2) (tally-ext _ _ (length sides) (λ i h. lives-below n lives weak within (near_at ranks (25 * k + get_or sides i 0))))
    ∙ and_assoc (lives k) (weak k) _
  where
    lives : ℕ → Bool
    lives = live alive (index_at ranks) gone

    states : List State
    states = states_of n lives weak

    within : (k : ℕ) → lives k ≡ true → k < n
    within k e = below k (live-alive alive (index_at ranks) gone k e)
