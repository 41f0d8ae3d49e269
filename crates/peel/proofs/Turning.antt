-- From round to round: when all indices that go in a round are on the queue, the next round may begin, and only beside what went can there be a new
-- end, since neighbours lead both ways. Assumes nothing.
use mathlib.Core.Path.{◌≡◌, refl, sym, ap, ◌∙◌}
use mathlib.Core.Bool.{Bool, true, false, not, ◌&&◌, true≢false}
use mathlib.Core.Logic.{◌⊎◌, inl, inr, ⊎_elim}
use mathlib.Core.List.{List}
use Prim.Native.Nat.{ℕ, ◌+◌, ◌*◌, ◌≤◌, ◌<◌, zero-le}
use native.Mathlib.Nat.{eq-or-lt_of_le}
use native.Mathlib.Omega.{arith}
use borrow.Author.Tests.{lt-ltb}
use lib.Dec.{eqb}
use lib.Ieee.{Float}
use lib.ListN.{length, get_or, replicate, length-replicate}
use Rattle.folds.specs.Column.{column}
use Rattle.folds.proofs.Column.{column-ext, filled, replicate-at}
use Rattle.folds.specs.Marked.{bit}
use Rattle.view.specs.View.{max_points, view_at, Ranked}
use Rattle.marks.specs.Marks.{is_set}
use Rattle.patches.specs.Patches.{survives}
use Rattle.patches.specs.Reach.{Mirrored, paired}
use Rattle.patches.specs.Search.{NearPlaces}
use Rattle.patches.proofs.Surviving.{survives-lt, link-side, link-by}
use Rattle.patches.proofs.Agreeing.{link-back}
use Rattle.peel.specs.Peel.{live, leaf, goes, gone_after, ended, rounds_in, peeled, peeled_in, peeled_of}
use Rattle.peel.specs.declared.state.State.{State}
use Rattle.peel.specs.declared.state.State.TheVariants.{Dead}
use Rattle.peel.specs.Work.{state_of, states_of, near_at, index_at, leaf_at, Queued, Whole, Searched, Beside, BesideQueued, Removed}
use Rattle.peel.proofs.Rounds.{Ends, goes_end, gone-first, gone-next, gone-more, end-gone, not-over, is-over, rounds-are}
use Rattle.peel.proofs.Leaves.{live-alive, live-stays, live-is, leaf-live, leaf-ends, leaf-new, states-at, states-over, leaf-is}
use Rattle.std.proofs.Math.Bool.{and-true}
use Rattle.std.proofs.lemmas.Bool.{cases_Bool, false_from_ne_true, or_cases}
use Rattle.std.specs.Cmp.{both_ways}

-- ---- a sheet with neighbours both ways, the ends, and the states after r rounds

pub record Sheet (n : ℕ) (ranks sides : List ℕ) : Type 0 where
  pub ranked : Ranked n ranks
  pub placed : NearPlaces sides
  pub pairs : paired sides ≡ true
  pub mirror : Mirrored n (near_at ranks)

-- no mark is set
none-set : (k : ℕ) → get_or {A = ℕ} (replicate max_points 0) k 0 ≡ 1 → ⊥
none-set k e = omega (arith, replicate-at {A = ℕ} max_points 0 k, e)

zero_or_one : (x : ℕ) → x ≤ 1 → (x ≡ 0) ⊎ (x ≡ 1)
zero_or_one x h = ⊎_elim inr (λ (l : x < 1). inl (omega arith)) (eq-or-lt_of_le h)

module _ (n : ℕ) (ranks sides dropped weak : List ℕ) where
  abbrev ends : (ℕ → Bool) → ℕ → Bool
  ends = leaf (survives n dropped) (near_at ranks) (index_at ranks) sides (is_set weak)

  abbrev after : ℕ → List ℕ
  after = gone_after n (index_at ranks) ends

  -- the index of rank k has gone after r rounds
  abbrev out : ℕ → ℕ → Bool
  out r k = is_set (after r) (index_at ranks k)

  abbrev is_end : ℕ → ℕ → Bool
  is_end r = ends (is_set (after r))

  abbrev lives : ℕ → ℕ → Bool
  lives r = live (survives n dropped) (index_at ranks) (is_set (after r))

  abbrev over : ℕ → Bool
  over = ended n (index_at ranks) ends after

  pub record Made (r : ℕ) (state : List State) : Type 0 where
    pub is : state ≡ states_of n (lives r) (is_set weak)

  -- after r rounds: the ranks that go in the next are on the queue, from `from` on, and each round before it removed something
  pub record Ready (r from : ℕ) (state : List State) (marks queue : List ℕ) (tail : ℕ) : Type 0 where
    pub made : Made r state
    pub whole : Whole n ranks marks
    pub early : r ≤ from
    pub all : (k : ℕ) → is_end r k ≡ true → get_or marks k 0 ≡ 1
    pub ending : (p : ℕ) → from ≤ p → p < tail → (k : ℕ) × (is_end r k ≡ true) × (index_at ranks k ≡ index_at ranks (get_or queue p 0))
    pub listed : (k : ℕ) → get_or marks k 0 ≡ 1 → (out r k ≡ true) ⊎ ((p : ℕ) × (from ≤ p) × (p < tail) × (get_or queue p 0 ≡ k))
    pub gone : (k : ℕ) → k < n → out r k ≡ true → get_or marks k 0 ≡ 1
    pub busy : (s : ℕ) → s < r → over s ≡ false

  module _ (sheet : Sheet n ranks sides) where
    abbrev gone : ℕ → ℕ → Bool
    gone r = is_set (after r)

    known : Ends n (index_at ranks) ends
    known = leaf-ends (survives n dropped) (near_at ranks) (index_at ranks) sides (is_set weak) n (survives-lt n dropped) sheet.ranked.indices

    module _ {r : ℕ} {state : List State} (made : Made r state) where
      leaf-same : (k : ℕ) → leaf_at n ranks state sides k ≡ is_end r k
      leaf-same k = ap (λ (s : List State). leaf_at n ranks s sides k) made.is ∙ leaf-is n (survives n dropped) (is_set weak) (gone r) (survives-lt n dropped) ranks sides k

      -- each rank that may be an end is looked at
      pub ready_by : {Met : ℕ → Type 0} {a q : List ℕ} {t : ℕ} {marks queue : List ℕ} {tail : ℕ} → ((k : ℕ) → k < n → out r k ≡ true → get_or a k 0 ≡ 1)
          → ((k : ℕ) → get_or a k 0 ≡ 1 → out r k ≡ true) → r ≤ t → ((s : ℕ) → s < r → over s ≡ false)
          → ((k : ℕ) → is_end r k ≡ true → Met k) → Searched n ranks state sides Met a q t marks queue tail → Ready r t state marks queue tail
      ready_by {Met} {a} old only early busy all s = record {
        made = made;
        whole = s.whole;
        early = early;
        all = λ k e. s.met k (known.rank (gone r) k e) (all k e) (leaf-same k ∙ e);
        ending = λ p g h. let w = s.ending p g h in (w.0, sym (leaf-same w.0) ∙ w.1, w.2);
        listed = λ k e. ⊎_elim (λ (o : get_or a k 0 ≡ 1). inl (only k o)) inr (s.listed k e);
        gone = λ k h e. s.kept k (old k h e);
        busy = busy;
      }

    -- ---- one round more

    module _ {r from : ℕ} {state : List State} {marks queue : List ℕ} {tail : ℕ} (ready : Ready r from state marks queue tail) where
      pub next-old : (k : ℕ) → k < n → out (r + 1) k ≡ true → get_or marks k 0 ≡ 1
      next-old k h e =
          ⊎_elim
          (ready.gone k h)
          (λ (t : goes n (index_at ranks) ends (gone r) (index_at ranks k) ≡ true).
          let w = goes_end n (index_at ranks) ends (gone r) (index_at ranks k) t in
          ready.whole.shared w.0 k w.1 h w.3 (ready.all w.0 w.2))
          (or_cases _ _ (sym (gone-next n (index_at ranks) ends known r (index_at ranks k)) ∙ e))

      at_entry : (k p : ℕ) → from ≤ p → p < tail → get_or queue p 0 ≡ k → out (r + 1) k ≡ true
      at_entry k p g h e =
          let w = ready.ending p g h in
          ap (gone (r + 1)) (sym (w.2 ∙ ap (index_at ranks) e)) ∙ end-gone n (index_at ranks) ends known r w.0 w.1

      pub next-only : (k : ℕ) → get_or marks k 0 ≡ 1 → out (r + 1) k ≡ true
      next-only k e = ⊎_elim (gone-more n (index_at ranks) ends known r (index_at ranks k)) (λ w. at_entry k w.0 w.1 w.2 w.3) (ready.listed k e)

      pub next-busy : from < tail → (s : ℕ) → s < r + 1 → over s ≡ false
      next-busy l s h =
          ⊎_elim
          (λ (d : s ≡ r). let w = ready.ending from (omega arith) l in ap over d ∙ not-over n (index_at ranks) ends known r w.0 w.1)
          (λ (d : s < r). ready.busy s d)
          (eq-or-lt_of_le (omega arith))

      module _ {state' : List State} (queued : Queued marks queue tail) (removed : Removed queue from tail state state') (long : length state' ≡ max_points) where
        -- what is not on the queue stays as it was
        unmoved : (k : ℕ) → k < n → get_or state' k Dead ≡ get_or state k Dead → lives r k ≡ lives (r + 1) k
        unmoved k h o = both_ways (lives r k) (lives (r + 1) k)
            (λ e. live-is (survives n dropped) (index_at ranks) (gone (r + 1)) k (live-alive (survives n dropped) (index_at ranks) (gone r) k e) (false_from_ne_true (gone (r + 1) (index_at ranks k)) (λ t. ⊎_elim
            (λ (f : gone r (index_at ranks k) ≡ true). true≢false (sym f ∙ live-stays (survives n dropped) (index_at ranks) (gone r) k e))
            (λ w. two (is_set weak k) (sym (sym (removed.entries w.0 w.1 w.2) ∙ ap (λ (m : ℕ). get_or state' m Dead) w.3 ∙ o ∙ held k h ∙ ap (λ (b : Bool). state_of b (is_set weak k)) e)))
            (ready.listed k (next-old k h t)))))
            (λ e. live-is (survives n dropped) (index_at ranks) (gone r) k (live-alive (survives n dropped) (index_at ranks) (gone (r + 1)) k e) (false_from_ne_true (gone r (index_at ranks k)) (λ t. true≢false (sym (gone-more n (index_at ranks) ends known r (index_at ranks k) t) ∙ live-stays (survives n dropped) (index_at ranks) (gone (r + 1)) k e))))
          where
            held : (k : ℕ) → k < n → get_or state k Dead ≡ state_of (lives r k) (is_set weak k)
            held k h = ap (λ (s : List State). get_or s k Dead) ready.made.is ∙ states-at n (lives r) (is_set weak) k h

            two : (b : Bool) → state_of true b ≡ Dead → ⊥
            two true e = cc
            two false e = cc

        pub next-made : Made (r + 1) state'
        next-made = record {
          is = filled n sheet.ranked.few (record {
            long = long ∙ sym (length-replicate {A = State} max_points Dead);
            done = λ k h. ⊎_elim
                (λ (o : get_or state' k Dead ≡ get_or state k Dead). o ∙ ap (λ (s : List State). get_or s k Dead) ready.made.is ∙ states-at n (lives r) (is_set weak) k h ∙ ap (λ (b : Bool). state_of b (is_set weak k)) (unmoved k h o))
                (λ w. ap (λ (m : ℕ). get_or state' m Dead) (sym w.3) ∙ removed.entries w.0 w.1 w.2 ∙ sym (ap (λ (b : Bool). state_of b (is_set weak k)) (dead k (at_entry k w.0 w.1 w.2 w.3))))
                (removed.rest k);
            left = λ k h. ⊎_elim
                (λ (o : get_or state' k Dead ≡ get_or state k Dead). o ∙ ap (λ (s : List State). get_or s k Dead) ready.made.is ∙ states-over n (lives r) (is_set weak) k h ∙ sym (replicate-at {A = State} max_points Dead k))
                (λ w. absurd (omega (arith, h, ready.whole.points k (ap (λ (m : ℕ). get_or marks m 0) (sym w.3) ∙ queued.marked w.0 w.2))))
                (removed.rest k);
          });
        }
          where
            dead : (k : ℕ) → gone (r + 1) (index_at ranks k) ≡ true → lives (r + 1) k ≡ false
            dead k e = false_from_ne_true (lives (r + 1) k) (λ t. true≢false (sym e ∙ live-stays (survives n dropped) (index_at ranks) (gone (r + 1)) k t))

      -- where x is at a side of k, k is at a side of x
      beside_back : (k x : ℕ) → survives n dropped k ≡ true → survives n dropped x ≡ true → (i : ℕ) → i < length sides → near_at ranks (25 * k + get_or sides i 0) ≡ x → Beside ranks sides (length sides) x k
      beside_back k x a b i h e = link-side n (near_at ranks) sides dropped x k (link-back n (near_at ranks) sides dropped sheet.placed sheet.pairs sheet.mirror k x (link-by n (near_at ranks) sides dropped k x a b i h e))

      -- a new end is beside a rank on the queue
      pub next-beside : (k : ℕ) → is_end (r + 1) k ≡ true → BesideQueued ranks sides queue from tail k
      next-beside k e = ⊎_elim
          (λ (f : gone r (index_at ranks x) ≡ true). absurd (true≢false (sym f ∙ live-stays (survives n dropped) (index_at ranks) (gone r) x w.2)))
          (λ p. (p.0, p.1, p.2, rw p.3 (beside_back k x (live-alive (survives n dropped) (index_at ranks) (gone (r + 1)) k (leaf-live (survives n dropped) (near_at ranks) (index_at ranks) sides (is_set weak) (gone (r + 1)) k e)) alive w.0 w.1 refl)))
          (ready.listed x (next-old x (survives-lt n dropped x alive) went))
        where
          w : (i : ℕ) × (i < length sides) × (lives r (near_at ranks (25 * k + get_or sides i 0)) ≡ true) × (lives (r + 1) (near_at ranks (25 * k + get_or sides i 0)) ≡ false)
          w = leaf-new (survives n dropped) (near_at ranks) (index_at ranks) sides (is_set weak) (gone r) (gone (r + 1)) (gone-more n (index_at ranks) ends known r) k
              (false_from_ne_true (is_end r k) (λ t. true≢false (sym (end-gone n (index_at ranks) ends known r k t) ∙ known.stays (gone (r + 1)) k e))) e

          x : ℕ
          x = near_at ranks (25 * k + get_or sides w.0 0)

          alive : survives n dropped x ≡ true
          alive = live-alive (survives n dropped) (index_at ranks) (gone r) x w.2

          went : gone (r + 1) (index_at ranks x) ≡ true
          went = ⊎_elim (λ t. t) (λ f. absurd (true≢false (sym (live-is (survives n dropped) (index_at ranks) (gone (r + 1)) x alive f) ∙ w.3))) (cases_Bool (gone (r + 1) (index_at ranks x)))

      -- nothing is on the queue: the rounds have ended
      module _ (queued : Queued marks queue tail) (l : tail ≤ from) where
        out-only : (k : ℕ) → get_or marks k 0 ≡ 1 → out r k ≡ true
        out-only k e = ⊎_elim (λ t. t) (λ p. absurd (omega (arith, p.1, p.2))) (ready.listed k e)

        rounds-done : rounds_in n (index_at ranks) ends after ≡ r
        rounds-done = rounds-are n (index_at ranks) ends known r ready.busy
            (is-over n (index_at ranks) ends known r (λ k g. true≢false (sym (out-only k (ready.all k g)) ∙ known.stays (gone r) k g)))

        marks-done : marks ≡ column max_points 0 n (λ (k : ℕ). bit (out r k))
        marks-done = filled n sheet.ranked.few (record {
          long = queued.marks-long ∙ sym (length-replicate {A = ℕ} max_points 0);
          done = λ k h. ⊎_elim
              (λ (t : out r k ≡ true). ready.gone k h t ∙ sym (ap bit t))
              (λ (f : out r k ≡ false). ⊎_elim
              (λ (z : get_or marks k 0 ≡ 0). z ∙ sym (ap bit f))
              (λ (o : get_or marks k 0 ≡ 1). absurd (true≢false (sym (out-only k o) ∙ f)))
              (zero_or_one (get_or marks k 0) (queued.bits k)))
              (cases_Bool (out r k));
          left = λ k h. ⊎_elim
              (λ (z : get_or marks k 0 ≡ 0). z ∙ sym (replicate-at {A = ℕ} max_points 0 k))
              (λ (o : get_or marks k 0 ≡ 1). absurd (omega (arith, h, ready.whole.points k o)))
              (zero_or_one (get_or marks k 0) (queued.bits k));
        })

        pub ready-done : (xs ys : List Float) → peeled marks r ≡ peeled_of (view_at n ranks xs ys) sides dropped weak
        unfolding peeled_in
        ready-done xs ys =
            ap (λ (m : List ℕ). peeled m r) marks-done
            ∙ ap (λ (m : ℕ). peeled (column max_points 0 n (λ (k : ℕ). bit (out m k))) m) (sym rounds-done)

    -- ---- before the first round

    pub first_made : {state : List State} → state ≡ states_of n (λ (k : ℕ). eqb (get_or dropped k 0) 0) (is_set weak) → Made 0 state
    first_made e = record { is = e ∙ column-ext max_points Dead n _ _ (λ k h. ap (λ (b : Bool). state_of b (is_set weak k)) (all_live k h)) }
      where
        all_live : (k : ℕ) → k < n → eqb (get_or dropped k 0) 0 ≡ lives 0 k
        all_live k h = sym (ap (λ (b : Bool). survives n dropped k && not b) (gone-first n (index_at ranks) ends known (index_at ranks k)) ∙ and-true (survives n dropped k) ∙ ap (λ (b : Bool). b && eqb (get_or dropped k 0) 0) (lt-ltb k n h))

    pub ready-first : {state : List State} {a q marks queue : List ℕ} {tail : ℕ} → a ≡ replicate max_points 0 → Made 0 state → Searched n ranks state sides (λ (k : ℕ). k < n) a q 0 marks queue tail → Ready 0 0 state marks queue tail
    ready-first e made s =
        ready_by made
        (λ k h e. absurd (true≢false (sym e ∙ gone-first n (index_at ranks) ends known (index_at ranks k))))
        (λ k o. absurd (none-set k (rw e at o))) zero-le (λ r l. absurd (omega arith)) (known.rank (gone 0)) s

-- no mark is set before the first round
pub whole-first : {n : ℕ} {ranks a : List ℕ} → a ≡ replicate max_points 0 → Whole n ranks a
whole-first e = record { points = λ k o. absurd (none-set k (rw e at o)); shared = λ j k p q s o. absurd (none-set j (rw e at o)) }
