-- What holds when the rounds have ended, how many there are, that each removed index was weak and live, and that nothing goes where none is weak.
-- Assumes nothing.
use mathlib.Core.Path.{◌≡◌, refl, sym, ap, ◌∙◌}
use mathlib.Core.Bool.{Bool, true, false, not, ◌&&◌, true≢false}
use mathlib.Core.Logic.{⊎_elim}
use mathlib.Core.List.{List}
use Prim.Native.Nat.{ℕ, zero, suc, ◌+◌, ◌*◌, ◌≤◌, ◌<◌, zero-le}
use native.Mathlib.Nat.{eq-or-lt_of_le}
use native.Mathlib.Numerals.{add-one}
use native.Mathlib.Omega.{arith}
use borrow.Author.Tests.{eq-eqb, eqb-true}
use lib.Dec.{eqb, ltb}
use lib.ListN.{length, get_or, replicate}
use Rattle.folds.specs.Below.{tally}
use Rattle.folds.proofs.Below.{tally-ext, tally-mono, and-under, some-no, first-hit, first-end}
use Rattle.folds.specs.Column.{column}
use Rattle.folds.proofs.Column.{column-at, filled, replicate-at}
use Rattle.folds.specs.Marked.{bit}
use Rattle.folds.proofs.Marked.{bit_is}
use Rattle.view.specs.View.{View, max_points}
use Rattle.marks.specs.Marks.{is_set}
use Rattle.patches.specs.Patches.{survives}
use Rattle.patches.proofs.Surviving.{survives-lt}
use Rattle.peel.specs.Peel.{live, live_sides, gone_after, rounds_in, peeled, peeled_in, leaf_of, gone_of, peeled_of}
use Rattle.peel.specs.Theorems.{Placed, left, left_sides, gone_count}
use Rattle.peel.specs.declared.Peeled.{Peeled}
use Rattle.folds.proofs.Counting.{tally-has}
use Rattle.peel.proofs.Rounds.{Ends, goes_end, gone-first, gone-next, over_none, rounds-gone, rounds-few, rounds-end}
use Rattle.peel.proofs.Leaves.{live-alive, leaf-live, leaf-weak, leaf-many, leaf-ends}
use Rattle.std.proofs.lemmas.Bool.{and_from, and_parts, false_from_ne_true, or_cases}

module _ (w : View) (sides dropped weak : List ℕ) where
  abbrev answer : Peeled
  answer = peeled_of w sides dropped weak

  abbrev ends : (ℕ → Bool) → ℕ → Bool
  ends = leaf_of w sides dropped weak

  abbrev out : ℕ → ℕ → Bool
  out r = is_set (gone_of w sides dropped weak r)

  rounds-is : answer.rounds ≡ rounds_in w.count w.by_idx ends (gone_of w sides dropped weak)
  unfolding peeled_in
  rounds-is = refl

  -- the marks are of indices
  pub marks-are : answer.marks ≡ column max_points 0 w.count (λ (k : ℕ). bit (out answer.rounds (w.by_idx k)))
  unfolding peeled_in
  marks-are = refl

  pub mark-is : (k : ℕ) → k < w.count → is_set answer.marks k ≡ out answer.rounds (w.by_idx k)
  mark-is k h =
      ap (λ (l : List ℕ). is_set l k) marks-are
      ∙ ap (λ (m : ℕ). eqb m 1) (column-at max_points 0 w.count (λ (k : ℕ). bit (out answer.rounds (w.by_idx k))) k h)
      ∙ bit_is (out answer.rounds (w.by_idx k))

  -- THEOREM: the points of an index share their mark
  pub marks-shared : (j k : ℕ) → j < w.count → k < w.count → w.by_idx j ≡ w.by_idx k → is_set answer.marks j ≡ is_set answer.marks k
  marks-shared j k h g e = mark-is j h ∙ ap (out answer.rounds) e ∙ sym (mark-is k g)

  module _ (placed : Placed w) where
    pub known : Ends w.count w.by_idx ends
    known = leaf-ends (survives w.count dropped) w.near w.by_idx sides (is_set weak) w.count (survives-lt w.count dropped) placed

    -- ---- the end

    -- after the rounds no index goes any more
    pub peel-ends : (k : ℕ) → ends (out answer.rounds) k ≡ false
    peel-ends k = rw rounds-is (over_none w.count w.by_idx ends known _ (rounds-end w.count w.by_idx ends known) k)

    left_is : (k : ℕ) → left w dropped answer.marks k ≡ live (survives w.count dropped) w.by_idx (out answer.rounds) k
    left_is k = and-under (survives w.count dropped k) (λ e. ap not (mark-is k (survives-lt w.count dropped k e)))

    -- THEOREM: "every index that is left live in the end and weak has two live neighbours or more at each of its cells"
    pub left-sides : (k : ℕ) → left w dropped answer.marks k ≡ true → is_set weak k ≡ true → 2 ≤ left_sides w sides dropped answer.marks k
    unfolding live_sides
    left-sides k e f =
        let many = leaf-many (survives w.count dropped) w.near w.by_idx sides (is_set weak) (out answer.rounds) k (peel-ends k) (sym (left_is k) ∙ e) f in
        omega (arith, many, tally-ext _ _ (length sides) (λ i h. left_is (w.near (25 * k + get_or sides i 0))))

    -- ---- what is removed

    -- an index that has gone had an end
    gone-end : (r b : ℕ) → out r b ≡ true → (s : ℕ) × (k : ℕ) × (k < w.count) × (ends (out s) k ≡ true) × (w.by_idx k ≡ b)
    gone-end zero b e = absurd (true≢false (sym e ∙ gone-first w.count w.by_idx ends known b))
    gone-end (suc r) b e =
        let z : suc r ≡ r + 1 = sym (add-one r) in
        ⊎_elim (gone-end r b) (λ t. let v = goes_end w.count w.by_idx ends (out r) b t in (r, v.0, v.1, v.2, v.3))
        (or_cases _ _ (sym (gone-next w.count w.by_idx ends known r b) ∙ ap (λ (m : ℕ). out m b) (sym z) ∙ e))

    -- THEOREM: "each removed one was weak", and live before
    pub removed-weak : (k : ℕ) → k < w.count → is_set answer.marks k ≡ true
        → (j : ℕ) × (j < w.count) × (w.by_idx j ≡ w.by_idx k) × (is_set weak j ≡ true) × (survives w.count dropped j ≡ true)
    removed-weak k h e =
        let v = gone-end answer.rounds (w.by_idx k) (sym (mark-is k h) ∙ e) in (
          v.1,
          v.2,
          v.4,
          leaf-weak (survives w.count dropped) w.near w.by_idx sides (is_set weak) (out v.0) v.1 v.3,
          live-alive (survives w.count dropped) w.by_idx (out v.0) v.1 (leaf-live (survives w.count dropped) w.near w.by_idx sides (is_set weak) (out v.0) v.1 v.3),
        )

    -- where the points of an index are weak or not together, and dropped or not together, a marked point was weak, and was not dropped
    pub removed-own : ((j k : ℕ) → j < w.count → k < w.count → w.by_idx j ≡ w.by_idx k → is_set weak j ≡ is_set weak k) → (k : ℕ) → k < w.count → is_set answer.marks k ≡ true → is_set weak k ≡ true
    removed-own shared k h e = let v = removed-weak k h e in sym (shared v.0 k v.1 h v.2) ∙ v.3

    pub removed-live : ((j k : ℕ) → j < w.count → k < w.count → w.by_idx j ≡ w.by_idx k → get_or dropped j 0 ≡ get_or dropped k 0) → (k : ℕ) → k < w.count → is_set answer.marks k ≡ true → get_or dropped k 0 ≡ 0
    removed-live shared k h e = let v = removed-weak k h e in sym (shared v.0 k v.1 h v.2) ∙ eqb-true (get_or dropped v.0 0) 0 (and_parts (ltb v.0 w.count) _ v.4).1

    -- ---- how many rounds

    -- THEOREM: there are no more rounds than indices that are removed, and no more of these than points
    pub rounds-removed : answer.rounds ≤ gone_count w sides dropped weak answer.rounds
    rounds-removed = rw rounds-is (rounds-gone w.count w.by_idx ends known)

    pub rounds-points : answer.rounds ≤ w.count
    rounds-points = rw rounds-is (rounds-few w.count w.by_idx ends known)

    -- each place of an index that has gone is that of a marked point
    gone-marked : (b : ℕ) → out answer.rounds b ≡ true → (k : ℕ) × (k < w.count) × (w.by_idx k ≡ b) × (is_set answer.marks k ≡ true)
    gone-marked b e = let v = gone-end answer.rounds b e in (v.1, v.2, v.4, mark-is v.1 v.2 ∙ ap (out answer.rounds) v.4 ∙ e)

    -- where the place of an index has that index, the removed indices are counted at their places
    pub rounds-marked : ((k : ℕ) → k < w.count → w.by_idx (w.by_idx k) ≡ w.by_idx k) → answer.rounds ≤ tally (λ (k : ℕ). is_set answer.marks k && eqb (w.by_idx k) k) w.count
    rounds-marked own = omega (arith, rounds-removed, tally-mono (out answer.rounds) (λ (k : ℕ). is_set answer.marks k && eqb (w.by_idx k) k) w.count place)
      where
        place : (b : ℕ) → b < w.count → out answer.rounds b ≡ true → is_set answer.marks b && eqb (w.by_idx b) b ≡ true
        place b h e =
            let v = gone-marked b e in
            let s : w.by_idx b ≡ b = ap w.by_idx (sym v.2) ∙ own v.0 v.1 ∙ v.2 in
            and_from (is_set answer.marks b) (eqb (w.by_idx b) b) (mark-is b h ∙ ap (out answer.rounds) s ∙ e) (eq-eqb (w.by_idx b) b s)

    -- THEOREM: there are no rounds exactly when nothing is removed
    pub rounds-none : answer.rounds ≡ 0 → (k : ℕ) → k < w.count → is_set answer.marks k ≡ false
    rounds-none e k h = mark-is k h ∙ ap (λ (r : ℕ). out r (w.by_idx k)) e ∙ gone-first w.count w.by_idx ends known (w.by_idx k)

    pub none-rounds : ((k : ℕ) → k < w.count → is_set answer.marks k ≡ false) → answer.rounds ≡ 0
    none-rounds none = ⊎_elim (λ (d : 0 ≡ answer.rounds). sym d) (λ (l : 0 < answer.rounds). absurd (some-gone l)) (eq-or-lt_of_le zero-le)
      where
        some-gone : 0 < answer.rounds → ⊥
        some-gone l =
            let b = tally-has (out answer.rounds) w.count (omega (arith, rounds-removed)) in
            let v = gone-marked b.0 b.2 in
            true≢false (sym v.3 ∙ none v.0 v.1)

  -- ---- where none is weak

  module _ (few : w.count ≤ max_points) (strong : (k : ℕ) → k < w.count → is_set weak k ≡ false) where
    no_end : (k : ℕ) → k < w.count → ends (out 0) k ≡ false
    no_end k h = false_from_ne_true (ends (out 0) k) (λ e. true≢false (sym (leaf-weak (survives w.count dropped) w.near w.by_idx sides (is_set weak) (out 0) k e) ∙ strong k h))

    no-round : answer.rounds ≡ 0
    unfolding rounds_in
    no-round = rounds-is ∙ ⊎_elim
        (λ (d : 0 ≡ w.count). first-end _ 0 w.count (omega arith))
        (λ (l : 0 < w.count). first-hit _ w.count 0 l (ap not (some-no (ends (out 0)) w.count no_end)) (λ j h. absurd (omega arith)))
        (eq-or-lt_of_le zero-le)

    no-mark : answer.marks ≡ replicate max_points 0
    unfolding gone_after
    no-mark =
        marks-are
        ∙ ap (λ (r : ℕ). column max_points 0 w.count (λ (k : ℕ). bit (out r (w.by_idx k)))) no-round
        ∙ sym (filled w.count few (record {
          long = refl;
          done = λ k h. replicate-at max_points 0 k ∙ sym (ap (λ (m : ℕ). bit (eqb m 1)) (replicate-at w.count 0 (w.by_idx k)));
          left = λ k h. refl;
        }))

    -- THEOREM: with no weak rank nothing is marked, in no round
    pub none-weak : peeled_of w sides dropped weak ≡ peeled (replicate max_points 0) 0
    none-weak = ap (λ (m : List ℕ). peeled m answer.rounds) no-mark ∙ ap (peeled (replicate max_points 0)) no-round
