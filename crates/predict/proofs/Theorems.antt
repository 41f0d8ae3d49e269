-- The theorems on the rule, over any list of offsets. Assumes nothing.
use mathlib.Core.Path.{◌≡◌, refl, sym, ap, ◌∙◌}
use mathlib.Core.Bool.{Bool, true, false, cond, ◌&&◌, true≢false}
use mathlib.Core.Logic.{inl, inr}
use mathlib.Core.List.{List}
use Prim.Native.Nat.{ℕ, ◌+◌, ◌-◌, ◌≤◌, ◌<◌}
use native.Mathlib.Omega.{arith}
use borrow.Author.Tests.{eqb-true, eqb-false, eq-eqb, leb-true, leb-false, le-leb, lt-ltb, le-ltb}
use lib.IntN.{ℤ, neg_ℤ, neg_ℤ-neg_ℤ}
use lib.Dec.{eqb, ltb}
use lib.Ieee.{Float}
use lib.ListN.{length, get_or}
use Rattle.folds.proofs.Below.{some-yes, tally-some, tally-ext, sum-ext}
use Rattle.folds.proofs.Counting.{tally-no, tally-has}
use Rattle.offsets.specs.declared.Offset.{Offset}
use Rattle.offsets.specs.Offsets.{own, offset, square_sides, is_within2, is_near, place_of, offset_of, places}
use Rattle.offsets.proofs.Places.{each-within-2, within-u, within-v, place-below, place-offset, places-long, places-at}
use Rattle.patches.proofs.Lattices.{square-near, square-paired}
use Rattle.peel_rounds.specs.Rounds.{none_twice}
use Rattle.peel_rounds.proofs.Bound.{opposite as opposite-in, different}
use Rattle.predict.specs.Predict.{opposite, is_forward, side_at, is_pair, midpoint, pair_count, mean_of, prediction}
use Rattle.predict.specs.Theorems.{Opposed, HalfOfOffsets, both_there, NoPairTheorem, PairsTheorem, Met, SeenAlike, DependsOnKept}
use Rattle.predict.specs.declared.PredictedPosition.{PredictedPosition}
use Rattle.std.specs.Prelude.{None, Some}
use Rattle.predict.proofs.Places.{forward-place, opposite-place}
use Rattle.predict.proofs.Counting.{tally-apart, tally-into}
use Rattle.std.proofs.Math.Bool.{and-false}
use Rattle.std.proofs.lemmas.Bool.{and_from, and_parts, false_from_ne_true}

-- ---- an offset and its opposite

within-negated : (z : ℤ) → is_within2 z ≡ true → is_within2 (neg_ℤ z) ≡ true
within-negated = each-within-2 (λ z. is_within2 (neg_ℤ z) ≡ true) refl refl refl refl refl

pub near-opposite : (o : Offset) → is_near o ≡ true → is_near (opposite o) ≡ true
near-opposite o h = and_from (is_within2 (neg_ℤ o.du)) (is_within2 (neg_ℤ o.dv)) (within-negated o.du (within-u o h)) (within-negated o.dv (within-v o h))

opposite-twice : (o : Offset) → opposite (opposite o) ≡ o
opposite-twice o = ap (λ (z : ℤ). offset z (neg_ℤ (neg_ℤ o.dv))) (neg_ℤ-neg_ℤ o.du) ∙ ap (offset o.du) (neg_ℤ-neg_ℤ o.dv)

-- ---- a list with each offset's opposite

pub square-opposed : Opposed square_sides
square-opposed = record { near = square-near; opposites = square-paired }

module _ (sides : List Offset) (op : Opposed sides) where
  -- the place of offset i, one of the 25
  abbrev d : ℕ → ℕ
  d i = place_of (side_at sides i)

  d-is : (i : ℕ) → i < length sides → get_or (places sides) i 0 ≡ d i
  d-is = places-at sides

  d-below : (i : ℕ) → i < length sides → d i < 25
  d-below i h = place-below (side_at sides i) (op.near i h)

  -- where its opposite stands
  opposite-at : (i : ℕ) → i < length sides → (j : ℕ) × (j < length sides) × (side_at sides j ≡ opposite (side_at sides i))
  opposite-at i h =
      let v = opposite-in (places sides) op.opposites i (omega (arith, places-long sides)) in
      let j = v.0 in
      let l : j < length sides = omega (arith, v.1, places-long sides) in
      let o = side_at sides i in
      let e : d j ≡ place_of (opposite o) = sym (d-is j l) ∙ v.2 ∙ ap (λ (m : ℕ). 24 - m) (d-is i h) ∙ sym (opposite-place o (op.near i h)) in
      (j, l, sym (place-offset (side_at sides j) (op.near j l)) ∙ ap offset_of e ∙ place-offset (opposite o) (near-opposite o (op.near i h)))

  -- ---- no pair

  module _ (there : Offset → Bool) where
    -- one of an offset and its opposite is forward
    one-forward : (i : ℕ) → i < length sides → both_there sides there i ≡ true → (j : ℕ) × (j < length sides) × (is_pair sides there j ≡ true)
    one-forward i h e = go (is_forward o) refl
      where
        o : Offset
        o = side_at sides i

        go : (b : Bool) → is_forward o ≡ b → (j : ℕ) × (j < length sides) × (is_pair sides there j ≡ true)
        go true f = (i, h, and_from (is_forward o) (both_there sides there i) f e)
        go false f =
            let v = opposite-at i h in
            let near = op.near i h in
            let back = leb-false 12 (d i) (sym (forward-place o near) ∙ f) in
            let ahead : is_forward (opposite o) ≡ true = forward-place (opposite o) (near-opposite o near) ∙ le-leb 12 (place_of (opposite o)) (omega (arith, opposite-place o near)) in
            let both : there (opposite o) && there (opposite (opposite o)) ≡ true = and_from (there (opposite o)) (there (opposite (opposite o))) (and_parts (there o) (there (opposite o)) e).1 (ap there (opposite-twice o) ∙ (and_parts (there o) (there (opposite o)) e).0) in
            (v.0, v.1, ap (λ (p : Offset). is_forward p && (there p && there (opposite p))) v.2 ∙ and_from (is_forward (opposite o)) (there (opposite o) && there (opposite (opposite o))) ahead both)

    no-count : pair_count sides there ≡ 0 → (i : ℕ) → i < length sides → both_there sides there i ≡ false
    unfolding pair_count
    no-count z i h =
        false_from_ne_true (both_there sides there i)
        (λ e. let v = one-forward i h e in omega (arith, tally-some (is_pair sides there) (length sides) (some-yes (is_pair sides there) (length sides) v.0 v.1 v.2)))

  -- ---- half of the offsets

  module _ (once : none_twice (places sides) ≡ true) (there : Offset → Bool) (alone : there own ≡ false) where
    -- the forward offset of a pair has a place after that of the cell itself
    later : (i : ℕ) → i < length sides → is_pair sides there i ≡ true → 12 < d i
    later i h e =
        let o = side_at sides i in
        let forward = leb-true 12 (d i) (sym (forward-place o (op.near i h)) ∙ (and_parts (is_forward o) (both_there sides there i) e).0) in
        let kept = (and_parts (there o) (there (opposite o)) (and_parts (is_forward o) (both_there sides there i) e).1).0 in
        let itself : d i ≡ 12 → ⊥ = λ q. true≢false (sym kept ∙ ap there (sym (place-offset o (op.near i h)) ∙ ap offset_of q) ∙ alone) in
        omega (arith, itself)

    -- and its opposite a place before
    abbrev is_earlier : ℕ → Bool
    is_earlier i = ltb (d i) 12

    abbrev opposite-earlier : (i : ℕ) → i < length sides → is_pair sides there i ≡ true → (j : ℕ) × (j < length sides) × (is_earlier j ≡ true)
    opposite-earlier i h e =
        let v = opposite-at i h in
        (v.0, v.1, lt-ltb (d v.0) 12 (omega (arith, later i h e, ap place_of v.2, opposite-place (side_at sides i) (op.near i h))))

    no-two : (i k : ℕ) (a : i < length sides) (b : k < length sides) → i < k → (opposite-at i a).0 ≡ (opposite-at k b).0 → ⊥
    no-two i k a b l q =
        let v = opposite-at i a in
        let w = opposite-at k b in
        let p = ap place_of v.2 ∙ opposite-place (side_at sides i) (op.near i a) in
        let r = ap place_of w.2 ∙ opposite-place (side_at sides k) (op.near k b) in
        let same : d i ≡ d k = omega (arith, p, r, ap d q, d-below i a, d-below k b) in
        different (places sides) once i k l (omega (arith, places-long sides)) (d-is i a ∙ same ∙ sym (d-is k b))

    half-of-pairs : pair_count sides there + pair_count sides there ≤ length sides
    unfolding pair_count
    half-of-pairs =
        let n = length sides in
        omega (
          arith,
          tally-into (is_pair sides there) is_earlier n n opposite-earlier (λ i k a b e f. no-two i k a b),
          tally-apart (is_pair sides there) is_earlier n (λ i h e. le-ltb (d i) 12 (omega (arith, later i h e))),
        )

-- THEOREM
pub half-of-offsets : HalfOfOffsets
half-of-offsets = half-of-pairs

-- ---- no pair, and some

module _ (sides : List Offset) (there : Offset → Bool) (x y : Offset → Float) where
  abbrev position : PredictedPosition
  position = record { x = mean_of sides there x; y = mean_of sides there y; n_axis_pairs = pair_count sides there }

  prediction-is : prediction sides there x y ≡ cond (eqb (pair_count sides there) 0) None (Some position)
  unfolding prediction
  prediction-is = refl

  by_count : (b : Bool) → eqb (pair_count sides there) 0 ≡ b → prediction sides there x y ≡ cond b None (Some position)
  by_count b e = prediction-is ∙ ap (λ (b : Bool). cond b None (Some position)) e

  none-counted : ((i : ℕ) → i < length sides → both_there sides there i ≡ false) → pair_count sides there ≡ 0
  unfolding pair_count
  none-counted h = tally-no (is_pair sides there) (length sides) (λ i l. ap (λ (b : Bool). is_forward (side_at sides i) && b) (h i l) ∙ and-false (is_forward (side_at sides i)))

  counted_none : prediction sides there x y ≡ None → pair_count sides there ≡ 0
  counted_none e = go (eqb (pair_count sides there) 0) refl
    where
      go : (b : Bool) → eqb (pair_count sides there) 0 ≡ b → pair_count sides there ≡ 0
      go true q = eqb-true (pair_count sides there) 0 q
      go false q = let r = by_count false q in let z : ◌≡◌ {A = ℕ} 0 1 = cc in absurd (omega arith)

  pub counted-some : (p : PredictedPosition) → prediction sides there x y ≡ Some p → (p ≡ position) × (pair_count sides there ≡ 0 → ⊥)
  counted-some p e = go (eqb (pair_count sides there) 0) refl
    where
      go : (b : Bool) → eqb (pair_count sides there) 0 ≡ b → (p ≡ position) × (pair_count sides there ≡ 0 → ⊥)
      go true q = let r = by_count true q in let z : ◌≡◌ {A = ℕ} 0 1 = cc in absurd (omega arith)
      go false q = let r = by_count false q in (cc, eqb-false (pair_count sides there) 0 q)

  pair_found : 0 < pair_count sides there → (i : ℕ) × (i < length sides) × (both_there sides there i ≡ true)
  unfolding pair_count
  pair_found h = let v = tally-has (is_pair sides there) (length sides) h in (v.0, v.1, (and_parts (is_forward (side_at sides v.0)) (both_there sides there v.0) v.2).1)

-- THEOREM
pub no-pair-exactly : NoPairTheorem
no-pair-exactly sides op there x y = record {
  none = λ h. by_count sides there x y true (eq-eqb (pair_count sides there) 0 (none-counted sides there x y h));
  none_only = λ e. no-count sides op there (counted_none sides there x y e);
}

-- THEOREM
pub with-pairs : PairsTheorem
with-pairs sides there x y p e =
    let c = counted-some sides there x y p e in
    let more : 0 < pair_count sides there = omega (arith, c.1) in
    record { pairs = ap (λ (q : PredictedPosition). q.n_axis_pairs) c.0; some_pair = more; found = pair_found sides there x y more }

-- ---- what it depends on

module _ (sides : List Offset) (there₁ there₂ : Offset → Bool) (x₁ x₂ y₁ y₂ : Offset → Float) (alike : SeenAlike sides there₁ there₂ x₁ x₂ y₁ y₂) where
  pair-alike : (i : ℕ) → i < length sides → is_pair sides there₁ i ≡ is_pair sides there₂ i
  pair-alike i h =
      let o = side_at sides i in
      ap (λ (b : Bool). is_forward o && (b && there₁ (opposite o))) (alike.there o (i, h, inl refl))
      ∙ ap (λ (b : Bool). is_forward o && (there₂ o && b)) (alike.there (opposite o) (i, h, inr refl))

  count-alike : pair_count sides there₁ ≡ pair_count sides there₂
  unfolding pair_count
  count-alike = tally-ext (is_pair sides there₁) (is_pair sides there₂) (length sides) pair-alike

  mean-alike : (f g : Offset → Float) → ((o : Offset) → Met sides o → there₁ o ≡ true → f o ≡ g o) → mean_of sides there₁ f ≡ mean_of sides there₂ g
  unfolding mean_of
  mean-alike f g same = rw (count-alike, sum-ext (is_pair sides there₁) (is_pair sides there₂) (midpoint sides f) (midpoint sides g) (length sides) pair-alike value)
    where
      value : (i : ℕ) → i < length sides → is_pair sides there₂ i ≡ true → midpoint sides f i ≡ midpoint sides g i
      value i h e =
          let o = side_at sides i in
          let both = (and_parts (is_forward o) (both_there sides there₁ i) (pair-alike i h ∙ e)).1 in
          rw (same o (i, h, inl refl) (and_parts (there₁ o) (there₁ (opposite o)) both).0, same (opposite o) (i, h, inr refl) (and_parts (there₁ o) (there₁ (opposite o)) both).1)

  same-predicted : prediction sides there₁ x₁ y₁ ≡ prediction sides there₂ x₂ y₂
  same-predicted = rw (prediction-is sides there₁ x₁ y₁, prediction-is sides there₂ x₂ y₂, count-alike, mean-alike x₁ x₂ alike.x, mean-alike y₁ y₂ alike.y)

-- THEOREM
pub depends-on-kept : DependsOnKept
depends-on-kept = same-predicted
