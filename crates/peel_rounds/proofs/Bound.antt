-- How many rounds there can be: "the removing rounds number at most n − 1", with n the points that the earlier filters left, over any list of
-- offsets that has each offset's opposite and none twice. Assumes nothing.
use mathlib.Core.Path.{◌≡◌, refl, sym, ap, ◌∙◌}
use mathlib.Core.Bool.{Bool, true, not, true≢false}
use mathlib.Core.Logic.{⊎_elim}
use mathlib.Core.List.{List}
use Prim.{yes, no}
use Prim.Native.Nat.{ℕ, ◌+◌, ◌-◌, ◌*◌, ◌≤◌, ◌<◌}
use native.Mathlib.Nat.{eq-or-lt_of_le}
use native.Mathlib.Decide.{ℕ_discrete}
use native.Mathlib.Omega.{arith}
use borrow.Author.Tests.{eq-eqb, eqb-true}
use lib.Dec.{eqb}
use lib.ListN.{length, get_or}
use Rattle.folds.specs.Below.{tally}
use Rattle.folds.proofs.Below.{some_at, every-at}
use Rattle.folds.proofs.Counting.{tally-has-two, tally-has-three, tally-two-at}
use Rattle.view.specs.View.{View}
use Rattle.patches.specs.Reach.{paired}
use Rattle.patches.specs.Search.{NearPlaces}
use Rattle.peel.specs.Peel.{live_sides, peeled_of}
use Rattle.peel.specs.Theorems.{Placed}
use Rattle.peel.specs.declared.Peeled.{Peeled}
use Rattle.peel_rounds.specs.Rounds.{none_twice, Neighbours, left_count}
use Rattle.peel_rounds.proofs.Ends.{lives, is_end, lives-lt, end-lives, end-weak, end-few, many-sides, some_end, end-out, out-dead, lived, before_last, left_after}
use Rattle.std.proofs.lemmas.Bool.{false_from_ne_true}

-- ---- the list of offsets

-- the place in the list of the opposite of offset i
pub opposite : (sides : List ℕ) → paired sides ≡ true → (i : ℕ) → i < length sides → (j : ℕ) × (j < length sides) × (get_or sides j 0 ≡ 24 - get_or sides i 0)
unfolding paired
opposite sides e i h =
    let v = some_at (λ (j : ℕ). eqb (get_or sides j 0) (24 - get_or sides i 0)) (length sides) (every-at _ (length sides) e i h) in
    (v.0, v.1, eqb-true (get_or sides v.0 0) (24 - get_or sides i 0) v.2)

pub different : (sides : List ℕ) → none_twice sides ≡ true → (i j : ℕ) → i < j → j < length sides → get_or sides i 0 ≡ get_or sides j 0 → ⊥
unfolding none_twice
different sides e i j h g q =
    true≢false (sym (every-at (λ (k : ℕ). not (eqb (get_or sides k 0) (get_or sides j 0))) j (every-at _ (length sides) e j g) i h) ∙ ap not (eq-eqb (get_or sides i 0) (get_or sides j 0) q))

module _ (w : View) (sides dropped weak : List ℕ) (placed : Placed w) where
  abbrev answer : Peeled
  answer = peeled_of w sides dropped weak

  -- THEOREM: there are no more rounds than points that the earlier filters left
  pub rounds-left : answer.rounds ≤ left_count w dropped
  rounds-left = omega (arith, left_after w sides dropped weak placed answer.rounds (omega arith))

  module _ (near : NearPlaces sides) (nb : Neighbours w sides) where
    -- two live points, of which one is an end after r rounds, and the other after one round more
    module _ (r x y : ℕ) (ex : is_end w sides dropped weak r x ≡ true) (ey : is_end w sides dropped weak (r + 1) y ≡ true) (two : tally (lives w sides dropped weak r) w.count ≤ 2) where
      abbrev alive : ℕ → Bool
      alive = lives w sides dropped weak r

      abbrev beside : ℕ → ℕ → ℕ
      beside k i = w.near (25 * k + get_or sides i 0)

      x-alive : alive x ≡ true
      x-alive = end-lives w sides dropped weak r x ex

      y-later : lives w sides dropped weak (r + 1) y ≡ true
      y-later = end-lives w sides dropped weak (r + 1) y ey

      y-alive : alive y ≡ true
      y-alive = lived w sides dropped weak placed r y y-later

      -- an end goes in its round, and y did not go
      y-waits : (k : ℕ) → is_end w sides dropped weak r k ≡ true → k ≡ y → ⊥
      y-waits k e q = true≢false (sym y-later ∙ ap (lives w sides dropped weak (r + 1)) (sym q) ∙ out-dead w sides dropped weak placed (r + 1) k (end-out w sides dropped weak placed r k e))

      x_lt : x < w.count
      x_lt = lives-lt w sides dropped weak r x x-alive

      y-lt : y < w.count
      y-lt = lives-lt w sides dropped weak r y y-alive

      -- there are no three, so a live neighbour of y is x
      is_x : (i : ℕ) → i < length sides → alive (beside y i) ≡ true → beside y i ≡ x
      is_x i h e = elim (ℕ_discrete (beside y i) x) [
        | yes f ↦ f
        | no f ↦
            let z = lives-lt w sides dropped weak r (beside y i) e in
            absurd (omega (arith, two, tally-has-three alive w.count x y (beside y i) x_lt y-lt z (y-waits x ex) (λ q. f (sym q)) (λ q. nb.apart y i y-lt h (sym q)) x-alive y-alive e))
      ]

      -- and y is one of x, at the opposite offset
      back : (i : ℕ) (h : i < length sides) → alive (beside y i) ≡ true → alive (beside x (opposite sides nb.opposites i h).0) ≡ true
      back i h e =
          let v = opposite sides nb.opposites i h in
          ap alive (ap (λ (o : ℕ). w.near (25 * x + o)) v.2 ∙ nb.mirrored.back y x (get_or sides i 0) y-lt x_lt (near i h) (is_x i h e)) ∙ y-alive

      -- y is no end yet, so that it has two live neighbours, and x has two
      never : ⊥
      unfolding live_sides
      never =
          let many = many-sides w sides dropped weak r y (false_from_ne_true _ (λ e. y-waits y e refl)) y-alive (end-weak w sides dropped weak (r + 1) y ey) in
          let t = tally-two-at (λ (i : ℕ). alive (beside y i)) (length sides) many in
          let h : t.0 < length sides = omega arith in
          let a = opposite sides nb.opposites t.0 h in
          let b = opposite sides nb.opposites t.1 t.3 in
          let one : a.0 ≡ b.0 → get_or sides t.0 0 ≡ get_or sides t.1 0 = λ q. omega (arith, near t.0 h, near t.1 t.3, a.2, b.2, ap (λ (j : ℕ). get_or sides j 0) q) in
          let ne : a.0 ≡ b.0 → ⊥ = λ q. different sides nb.once t.0 t.1 t.2 t.3 (one q) in
          let both = tally-has-two (λ (i : ℕ). alive (beside x i)) (length sides) a.0 b.0 a.1 b.1 ne (back t.0 h t.4) (back t.1 t.3 t.5) in
          omega (arith, both, end-few w sides dropped weak r x ex)

    -- THEOREM: with two points or more there is one round fewer: the last two go together
    pub rounds-bound : 2 ≤ left_count w dropped → answer.rounds + 1 ≤ left_count w dropped
    rounds-bound h = ⊎_elim (λ (d : answer.rounds ≡ left_count w dropped). absurd (all d)) (λ (l : answer.rounds < left_count w dropped). omega arith) (eq-or-lt_of_le rounds-left)
      where
        all : answer.rounds ≡ left_count w dropped → ⊥
        all d =
            let r = left_count w dropped - 2 in
            let x = some_end w sides dropped weak r (before_last w sides dropped weak placed r (omega arith)) in
            let y = some_end w sides dropped weak (r + 1) (before_last w sides dropped weak placed (r + 1) (omega arith)) in
            never r x.0 y.0 x.2 y.2 (omega (arith, left_after w sides dropped weak placed r (omega arith)))
