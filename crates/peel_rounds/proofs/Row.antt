-- A row whose last point is strong loses its first point in each round, so that the rounds reach the bound. Assumes nothing.
use mathlib.Core.Path.{◌≡◌, sym, ap, ◌∙◌}
use mathlib.Core.Bool.{Bool, true, false, ◌||◌, true≢false}
use mathlib.Core.List.{List}
use Prim.{yes, no}
use Prim.Native.Nat.{ℕ, zero, suc, ◌+◌, ◌-◌, ◌*◌, ◌≤◌, ◌<◌, zero-le}
use native.Mathlib.Decide.{ℕ_discrete, dec_lt}
use native.Mathlib.Numerals.{add-one}
use native.Mathlib.Omega.{arith}
use borrow.Author.Tests.{eq-eqb, lt-ltb, le-ltb, ltb-false}
use lib.Dec.{eqb, ltb}
use lib.ListN.{get_or}
use Rattle.folds.proofs.Counting.{tally-has-two}
use Rattle.folds.specs.Marked.{bit}
use Rattle.folds.proofs.Marked.{bit_le, tally-four}
use Rattle.offsets.specs.Offsets.{next_u, prev_u, next_v, prev_v, square_sides, places}
use Rattle.view.specs.View.{View, rank_at}
use Rattle.patches.specs.Patches.{survives}
use Rattle.peel.specs.Peel.{live_sides, goes, leaf_of, peeled_of}
use Rattle.peel.specs.Theorems.{Placed}
use Rattle.peel.proofs.Rounds.{Ends, end_goes, goes_end, gone-first, gone-next, not-over, is-over, rounds-are}
use Rattle.peel.proofs.Leaves.{live-stays, live-is}
use Rattle.peel.proofs.Theorems.{known}
use Rattle.peel_rounds.specs.Rounds.{InRow}
use Rattle.peel_rounds.proofs.Ends as live
use Rattle.std.proofs.Math.Bool.{or-false}
use Rattle.std.proofs.lemmas.Bool.{and_from, false_from_ne_true, or_right}

module _ (w : View) (dropped weak : List ℕ) (m : ℕ) (long : w.count ≡ m + 1) (row : InRow w dropped weak) where
  abbrev four : List ℕ
  four = places square_sides

  abbrev out : ℕ → ℕ → Bool
  out = live.out w four dropped weak

  abbrev lives : ℕ → ℕ → Bool
  lives = live.lives w four dropped weak

  abbrev is_end : ℕ → ℕ → Bool
  is_end = live.is_end w four dropped weak

  abbrev ends : (ℕ → Bool) → ℕ → Bool
  ends = leaf_of w four dropped weak

  placed : Placed w
  placed k h = omega (arith, row.own k h)

  known-ends : Ends w.count w.by_idx ends
  known-ends = known w four dropped weak placed

  -- after r rounds the first r have gone
  abbrev FirstGone : ℕ → Type 0
  FirstGone r = (b : ℕ) → out r b ≡ ltb b r

  module _ (r : ℕ) (gone : FirstGone r) where
    still : (k : ℕ) → r ≤ k → k < w.count → lives r k ≡ true
    still k h g =
        live-is (survives w.count dropped) w.by_idx (out r) k
        (and_from (ltb k w.count) (eqb (get_or dropped k 0) 0) (lt-ltb k w.count g) (eq-eqb (get_or dropped k 0) 0 (row.undropped k g)))
        (ap (out r) (row.own k g) ∙ gone k ∙ le-ltb k r h)

    later : (k : ℕ) → lives r k ≡ true → (k < w.count) × (r ≤ k)
    later k e =
        let h = live.lives-lt w four dropped weak r k e in
        (h, ltb-false k r (sym (gone k) ∙ sym (ap (out r) (row.own k h)) ∙ live-stays (survives w.count dropped) w.by_idx (out r) k e))

    -- the next is its only live neighbour
    few : r + 1 < w.count → live.sides_live w four dropped weak r r < 2
    unfolding live_sides
    few h = omega (arith, tally-four (λ (i : ℕ). lives r (w.near (25 * r + get_or four i 0))), ap bit before, ap bit below, ap bit above, bit_le (lives r (rank_at w r next_u)))
      where
        before : lives r (rank_at w r prev_u) ≡ false
        before = false_from_ne_true _ (λ e. let v = later _ e in elim (ℕ_discrete r 0) [
          | yes d ↦ omega (arith, v.0, row.first, ap (λ (k : ℕ). rank_at w k prev_u) d)
          | no d ↦
              let z : r - 1 + 1 ≡ r = omega (arith, d) in
              omega (arith, v.1, row.prev (r - 1) (omega arith), ap (λ (k : ℕ). rank_at w k prev_u) z, d)
        ])

        below : lives r (rank_at w r prev_v) ≡ false
        below = false_from_ne_true _ (λ e. omega (arith, (later _ e).0, (row.beside r (omega arith)).0))

        above : lives r (rank_at w r next_v) ≡ false
        above = false_from_ne_true _ (λ e. omega (arith, (later _ e).0, (row.beside r (omega arith)).1))

    first-end : r + 1 < w.count → is_end r r ≡ true
    first-end h = live.end_is w four dropped weak r r (still r (omega arith) (omega arith)) (row.weaks r h) (few h)

    -- the last is strong, and the others have two live neighbours
    only : (k : ℕ) → is_end r k ≡ true → (k ≡ r) × (k + 1 < w.count)
    unfolding live_sides
    only k e = elim (ℕ_discrete k r) [ yes d ↦ (d, inner) | no d ↦ absurd (omega (arith, live.end-few w four dropped weak r k e, many d)) ]
      where
        v : (k < w.count) × (r ≤ k)
        v = later k (live.end-lives w four dropped weak r k e)

        inner : k + 1 < w.count
        inner = elim (ℕ_discrete (k + 1) w.count) [ yes d ↦ absurd (true≢false (sym (live.end-weak w four dropped weak r k e) ∙ row.strong k d)) | no d ↦ omega (arith, d, v.0) ]

        many : (k ≡ r → ⊥) → 2 ≤ live.sides_live w four dropped weak r k
        many d =
            let z : k - 1 + 1 ≡ k = omega (arith, d, v.1) in
            let back : rank_at w k prev_u ≡ k - 1 = ap (λ (x : ℕ). rank_at w x prev_u) (sym z) ∙ row.prev (k - 1) (omega (arith, v.0)) in
            tally-has-two (λ (i : ℕ). lives r (w.near (25 * k + get_or four i 0))) 4 0 2 (omega arith) (omega arith) (λ q. omega (arith, q))
            (ap (lives r) (row.next k inner) ∙ still (k + 1) (omega (arith, v.1)) inner) (ap (lives r) back ∙ still (k - 1) (omega (arith, d, v.1)) (omega (arith, v.0)))

    gone-more : r + 1 < w.count → FirstGone (r + 1)
    gone-more h b = gone-next w.count w.by_idx ends known-ends r b ∙ elim (ℕ_discrete b r) [
      | yes d ↦
          or_right (out r b) (goes w.count w.by_idx ends (out r) b)
          (ap (goes w.count w.by_idx ends (out r)) (d ∙ sym (row.own r (omega arith)))
          ∙ end_goes w.count w.by_idx ends (out r) r (omega arith) (first-end h))
          ∙ sym (lt-ltb b (r + 1) (omega arith))
      | no d ↦
          ap (λ (t : Bool). out r b || t)
          (false_from_ne_true (goes w.count w.by_idx ends (out r) b)
          (λ e. let v = goes_end w.count w.by_idx ends (out r) b e in d (sym v.3 ∙ row.own v.0 v.1 ∙ (only v.0 v.2).0)))
          ∙ or-false (out r b) ∙ gone b ∙ other d
    ]
      where
        other : (b ≡ r → ⊥) → ltb b r ≡ ltb b (r + 1)
        other d = elim (dec_lt b r) [ yes l ↦ lt-ltb b r l ∙ sym (lt-ltb b (r + 1) (omega arith)) | no l ↦ le-ltb b r (omega (arith, l)) ∙ sym (le-ltb b (r + 1) (omega (arith, l, d))) ]

  after : (r : ℕ) → r < w.count → FirstGone r
  after zero h = λ b. gone-first w.count w.by_idx ends known-ends b ∙ sym (le-ltb b 0 zero-le)
  after (suc r) h =
      let z : r + 1 ≡ suc r = add-one r in
      rw z at (gone-more r (after r (omega arith)) (omega arith))

  -- THEOREM: the row of m + 1 points takes m rounds
  pub row-rounds : (peeled_of w (places square_sides) dropped weak).rounds ≡ m
  row-rounds =
      live.rounds-is w four dropped weak
      ∙ rounds-are w.count w.by_idx ends known-ends m
      (λ r h. not-over w.count w.by_idx ends known-ends r r (first-end r (after r (omega arith)) (omega arith)))
      (is-over w.count w.by_idx ends known-ends m (λ k e. let v = only m (after m (omega arith)) k e in omega (arith, v.0, v.1)))
