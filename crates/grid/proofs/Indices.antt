-- The walk down the order by index and rank. Assumes nothing.
use mathlib.Core.Path.{◌≡◌, refl, sym, ap, ◌∙◌}
use mathlib.Core.Bool.{Bool, true, false, cond, ◌&&◌, true≢false}
use mathlib.Core.Logic.{◌⊎◌, inl, inr}
use mathlib.Core.List.{List}
use Prim.Native.Nat.{ℕ, suc, ◌+◌, ◌*◌, ◌/◌, ◌%◌, ◌≤◌, ◌<◌}
use Prim.{Dec, yes, no}
use native.Mathlib.Omega.{arith}
use native.Mathlib.Nat.{eq-or-lt_of_le}
use native.Mathlib.Decide.{dec_lt}
use lib.Dec.{eqb, ltb}
use lib.ListN.{length, get_or, set, length-set}
use lib.Seq.{get_or-set_same, get_or-set_other}
use borrow.Author.Tests.{lt-ltb, eq-eqb, ne_eqb, ltb-true, eqb-true}
use Rattle.folds.proofs.Below.{last-hit}
use Rattle.view.specs.View.{max_points, ranks_size, indices_at}
use Rattle.sort.specs.Packed.{packed_places, in_order_of, placed}
use Rattle.sort.proofs.Packed.{placed_below, placed-is, place_of, placed-rises}
use Rattle.grid.specs.Tables.{entry_in, last_with_index, spliced}
use Rattle.grid.proofs.Splicing.{is-spliced}
use Rattle.std.proofs.lemmas.Bool.{and_from, and_parts}

-- the rank at place r of the order
abbrev rank_in : List ℕ → ℕ → ℕ
rank_in order r = entry_in order r % packed_places

-- the entries of the ranks at the places from i on are in the block of indices, which was in the table out₀
pub record Walked (index : ℕ → ℕ) (n : ℕ) (order out₀ : List ℕ) (i : ℕ) (out : List ℕ) (last : ℕ) : Type 0 where
  pub ordered : (r : ℕ) → r < n → entry_in order r ≡ get_or (in_order_of index n) r 0
  pub low : i ≤ n
  pub size : length out ≡ length out₀
  pub done : (p : ℕ) → i ≤ p → p < n → entry_in out (indices_at + rank_in order p) ≡ last_with_index n index (rank_in order p)
  pub before : (m : ℕ) → m < indices_at → entry_in out m ≡ entry_in out₀ m
  pub after : (m : ℕ) → indices_at + n ≤ m → entry_in out m ≡ entry_in out₀ m
  pub next : i < n → last ≡ last_with_index n index (rank_in order i)

module _ (index : ℕ → ℕ) (n : ℕ) (few : n ≤ max_points) (order : List ℕ) (is : (r : ℕ) → r < n → entry_in order r ≡ get_or (in_order_of index n) r 0) where
  small : n ≤ packed_places
  small = omega arith

  rank_is : (r : ℕ) → r < n → rank_in order r ≡ placed index n r
  rank_is r h = ap (λ (w : ℕ). w % packed_places) (is r h)

  pub rank_below : (r : ℕ) → r < n → rank_in order r < n
  rank_below r h = rw (rank_is r h) (placed_below index n small r h)

  -- the word at place r
  word : (r : ℕ) → r < n → entry_in order r ≡ index (rank_in order r) * packed_places + rank_in order r
  word r h = rw (rank_is r h) (is r h ∙ placed-is index n small r h)

  index_is : (r : ℕ) → r < n → entry_in order r / packed_places ≡ index (rank_in order r)
  index_is r h = omega (arith, word r h, rank_below r h)

  rises : (i j : ℕ) → i < j → j < n → entry_in order i < entry_in order j
  rises i j ij h = rw (is i (omega arith), is j h) (placed-rises index n small i j ij h)

  pub place : (k : ℕ) → k < n → (r : ℕ) × (r < n) × (rank_in order r ≡ k)
  place k h = let m = place_of index n small k h in (m.0, m.1, rank_is m.0 m.1 ∙ m.2)

  -- the index of place i is the index of the next
  abbrev goes_on : ℕ → Bool
  goes_on i = ltb (i + 1) n && eqb (entry_in order i / packed_places) (entry_in order (i + 1) / packed_places)

  module _ (i after : ℕ) (h : i < n) (known : i + 1 < n → after ≡ last_with_index n index (rank_in order (i + 1))) where
    same_index : goes_on i ≡ true → after ≡ last_with_index n index (rank_in order i)
    unfolding last_with_index
    same_index e =
        let l : i + 1 < n = ltb-true (i + 1) n (and_parts (ltb (i + 1) n) (eqb (entry_in order i / packed_places) (entry_in order (i + 1) / packed_places)) e).0 in
        let q : entry_in order i / packed_places ≡ entry_in order (i + 1) / packed_places = eqb-true (entry_in order i / packed_places) (entry_in order (i + 1) / packed_places) (and_parts (ltb (i + 1) n) (eqb (entry_in order i / packed_places) (entry_in order (i + 1) / packed_places)) e).1 in
        let s : index (rank_in order i) ≡ index (rank_in order (i + 1)) = sym (index_is i h) ∙ q ∙ index_is (i + 1) l in
        rw s (known l)

    -- no later rank has the index of place i
    last_one : goes_on i ≡ false → (j : ℕ) → rank_in order i < j → j < n → eqb (index j) (index (rank_in order i)) ≡ false
    last_one e j ij hj = ne_eqb (index j) (index (rank_in order i)) (λ q. true≢false (sym (goes q) ∙ e))
      where
        r : ℕ
        r = (place j hj).0

        above : index j ≡ index (rank_in order i) → entry_in order i < entry_in order r
        above q = let s : index (rank_in order r) ≡ index j = ap index (place j hj).2 in omega (arith, q, s, word i h, word r (place j hj).1, (place j hj).2)

        later : index j ≡ index (rank_in order i) → i < r
        later q = go (dec_lt i r)
          where
            go : Dec (i < r) → i < r
            go (yes l) = l
            go (no x) = at_most (eq-or-lt_of_le (omega arith))
              where
                at_most : (r ≡ i) ⊎ (r < i) → i < r
                at_most (inl d) = let s : entry_in order r ≡ entry_in order i = ap (entry_in order) d in absurd (omega (arith, s, above q))
                at_most (inr l) = absurd (omega (arith, above q, rises r i l h))

        goes : index j ≡ index (rank_in order i) → goes_on i ≡ true
        goes q =
            let l : i + 1 < n = omega (arith, later q, (place j hj).1) in
            let s : index (rank_in order r) ≡ index j = ap index (place j hj).2 in
            and_from (ltb (i + 1) n) (eqb (entry_in order i / packed_places) (entry_in order (i + 1) / packed_places)) (lt-ltb (i + 1) n l)
            (eq-eqb (entry_in order i / packed_places) (entry_in order (i + 1) / packed_places) (omega (arith, q, s, index_is i h, index_is r (place j hj).1, rises i (i + 1) (omega arith) l, next (eq-or-lt_of_le (later q)))))
          where
            next : (suc i ≡ r) ⊎ (suc i < r) → entry_in order (i + 1) ≤ entry_in order r
            next (inl d) = let f : i + 1 ≡ r = omega arith in rw f (omega arith)
            next (inr l) = omega (arith, rises (i + 1) r (omega arith) (place j hj).1)

    last-is : (v : ℕ) → v ≡ cond (goes_on i) after (rank_in order i) → v ≡ last_with_index n index (rank_in order i)
    unfolding last_with_index
    last-is v e = go (goes_on i) refl e
      where
        go : (b : Bool) → goes_on i ≡ b → v ≡ cond b after (rank_in order i) → v ≡ last_with_index n index (rank_in order i)
        go true t e = e ∙ same_index t
        go false t e = e ∙ sym (last-hit (λ (j : ℕ). eqb (index j) (index (rank_in order i))) 0 n (rank_in order i) (rank_below i h) (eq-eqb (index (rank_in order i)) (index (rank_in order i)) refl) (last_one t))

  module _ (out₀ : List ℕ) (long : length out₀ ≡ ranks_size) where
    pub walked_start : Walked index n order out₀ n out₀ 0
    walked_start = record {
      ordered = is;
      low = omega arith;
      size = refl;
      done = λ p l h. absurd (omega arith);
      before = λ m l. refl;
      after = λ m l. refl;
      next = λ h. absurd (omega arith);
    }

    pub walked_more : (i v : ℕ) {out : List ℕ} {last : ℕ} → i < n → Walked index n order out₀ (i + 1) out last → v ≡ cond (goes_on i) last (rank_in order i) → Walked index n order out₀ i (set out (indices_at + rank_in order i) v) v
    walked_more i v {out} {last} h w e = record {
      ordered = is;
      low = omega arith;
      size = length-set out place_at v ∙ w.size;
      done = λ p l m. go p l m (eq-or-lt_of_le l);
      before = λ m l. let ne : (m ≡ place_at → ⊥) = λ q. omega (arith, q) in get_or-set_other out place_at m v 0 ne ∙ w.before m l;
      after = λ m l. let ne : (m ≡ place_at → ⊥) = λ q. omega (arith, q, rank_below i h) in get_or-set_other out place_at m v 0 ne ∙ w.after m l;
      next = λ m. found;
    }
      where
        place_at : ℕ
        place_at = indices_at + rank_in order i

        found : v ≡ last_with_index n index (rank_in order i)
        found = last-is i last h w.next v e

        go : (p : ℕ) → i ≤ p → p < n → (i ≡ p) ⊎ (i < p) → entry_in (set out place_at v) (indices_at + rank_in order p) ≡ last_with_index n index (rank_in order p)
        go p l m (inl q) = rw (← q, get_or-set_same out place_at v 0 (omega (arith, w.size, long, rank_below i h))) found
        go p l m (inr k) =
            let ne : (indices_at + rank_in order p ≡ place_at → ⊥) = λ q.
            let d : rank_in order p ≡ rank_in order i = omega arith in
            let s : index (rank_in order p) ≡ index (rank_in order i) = ap index d in
            omega (arith, d, s, word p m, word i h, rises i p k m)
            in
            get_or-set_other out place_at (indices_at + rank_in order p) v 0 ne ∙ w.done p (omega arith) m

    pub walked-done : {out : List ℕ} {last : ℕ} → Walked index n order out₀ 0 out last → out ≡ spliced indices_at n (last_with_index n index) out₀
    walked-done {out} w = is-spliced indices_at n (last_with_index n index) out₀ w.size entry w.before w.after
      where
        entry : (k : ℕ) → k < n → entry_in out (indices_at + k) ≡ last_with_index n index k
        entry k h = let m = place k h in rw m.2 at (w.done m.0 (omega arith) m.1)
