-- The first rank with the v, and with the u, of each rank, by the parts of the keys. Assumes nothing.
use mathlib.Core.Path.{◌≡◌, refl, sym, ap, ◌∙◌}
use mathlib.Core.Bool.{Bool, true, cond, true≢false}
use mathlib.Core.Logic.{◌⊎◌, inl, inr}
use mathlib.Core.List.{List}
use Prim.Native.Nat.{ℕ, ◌+◌, ◌/◌, ◌%◌, ◌≤◌, ◌<◌}
use Prim.{Dec, yes, no}
use native.Mathlib.Omega.{arith}
use native.Mathlib.Nat.{eq-or-lt_of_le}
use native.Mathlib.Decide.{dec_lt, ℕ_discrete}
use lib.Dec.{eqb, ltb}
use lib.ListN.{length, set, length-set, replicate, length-replicate, get_or-replicate}
use lib.Seq.{get_or-set_same, get_or-set_other}
use borrow.Author.Tests.{lt-ltb, le-ltb, eq-eqb, ne_eqb}
use Rattle.folds.specs.Below.{first}
use Rattle.folds.proofs.Below.{first-before, first-hit, first-ext}
use Rattle.view.specs.View.{max_points}
use Rattle.cells.specs.Points.{stride}
use Rattle.cells.specs.Cell.{agree, cells_at}
use Rattle.cells.proofs.Keys.{same-u, same-v}
use Rattle.grid.specs.Tables.{entry_in, first_in_row, first_in_column, Keys}

-- where one passes, the first that passes is below n
pub first_below : (p : ℕ → Bool) (n k : ℕ) → k < n → p k ≡ true → first p 0 n < n
first_below p n k h e = go (dec_lt (first p 0 n) n)
  where
    go : Dec (first p 0 n < n) → first p 0 n < n
    go (yes l) = l
    go (no f) = absurd (true≢false (sym e ∙ first-before p 0 n k (omega arith) (omega (arith, f))))

-- the v parts and the u parts of an array of keys
abbrev pub v_parts : List ℕ → ℕ → ℕ
v_parts keys k = entry_in keys k % stride

abbrev pub u_parts : List ℕ → ℕ → ℕ
u_parts keys k = entry_in keys k / stride

module _ (part : ℕ → ℕ) where
  -- no rank before k has this part
  abbrev Unseen : ℕ → ℕ → Type 0
  Unseen v k = (j : ℕ) → j < k → part j ≡ v → ⊥

  -- r is the first rank with the part of k, and not after it
  record FirstFor (k r : ℕ) : Type 0 where
    pub low : r ≤ k
    pub has : part r ≡ part k
    pub none : Unseen (part k) r

  first-for : {k r : ℕ} (n : ℕ) → k < n → FirstFor k r → r ≡ first (λ (j : ℕ). eqb (part j) (part k)) 0 n
  first-for {k} {r} n h f =
      sym (first-hit (λ (j : ℕ). eqb (part j) (part k)) n r (omega (arith, f.low)) (eq-eqb (part r) (part k) f.has) (λ j l. ne_eqb (part j) (part k) (f.none j l)))

  -- ---- by a table over all values of the part

  -- r is the first rank before k that has this part, or no rank is
  abbrev Known : ℕ → ℕ → ℕ → Type 0
  Known v r k = ((r < k) × (part r ≡ v) × Unseen v r) ⊎ ((max_points ≤ r) × Unseen v k)

  pub record Tabled (seen : List ℕ) (k : ℕ) : Type 0 where
    pub size : length seen ≡ stride
    pub each : (v : ℕ) → v < stride → Known v (entry_in seen v) k

  pub tabled_start : Tabled (replicate stride max_points) 0
  tabled_start = record {
    size = length-replicate {A = ℕ} stride max_points;
    each = λ v l. inr (rw (get_or-replicate {A = ℕ} stride v max_points 0 l) (omega arith), λ j h. absurd (omega arith));
  }

  module _ (seen : List ℕ) (k v r : ℕ) (is : v ≡ part k) (fits : part k < stride) (s : Tabled seen k) (few : k < max_points) (e : r ≡ cond (ltb (entry_in seen v) k) (entry_in seen v) k) where
    tabled-first : FirstFor k r
    tabled-first = go (s.each (part k) fits)
      where
        go : Known (part k) (entry_in seen (part k)) k → FirstFor k r
        go (inl f) = let q : r ≡ entry_in seen (part k) = rw (is, lt-ltb (entry_in seen (part k)) k f.0) at e in rw q (record { low = omega (arith, f.0); has = f.1; none = f.2 })
        go (inr f) = let q : r ≡ k = rw (is, le-ltb (entry_in seen (part k)) k (omega (arith, f.0))) at e in rw q (record { low = omega arith; has = refl; none = f.1 })

    tabled-more : Tabled (set seen v r) (k + 1)
    tabled-more = rw is (record { size = length-set seen (part k) r ∙ s.size; each = λ x l. go x l (ℕ_discrete x (part k)) })
      where
        other : (v : ℕ) → (v ≡ part k → ⊥) → Known v (entry_in seen v) k → Known v (entry_in seen v) (k + 1)
        other v x (inl f) = inl (omega (arith, f.0), f.1, f.2)
        other v x (inr f) = inr (f.0, λ j l q. past j (eq-or-lt_of_le (omega arith)) q)
          where
            past : (j : ℕ) → (j ≡ k) ⊎ (j < k) → part j ≡ v → ⊥
            past j (inl d) q = x (sym q ∙ ap part d)
            past j (inr l) q = f.1 j l q

        go : (v : ℕ) → v < stride → Dec (v ≡ part k) → Known v (entry_in (set seen (part k) r) v) (k + 1)
        go v l (yes q) = rw (q, get_or-set_same seen (part k) r 0 (omega (arith, s.size))) (inl (omega (arith, tabled-first.low), tabled-first.has, tabled-first.none))
        go v l (no x) = rw (get_or-set_other seen (part k) v r 0 x) (other v x (s.each v l))

  -- ---- where the parts rise

  -- `start` is the first rank with the part of rank k - 1
  pub record Started (start k : ℕ) : Type 0 where
    pub low : start ≤ k
    pub before : (j : ℕ) → j < start → part j < part start
    pub since : (j : ℕ) → start ≤ j → j < k → part j ≡ part start

  pub start_none : Started 0 0
  start_none = record { low = omega arith; before = λ j l. absurd (omega arith); since = λ j l h. absurd (omega arith) }

  module _ (start k r : ℕ) (rises : (j : ℕ) → j < k → part j ≤ part k) (s : Started start k) (e : r ≡ cond (eqb (part start) (part k)) start k) where
    started-more : (r ≤ k) × (part r ≡ part k) × Started r (k + 1)
    started-more = go (ℕ_discrete (part start) (part k))
      where
        go : Dec (part start ≡ part k) → (r ≤ k) × (part r ≡ part k) × Started r (k + 1)
        go (yes q) =
            let d : r ≡ start = rw (eq-eqb (part start) (part k) q) at e in
            rw d (s.low, q, record { low = omega (arith, s.low); before = s.before; since = λ j l m. last j l (eq-or-lt_of_le (omega arith)) })
          where
            last : (j : ℕ) → start ≤ j → (j ≡ k) ⊎ (j < k) → part j ≡ part start
            last j l (inl d) = rw d (sym q)
            last j l (inr m) = s.since j l m
        go (no x) =
            let d : r ≡ k = rw (ne_eqb (part start) (part k) x) at e in
            rw d (omega arith, refl, record { low = omega arith; before = λ j l. before j l (dec_lt j start); since = λ j l m. let q : j ≡ k = omega arith in rw q refl })
          where
            up : start < k → part start < part k
            up m = omega (arith, x, rises start m)

            differs : (start ≡ k) ⊎ (start < k) → start < k
            differs (inl q) = absurd (x (ap part q))
            differs (inr m) = m

            before : (j : ℕ) → j < k → Dec (j < start) → part j < part k
            before j l (yes m) = omega (arith, s.before j m, up (differs (eq-or-lt_of_le s.low)))
            before j l (no y) = omega (arith, s.since j (omega arith) l, up (omega arith))

    started-first : FirstFor k r
    started-first = let m = started-more in record { low = m.0; has = m.1; none = λ j l q. omega (arith, q, m.1, m.2.before j l) }

-- ---- a turn of the loop, by cells

module _ (keys : List ℕ) (n k r : ℕ) (h : k < n) where
  pub row_more : (seen : List ℕ) (v : ℕ) → n ≤ max_points → v ≡ v_parts keys k → Tabled (v_parts keys) seen k → r ≡ cond (ltb (entry_in seen v) k) (entry_in seen v) k
      → Tabled (v_parts keys) (set seen v r) (k + 1) × (r ≡ first_in_row n (cells_at keys) k)
  unfolding first_in_row
  row_more seen v few is s e = (
    tabled-more (v_parts keys) seen k v r is (omega arith) s (omega arith) e,
    first-for (v_parts keys) n h (tabled-first (v_parts keys) seen k v r is (omega arith) s (omega arith) e)
        ∙ first-ext (λ (j : ℕ). eqb (v_parts keys j) (v_parts keys k)) (λ (j : ℕ). agree (cells_at keys j).v (cells_at keys k).v) n (λ j l. sym (same-v (entry_in keys j) (entry_in keys k))),
  )

  pub column-more : (start : ℕ) → Keys keys n → Started (u_parts keys) start k → r ≡ cond (eqb (u_parts keys start) (u_parts keys k)) start k
      → (r ≤ k) × Started (u_parts keys) r (k + 1) × (r ≡ first_in_column n (cells_at keys) k)
  unfolding first_in_column
  column-more start ks s e = (
    (started-more (u_parts keys) start k r rises s e).0,
    (started-more (u_parts keys) start k r rises s e).2,
    first-for (u_parts keys) n h (started-first (u_parts keys) start k r rises s e)
        ∙ first-ext (λ (j : ℕ). eqb (u_parts keys j) (u_parts keys k)) (λ (j : ℕ). agree (cells_at keys j).u (cells_at keys k).u) n (λ j l. sym (same-u (entry_in keys j) (entry_in keys k))),
  )
    where
      rises : (j : ℕ) → j < k → u_parts keys j ≤ u_parts keys k
      rises j l = omega (arith, ks.rising j k l h)
