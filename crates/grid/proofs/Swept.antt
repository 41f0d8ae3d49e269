-- The sweep over all ranks: the block of neighbours is filled up to step i, and each reached rank is behind all targets to come. Assumes nothing.
use mathlib.Core.Path.{◌≡◌, ap, ◌∙◌}
use mathlib.Core.List.{List}
use Prim.Native.Nat.{ℕ, ◌+◌, ◌*◌, ◌/◌, ◌%◌, ◌≤◌, ◌<◌}
use Prim.{Dec, yes, no}
use native.Mathlib.Omega.{arith}
use native.Mathlib.Decide.{ℕ_discrete}
use lib.ListN.{length, set, length-set, replicate, length-replicate}
use lib.Seq.{get_or-set_same, get_or-set_other}
use Rattle.folds.proofs.Column.{replicate-at}
use Rattle.view.specs.View.{ranks_size}
use Rattle.cells.specs.Points.{stride}
use Rattle.cells.specs.Cell.{cells_at}
use Rattle.grid.specs.Tables.{entry_in, neighbour_entry, spliced, Keys}
use Rattle.grid.specs.Sweep.{standing, standing_from, Behind, Reached}
use Rattle.grid.proofs.Splicing.{spliced-none, spliced-on}
use Rattle.grid.proofs.Standing.{key_step, standing-is}
use Rattle.grid.proofs.Passing.{behind-none, behind-up}

-- the target at step m
abbrev target_at : (ℕ → ℕ) → ℕ → ℕ
target_at key m = key (m / 5) + stride * (m % 5)

module _ (keys : List ℕ) (n : ℕ) (ranks₀ : List ℕ) where
  pub record Swept (ranks reached : List ℕ) (i : ℕ) : Type 0 where
    pub fill : ranks ≡ spliced 0 (5 * i) (neighbour_entry n (cells_at keys)) ranks₀
    pub size : length reached ≡ 5
    pub ahead : (m : ℕ) → i ≤ m → m < 5 * n → Behind n (entry_in keys) (entry_in reached (m % 5)) (target_at (entry_in keys) m)

  pub swept-start : Swept ranks₀ (replicate 5 0) 0
  swept-start = record {
    fill = spliced-none 0 (neighbour_entry n (cells_at keys)) ranks₀;
    size = length-replicate {A = ℕ} 5 0;
    ahead = λ m l h. rw (replicate-at {A = ℕ} 5 0 (m % 5)) (behind-none n (entry_in keys) (target_at (entry_in keys) m));
  }

  module _ (ks : Keys keys n) (size : length ranks₀ ≡ ranks_size) where
    pub swept-more : {ranks ranks' reached : List ℕ} {i p t : ℕ} → i < 5 * n → t ≡ target_at (entry_in keys) i → Swept ranks reached i → Reached n (entry_in keys) p t
        → ranks' ≡ spliced (5 * i) 5 (standing_from n (entry_in keys) t) ranks → Swept ranks' (set reached (i % 5) p) (i + 1)
    swept-more {ranks} {ranks'} {reached} {i} {p} {t} h e w r f = record {
      fill =
          let z : 5 * (i + 1) ≡ 5 * i + 5 = omega arith in
          let o : 5 * i ≡ 0 + 5 * i = omega arith in
          rw z (spliced-on 0 (5 * i) 5 (neighbour_entry n (cells_at keys)) (standing_from n (entry_in keys) t) ranks₀ (omega (arith, ks.few, size)) entry w.fill (f ∙ ap (λ (from : ℕ). spliced from 5 (standing_from n (entry_in keys) t) ranks) o));
      size = length-set reached (i % 5) p ∙ w.size;
      ahead = λ m l b. go m l b (ℕ_discrete (m % 5) (i % 5));
    }
      where
        entry : (d : ℕ) → d < 5 → standing n (entry_in keys) (t + d) ≡ neighbour_entry n (cells_at keys) (5 * i + d)
        entry d l =
            let a : (5 * i + d) / 25 ≡ i / 5 = omega arith in
            let b : t + d ≡ entry_in keys (i / 5) + key_step ((5 * i + d) % 25) = omega (arith, e) in
            rw (a, b) (standing-is keys n ks (i / 5) ((5 * i + d) % 25) (omega arith))

        go : (m : ℕ) → i + 1 ≤ m → m < 5 * n → Dec (m % 5 ≡ i % 5) → Behind n (entry_in keys) (entry_in (set reached (i % 5) p) (m % 5)) (target_at (entry_in keys) m)
        go m l b (yes q) =
            rw (q, get_or-set_same reached (i % 5) p 0 (omega (arith, w.size)))
            (behind-up n (entry_in keys) r.behind (omega (arith, e, q, ks.rising (i / 5) (m / 5) (omega arith) (omega arith))))
        go m l b (no x) = rw (get_or-set_other reached (i % 5) (m % 5) p 0 x) (w.ahead m (omega arith) b)
