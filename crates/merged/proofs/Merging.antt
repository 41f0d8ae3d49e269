-- The loop of the merge: what is written so far, and what is still to come. Assumes nothing.
use Rattle.std.specs.Prelude.{◌≡◌, List, [], ◌∷◌, ℕ, ◌+◌, ◌-◌, ◌≤◌, ◌<◌, length, get_or, Some}
use Rattle.std.proofs.Common.{sym, ap, ◌∙◌, arith, le-ltb}
use lib.ListN.{set, drop, replicate, length-replicate, length-drop}
use lib.Seq.{get_or-drop, drop-drop}
use Rattle.folds.specs.Column.{Filling}
use Rattle.folds.proofs.Column.{fill_start, fill_more, filled}
use Rattle.view.specs.View.{max_points}
use Rattle.merged.specs.Sources.{sources_of, in_array}
use Rattle.merged.specs.Walk.{rest_of, Taken}
use Rattle.merged.specs.declared.halves.Halves.{Halves}
use Rattle.merged.specs.declared.Step.{Step}

-- at the start all is to come
rest-whole : (h : Halves) → rest_of h 0 0 ≡ sources_of h
unfolding rest_of sources_of
rest-whole h =
    let z : h.left.count + 0 ≡ h.left.count = omega arith in
    let a : h.left.count - 0 ≡ h.left.count = omega arith in
    let b : h.right.count - 0 ≡ h.right.count = omega arith in
    rw (z, a, b)

-- c numbers of l are written, and those from left rank i and right rank j on are to come
pub record Merging (h : Halves) (order : List ℕ) (c i j : ℕ) : Type 0 where
  pub left : i ≤ h.left.count
  pub right : j ≤ h.right.count
  pub few : c ≤ max_points
  pub reached : c ≤ length (sources_of h)
  pub rest : drop c (sources_of h) ≡ rest_of h i j
  pub filling : Filling (replicate max_points 0) 0 (λ (k : ℕ). get_or (sources_of h) k 0) c order

-- ---- of a list, x and then r come after the first c

module _ (l : List ℕ) (c x : ℕ) (r : List ℕ) (e : drop c l ≡ x ∷ r) where
  more-below : c < length l
  more-below = omega (arith, length-drop c l, ap length e)

  more-is : get_or l c 0 ≡ x
  more-is = let z : c + 0 ≡ c = omega arith in rw z at (sym (get_or-drop c l 0 0)) ∙ ap (λ (m : List ℕ). get_or m 0 0) e

  more-rest : drop (c + 1) l ≡ r
  more-rest = sym (drop-drop 1 c l) ∙ ap (drop 1) e

module _ (h : Halves) where
  -- nothing is written
  pub merge_start : Merging h (replicate max_points 0) 0 0 0
  merge_start = record { left = omega arith; right = omega arith; few = omega arith; reached = omega arith; rest = sym (rest-whole h); filling = fill_start _ 0 _ }

  -- one more is
  pub merge_more : {order : List ℕ} {c i j : ℕ} {s : Step} → Merging h order c i j → Taken h i j s → (c ≡ max_points → ⊥) → Merging h (set order c s.number) (c + 1) s.left s.right
  merge_more {order} {c} {i} {j} {s} g t k =
      let e : drop c (sources_of h) ≡ s.number ∷ rest_of h s.left s.right = g.rest ∙ t.first in
      record {
        left = t.left;
        right = t.right;
        few = omega (arith, g.few, k);
        reached = omega (arith, more-below (sources_of h) c _ _ e);
        rest = more-rest (sources_of h) c _ _ e;
        filling = fill_more _ 0 _ s.number (omega (arith, g.few, k, length-replicate {A = ℕ} max_points 0)) (sym (more-is (sources_of h) c _ _ e)) g.filling;
      }

  -- all are
  pub merge_done : {order : List ℕ} {c i j : ℕ} → Merging h order c i j → rest_of h i j ≡ [] → Some (record { count = c; order = order }) ≡ in_array (sources_of h)
  merge_done {order} {c} {i} {j} g e =
      let l : c ≡ length (sources_of h) = omega (arith, length-drop c (sources_of h), ap length (g.rest ∙ e), g.reached) in
      rw (le-ltb max_points (length (sources_of h)) (omega (arith, g.few)), ← l) (ap (λ (a : List ℕ). Some (record { count = c; order = a })) (filled c g.few g.filling))
