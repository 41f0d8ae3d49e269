-- The sheet that takes longest is a row of which all points but the last are weak, wherever nothing of it is dropped. Assumes nothing.
use mathlib.Core.Path.{◌≡◌, refl, sym, ap}
use mathlib.Core.Bool.{true}
use mathlib.Core.List.{List}
use Prim.Native.Nat.{ℕ, ◌≤◌, ◌<◌}
use native.Mathlib.Omega.{arith}
use lib.IntN.{nat_abs, pos-ne-negsuc}
use lib.ListN.{get_or}
use borrow.Author.Tests.{ltb-false}
use Rattle.offsets.specs.declared.Offset.{Offset}
use Rattle.offsets.specs.Offsets.{prev_u, next_v, prev_v}
use Rattle.view.specs.View.{View, max_points, rank_at, present}
use Rattle.grid.specs.Views.{view_of}
use Rattle.peel_rounds.specs.Rounds.{InRow}
use Rattle.worst_sheet.specs.Worst.{worst_points}
use Rattle.worst_row.proofs.Row.{counted, row-view, next-found, prev-found, own-index}
use Rattle.worst_row.proofs.Weak.{weak_marks, others-weak, last-strong}
use Rattle.std.proofs.lemmas.Bool.{false_from_ne_true}

-- there is no point at an offset
absent : (w : View) (k : ℕ) (o : Offset) → (present w k o ≡ true → ⊥) → w.count ≤ rank_at w k o
absent w k o f = ltb-false (rank_at w k o) w.count (false_from_ne_true (present w k o) f)

module _ (n : ℕ) (few : n ≤ max_points) (three : 3 ≤ n) where
  abbrev w : View
  w = view_of (worst_points n)

  pub in_row : (dropped : List ℕ) → ((k : ℕ) → k < n → get_or dropped k 0 ≡ 0) → InRow w dropped (weak_marks n)
  in_row dropped none =
      let c = counted n few in
      let r = row-view n few in
      record {
        own = λ k h. own-index n few k (omega arith);
        undropped = λ k h. none k (omega arith);
        next = λ k h. next-found n few k (omega arith);
        prev = λ k h. prev-found n few k (omega arith);
        first = absent w 0 prev_u (λ t. omega (arith, r.behind 0 (omega arith) t));
        beside = λ k h. (absent w k prev_v (λ t. pos-ne-negsuc 0 0 (sym (r.beside k prev_v h refl t))), absent w k next_v (λ t. omega (arith, ap nat_abs (r.beside k next_v h refl t))));
        weaks = λ k h. others-weak n few three k (omega arith);
        strong = λ k e. last-strong n few three k (omega arith);
      }
