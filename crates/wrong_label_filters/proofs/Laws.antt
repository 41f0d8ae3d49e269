-- The marks of the filters together, by index. Assumes nothing.
use mathlib.Core.Path.{◌≡◌, refl, sym, ◌∙◌}
use mathlib.Core.Bool.{Bool, true, false, ◌&&◌, ◌||◌}
use mathlib.Core.List.{List}
use Prim.Native.Nat.{ℕ, ◌≤◌}
use lib.Dec.{ltb}
use borrow.Author.Tests.{lt-ltb, le-ltb}
use lib.ListN.{replicate}
use lib.Ieee.{Float}
use Rattle.folds.proofs.Below.{or-right-first}
use Rattle.folds.specs.Column.{column}
use Rattle.folds.specs.Marked.{bit, Marked}
use Rattle.folds.proofs.Marked.{marked-then}
use Rattle.offsets.specs.Offsets.{next_u, next_v}
use Rattle.view.specs.View.{View, max_points}
use Rattle.marks.specs.Marks.{index_marks}
use Rattle.marks.proofs.Guards.{marked-as-column, index-marks}
use Rattle.close_pairs.specs.Close.{close_mark}
use Rattle.wrong_label_filters.specs.Judged.{edge_mark}
use Rattle.wrong_label_filters.specs.Frontier.{frontier_mark}
use Rattle.wrong_label_filters.specs.WrongLabel.{wrong_point, wrong_label_mark, wrong_label_of}

none : {l : Bool} (a b c d : Bool) → l ≡ false → ((l && a || l && b) || l && c) || l && d ≡ false
none a b c d e = rw e

all : {l : Bool} (a b c d : Bool) → l ≡ true → ((l && a || l && b) || l && c) || l && d ≡ a || (b || (c || d))
all a b c d e = rw e (or-right-first a b c d)

module _ (w : View) (cell : Float) (few : w.count ≤ max_points) where
  -- a mark of a rank
  abbrev at : (ℕ → Bool) → ℕ → Bool
  at t m = ltb m w.count && t m

  point-is : (m : ℕ) → wrong_point w cell m ≡ edge_mark w next_u m || (edge_mark w next_v m || (close_mark w cell m || frontier_mark w m))
  unfolding wrong_point
  point-is m = refl

  point-column : {b : List ℕ} → Marked (λ (m : ℕ). ((at (edge_mark w next_u) m || at (edge_mark w next_v) m) || at (close_mark w cell) m) || at (frontier_mark w) m) (replicate max_points 0) b
      → b ≡ column max_points 0 w.count (λ (m : ℕ). bit (wrong_point w cell m))
  point-column k =
      marked-as-column (λ (m : ℕ). ((at (edge_mark w next_u) m || at (edge_mark w next_v) m) || at (close_mark w cell) m) || at (frontier_mark w) m) (wrong_point w cell) max_points w.count few
      (λ m l. none (edge_mark w next_u m) (edge_mark w next_v m) (close_mark w cell m) (frontier_mark w m) (le-ltb m w.count l))
      (λ m l. all (edge_mark w next_u m) (edge_mark w next_v m) (close_mark w cell m) (frontier_mark w m) (lt-ltb m w.count l) ∙ sym (point-is m)) k

  pub labels-are : {a b c d out : List ℕ} → Marked (at (edge_mark w next_u)) (replicate max_points 0) a → Marked (at (edge_mark w next_v)) a b
      → Marked (at (close_mark w cell)) b c → Marked (at (frontier_mark w)) c d → out ≡ index_marks w d → out ≡ wrong_label_of w cell
  unfolding wrong_label_of wrong_label_mark
  labels-are {d = d} p q s t e = e ∙ index-marks w (wrong_point w cell) d (point-column (marked-then _ _ (marked-then _ _ (marked-then _ _ p q) s) t))
