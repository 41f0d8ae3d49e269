-- What the theorems on the number of rounds ask and say, for any list of offsets. Assumes nothing.
use Rattle.std.specs.Prelude.{◌≡◌, Bool, true, false, not, List, ℕ, ◌+◌, ◌*◌, ◌≤◌, ◌<◌, eqb, length, get_or}
use Rattle.folds.specs.Below.{every, tally}
use Rattle.offsets.specs.Offsets.{next_u, prev_u, next_v, prev_v}
use Rattle.view.specs.View.{View, rank_at}
use Rattle.marks.specs.Marks.{is_set}
use Rattle.patches.specs.Patches.{survives}
use Rattle.patches.specs.Reach.{Mirrored, paired}

-- no offset stands twice in the list
unfoldable pub none_twice : List ℕ → Bool
unfolding every
none_twice sides = every (λ (i : ℕ). every (λ (j : ℕ). not (eqb (get_or sides j 0) (get_or sides i 0))) i) (length sides)

-- neighbours both ways: the table is mirrored, the list has each offset's opposite and none twice, and none leads to the cell itself
pub record Neighbours (w : View) (sides : List ℕ) : Type 0 where
  pub mirrored : Mirrored w.count w.near
  pub opposites : paired sides ≡ true
  pub once : none_twice sides ≡ true
  pub apart : (k i : ℕ) → k < w.count → i < length sides → w.near (25 * k + get_or sides i 0) ≡ k → ⊥

-- how many points the earlier filters left
abbrev pub left_count : View → List ℕ → ℕ
left_count w dropped = tally (survives w.count dropped) w.count

-- A row of points, each with an index of its own, of which nothing is dropped and all are weak but the last
pub record InRow (w : View) (dropped weak : List ℕ) : Type 0 where
  pub own : (k : ℕ) → k < w.count → w.by_idx k ≡ k
  pub undropped : (k : ℕ) → k < w.count → get_or dropped k 0 ≡ 0
  pub next : (k : ℕ) → k + 1 < w.count → rank_at w k next_u ≡ k + 1
  pub prev : (k : ℕ) → k + 1 < w.count → rank_at w (k + 1) prev_u ≡ k
  pub first : w.count ≤ rank_at w 0 prev_u
  pub beside : (k : ℕ) → k < w.count → (w.count ≤ rank_at w k prev_v) × (w.count ≤ rank_at w k next_v)
  pub weaks : (k : ℕ) → k + 1 < w.count → is_set weak k ≡ true
  pub strong : (k : ℕ) → k + 1 ≡ w.count → is_set weak k ≡ false
