-- How many patches there are, how large each is, the winner, the ranks outside it, and the component mark, from the labels of the patches.
-- Each definition computes. Assumes nothing.
use Rattle.std.specs.Prelude.{Bool, cond, not, ◌&&◌, List, ℕ, zero, suc, eqb, ltb, get_or}
use Rattle.folds.specs.Below.{tally}
use Rattle.folds.specs.Column.{column}
use Rattle.folds.specs.Marked.{bit}
use Rattle.view.specs.View.{View, max_points}
use Rattle.marks.specs.Marks.{index_marks}
use Rattle.patches.specs.Patches.{labels_of, patch_labels}
use Rattle.components.specs.declared.ComponentFilter.{ComponentFilter}

-- "the component count is how many whole patches there are": how many ranks are the label of themselves
unfoldable pub patch_count : ℕ → List ℕ → ℕ
unfolding tally
patch_count n labels = tally (λ (k : ℕ). eqb (get_or labels k 0) k) n

-- how many points each label has
unfoldable pub sizes_of : ℕ → List ℕ → List ℕ
unfolding column tally
sizes_of n labels = column max_points 0 n (λ (s : ℕ). tally (λ (k : ℕ). eqb (get_or labels k 0) s) n)

-- the first place of the largest of n numbers
unfoldable pub largest_at : List ℕ → ℕ → ℕ
largest_at l zero = 0
largest_at l (suc n) = let b = largest_at l n in cond (ltb (get_or l b 0) (get_or l n 0)) n b

-- "smaller patches are marked, the one with the smaller least cell winning a tie": the label of the one that is not
unfoldable pub winner_of : ℕ → List ℕ → ℕ
unfolding sizes_of largest_at
winner_of n labels = largest_at (sizes_of n labels) n

-- rank k is in the patch labelled s
abbrev pub in_patch : ℕ → List ℕ → ℕ → ℕ → Bool
in_patch n labels s k = ltb k n && eqb (get_or labels k 0) s

-- rank k survives and is in another patch than the winner
abbrev pub in_other_patch : ℕ → List ℕ → ℕ → ℕ → Bool
in_other_patch n labels win k = ltb (get_or labels k 0) n && not (eqb (get_or labels k 0) win)

unfoldable pub others_by : ℕ → List ℕ → ℕ → List ℕ
unfolding column
others_by n labels win = column max_points 0 n (λ (k : ℕ). bit (in_other_patch n labels win k))

unfoldable pub others_of : ℕ → List ℕ → List ℕ
unfolding others_by winner_of
others_of n labels = others_by n labels (winner_of n labels)

-- ---- the component mark

-- "dropping component cells by cell where the Rust drops indices" is the error that this rules out
abbrev pub component_mark : View → List ℕ → List ℕ → List ℕ
component_mark w sides dropped = index_marks w (others_of w.count (patch_labels w sides dropped))

abbrev pub component_count : View → List ℕ → List ℕ → ℕ
component_count w sides dropped = patch_count w.count (patch_labels w sides dropped)

-- what the filter hands back
unfoldable pub filter_of : View → List ℕ → List ℕ → ComponentFilter
unfolding labels_of patch_count others_of index_marks
filter_of w sides dropped = record { marks = component_mark w sides dropped; components_seen = component_count w sides dropped }
