-- Patches of surviving points, over any list of offsets: which point is reached from which, and the label of each patch.
-- n is the number of points, near the table of neighbours, sides the places of the offsets that lead over a shared edge, and dropped has
-- 0 at each rank that survives. Nothing else is seen of a sheet. Each definition computes. Assumes nothing.
use Rattle.std.specs.Prelude.{Bool, false, ◌&&◌, ◌||◌, List, [], ℕ, zero, suc, ◌+◌, ◌*◌, eqb, ltb, length, get_or}
use Rattle.folds.specs.Below.{some, first}
use Rattle.folds.specs.Lists.{list_of}
use Rattle.folds.specs.Column.{column}
use Rattle.view.specs.View.{View, max_points}

-- "A survivor is a point whose index gets no mark under these rules other than the component mark."
abbrev pub survives : ℕ → List ℕ → ℕ → Bool
survives n dropped k = ltb k n && eqb (get_or dropped k 0) 0

-- "Two cells share an edge if they differ by one in u and agree in v, or the other way round": b is at one of the offsets from a
abbrev pub touches : (ℕ → ℕ) → List ℕ → ℕ → ℕ → Bool
touches near sides a b = some (λ (i : ℕ). eqb (near (25 * a + get_or sides i 0)) b) (length sides)

-- a step "over shared edges, survivor to survivor"
abbrev pub linked : ℕ → (ℕ → ℕ) → List ℕ → List ℕ → ℕ → ℕ → Bool
linked n near sides dropped a b = survives n dropped a && (survives n dropped b && touches near sides a b)

-- ---- which rank is reached from which

-- a table of tests by two ranks
abbrev pub test : List (List Bool) → ℕ → ℕ → Bool
test m a b = get_or (get_or m a []) b false

unfoldable pub test_table : ℕ → (ℕ → ℕ → Bool) → List (List Bool)
unfolding list_of
test_table n f = list_of n (λ (a : ℕ). list_of n (f a))

-- b is reached from the survivor a by way of ranks below i
unfoldable pub via : ℕ → (ℕ → Bool) → (ℕ → ℕ → Bool) → ℕ → List (List Bool)
unfolding test_table
via n alive link zero = test_table n (λ (a b : ℕ). (eqb a b && alive a) || link a b)
via n alive link (suc i) = let m = via n alive link i in test_table n (λ (a b : ℕ). test m a b || (test m a i && test m i b))

-- ---- labels

-- each rank's patch by its least rank: the first from which the rank is reached; n where the rank does not survive
unfoldable pub labels_by : ℕ → List (List Bool) → List ℕ
unfolding column first
labels_by n m = column max_points 0 n (λ (k : ℕ). first (λ (a : ℕ). test m a k) 0 n)

unfoldable pub labels_of : ℕ → (ℕ → ℕ) → List ℕ → List ℕ → List ℕ
unfolding labels_by via some
labels_of n near sides dropped = labels_by n (via n (survives n dropped) (linked n near sides dropped) n)

-- of a view
abbrev pub patch_labels : View → List ℕ → List ℕ → List ℕ
patch_labels w sides dropped = labels_of w.count w.near sides dropped
