-- What the peel keeps: the states of ranks, the chains of the ranks of each index, the marks, and the queue of the ranks that are marked. ranks is
-- the table of ranks of n points, sides has the places of the offsets that lead over a shared edge. These are the contracts of the inner functions.
-- Assumes nothing.
use Rattle.std.specs.Prelude.{◌≡◌, Bool, true, false, cond, ◌&&◌, ◌⊎◌, List, ℕ, zero, suc, ◌+◌, ◌*◌, ◌≤◌, ◌<◌, Option, None, Some, eqb, ltb, length, get_or}
use Rattle.folds.specs.Below.{tally}
use Rattle.folds.specs.Column.{column}
use Rattle.view.specs.View.{max_points, indices_at}
use Rattle.marks.specs.Marks.{is_set}
use Rattle.peel.specs.declared.state.State.{State}
use Rattle.peel.specs.declared.state.State.TheVariants.{Dead, Live, Weak}

-- ---- states of ranks

abbrev pub state_of : Bool → Bool → State
state_of lives weak = cond lives (cond weak Weak Live) Dead

abbrev pub states_of : ℕ → (ℕ → Bool) → (ℕ → Bool) → List State
states_of n lives weak = column max_points Dead n (λ (k : ℕ). state_of (lives k) (weak k))

abbrev pub is_live : State → Bool
is_live Dead = false
is_live Live = true
is_live Weak = true

abbrev pub is_weak : State → Bool
is_weak Dead = false
is_weak Live = false
is_weak Weak = true

abbrev pub lives_at : List State → ℕ → Bool
lives_at state k = is_live (get_or state k Dead)

-- ---- ends, by the states

abbrev pub near_at : List ℕ → ℕ → ℕ
near_at ranks i = get_or ranks i 0

abbrev pub index_at : List ℕ → ℕ → ℕ
index_at ranks k = get_or ranks (indices_at + k) 0

-- how many of the points at the first m sides of rank k are live
abbrev pub live_beside : ℕ → List ℕ → List State → List ℕ → ℕ → ℕ → ℕ
live_beside n ranks state sides m k = tally (λ (i : ℕ). ltb (near_at ranks (25 * k + get_or sides i 0)) n && lives_at state (near_at ranks (25 * k + get_or sides i 0))) m

unfoldable pub leaf_at : ℕ → List ℕ → List State → List ℕ → ℕ → Bool
unfolding tally
leaf_at n ranks state sides k = is_weak (get_or state k Dead) && ltb (live_beside n ranks state sides (length sides) k) 2

-- ---- chains

-- the last k below m with p k, if there is one
unfoldable pub last_below : (ℕ → Bool) → ℕ → Option ℕ
last_below p zero = None
last_below p (suc m) = cond (p m) (Some m) (last_below p m)

-- rank k has the index at place b
abbrev pub with_index : List ℕ → ℕ → ℕ → Bool
with_index ranks b k = eqb (index_at ranks k) b

-- the ranks below m: at the place of an index the last of its ranks, and at each rank the one before it with the same index
pub record Chained (ranks : List ℕ) (m : ℕ) (last before : List (Option ℕ)) : Type 0 where
  pub last_long : length last ≡ max_points
  pub before_long : length before ≡ max_points
  pub heads : (b : ℕ) → b < max_points → get_or last b None ≡ last_below (with_index ranks b) m
  pub nexts : (k : ℕ) → k < m → get_or before k None ≡ last_below (with_index ranks (index_at ranks k)) k

-- ---- a round

-- rank k is a point with the index at place b
abbrev pub point_has : ℕ → List ℕ → ℕ → ℕ → Bool
point_has n ranks b k = ltb k n && with_index ranks b k

-- marks of 0 or 1, and an entry of the queue for each that is set
pub record Queued (marks queue : List ℕ) (tail : ℕ) : Type 0 where
  pub marks-long : length marks ≡ max_points
  pub queue_long : length queue ≡ max_points
  pub room : tail ≤ tally (is_set marks) max_points
  pub marked : (p : ℕ) → p < tail → get_or marks (get_or queue p 0) 0 ≡ 1
  pub bits : (k : ℕ) → get_or marks k 0 ≤ 1

-- points alone are marked, and all points of an index alike
pub record Whole (n : ℕ) (ranks marks : List ℕ) : Type 0 where
  pub points : (k : ℕ) → get_or marks k 0 ≡ 1 → k < n
  pub shared : (j k : ℕ) → j < n → k < n → index_at ranks j ≡ index_at ranks k → get_or marks j 0 ≡ 1 → get_or marks k 0 ≡ 1

-- From one state of a round to a later one: the entries from `tail` on are of indices with an end, and each rank of which Met tells has been looked
-- at, so that it is marked if it is an end.
pub record Searched (n : ℕ) (ranks : List ℕ) (state : List State) (sides : List ℕ) (Met : ℕ → Type 0) (marks queue : List ℕ) (tail : ℕ) (marks' queue' : List ℕ) (tail' : ℕ) : Type 0 where
  pub whole : Whole n ranks marks'
  pub kept : (k : ℕ) → get_or marks k 0 ≡ 1 → get_or marks' k 0 ≡ 1
  pub longer : tail ≤ tail'
  pub front : (p : ℕ) → p < tail → get_or queue' p 0 ≡ get_or queue p 0
  pub ending : (p : ℕ) → tail ≤ p → p < tail' → (k : ℕ) × (leaf_at n ranks state sides k ≡ true) × (index_at ranks k ≡ index_at ranks (get_or queue' p 0))
  pub listed : (k : ℕ) → get_or marks' k 0 ≡ 1 → (get_or marks k 0 ≡ 1) ⊎ ((p : ℕ) × (tail ≤ p) × (p < tail') × (get_or queue' p 0 ≡ k))
  pub met : (k : ℕ) → k < n → Met k → leaf_at n ranks state sides k ≡ true → get_or marks' k 0 ≡ 1

-- the ranks at the first m sides of rank x
abbrev pub Beside : List ℕ → List ℕ → ℕ → ℕ → ℕ → Type 0
Beside ranks sides m x k = (i : ℕ) × (i < m) × (near_at ranks (25 * x + get_or sides i 0) ≡ k)

-- those at a side of an entry of the queue, from `from` on and below `end`
abbrev pub BesideQueued : List ℕ → List ℕ → List ℕ → ℕ → ℕ → ℕ → Type 0
BesideQueued ranks sides queue from end k = (p : ℕ) × (from ≤ p) × (p < end) × Beside ranks sides (length sides) (get_or queue p 0) k

-- the ranks at the entries of the queue, from `from` on and below `end`, are not live any more
pub record Removed (queue : List ℕ) (from end : ℕ) (state state' : List State) : Type 0 where
  pub entries : (p : ℕ) → from ≤ p → p < end → get_or state' (get_or queue p 0) Dead ≡ Dead
  pub rest : (k : ℕ) → (get_or state' k Dead ≡ get_or state k Dead) ⊎ ((p : ℕ) × (from ≤ p) × (p < end) × (get_or queue p 0 ≡ k))
