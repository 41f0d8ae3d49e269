-- The state of the search for patches: the marks m, set when a rank is put on the worklist; the labels l; the worklist q with t entries.
-- These are the contracts of the inner functions. Assumes nothing.
use Rattle.std.specs.Prelude.{◌≡◌, Bool, true, not, List, [], ◌∷◌, ℕ, zero, suc, ◌+◌, ◌≤◌, ◌<◌, eqb, length, get_or, set}
use Rattle.folds.specs.Column.{column}
use Rattle.folds.specs.Marked.{bit}
use Rattle.offsets.specs.declared.Offset.{Offset}
use Rattle.offsets.specs.Offsets.{own, is_near}
use Rattle.view.specs.View.{View, max_points}
use Rattle.patches.specs.Patches.{survives, linked}
use Rattle.patches.specs.Reach.{Reach, Labelled}

-- what a caller sees to: each offset is within 2
abbrev pub AreNear : List Offset → Type 0
AreNear sides = (i : ℕ) → i < length sides → is_near (get_or sides i own) ≡ true

-- so that each has one of the 25 places
abbrev pub NearPlaces : List ℕ → Type 0
NearPlaces sides = (i : ℕ) → i < length sides → get_or sides i 0 < 25

-- ---- before the search

-- the marks: set at each number that is not the rank of a survivor
abbrev pub start_marks : ℕ → List ℕ → List ℕ
start_marks n dropped = column max_points 1 n (λ (k : ℕ). bit (not (eqb (get_or dropped k 0) 0)))

-- the labels: n for each rank
abbrev pub unlabelled : ℕ → List ℕ
unlabelled n = column max_points 0 n (λ (k : ℕ). n)

-- ---- the arrays

-- rank k has its mark, and is not put on the worklist any more
abbrev pub Visited : List ℕ → ℕ → Type 0
Visited m k = get_or m k 0 ≡ 0 → ⊥

-- how many marks are set
unfoldable pub marks_set : List ℕ → ℕ
marks_set [] = 0
marks_set (zero ∷ l) = marks_set l
marks_set (suc a ∷ l) = suc (marks_set l)

-- the lengths of the arrays, a mark for each entry of the worklist, and entries that are ranks
pub record Worklist (m l q : List ℕ) (t : ℕ) : Type 0 where
  pub marks : length m ≡ max_points
  pub labels : length l ≡ max_points
  pub work : length q ≡ max_points
  pub room : t ≤ marks_set m
  pub ranks : (p : ℕ) → p < t → get_or q p 0 < max_points

-- a visit to rank j changes nothing where it has its mark; else it marks j, gives it the label s and puts it on the worklist
pub data Visit (s j : ℕ) (m l q : List ℕ) (t : ℕ) : List ℕ → List ℕ → List ℕ → ℕ → Type 0 where
  stays : Visited m j → Visit s j m l q t m l q t
  pushed : get_or m j 0 ≡ 0 → Visit s j m l q t (set m j 1) (set l j s) (set q t j) (t + 1)

-- ---- the search

-- the survivor k has been put on the worklist
abbrev pub Met : (ℕ → Bool) → List ℕ → ℕ → Type 0
Met alive m k = (alive k ≡ true) × Visited m k

-- while the patch of s is searched, with the neighbours of the first `head` entries of the worklist visited
pub record Searching (alive : ℕ → Bool) (link : ℕ → ℕ → Bool) (n s head : ℕ) (m l q : List ℕ) (t : ℕ) : Type 0 where
  pub within : head ≤ t
  pub unmarked : (k : ℕ) → k < max_points → get_or m k 0 ≡ 0 → alive k ≡ true
  pub entered : (p : ℕ) → p < t → alive (get_or q p 0) ≡ true
  pub current : (p : ℕ) → head ≤ p → p < t → Reach alive link s (get_or q p 0)
  pub found : (k : ℕ) → Met alive m k → (p : ℕ) × (p < t) × (get_or q p 0 ≡ k)
  pub label : (k : ℕ) → Met alive m k → Labelled alive link k (get_or l k 0)
  pub rest : (k : ℕ) → (Met alive m k → ⊥) → get_or l k 0 ≡ get_or (unlabelled n) k 0
  pub done : (a k : ℕ) → a < s → Reach alive link a k → Visited m k
  pub closed : (p : ℕ) → p < head → (j : ℕ) → link (get_or q p 0) j ≡ true → Visited m j

-- of a view
abbrev pub SearchingIn : View → List ℕ → List ℕ → ℕ → ℕ → List ℕ → List ℕ → List ℕ → ℕ → Type 0
SearchingIn w sides dropped s head m l q t = Searching (survives w.count dropped) (linked w.count w.near sides dropped) w.count s head m l q t

-- from one state of the search to a later one, in which no mark is lost, for any points that are dropped
pub record Advanced (w : View) (sides : List ℕ) (s head : ℕ) (m l q : List ℕ) (t s' head' : ℕ) (m' l' q' : List ℕ) (t' : ℕ) : Type 0 where
  pub kept : (k : ℕ) → Visited m k → Visited m' k
  pub search : (dropped : List ℕ) → SearchingIn w sides dropped s head m l q t → SearchingIn w sides dropped s' head' m' l' q' t'
