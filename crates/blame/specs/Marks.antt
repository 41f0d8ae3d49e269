-- Which indices the rules 1 to 4 mark. What is known of an index stands at the last of its ranks, its place. Assumes nothing.
use Rattle.std.specs.List.{fold}
use Rattle.std.specs.Prelude.{Bool, cond, ◌&&◌, ◌||◌, List, ℕ, Option, Some, None, eqb, ltb, leb, get_or}
use Rattle.folds.specs.Below.{first, first_in, some}
use Rattle.folds.specs.Column.{column}
use Rattle.folds.specs.Marked.{bit}
use Rattle.marks.specs.Marks.{is_set, is_at}
use Rattle.view.specs.View.{View, max_points}
use Rattle.local_h.specs.Base.{member_at, on_line, is_other, is_serving, places_of, base_of}
use Rattle.blame.specs.declared.Worst.{Worst}
use Rattle.blame.specs.declared.Evidence.{Evidence as Held}

-- what the rules go by, at the place of each index: its line flags, whether its residual is over the tolerance, and over twice the
-- tolerance, and whether its step is outside the limits
pub record Evidence : Type 0 where
  pub flags : ℕ → ℕ
  pub over : ℕ → Bool
  pub high : ℕ → Bool
  pub deviates : ℕ → Bool

-- the same, from arrays with an entry at the place of each index
abbrev pub evidence_by : List ℕ → List ℕ → List ℕ → List ℕ → Evidence
evidence_by flags over high deviates =
    record { flags = λ (m : ℕ). get_or flags m 0; over = is_set over; high = is_set high; deviates = is_set deviates }

-- the evidence that the code's struct holds
abbrev pub evidence_in : Held → Evidence
evidence_in e = evidence_by e.flags.now e.over.now e.high.now e.deviates.now

-- "(1) two line flags"
abbrev pub rule1 : Evidence → ℕ → Bool
rule1 e m = leb 2 (e.flags m)

-- "(2) residual over twice the tolerance and a line flag"
abbrev pub rule2 : Evidence → ℕ → Bool
rule2 e m = e.high m && leb 1 (e.flags m)

-- "(4) with the step flag, step outside median/(1+t) to median·(1+t), .. and a line flag"
abbrev pub rule4 : Evidence → ℕ → Bool
rule4 e m = e.deviates m && leb 1 (e.flags m)

-- the rules that look at an index alone
abbrev pub is_outlier : Evidence → ℕ → Bool
is_outlier e m = rule1 e m || (rule2 e m || rule4 e m)

-- ---- "(3) in index order, residual over tolerance, no line flag, not yet marked: its base member with most flags, at least one, first
-- of equals". That the order and "not yet marked" do not show is a theorem of proofs/InOrder.antt.

-- the line flags of the worst so far; at first there is none
abbrev pub flags_in : Option Worst → ℕ
flags_in None = 0
flags_in (Some worst) = worst.flags

-- the place of the worst, if there is one
abbrev pub place_in : Option Worst → Option ℕ
place_in None = None
place_in (Some worst) = Some worst.at

module _ (w : View) (flags : ℕ → ℕ) where
  -- the worst so far and the base member at a place of the order round k: the one with more flags, the first of equals
  unfoldable pub worse_of : ℕ → Option Worst → Option ℕ → Option Worst
  worse_of k worst None = worst
  worse_of k worst (Some p) =
      let m = w.by_idx (member_at w k p) in
      cond (ltb (flags_in worst) (flags m)) (Some (record { at = m; flags = flags m })) worst

  -- the worst of the members of the base b of corner k
  unfoldable pub worst_of : ℕ → List (Option ℕ) → Option Worst
  unfolding worse_of
  worst_of k b = fold (worse_of k) None b

  -- the place of the index that corner k blames, if it blames one
  unfoldable pub blamed : ℕ → Option ℕ
  unfolding worst_of places_of is_other is_serving on_line first first_in
  blamed k = place_in (worst_of k (base_of w k))

-- rule 3 looks at rank k: the winning entry of an index whose residual is over the tolerance, with no line flag
abbrev pub is_visited : View → Evidence → ℕ → Bool
is_visited w e k = eqb (w.by_idx k) k && (e.over k && eqb (e.flags k) 0)

-- corner k blames the index at place m
unfoldable pub blames : View → Evidence → ℕ → ℕ → Bool
unfolding blamed
blames w e k m = is_visited w e k && is_at (blamed w e.flags k) m

-- (3): some corner blames the index at place m
abbrev pub rule3 : View → Evidence → ℕ → Bool
rule3 w e m = some (λ (k : ℕ). blames w e k m) w.count

-- the index at place m is marked
unfoldable pub is_marked : View → Evidence → ℕ → Bool
unfolding blames some
is_marked w e m = rule1 e m || (rule2 e m || (rule3 w e m || rule4 e m))

-- at each rank 1 if its index is marked, else 0
unfoldable pub blame_marks : View → Evidence → List ℕ
unfolding is_marked column
blame_marks w e = column max_points 0 w.count (λ (k : ℕ). bit (is_marked w e (w.by_idx k)))
