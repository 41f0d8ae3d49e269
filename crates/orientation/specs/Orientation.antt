-- "A cell with neighbours at u+1 and v+1 votes by the sign of its cross product; zero casts no vote. With votes on both sides, members of the
-- minority only are marked; on a tie, members of exactly one side." Assumes nothing.
use Rattle.std.specs.Prelude.{Bool, false, cond, not, ◌&&◌, ◌||◌, List, ℕ, eqb, ltb, Float}
use Rattle.std.specs.Float.Ieee.{lt, eq, sub, mul, of_bits}
use Rattle.folds.specs.Arith.{◌⊖◌, ◌⊗◌, zero_f}
use Rattle.folds.specs.Below.{some, tally}
use Rattle.folds.specs.Column.{column}
use Rattle.folds.specs.Marked.{bit}
use Rattle.offsets.specs.Offsets.{next_u, next_v}
use Rattle.view.specs.View.{max_points, View, rank_at, present, index_has}

-- 1 for a positive cross product, 2 for a negative one, 0 for no vote
unfoldable pub vote_by : Float → ℕ
unfolding eq lt of_bits
vote_by c = cond (eq c zero_f) 0 (cond (lt zero_f c) 1 2)

unfoldable pub cross : Float → Float → Float → Float → Float
unfolding sub mul
cross ax ay bx by = ax ⊗ by ⊖ ay ⊗ bx

-- the vote of rank k
unfoldable pub vote_at : View → ℕ → ℕ
unfolding vote_by cross sub
vote_at w k =
    let a = rank_at w k next_u in
    let b = rank_at w k next_v in
    cond (present w k next_u && present w k next_v) (vote_by (cross (w.x a ⊖ w.x k) (w.y a ⊖ w.y k) (w.x b ⊖ w.x k) (w.y b ⊖ w.y k))) 0

-- rank m is one of the three that rank k's vote is computed from
unfoldable pub of_vote : View → ℕ → ℕ → Bool
of_vote w k m = (eqb k m || eqb (rank_at w k next_u) m) || eqb (rank_at w k next_v) m

-- how many vote s
unfoldable pub votes_for : View → ℕ → ℕ
unfolding tally vote_at
votes_for w s = tally (λ k. eqb (vote_at w k) s) w.count

-- rank m is a member of side s
unfoldable pub side_member : View → ℕ → ℕ → Bool
unfolding some of_vote vote_at
side_member w s m = some (λ k. of_vote w k m && eqb (vote_at w k) s) w.count

-- marked, of np positive and nn negative votes: p and q say whether the index has a member of the one side and of the other
unfoldable pub turned : ℕ → ℕ → Bool → Bool → Bool
turned np nn p q =
    cond (eqb np 0 || eqb nn 0) false (cond (ltb nn np) (q && not p) (cond (ltb np nn) (p && not q) (cond p (not q) q)))

-- the orientation mark of rank k's index
unfoldable pub orientation_mark : View → ℕ → Bool
unfolding turned votes_for side_member some
orientation_mark w k = turned (votes_for w 1) (votes_for w 2) (index_has w (side_member w 1) k) (index_has w (side_member w 2) k)

unfoldable pub orientation_of : View → List ℕ
unfolding column orientation_mark
orientation_of w = column max_points 0 w.count (λ k. bit (orientation_mark w k))
