-- Votes as the code holds them, and the points of a vote, from an array of the votes. Assumes nothing.
use Rattle.std.specs.Prelude.{Bool, true, false, cond, ◌&&◌, ◌||◌, List, ℕ, eqb, ltb, get_or, Option, None, Some}
use Rattle.folds.specs.Column.{column}
use Rattle.folds.specs.Marked.{bit}
use Rattle.offsets.specs.Offsets.{next_u, next_v}
use Rattle.marks.specs.Marks.{is_set}
use Rattle.view.specs.View.{max_points, View, rank_at, present, index_has}
use Rattle.orientation.specs.declared.Party.{Party}
use Rattle.orientation.specs.declared.Side.{Side}
use Rattle.orientation.specs.declared.Side.TheVariants.{Positive, Negative}
use Rattle.orientation.specs.Orientation.{vote_at, votes_for, side_member, turned}

-- "votes by the sign of its cross product; zero casts no vote": the vote that has this number in Orientation
abbrev pub vote_of : ℕ → Option Side
vote_of v = cond (eqb v 1) (Some Positive) (cond (eqb v 2) (Some Negative) None)

-- the number of a side
abbrev pub side_number : Side → ℕ
side_number Positive = 1
side_number Negative = 2

-- the vote is for the side
abbrev pub is_for : Side → Option Side → Bool
is_for s None = false
is_for Positive (Some Positive) = true
is_for Positive (Some Negative) = false
is_for Negative (Some Positive) = false
is_for Negative (Some Negative) = true

-- the votes of all ranks
unfoldable pub votes_of : View → List (Option Side)
unfolding column vote_at
votes_of w = column max_points None w.count (λ k. vote_of (vote_at w k))

-- rank k's vote is for the side, and m is one of its three points
abbrev pub voters_at : View → List (Option Side) → Side → ℕ → ℕ → Bool
voters_at w vote side k m = is_for side (get_or vote k None) && ((eqb k m || eqb (rank_at w k next_u) m) || eqb (rank_at w k next_v) m)

-- the same, with each of the three below the count
unfoldable pub voters : View → List (Option Side) → Side → ℕ → ℕ → Bool
voters w vote side k m =
    is_for side (get_or vote k None)
    && (((ltb k w.count && eqb k m) || (present w k next_u && eqb (rank_at w k next_u) m)) || (present w k next_v && eqb (rank_at w k next_v) m))

-- how many votes a side has, and the marks of the indices that have a member of it
unfoldable pub party_of : View → Side → Party
unfolding column votes_for side_member
party_of w side =
    record {
      votes = votes_for w (side_number side);
      members = column max_points 0 w.count (λ k. bit (index_has w (side_member w (side_number side)) k));
    }

-- the mark of rank k's index, from what the sides have
abbrev pub turned_at : Party → Party → ℕ → Bool
turned_at p q k = turned p.votes q.votes (is_set p.members k) (is_set q.members k)
