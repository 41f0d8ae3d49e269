-- The members of a side and the marks, from their columns. Assumes nothing.
use Rattle.std.proofs.Common.{◌≡◌, refl, ap, ◌∙◌, Bool, true, false, cond, ◌&&◌, ◌||◌, List, ℕ, ◌≤◌, ◌<◌, eqb, get_or, ne_eqb}
use Rattle.std.specs.Prelude.{Option, None, Some}
use Prim.{Dec, yes, no}
use native.Mathlib.Decide.{ℕ_discrete}
use lib.ListN.{replicate}
use Rattle.folds.specs.Below.{some, tally}
use Rattle.folds.proofs.Below.{some-ext, tally-ext}
use Rattle.folds.specs.Column.{column}
use Rattle.folds.proofs.Column.{column-at, column-ext}
use Rattle.folds.specs.Marked.{bit, Marked}
use Rattle.offsets.specs.Offsets.{next_u, next_v}
use Rattle.view.specs.View.{View, max_points, rank_at, index_has}
use Rattle.marks.specs.Marks.{is_set, index_marks}
use Rattle.marks.proofs.Guards.{guard, past, each-as-column, set_is, index-marks}
use Rattle.orientation.specs.declared.Side.{Side}
use Rattle.orientation.specs.declared.Side.TheVariants.{Positive, Negative}
use Rattle.orientation.specs.Orientation.{vote_at, of_vote, votes_for, side_member, orientation_mark, orientation_of}
use Rattle.orientation.specs.Voters.{vote_of, side_number, is_for, votes_of, voters, voters_at, party_of, turned_at}
use Rattle.std.proofs.Math.Bool.{and-false, and_comm}

-- a vote is for the side whose number it is
for-is : (s : Side) (v : ℕ) → is_for s (vote_of v) ≡ eqb v (side_number s)
for-is s v = go s (ℕ_discrete v 1)
  where
    second : (s : Side) (b : Bool) → is_for s (cond b (Some Negative) None) ≡ cond (eqb (side_number s) 1) false b
    second Positive true = refl
    second Positive false = refl
    second Negative true = refl
    second Negative false = refl

    go : (s : Side) → Dec (v ≡ 1) → is_for s (vote_of v) ≡ eqb v (side_number s)
    go Positive (yes q) = rw q refl
    go Negative (yes q) = rw q refl
    go Positive (no q) = rw (ne_eqb v 1 q) (second Positive (eqb v 2))
    go Negative (no q) = rw (ne_eqb v 1 q) (second Negative (eqb v 2))

-- the three points of the votes for the side that a column of votes holds
module _ (w : View) (vote : List (Option Side)) (side : Side) where
  abbrev voters_of : ℕ → Bool
  voters_of m = some (λ (k : ℕ). voters_at w vote side k m) w.count

  pub members-column : {b : List ℕ} → w.count ≤ max_points → Marked (λ (m : ℕ). some (λ (k : ℕ). voters w vote side k m) w.count) (replicate max_points 0) b
      → b ≡ column max_points 0 w.count (λ (m : ℕ). bit (voters_of m))
  unfolding voters
  members-column h r =
      let n = w.count in
      each-as-column (voters w vote side) (voters_at w vote side) max_points n h
      (λ k m g l. rw (past k m n l, past (rank_at w k next_u) m n l, past (rank_at w k next_v) m n l) (and-false (is_for side (get_or vote k None))))
      (λ k m g l. rw (guard k m n l, guard (rank_at w k next_u) m n l, guard (rank_at w k next_v) m n l)) r

module _ (w : View) (vote : List (Option Side)) (e : vote ≡ votes_of w) where
  for-at : (s : Side) (k : ℕ) → k < w.count → is_for s (get_or vote k None) ≡ eqb (vote_at w k) (side_number s)
  unfolding votes_of
  for-at s k h = rw (e, column-at max_points None w.count (λ (j : ℕ). vote_of (vote_at w j)) k h) (for-is s (vote_at w k))

  votes-are : (s : Side) → tally (λ (k : ℕ). is_for s (get_or vote k None)) w.count ≡ votes_for w (side_number s)
  unfolding votes_for
  votes-are s = tally-ext (λ (k : ℕ). is_for s (get_or vote k None)) (λ (k : ℕ). eqb (vote_at w k) (side_number s)) w.count (for-at s)

  members-are : (s : Side) (m : ℕ) → voters_of w vote s m ≡ side_member w (side_number s) m
  unfolding side_member of_vote
  members-are s m =
      some-ext (λ (k : ℕ). voters_at w vote s k m) (λ (k : ℕ). of_vote w k m && eqb (vote_at w k) (side_number s)) w.count
      (λ k h. rw (for-at s k h) (and_comm (eqb (vote_at w k) (side_number s)) ((eqb k m || eqb (rank_at w k next_u) m) || eqb (rank_at w k next_v) m)))

  pub party-is : (s : Side) {n : ℕ} {part index : List ℕ} → n ≡ tally (λ (k : ℕ). is_for s (get_or vote k None)) w.count
      → part ≡ column max_points 0 w.count (λ (m : ℕ). bit (voters_of w vote s m)) → index ≡ index_marks w part → record { votes = n; members = index } ≡ party_of w s
  unfolding party_of
  party-is s {n} {part} {index} a f h =
      rw (
        a ∙ votes-are s,
        h ∙ index-marks w (side_member w (side_number s)) part
            (f ∙ column-ext max_points 0 w.count (λ (m : ℕ). bit (voters_of w vote s m)) (λ (m : ℕ). bit (side_member w (side_number s) m)) (λ m l. ap bit (members-are s m))),
      ) refl

-- the marks, from what the sides have
pub marks-are : (w : View) {r : List ℕ} → r ≡ column max_points 0 w.count (λ (k : ℕ). bit (turned_at (party_of w Positive) (party_of w Negative) k)) → r ≡ orientation_of w
unfolding orientation_of orientation_mark party_of
marks-are w h =
    h ∙ column-ext _ _ _ _ (λ (k : ℕ). bit (orientation_mark w k)) (λ k l. rw (has Positive k l, has Negative k l))
  where
    has : (s : Side) (k : ℕ) → k < w.count → is_set (party_of w s).members k ≡ index_has w (side_member w (side_number s)) k
    has s k l = set_is max_points w.count (index_has w (side_member w (side_number s))) _ refl k l
