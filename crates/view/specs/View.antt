-- What the filters see of a sheet: functions of rank, with no cell numbers. A point's rank is its place in cell order.
-- Assumes nothing.
use Rattle.std.specs.Prelude.{Bool, ◌&&◌, List, ℕ, ◌+◌, ◌*◌, ◌≤◌, ◌<◌, T, eqb, ltb, get_or, Float}
use Rattle.std.specs.Float.{nan}
use Rattle.std.specs.Float.Ieee.Scale.{finite}
use Rattle.folds.specs.Below.{some, tally}
use Rattle.offsets.specs.declared.Offset.{Offset}
use Rattle.offsets.specs.Offsets.{own, square_sides, place_of}

-- the most points of a sheet ("There are more than 2,048 points"; document 02, A.4: "2,304 points pass and 2,305 give refusal 2")
abbrev pub max_points : ℕ
max_points = 2304

-- ---- the table of ranks: 25 neighbours for each point, then its row, its column and the place of its index, each in a block of its own

abbrev pub ranks_size : ℕ
ranks_size = 28 * max_points

abbrev pub rows_at : ℕ
rows_at = 25 * max_points

abbrev pub columns_at : ℕ
columns_at = 26 * max_points

abbrev pub indices_at : ℕ
indices_at = 27 * max_points

pub record View : Type 0 where
  -- how many points there are
  pub count : ℕ
  -- at 25 * k and an offset's place the rank of the point at the offset from rank k; a number of count or more is none
  pub near : ℕ → ℕ
  -- the first rank with the same v, and with the same u
  pub row : ℕ → ℕ
  pub column : ℕ → ℕ
  -- the last rank with the same index, which stands for the index
  pub by_idx : ℕ → ℕ
  pub x : ℕ → Float
  pub y : ℕ → Float

-- what an array of numbers holds at each rank
abbrev pub value_at : List Float → ℕ → Float
value_at l k = get_or l k nan

-- the view that a table of ranks and the positions of n points give
abbrev pub view_at : ℕ → List ℕ → List Float → List Float → View
view_at n ranks xs ys =
    record {
      count = n;
      near = λ (i : ℕ). get_or ranks i 0;
      row = λ (k : ℕ). get_or ranks (rows_at + k) 0;
      column = λ (k : ℕ). get_or ranks (columns_at + k) 0;
      by_idx = λ (k : ℕ). get_or ranks (indices_at + k) 0;
      x = value_at xs;
      y = value_at ys;
    }

-- ---- what the arrays of an accepted sheet hold

-- rows, columns and places of indices are ranks
pub record Ranked (n : ℕ) (ranks : List ℕ) : Type 0 where
  pub few : n ≤ max_points
  pub rows : (k : ℕ) → k < n → get_or ranks (rows_at + k) 0 < n
  pub columns : (k : ℕ) → k < n → get_or ranks (columns_at + k) 0 < n
  pub indices : (k : ℕ) → k < n → get_or ranks (indices_at + k) 0 < n

-- each coordinate of the first n is a finite number ("A position is not finite ..": refused)
abbrev pub Finite : ℕ → List Float → Type 0
Finite n l = (k : ℕ) → k < n → T (finite (get_or l k nan))

pub record Ready (n : ℕ) (ranks : List ℕ) (xs ys : List Float) : Type 0 where
  pub ranked : Ranked n ranks
  pub finite-x : Finite n xs
  pub finite-y : Finite n ys

-- ---- what is read of it

module _ (w : View) where
  -- the rank at offset o from rank k, or a number of count or more
  abbrev pub rank_at : ℕ → Offset → ℕ
  rank_at k o = w.near (25 * k + place_of o)

  -- there is a point at offset o from rank k
  abbrev pub present : ℕ → Offset → Bool
  present k o = ltb (rank_at k o) w.count

  -- ranks k and j have one index
  abbrev pub alike : ℕ → ℕ → Bool
  alike k j = eqb (w.by_idx k) (w.by_idx j)

  -- some point with rank k's index has the mark t
  abbrev pub index_has : (ℕ → Bool) → ℕ → Bool
  index_has t k = some (λ (j : ℕ). t j && alike j k) w.count

  -- degree: how many of the four cells that share an edge with rank k's hold a point
  unfoldable pub degree_at : ℕ → ℕ
  unfolding tally
  degree_at k = tally (λ (i : ℕ). present k (get_or square_sides i own)) 4
