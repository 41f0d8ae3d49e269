-- A file with the bytes of another outside the points and their strengths. Assumes nothing.
use Rattle.std.specs.Prelude.{◌≡◌, List, ℕ, ◌+◌, ◌*◌, ◌≤◌, ◌<◌, length, get_or}
use Rattle.sheet_file.specs.declared.Layout.{Layout}

-- where the points end
abbrev pub points_end : Layout → ℕ
points_end f = f.points + 20 * f.count

-- other is as long as file, and has its bytes before the points, and after them the tag, the length and the fraction of tag 4, seven bytes
pub record Headed (file other : List ℕ) (f : Layout) : Type 0 where
  pub size : length other ≡ length file
  pub head : (k : ℕ) → k < f.points → get_or other k 0 ≡ get_or file k 0
  pub after : (k : ℕ) → points_end f ≤ k → k < points_end f + 7 → get_or other k 0 ≡ get_or file k 0
