-- The map of the first keys of an array is that of as many points with the array's cells. Assumes nothing.
use Rattle.std.proofs.Common.{◌≡◌, ap, ◌∙◌, List, ℕ, ◌≤◌, ◌<◌, length, take}
use Rattle.std.proofs.lemmas.List.{get_or-take, length-take-le}
use Rattle.cells.specs.Cell.{cell_of_key, cells_at}
use Rattle.map_lines.specs.Map.{too_wide, map_of}
use Rattle.map_lines.proofs.Moved.{wide-same, cells-same}

module _ (n : ℕ) (keys : List ℕ) (inside : n ≤ length keys) where
  size : length (take n keys) ≡ n
  size = length-take-le n keys inside

  same : (k : ℕ) → k < n → cells_at (take n keys) k ≡ cells_at keys k
  same k l = ap cell_of_key (get_or-take n keys k 0 l)

  pub wide-kept : too_wide (length (take n keys)) (cells_at (take n keys)) ≡ too_wide n (cells_at keys)
  wide-kept = ap (λ (m : ℕ). too_wide m (cells_at (take n keys))) size ∙ wide-same n (cells_at keys) (cells_at (take n keys)) same

  pub map-first : (marks : List ℕ) → map_of (length (take n keys)) (cells_at (take n keys)) marks ≡ map_of n (cells_at keys) marks
  map-first marks = ap (λ (m : ℕ). map_of m (cells_at (take n keys)) marks) size ∙ cells-same n (cells_at keys) (cells_at (take n keys)) same marks
