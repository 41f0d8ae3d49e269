-- What the steps are given, and what the component filter hands on. Assumes nothing.
use Rattle.std.specs.Prelude.{◌≡◌, List, ℕ, ◌<◌, Float}
use Rattle.view.specs.View.{View, Finite}
use Rattle.marks.specs.Marks.{is_set}
use Rattle.patches.specs.Boxes.{CellKeys}
use Rattle.patches.specs.Reach.{Mirrored}
use Rattle.sheet_file.specs.declared.Settings.{Settings}
use Rattle.components.specs.declared.ComponentFilter.{ComponentFilter}
use Rattle.drop_set.specs.Filters.{component_marked, components_in}

-- the positions of an accepted sheet, which are finite, and the keys of its cells
pub record Celled (n : ℕ) (keys : List ℕ) (xs ys : List Float) : Type 0 where
  pub finite-x : Finite n xs
  pub finite-y : Finite n ys
  pub cells : CellKeys n keys

-- the neighbours of an accepted sheet, which are neighbours both ways, and its strengths, which are finite
pub record Weighed (w : View) (strength : List Float) : Type 0 where
  pub mirrored : Mirrored w.count w.near
  pub finite : Finite w.count strength

-- the component marks after these marks, and the count
pub record Joined (s : Settings) (w : View) (marks : List ℕ) (r : ComponentFilter) : Type 0 where
  pub marked : (k : ℕ) → k < w.count → is_set r.marks k ≡ component_marked s w marks k
  pub counted : r.components_seen ≡ components_in s w marks
