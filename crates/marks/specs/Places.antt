-- The place of each filter in the table. Assumes nothing.
use Rattle.std.specs.Prelude.{ℕ, List, [], ◌∷◌, Option, Some, None}
use Rattle.marks.specs.Filters.{filter_count, validate, orientation, wrong, leaf, component}
use Rattle.marks.specs.declared.filters.Filter.{Filter}
use Rattle.marks.specs.declared.filters.Filter.TheVariants.{Validate, Orientation, WrongLabel, Leaf, Component}

abbrev pub place : Filter → ℕ
place Validate = validate
place Orientation = orientation
place WrongLabel = wrong
place Leaf = leaf
place Component = component

-- the filters in the order of the table
abbrev pub all_filters : List Filter
all_filters = Validate ∷ Orientation ∷ WrongLabel ∷ Leaf ∷ Component ∷ []

-- of the filter that a mark is counted under; filter_count where there is none
abbrev pub place_in : Option Filter → ℕ
place_in None = filter_count
place_in (Some f) = place f
