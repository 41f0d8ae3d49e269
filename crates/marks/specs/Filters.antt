-- The filters: bit, letter and word of each, in the order in which they run and in which an index is counted. Assumes nothing.
use Rattle.std.specs.Prelude.{List, [], ◌∷◌, ℕ, length, get_or}
use Prim.Native.String.{String}

pub record Filter : Type 0 where
  -- its bit of the marks
  pub bit : ℕ
  -- its letter in a line of the listing and on the map
  pub letter : String
  -- its word in the tally
  pub word : String

abbrev filter : ℕ → String → String → Filter
filter b l w = record { bit = b; letter = l; word = w }

-- "marks, bit 0 validate, 1 orientation, 2 wrong label, 3 component"; "marks (VOWC)"; "kept 4 validate 0 orientation 0 wrong 0 component 1".
-- Of the leaf filter: "Its mark is bit 4, letter L between W and C"; "the tally and the run's new sums gain `leaf` before `component`".
abbrev pub filters : List Filter
filters =
    filter 0 "V" "validate"
    ∷ filter 1 "O" "orientation"
    ∷ filter 2 "W" "wrong"
    ∷ filter 4 "L" "leaf"
    ∷ filter 3 "C" "component"
    ∷ []

abbrev pub filter_count : ℕ
filter_count = length filters

-- A filter is named by its place in the table.
abbrev pub filter_at : ℕ → Filter
filter_at f = get_or filters f (filter 0 "" "")

abbrev pub validate : ℕ
validate = 0

abbrev pub orientation : ℕ
orientation = 1

abbrev pub wrong : ℕ
wrong = 2

abbrev pub leaf : ℕ
leaf = 3

abbrev pub component : ℕ
component = 4
