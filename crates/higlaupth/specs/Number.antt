-- The numbers that the calls hand to C. Assumes nothing.
use Rattle.std.specs.List.{list_any}
use Rattle.std.specs.Prelude.{◌≡◌, true, cond, ◌⊎◌, ℕ, ◌+◌, ◌-◌, ◌*◌, ◌^◌, ◌≤◌, ◌<◌, eqb, leb, Ok, Err}
use Rattle.view.specs.View.{max_points}
use Rattle.ruling.specs.Ruling.{sheet_numbers}
use Rattle.joined.specs.Joined.{join_numbers}
use Rattle.kept.specs.Answer.{Answer}
use Rattle.map_lines.specs.Map.{map_size}
use Rattle.sheet_fills.specs.Answer.{FillAnswer}

-- the refusal number, or the counts of points, of components and of rounds above 2^32
abbrev pub number_of : Answer → ℕ
number_of (Err number) = number
number_of (Ok counts) = 2 ^ 48 * counts.rounds + 2 ^ 32 + 2 ^ 16 * counts.points + counts.components

-- counts as a sheet has them: no more components than points, no more rounds, no more points than the most of a sheet
pub record SheetCounts (points components rounds : ℕ) : Type 0 where
  pub few-components : components ≤ points
  pub few-rounds : rounds ≤ points
  pub few-points : points ≤ max_points

-- an answer whose counts are so
abbrev pub Countable : Answer → Type 0
Countable (Err number) = Unit {0}
Countable (Ok counts) = SheetCounts counts.points counts.components counts.rounds

-- what the number that higlaupth_keep returns is: that of a refusal of a sheet, or 2^48 · rounds + 2^32 + 2^16 · points + components
pub data Returned : ℕ → Type 0 where
  refusal : (number : ℕ) → list_any (eqb number) sheet_numbers ≡ true → Returned number
  counts : (points components rounds : ℕ) → SheetCounts points components rounds → Returned (2 ^ 48 * rounds + 2 ^ 32 + 2 ^ 16 * points + components)

-- what the number that higlaupth_join returns is: that of a refusal of a join, or the same of the joined sheet
pub data JoinReturned : ℕ → Type 0 where
  join-refusal : (number : ℕ) → list_any (eqb number) join_numbers ≡ true → JoinReturned number
  join-counts : (points components rounds : ℕ) → SheetCounts points components rounds → JoinReturned (2 ^ 48 * rounds + 2 ^ 32 + 2 ^ 16 * points + components)

-- what the number that higlaupth_keep_in_run returns is: the same as of higlaupth_keep, or 11
pub data InRunReturned : ℕ → Type 0 where
  run-full : InRunReturned 11
  as-sheet : {number : ℕ} → Returned number → InRunReturned number

-- of a text of `size` bytes for a buffer of `room`: its size, or 2^64 − 1 where the buffer is too short
abbrev pub text_number : ℕ → ℕ → ℕ
text_number size room = cond (leb size room) size (2 ^ 64 - 1)

-- what the number that higlaupth_map returns is, of a text of `size` bytes for a buffer of `room`: the size, no more than map_size, or 2^64 − 1,
-- exactly where the buffer is shorter than the text
pub record MapReturned (size room : ℕ) : Type 0 where
  pub bounded : (text_number size room ≤ map_size) ⊎ (text_number size room ≡ 2 ^ 64 - 1)
  pub whole : size ≤ room → text_number size room ≡ size
  pub short : room < size → text_number size room ≡ 2 ^ 64 - 1
  pub short-only : text_number size room ≡ 2 ^ 64 - 1 → room < size

-- ---- of higlaupth_fills

-- the refusal number, or the counts of points and of fills above 2^32
abbrev pub fill_number_of : FillAnswer → ℕ
fill_number_of (Err number) = number
fill_number_of (Ok c) = 2 ^ 32 + 2 ^ 16 * c.points + c.fills

-- an answer whose counts are as a sheet has them: no more fills than points, no more points than the most of a sheet
pub record FillsOfSheet (points fills : ℕ) : Type 0 where
  pub few-fills : fills ≤ points
  pub few-points : points ≤ max_points

abbrev pub FewFills : FillAnswer → Type 0
FewFills (Err number) = Unit {0}
FewFills (Ok c) = FillsOfSheet c.points c.fills

-- what the number that higlaupth_fills returns is: that of a refusal of a sheet, or 2^32 + 2^16 · points + fills
pub data FillsReturned : ℕ → Type 0 where
  no-fills : (number : ℕ) → list_any (eqb number) sheet_numbers ≡ true → FillsReturned number
  fill-counts : (points fills : ℕ) → FillsOfSheet points fills → FillsReturned (2 ^ 32 + 2 ^ 16 * points + fills)
