-- "That maximum is now the limit ..: 2,304 points pass and 2,305 give refusal 2. .. on longer lists the program still tells 1 from 2": what
-- this says of every file and result buffer, and sheets of any number of points to show it on. Assumes nothing.
use Rattle.std.specs.Prelude.{◌≡◌, cond, List, ◌∷◌, ◌++◌, ◌⊎◌, ℕ, ◌+◌, ◌*◌, ◌/◌, ◌%◌, ◌≤◌, ◌<◌, eqb, length, replicate}
use Rattle.folds.specs.Lists.{list_of}
use Rattle.view.specs.View.{max_points}
use Rattle.sheet_file.specs.Grammar.{field, WellFramed}
use Rattle.ruling.specs.Ruling.{refused, ruling_of}

-- "length 20 times the number of points": how many points a well-framed file has
abbrev pub point_count : {file : List ℕ} → WellFramed file → ℕ
point_count w = length w.points / 20

-- "a tag 4 that is not 4 bytes plus 4 per point" fails for it: it has none, or one of that length, after its tag and length
abbrev pub WeightsFit : {file : List ℕ} → WellFramed file → Type 0
WeightsFit w = (length w.weights ≡ 0) ⊎ (length w.weights ≡ 3 + (4 + 4 * point_count w))

-- refused neither with 1 nor with 2
pub record Passes (file : List ℕ) (room : ℕ) : Type 0 where
  pub not-one : ruling_of file room ≡ refused 1 → ⊥
  pub not-two : ruling_of file room ≡ refused 2 → ⊥

-- 1 is given where the file is not well framed, and only there; 12 where it is well framed and its tag 4 does not fit, and only there; 2 where
-- it is well framed with a tag 4 that fits, or none, and more points than the limit, and only there, whatever else is wrong with it and
-- however short the buffer
pub record LimitPromise (file : List ℕ) (room : ℕ) : Type 0 where
  pub one : (WellFramed file → ⊥) → ruling_of file room ≡ refused 1
  pub one_only : ruling_of file room ≡ refused 1 → WellFramed file → ⊥
  pub twelve : (w : WellFramed file) → (WeightsFit w → ⊥) → ruling_of file room ≡ refused 12
  pub twelve-only : ruling_of file room ≡ refused 12 → (w : WellFramed file) × (WeightsFit w → ⊥)
  pub two : (w : WellFramed file) → WeightsFit w → max_points < point_count w → ruling_of file room ≡ refused 2
  pub two-only : ruling_of file room ≡ refused 2 → (w : WellFramed file) × WeightsFit w × (max_points < point_count w)
  pub passes : (w : WellFramed file) → point_count w ≤ max_points → Passes file room

-- settings of length 4 with cell size 0, and these points; their length stands in two bytes, without what these cannot hold
unfoldable pub short_sheet : List ℕ → List ℕ
short_sheet points = field 1 (replicate 4 0) ++ (3 ∷ length points % 256 ∷ length points / 256 % 256 ∷ points)

-- n points of zeros
abbrev pub zero_sheet : ℕ → List ℕ
zero_sheet n = short_sheet (replicate (20 * n) 0)

-- "2,304 corners, from the 48 by 48 target": point i is in cell (i / 48, i % 48), with index i and position (0, 0). Byte j of point i:
abbrev pub board_byte : ℕ → ℕ → ℕ
board_byte i j = cond (eqb j 0) (i / 48) (cond (eqb j 4) (i % 48) (cond (eqb j 8) (i % 256) (cond (eqb j 9) (i / 256) 0)))

-- byte k of all points
abbrev pub board_at : ℕ → ℕ
board_at k = board_byte (k / 20) (k % 20)

abbrev pub board_points : ℕ
board_points = 48 * 48

abbrev pub board48 : List ℕ
board48 = short_sheet (list_of (20 * board_points) board_at)
