-- "the default line minimum becomes 4 for length-4 settings" (document 02, A.9), of two small sheets: settings of length 4 are all 21 bytes with 4, and
-- not those with 3. Assumes nothing.
use Rattle.std.specs.Prelude.{None}
use mathlib.Core.Path.{◌≡◌, refl, sym, ap, ◌∙◌}
use mathlib.Core.List.{List, [], ◌∷◌}
use Prim.Native.Nat.{ℕ}
use native.Mathlib.Omega.{arith}
use lib.ListN.{get_or, replicate}
use Rattle.folds.specs.Arith.{f32}
use Rattle.cells.specs.Points.{Point}
use Rattle.sheet_file.specs.Bytes.{little_endian}
use Rattle.sheet_file.specs.Grammar.{field}
use Rattle.sheet_file.specs.Refusals.{defaults_with, settings_in}
use Rattle.sheet_file.specs.declared.Fraction.TheVariants.{Missing}
use Rattle.sheet_file.specs.declared.Settings.{Settings}
use Rattle.ruling.specs.Ruling.{accepted, ruling_of}
use Rattle.written_file.specs.File.{points_bytes, spelled_out}
use Rattle.written_file.specs.Spelled.{settled}
use Rattle.promises.specs.Promises.{SameResult}
use Rattle.promises.proofs.RowMarks.{row-marks}
use Rattle.promises.proofs.Short.{short}
use Rattle.stars.specs.Stars.{rules-compute, settings, of_three, said_of}
use Rattle.stars.specs.Listed.{file-computes}
use Rattle.instances.specs.Files.{point, short_file, marks_of}
use Rattle.instances.proofs.Computed.{marks-are}

-- ---- a cross of five points, its middle off by 30 pixels in x and in y

-- cell size 100; cells (0,1) at (0,100), (1,0) at (100,0), (1,1) at (130,130), (1,2) at (100,200) and (2,1) at (200,100)
abbrev cross : List Point
cross =
    point 0 1 10 0 0x42C8_0000
    ∷ point 1 0 11 0x42C8_0000 0
    ∷ point 1 1 12 0x4302_0000 0x4302_0000
    ∷ point 1 2 13 0x42C8_0000 0x4348_0000
    ∷ point 2 1 14 0x4348_0000 0x42C8_0000
    ∷ []

abbrev cross_file : List ℕ
cross_file = short_file 0x42C8_0000 cross

-- the same points after all 21 bytes with this line minimum
abbrev spelled : ℕ → List ℕ
spelled minimum = settled (spelled_out 0x42C8_0000 minimum) (field 3 (points_bytes cross))

-- with 4 it is the same in all that is answered and printed
pub short-same : SameResult cross_file (spelled 4)
short-same = short 0x42C8_0000 (field 3 (points_bytes cross))

-- of length 4: a row of three points is short, and there is no mark
pub cross-accepted : ruling_of cross_file 140 ≡ accepted settings cross
unfolding file-computes rules-compute
cross-accepted = refl

pub cross-marks : marks_of settings cross ≡ 0 ∷ 0 ∷ 0 ∷ 0 ∷ 0 ∷ []
unfolding rules-compute
cross-marks = refl

-- with 3: the middle lies off its row and off its column, two line flags, and has the validate mark; of the others no two are joined
pub three-accepted : ruling_of (spelled 3) 140 ≡ accepted of_three cross
unfolding file-computes rules-compute settings_in
three-accepted = refl

pub three-flags : (said_of of_three cross).flags ≡ 0 ∷ 0 ∷ 2 ∷ 0 ∷ 0 ∷ []
unfolding rules-compute
three-flags = refl

pub three-marks : marks_of of_three cross ≡ 0 ∷ 8 ∷ 1 ∷ 8 ∷ 8 ∷ []
unfolding rules-compute
three-marks = refl

-- the rows of both in a buffer of 28 bytes a point
abbrev buffer : List ℕ
buffer = replicate 140 255

not-three : SameResult cross_file (spelled 3) → ⊥
not-three r =
    let with-three = row-marks (spelled 3) buffer of_three cross three-accepted 2 (omega arith) ∙ marks-are of_three cross (0 ∷ 8 ∷ 1 ∷ 8 ∷ 8 ∷ []) three-marks 2 (omega arith) in
    let with-four = row-marks cross_file buffer settings cross cross-accepted 2 (omega arith) ∙ marks-are settings cross (0 ∷ 0 ∷ 0 ∷ 0 ∷ 0 ∷ []) cross-marks 2 (omega arith) in
    let z : ◌≡◌ {A = ℕ} 1 0 = sym with-three ∙ ap (λ (l : List ℕ). get_or l 56 0) (r.rows buffer) ∙ with-four in
    omega arith

-- so the promise needs the 4
pub four-needed : ((size : ℕ) (rest : List ℕ) → SameResult (settled (little_endian size) rest) (settled (spelled_out size 3) rest)) → ⊥
four-needed f = not-three (f 0x42C8_0000 (field 3 (points_bytes cross)))

-- ---- three points, one index twice in their row: without three in a row 3 and 4 are the same

-- cells (0,0) and (1,0) with index 1 at (0,0), and (2,0) with index 2 at (100,0)
abbrev row : List Point
row = point 0 0 1 0 0 ∷ point 1 0 1 0 0 ∷ point 2 0 2 0x42C8_0000 0 ∷ []

-- with cell size −1 and this line minimum
abbrev minus_one : ℕ → Settings
minus_one minimum = defaults_with minimum (f32 0xBF80_0000) None Missing

-- with 4 there is no mark; with 3 index 1 is flagged twice in its one row, and has the validate mark
pub row-accepted : (ruling_of (short_file 0xBF80_0000 row) 84 ≡ accepted (minus_one 4) row) × (ruling_of (settled (spelled_out 0xBF80_0000 3) (field 3 (points_bytes row))) 84 ≡ accepted (minus_one 3) row)
unfolding file-computes rules-compute settings_in
row-accepted = (refl, refl)

pub row-flags : ((said_of (minus_one 4) row).flags ≡ 0 ∷ 0 ∷ 0 ∷ []) × ((said_of (minus_one 3) row).flags ≡ 2 ∷ 2 ∷ 1 ∷ [])
unfolding rules-compute
row-flags = (refl, refl)

pub row_marks : (marks_of (minus_one 4) row ≡ 0 ∷ 0 ∷ 0 ∷ []) × (marks_of (minus_one 3) row ≡ 1 ∷ 1 ∷ 0 ∷ [])
unfolding rules-compute
row_marks = (refl, refl)
