-- "The removing rounds number at most n − 1": a row of three points that reaches the bound; one point alone, an index at both ends of a row, and
-- two points dropped beforehand, which show what the conditions are for. Assumes nothing.
use mathlib.Core.Path.{◌≡◌, refl, ap, ◌∙◌}
use mathlib.Core.Bool.{Bool, false, ◌||◌}
use mathlib.Core.List.{List, [], ◌∷◌}
use Prim.Native.Nat.{ℕ, ◌+◌, ◌≤◌, ◌<◌}
use native.Mathlib.Omega.{arith}
use lib.ListN.{length, get_or}
use Rattle.folds.specs.Below.{some, every, tally}
use Rattle.folds.proofs.Below.{some-fails}
use Rattle.cells.specs.Points.{Point}
use Rattle.sheet_file.specs.Bytes.{Bytes}
use Rattle.sheet_file.specs.declared.Settings.{Settings}
use Rattle.ruling.specs.Ruling.{accepted, ruling_of}
use Rattle.ruling.proofs.Accepted.{of-file}
use Rattle.ruling.proofs.Weights.{bytes-by}
use Rattle.marks.specs.Filters.{validate, orientation, wrong}
use Rattle.marks.specs.Byte.{has_mark}
use Rattle.promises.specs.Words.{DistinctIndices, rounds_of}
use Rattle.promises.specs.Tally.{different, any_point, index_in}
use Rattle.promises.specs.Longest.{beforehand, left_before, Longest}
use Rattle.promises.proofs.Longest.{longest, fewer-rounds}
use Rattle.stars.specs.Stars.{rules-compute}
use Rattle.stars.specs.Listed.{file-computes}
use Rattle.instances.specs.Files.{marks_of}
use Rattle.instances.proofs.Computed.{distinct-by, marks-are}
use Rattle.instances.proofs.WeakEnds.{row, row_settings, row-sheet, ends_marked, row-marked, row-rounds}
use Rattle.longest_instances.specs.Sheets.{weak_file, weak_settings, seven, hundred, single, two_ends, two_close}

-- a byte of marks with that of an earlier filter
abbrev earlier : ℕ → Bool
earlier m = has_mark validate m || (has_mark orientation m || has_mark wrong m)

-- where the marks of a sheet have none, nothing was dropped beforehand
none_before : (s : Settings) (ps : List Point) (m : List ℕ) → marks_of s ps ≡ m → some (λ (k : ℕ). earlier (get_or m k 0)) (length ps) ≡ false
    → (k : ℕ) → k < length ps → beforehand s ps k ≡ false
none_before s ps m e none k h = ap earlier (marks-are s ps m e k h) ∙ some-fails (λ (k : ℕ). earlier (get_or m k 0)) (length ps) none k h

-- ---- the row of three points with strengths 1, 1 and 2

-- what the promise says of it
pub row-longest : Longest row_settings row
row-longest = longest row_settings row row-sheet

pub row-bound : rounds_of row_settings row + 1 ≤ 3
row-bound = row-longest.bound (omega arith)

-- and in the words of the document
row-distinct : DistinctIndices row
unfolding every
row-distinct = distinct-by row refl

row-undropped : (k : ℕ) → k < 3 → beforehand row_settings row k ≡ false
unfolding some
row-undropped = none_before row_settings row ends_marked row-marked refl

pub row-fewer : rounds_of row_settings row ≤ 2
row-fewer = fewer-rounds row_settings row row-sheet row-distinct row-undropped (omega arith)

-- it takes as long as a row of three can
pub row-reaches : rounds_of row_settings row + 1 ≡ length row
row-reaches = ap (λ (r : ℕ). r + 1) row-rounds

-- ---- one point alone: one round

single-accepted : ruling_of (weak_file seven single) 28 ≡ accepted (weak_settings seven) single
unfolding file-computes rules-compute
single-accepted = refl

pub single-rounds : rounds_of (weak_settings seven) single ≡ 1
unfolding rules-compute
single-rounds = refl

-- so the bound needs two points
pub two-needed : ((file : List ℕ) (room : ℕ) (s : Settings) (ps : List Point) → Bytes file → ruling_of file room ≡ accepted s ps → rounds_of s ps + 1 ≤ length ps) → ⊥
two-needed f =
    let r : rounds_of (weak_settings seven) single + 1 ≤ 1 = f (weak_file seven single) 28 (weak_settings seven) single (bytes-by (weak_file seven single) refl) single-accepted in
    omega (arith, r, single-rounds)

-- ---- an index at both ends of a row of three: it goes, and then the middle

ends-accepted : ruling_of (weak_file 0 two_ends) 84 ≡ accepted (weak_settings 0) two_ends
unfolding file-computes rules-compute
ends-accepted = refl

pub ends-marks : marks_of (weak_settings 0) two_ends ≡ 16 ∷ 16 ∷ 16 ∷ []
unfolding rules-compute
ends-marks = refl

pub ends-rounds : rounds_of (weak_settings 0) two_ends ≡ 2
unfolding rules-compute
ends-rounds = refl

pub ends-indices : different any_point (index_in two_ends) 3 ≡ 2
unfolding different
ends-indices = refl

ends-undropped : (k : ℕ) → k < 3 → beforehand (weak_settings 0) two_ends k ≡ false
unfolding some
ends-undropped = none_before (weak_settings 0) two_ends (16 ∷ 16 ∷ 16 ∷ []) ends-marks refl

-- so the bound by indices needs "without repeated indices"
pub distinct-needed : ((file : List ℕ) (room : ℕ) (s : Settings) (ps : List Point) → Bytes file → ruling_of file room ≡ accepted s ps
    → ((k : ℕ) → k < length ps → beforehand s ps k ≡ false) → 2 ≤ different any_point (index_in ps) (length ps) → rounds_of s ps + 1 ≤ different any_point (index_in ps) (length ps)) → ⊥
distinct-needed f =
    let r : rounds_of (weak_settings 0) two_ends + 1 ≤ different any_point (index_in two_ends) 3 =
    f (weak_file 0 two_ends) 84 (weak_settings 0) two_ends (bytes-by (weak_file 0 two_ends) refl) ends-accepted ends-undropped (omega (arith, ends-indices)) in
    omega (arith, r, ends-rounds, ends-indices)

-- and the bound by points does not
pub ends-bound : rounds_of (weak_settings 0) two_ends + 1 ≤ 3
ends-bound = (longest (weak_settings 0) two_ends (of-file (weak_file 0 two_ends) 84 (weak_settings 0) two_ends (bytes-by (weak_file 0 two_ends) refl) ends-accepted)).bound (omega arith)

-- ---- two points too close, and one apart: the two were dropped beforehand, and the one goes

close-accepted : ruling_of (weak_file hundred two_close) 84 ≡ accepted (weak_settings hundred) two_close
unfolding file-computes rules-compute
close-accepted = refl

pub close-marks : marks_of (weak_settings hundred) two_close ≡ 4 ∷ 4 ∷ 16 ∷ []
unfolding rules-compute
close-marks = refl

pub close-rounds : rounds_of (weak_settings hundred) two_close ≡ 1
unfolding rules-compute
close-rounds = refl

pub close-left : left_before (weak_settings hundred) two_close ≡ 1
unfolding tally rules-compute
close-left = refl

close-distinct : DistinctIndices two_close
unfolding every
close-distinct = distinct-by two_close refl

-- so the bound by what was left needs two points that were left
pub two-left-needed : ((file : List ℕ) (room : ℕ) (s : Settings) (ps : List Point) → Bytes file → ruling_of file room ≡ accepted s ps → DistinctIndices ps → 2 ≤ length ps
    → rounds_of s ps + 1 ≤ left_before s ps) → ⊥
two-left-needed f =
    let r = f (weak_file hundred two_close) 84 (weak_settings hundred) two_close (bytes-by (weak_file hundred two_close) refl) close-accepted close-distinct (omega arith) in
    omega (arith, r, close-rounds, close-left)

-- and the bound by points does not
pub close-bound : rounds_of (weak_settings hundred) two_close + 1 ≤ 3
close-bound = (longest (weak_settings hundred) two_close (of-file (weak_file hundred two_close) 84 (weak_settings hundred) two_close (bytes-by (weak_file hundred two_close) refl) close-accepted)).bound (omega arith)
