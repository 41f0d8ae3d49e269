-- Demand 3 (a), the kept patch, of small files; and of files without its conditions. Assumes nothing.
use Rattle.std.specs.Prelude.{Ok}
use mathlib.Core.Path.{◌≡◌, refl, sym, ap, ◌∙◌}
use mathlib.Core.Bool.{Bool, true, false, not, ◌&&◌, true≢false, false≢true}
use mathlib.Core.List.{List, [], ◌∷◌}
use mathlib.Core.Logic.{⊎_elim}
use Prim.Native.Nat.{ℕ, zero, suc, ◌≤◌}
use native.Mathlib.Omega.{arith}
use lib.Dec.{eqb, ltb}
use lib.ListN.{get_or}
use borrow.Author.Tests.{eqb-true, le-ltb}
use Rattle.folds.specs.Below.{some, every, tally}
use Rattle.folds.specs.Lists.{list_of}
use Rattle.cells.specs.Points.{Point, nowhere}
use Rattle.cells.specs.Cell.{cell_of, before}
use Rattle.sheet_file.specs.Bytes.{Bytes}
use Rattle.sheet_file.specs.declared.Settings.{Settings}
use Rattle.sheet_file.specs.Refusals.{defaults_for, settings_in}
use Rattle.ruling.specs.Ruling.{accepted, ruling_of}
use Rattle.ruling.specs.Switches.{switched}
use Rattle.ruling.specs.Accepted.{AcceptedSheet}
use Rattle.ruling.proofs.Accepted.{of-file}
use Rattle.ruling.proofs.Weights.{bytes-by}
use Rattle.patches.specs.Reach.{here, step}
use Rattle.components.specs.WholePatches.{WholePatch, Smallest}
use Rattle.promises.specs.Words.{DistinctIndices, other_mark, survivor, joined, kept_rank}
use Rattle.promises.specs.Promises.{LargestPatch, PatchCount}
use Rattle.promises.specs.OfFile.{OfFile}
use Rattle.promises.proofs.OfFile.{of-accepted-file}
use Rattle.promises.proofs.Theorems.{kept-patch, component-count}
use Rattle.stars.specs.Stars.{rules-compute, settings, of_three}
use Rattle.stars.specs.Listed.{file, file-computes, answered}
use Rattle.instances.specs.Files.{point, short_file, long_file, five, zero_size, answered_components, marks_of}
use Rattle.instances.proofs.Computed.{distinct-by, marks-are, alive-is, link-is, kept-is, reached-in, patch-by}

-- ---- the sheet of five points

pub file-bytes : Bytes file
file-bytes = bytes-by file refl

pub file-accepted : ruling_of file 140 ≡ accepted settings five
unfolding file-computes rules-compute
file-accepted = refl

five-distinct : DistinctIndices five
unfolding every
five-distinct = distinct-by five refl

abbrev pub fifth_marked : List ℕ
fifth_marked = 0 ∷ 0 ∷ 0 ∷ 0 ∷ 8 ∷ []

pub five-marks : marks_of settings five ≡ fifth_marked
unfolding rules-compute
five-marks = refl

switch-on : settings.apply_largest_component ≡ true
unfolding defaults_for
switch-on = refl

-- the file is one use of what is promised of every accepted sheet
pub five-given : OfFile file 140 settings five
five-given = of-accepted-file file 140 settings five file-accepted

pub five-sheet : AcceptedSheet settings five
five-sheet = five-given.sheet file-bytes

-- what the promise says of it
pub five-largest : LargestPatch settings five
five-largest = kept-patch settings five five-sheet five-distinct switch-on

-- the kept patch is the first four points
pub four-kept : list_of 5 (kept_rank settings five) ≡ true ∷ true ∷ true ∷ true ∷ false ∷ []
unfolding list_of
four-kept = ap (list_of 5) (kept-is settings five fifth_marked five-marks)

pub four-points : tally (kept_rank settings five) 5 ≡ 4
unfolding tally
four-points = ap (λ (K : ℕ → Bool). tally K 5) (kept-is settings five fifth_marked five-marks)

-- so it is not empty, and it is one whole patch
pub whole : WholePatch (survivor settings five) (joined settings five) (kept_rank settings five)
unfolding some
whole = five-largest.largest.whole 0 (ap (λ (A : ℕ → Bool). A 0) (alive-is settings five fifth_marked five-marks))

-- no whole patch has more than four points
pub at-most-four : (W : ℕ → Bool) → WholePatch (survivor settings five) (joined settings five) W → tally W 5 ≤ 4
at-most-four W p = omega (arith, five-largest.largest.most W p, four-points)

-- the fifth point is the other whole patch, of one point
abbrev lone : ℕ → Bool
lone k = eqb k 4

pub lone-whole : WholePatch (survivor settings five) (joined settings five) lone
unfolding some every
lone-whole = patch-by settings five fifth_marked five-marks lone 4 refl refl refl (λ k e. rw (eqb-true k 4 e) (here refl))

pub lone-point : tally lone 5 ≡ 1
unfolding tally
lone-point = refl

-- "the component count is how many whole patches there are": two
pub five-counted : PatchCount settings five
five-counted = component-count settings five five-sheet switch-on

pub two-patches : tally five-counted.first 5 ≡ 2
two-patches = ap answered_components (sym (five-given.answer ∙ ap Ok five-counted.counts) ∙ answered)

-- ---- two points far apart: a tie

-- cells (0,0) at (0,0) and (5,5) at (500,500)
abbrev apart : List Point
apart = point 0 0 10 0 0 ∷ point 5 5 11 0x43FA_0000 0x43FA_0000 ∷ []

abbrev apart_file : List ℕ
apart_file = short_file 0x42C8_0000 apart

apart-accepted : ruling_of apart_file 56 ≡ accepted settings apart
unfolding file-computes rules-compute
apart-accepted = refl

apart_distinct : DistinctIndices apart
unfolding every
apart_distinct = distinct-by apart refl

apart_marks : marks_of settings apart ≡ 0 ∷ 8 ∷ []
unfolding rules-compute
apart_marks = refl

pub apart-largest : LargestPatch settings apart
apart-largest = kept-patch settings apart (of-file apart_file 56 settings apart (bytes-by apart_file refl) apart-accepted) apart_distinct switch-on

-- the second point is a whole patch with as many points as the kept one, and the kept one's smallest cell comes first
abbrev second : ℕ → Bool
second k = eqb k 1

second-whole : WholePatch (survivor settings apart) (joined settings apart) second
unfolding some every
second-whole = patch-by settings apart (0 ∷ 8 ∷ []) apart_marks second 1 refl refl refl (λ k e. rw (eqb-true k 1 e) (here refl))

pub second-later : (x y : ℕ) → Smallest second x → Smallest (kept_rank settings apart) y
    → before (cell_of (get_or apart y nowhere)) (cell_of (get_or apart x nowhere)) ≡ true
unfolding tally
second-later =
    let kept = kept-is settings apart (0 ∷ 8 ∷ []) apart_marks in
    ⊎_elim (λ same. absurd (false≢true (same 0 ∙ ap (λ (K : ℕ → Bool). K 0) kept))) (λ later. later)
    (apart-largest.later second second-whole (sym (ap (λ (K : ℕ → Bool). tally K 2) kept)))

-- and it has a smallest cell, of which this speaks
pub second-smallest : (x : ℕ) × Smallest second x
second-smallest = apart-largest.has-smallest second second-whole

-- ---- with the largest-patch switch off: the same two points

abbrev switch_off : Settings
switch_off = switched of_three 1 0

abbrev off_file : List ℕ
off_file = long_file 0x42C8_0000 1 0 apart

off-accepted : ruling_of off_file 56 ≡ accepted switch_off apart
unfolding file-computes rules-compute settings_in
off-accepted = refl

-- both are kept
pub off-marks : marks_of switch_off apart ≡ 0 ∷ 0 ∷ []
unfolding rules-compute
off-marks = refl

-- which is no whole patch: neither is reached from the other
off-no-patch : WholePatch (survivor switch_off apart) (joined switch_off apart) (kept_rank switch_off apart) → ⊥
unfolding some every
off-no-patch w = go (eqb w.seed 0) refl
  where
    kept : (k : ℕ) → kept_rank switch_off apart k ≡ ltb k 2 && eqb (get_or (0 ∷ 0 ∷ []) k 0) 0
    kept k = ap (λ (K : ℕ → Bool). K k) (kept-is switch_off apart (0 ∷ 0 ∷ []) off-marks)

    go : (b : Bool) → eqb w.seed 0 ≡ b → ⊥
    go true e = false≢true (reached-in switch_off apart (0 ∷ 0 ∷ []) off-marks (λ (k : ℕ). eqb k 0) refl w.seed 1 e (w.inner 1 (kept 1)))
    go false e = false≢true (reached-in switch_off apart (0 ∷ 0 ∷ []) off-marks (λ (k : ℕ). not (eqb k 0)) refl w.seed 0 (ap not e) (w.inner 0 (kept 0)))

off-not-largest : LargestPatch switch_off apart → ⊥
unfolding some
off-not-largest p = off-no-patch (p.largest.whole 0 (ap (λ (A : ℕ → Bool). A 0) (alive-is switch_off apart (0 ∷ 0 ∷ []) off-marks)))

-- so the promise needs its condition on the switch, of files too
pub switch-needed : ((file : List ℕ) (room : ℕ) (s : Settings) (ps : List Point) → Bytes file → ruling_of file room ≡ accepted s ps
    → DistinctIndices ps → LargestPatch s ps) → ⊥
switch-needed f = off-not-largest (f off_file 56 switch_off apart (bytes-by off_file refl) off-accepted apart_distinct)

-- ---- without distinct indices: index 7 twice

-- cell size 0; index 7 at one position in the cells (0,0) and (5,5)
abbrev twice : List Point
twice = point 0 0 7 0 0 ∷ point 5 5 7 0 0 ∷ []

twice-accepted : ruling_of (short_file 0 twice) 56 ≡ accepted zero_size twice
unfolding file-computes rules-compute
twice-accepted = refl

-- both points survive, and both have the component mark, which is of the index
pub twice-marks : marks_of zero_size twice ≡ 8 ∷ 8 ∷ []
unfolding rules-compute
twice-marks = refl

-- nothing is kept, although the other filters mark no point
twice-not-largest : LargestPatch zero_size twice → ⊥
unfolding some
twice-not-largest p = true≢false (sym (p.empty-only none 0 (omega arith)) ∙ ap other_mark (marks-are zero_size twice (8 ∷ 8 ∷ []) twice-marks 0 (omega arith)))
  where
    go : (k : ℕ) → ltb k 2 && eqb (get_or (8 ∷ 8 ∷ []) k 0) 0 ≡ false
    go zero = refl
    go (suc zero) = refl
    go (suc (suc k)) = rw (le-ltb (suc (suc k)) 2 (omega arith))

    none : (k : ℕ) → kept_rank zero_size twice k ≡ false
    none k = ap (λ (K : ℕ → Bool). K k) (kept-is zero_size twice (8 ∷ 8 ∷ []) twice-marks) ∙ go k

-- so the promise needs its condition on the indices, of files too
pub distinct-needed : ((file : List ℕ) (room : ℕ) (s : Settings) (ps : List Point) → Bytes file → ruling_of file room ≡ accepted s ps
    → s.apply_largest_component ≡ true → LargestPatch s ps) → ⊥
unfolding defaults_for
distinct-needed f = twice-not-largest (f (short_file 0 twice) 56 zero_size twice (bytes-by (short_file 0 twice) refl) twice-accepted refl)

-- ---- without distinct indices: the middle of a row again, far away

-- cell size 0; cells (0,0) 1, (1,0) 2 and (2,0) 3 in a row, and (9,9) 2 again
abbrev again : List Point
again = point 0 0 1 0 0 ∷ point 1 0 2 0x42C8_0000 0 ∷ point 2 0 3 0x4348_0000 0 ∷ point 9 9 2 0x42C8_0000 0 ∷ []

pub again-accepted : ruling_of (short_file 0 again) 112 ≡ accepted zero_size again
unfolding file-computes rules-compute
again-accepted = refl

pub again-marks : marks_of zero_size again ≡ 0 ∷ 8 ∷ 0 ∷ 8 ∷ []
unfolding rules-compute
again-marks = refl

-- kept are 1 and 3 without 2 between them, which is no whole patch
again-no-patch : WholePatch (survivor zero_size again) (joined zero_size again) (kept_rank zero_size again) → ⊥
unfolding some
again-no-patch w =
    let m : List ℕ = 0 ∷ 8 ∷ 0 ∷ 8 ∷ [] in
    let kept = kept-is zero_size again m again-marks in
    let first : kept_rank zero_size again 0 ≡ true = ap (λ (K : ℕ → Bool). K 0) kept in
    let next : joined zero_size again 0 1 ≡ true = ap (λ (l : ℕ → ℕ → Bool). l 0 1) (link-is zero_size again m again-marks) in
    true≢false (sym (w.outer 1 (step (w.inner 0 first) next)) ∙ ap (λ (K : ℕ → Bool). K 1) kept)

pub again-not-largest : LargestPatch zero_size again → ⊥
unfolding some
again-not-largest p = again-no-patch (p.largest.whole 0 (ap (λ (A : ℕ → Bool). A 0) (alive-is zero_size again (0 ∷ 8 ∷ 0 ∷ 8 ∷ []) again-marks)))
