-- "Weak ends of a patch": files with tag 4 of two to five points, of another order, a whole move, the switches and the kept patch; and of files
-- without the conditions. Assumes nothing.
use Rattle.std.specs.Prelude.{None, Some, is_some, Ok}
use mathlib.Core.Path.{◌≡◌, refl, sym, ap, ◌∙◌, subst}
use mathlib.Core.Bool.{Bool, true, false, not, ◌&&◌, true≢false}
use mathlib.Core.List.{List, [], ◌∷◌, ◌++◌, Permᴰ}
use Prim.Native.Nat.{ℕ, ◌≤◌, ◌<◌}
use native.Mathlib.Omega.{arith}
use lib.Dec.{eqb, ltb}
use lib.IntN.{ℤ, pos, negsuc}
use lib.ListN.{length, get_or, replicate}
use Rattle.folds.specs.Arith.{f32}
use Rattle.folds.specs.Below.{some, every, tally}
use Rattle.folds.specs.Lists.{list_of}
use Rattle.folds.proofs.Below.{some-fails}
use Rattle.cells.specs.Points.{Point}
use Rattle.cells.specs.Cell.{cells_of}
use Rattle.grid.specs.Views.{view_of}
use Rattle.sheet_file.specs.Bytes.{Bytes}
use Rattle.sheet_file.specs.Frame.{framing_of, layout_of}
use Rattle.sheet_file.specs.Refusals.{defaults_with, defaults_for, settings_in}
use Rattle.sheet_file.specs.declared.Fraction.TheVariants.{Given}
use Rattle.sheet_file.specs.declared.Layout.{Layout}
use Rattle.sheet_file.specs.declared.Settings.{Settings}
use Rattle.ruling.specs.Header.{Headed}
use Rattle.ruling.specs.Offset.{moved_file, StaysInRange}
use Rattle.ruling.specs.Order.{records_in, Relisted}
use Rattle.ruling.specs.Ruling.{accepted, ruling_of}
use Rattle.ruling.specs.Switches.{Switched, switched}
use Rattle.ruling.specs.Accepted.{AcceptedSheet}
use Rattle.ruling.proofs.Accepted.{of-file}
use Rattle.ruling.proofs.Weights.{bytes-by, headed-by, without_strengths}
use Rattle.marks.specs.Filters.{validate, leaf, component, filter_count}
use Rattle.marks.specs.Byte.{has_mark}
use Rattle.validate.specs.Validate.{validate_mark}
use Rattle.kept.specs.Answer.{answer_of, rows_after}
use Rattle.text.specs.Text.{bytes}
use Rattle.sheet_listing.specs.Text.{text_of}
use Rattle.promises.specs.Promises.{LargestPatch, SameResult, MovedMarks, MovedRows, SameRowBits}
use Rattle.promises.specs.Leaves.{weak_rank, live_neighbours, WeakEnds, NoLeaves}
use Rattle.promises.specs.Words.{DistinctIndices, marks_in, rounds_of, other_mark, survivor, kept_rank}
use Rattle.promises.proofs.Leaves.{weak-ends, unweighed}
use Rattle.promises.proofs.RowMarks.{row-marks}
use Rattle.promises.proofs.Theorems.{kept-patch, another-order, moved-file, moved-file-rows, switched-rows}
use Rattle.stars.specs.Stars.{rules-compute, settings}
use Rattle.stars.specs.Listed.{file, file-computes, row_file, row-answered, row-printed, row-rows-left}
use Rattle.written_file.specs.File.{weights}
use Rattle.instances.specs.Files.{long_file, five, one, two, with_strength, short_weighed, answered_rounds, marks_of}
use Rattle.instances.proofs.AnotherOrder.{near}
use Rattle.instances.proofs.Computed.{distinct-by, in-range-by, marks-are, alive-is, kept-is}
use Rattle.instances.proofs.KeptPatch.{five-given, five-sheet}
use Rattle.instances.proofs.Offset.{points-are, none-marked, given, one_more}
use Rattle.instances.proofs.Switches.{switched-by}
use Rattle.std.proofs.lemmas.Bool.{and_parts, not-true}

-- a point: its cell on the row v = 0, its index, the pattern of x where y is 0, and the pattern of its strength
abbrev on_row : ℕ → ℕ → ℕ → ℕ → Point
on_row u i x s = record { u = u; v = 0; index = i; x = x; y = 0; strength = s }

-- a short file's settings, with the patterns of the cell size and the fraction
abbrev weighed : ℕ → ℕ → Settings
weighed size fraction = defaults_for (f32 size) None (Given (f32 fraction))

-- and the same with the line minimum 3 spelled out
abbrev of_three_weighed : ℕ → ℕ → Settings
of_three_weighed size fraction = defaults_with 3 (f32 size) None (Given (f32 fraction))

-- ---- the row of three points with cell size 7, fraction 2 and strengths 1, 1 and 2

abbrev seven : ℕ
seven = 0x40E0_0000

abbrev pub row : List Point
row = on_row 0 0 0 one ∷ on_row 1 1 seven one ∷ on_row 2 2 0x4160_0000 two ∷ []

pub row_is : row_file ≡ short_weighed seven two row
row_is = refl

abbrev pub row_settings : Settings
row_settings = weighed seven two

pub row-bytes : Bytes row_file
row-bytes = bytes-by row_file refl

pub row-accepted : ruling_of row_file 84 ≡ accepted row_settings row
unfolding file-computes rules-compute
row-accepted = refl

pub row-sheet : AcceptedSheet row_settings row
row-sheet = of-file row_file 84 row_settings row row-bytes row-accepted

-- the first goes, then the second, which it leaves as an end
abbrev pub ends_marked : List ℕ
ends_marked = 16 ∷ 16 ∷ 0 ∷ []

pub row-marked : marks_of row_settings row ≡ ends_marked
unfolding rules-compute
row-marked = refl

pub row-rounds : rounds_of row_settings row ≡ 2
unfolding rules-compute
row-rounds = refl

-- ---- another order: its last two points the other way round, with their strengths

abbrev pub turned_row : List ℕ
turned_row = short_weighed seven two (on_row 0 0 0 one ∷ on_row 2 2 0x4160_0000 two ∷ on_row 1 1 seven one ∷ [])

row-framed : framing_of row_file ≡ Some (layout_of row_file)
unfolding file-computes
row-framed = refl

row-relisted : Relisted row_file turned_row (layout_of row_file)
unfolding file-computes records_in every
row-relisted = record { rest = headed-by row_file turned_row (layout_of row_file) refl refl refl; records = Permᴰ.cons refl (Permᴰ.swap refl refl) }

-- what the promise says of it
pub row_same : SameResult row_file turned_row
row_same = another-order row_file turned_row (layout_of row_file) row-bytes row-framed row-relisted

-- so the counts, the text and the rows of the one file are those of the other
pub turned-row-answered : answer_of turned_row 84 ≡ Ok (record { points = 3; components = 1; rounds = 2 })
turned-row-answered = row_same.answer 84 ∙ row-answered

pub turned-row-printed : text_of turned_row ≡ bytes "points 3 components 1 rounds 2\n0 0 0 ---L- - -\n1 0 1 ---L- - -\n2 0 2 ----- - -\nkept 1 validate 0 orientation 0 wrong 0 leaf 2 component 0\n0 0 0\n1 0 0\n"
turned-row-printed = row_same.listing ∙ row-printed

pub turned-row-rows : rows_after turned_row (replicate 84 255) ≡ 16 ∷ replicate 27 0 ++ 16 ∷ replicate 55 0
turned-row-rows = row_same.rows (replicate 84 255) ∙ row-rows-left

-- ---- without taking the strengths along: they stand as they stood, so that the second point has 2 and the third 1

abbrev left_behind : List ℕ
left_behind = short_weighed seven two (on_row 0 0 0 one ∷ on_row 2 2 0x4160_0000 one ∷ on_row 1 1 seven two ∷ [])

-- both ends go in one round, and the middle stays
pub left-behind-marks : marks_of row_settings (on_row 0 0 0 one ∷ on_row 1 1 seven two ∷ on_row 2 2 0x4160_0000 one ∷ []) ≡ 16 ∷ 0 ∷ 16 ∷ []
unfolding rules-compute
left-behind-marks = refl

left-behind-answered : answer_of left_behind 84 ≡ Ok (record { points = 3; components = 1; rounds = 1 })
unfolding answer_of file-computes rules-compute
left-behind-answered = refl

left-behind-headed : Headed row_file left_behind (layout_of row_file)
unfolding file-computes every
left-behind-headed = headed-by row_file left_behind (layout_of row_file) refl refl refl

-- "points listed in another order take their strengths with them": the promise needs it
pub strengths-needed : ((file other : List ℕ) (f : Layout) → Bytes file → framing_of file ≡ Some f → Headed file other f → Permᴰ (without_strengths file f) (without_strengths other f)
    → SameResult file other) → ⊥
unfolding file-computes records_in
strengths-needed f =
    let r = f row_file left_behind (layout_of row_file) row-bytes row-framed left-behind-headed (Permᴰ.cons refl (Permᴰ.swap refl refl)) in
    let z : ◌≡◌ {A = ℕ} 1 2 = ap answered_rounds (sym left-behind-answered ∙ r.answer 84 ∙ row-answered) in
    omega arith

-- ---- a whole move: the row moved by (-6, 7)

abbrev pub moved_row : List ℕ
moved_row = moved_file row_file (negsuc 5) (pos 7)

-- 0xFFFFFFFA is -6
abbrev row_moved : List Point
row_moved =
    record { u = 0xFFFF_FFFA; v = 7; index = 0; x = 0; y = 0; strength = one }
    ∷ record { u = 0xFFFF_FFFB; v = 7; index = 1; x = seven; y = 0; strength = one }
    ∷ record { u = 0xFFFF_FFFC; v = 7; index = 2; x = 0x4160_0000; y = 0; strength = two }
    ∷ []

row-moved-accepted : ruling_of moved_row 84 ≡ accepted row_settings row_moved
unfolding file-computes moved_file rules-compute
row-moved-accepted = refl

row-in-range : StaysInRange (negsuc 5) (pos 7) row
unfolding every
row-in-range = in-range-by (negsuc 5) (pos 7) row refl

-- what the promise says of it
pub row-moved : MovedMarks (ruling_of moved_row 84) (negsuc 5) (pos 7) row_settings row
row-moved = moved-file row_file (negsuc 5) (pos 7) row-bytes 84 row_settings row row-accepted row-in-range

-- the condition: neither sheet has a validate mark
none_before : some (λ (k : ℕ). has_mark validate (get_or ends_marked k 0)) 3 ≡ false
unfolding some
none_before = refl

none_after : some (validate_mark row_settings (view_of row_moved) (cells_of row_moved)) 3 ≡ false
unfolding rules-compute
none_after = refl

abbrev SameValidate : List Point → Type 0
SameValidate qs = (k : ℕ) → k < 3 → has_mark validate (marks_in row_settings qs k) ≡ has_mark validate (marks_in row_settings row k)

row-validate-stays : SameValidate row_moved
row-validate-stays = none-marked row_settings row row_moved ends_marked row-marked refl none_before none_after

-- so the L marks stay, and the rounds
pub leaves-moved : (k : ℕ) → has_mark leaf (marks_in row_settings row_moved k) ≡ has_mark leaf (marks_in row_settings row k)
leaves-moved =
    subst (λ (qs : List Point). SameValidate qs → (k : ℕ) → has_mark leaf (marks_in row_settings qs k) ≡ has_mark leaf (marks_in row_settings row k)) (points-are row-moved row-moved-accepted)
    row-moved.leaf row-validate-stays

pub first-has-leaf : has_mark leaf (marks_in row_settings row_moved 0) ≡ true
first-has-leaf = leaves-moved 0 ∙ ap (has_mark leaf) (marks-are row_settings row ends_marked row-marked 0 (omega arith))

pub rounds-moved : rounds_of row_settings row_moved ≡ 2
rounds-moved =
    subst (λ (qs : List Point). SameValidate qs → rounds_of row_settings qs ≡ rounds_of row_settings row) (points-are row-moved row-moved-accepted) row-moved.rounds row-validate-stays
    ∙ row-rounds

-- the same of the rows in a buffer of 84 bytes, and of the answer
pub row-moved-rows : MovedRows row_file moved_row (replicate 84 0) 3
row-moved-rows = moved-file-rows row_file (replicate 84 0) (negsuc 5) (pos 7) row-bytes row_settings row row-accepted row-in-range

pub row-moved-answered : answer_of moved_row 84 ≡ Ok (record { points = 3; components = 1; rounds = 2 })
row-moved-answered =
    row-moved-rows.counts
    (λ k h.
    ap (has_mark validate) (row-marks moved_row (replicate 84 0) row_settings row_moved row-moved-accepted k h) ∙ row-validate-stays k h
    ∙ sym (ap (has_mark validate) (row-marks row_file (replicate 84 0) row_settings row row-accepted k h)))
    ∙ row-answered

-- ---- without "if the earlier marks hold": the sheet whose validate marks do not stay, each point with strength 1, and fraction 2

abbrev weak_bent : List ℕ
weak_bent = long_file 0x42C8_0000 1 1 (with_strength one given) ++ weights two (with_strength one given)

abbrev bent_settings : Settings
bent_settings = of_three_weighed 0x42C8_0000 two

weak-bent-accepted : ruling_of weak_bent 140 ≡ accepted bent_settings (with_strength one given)
unfolding file-computes rules-compute settings_in
weak-bent-accepted = refl

weak-bent-moved : ruling_of (moved_file weak_bent (pos 1) (pos 0)) 140 ≡ accepted bent_settings (with_strength one one_more)
unfolding file-computes moved_file rules-compute settings_in
weak-bent-moved = refl

-- index 3 has the L mark as given, and the validate mark in its place once moved
pub weak-bent-marks : marks_of bent_settings (with_strength one given) ≡ 16 ∷ 16 ∷ 16 ∷ 1 ∷ 16 ∷ []
unfolding rules-compute
weak-bent-marks = refl

pub weak-bent-moved-marks : marks_of bent_settings (with_strength one one_more) ≡ 16 ∷ 16 ∷ 1 ∷ 1 ∷ 16 ∷ []
unfolding rules-compute
weak-bent-moved-marks = refl

-- so "A whole move keeps L" needs the condition
pub earlier-needed : ((file : List ℕ) (a b : ℤ) → Bytes file → (room : ℕ) (s : Settings) (ps : List Point) → ruling_of file room ≡ accepted s ps → StaysInRange a b ps
    → (p : MovedMarks (ruling_of (moved_file file a b) room) a b s ps) → (k : ℕ) → has_mark leaf (marks_in s p.along.points k) ≡ has_mark leaf (marks_in s ps k)) → ⊥
unfolding every
earlier-needed f =
    let ps : List Point = with_strength one given in
    let qs : List Point = with_strength one one_more in
    let b = bytes-by weak_bent refl in
    let r = in-range-by (pos 1) (pos 0) ps refl in
    let p = moved-file weak_bent (pos 1) (pos 0) b 140 bent_settings ps weak-bent-accepted r in
    let same = subst (λ (qs : List Point). has_mark leaf (marks_in bent_settings qs 2) ≡ has_mark leaf (marks_in bent_settings ps 2)) (points-are p weak-bent-moved)
    (f weak_bent (pos 1) (pos 0) b 140 bent_settings ps weak-bent-accepted r p 2) in
    let old = marks-are bent_settings ps (16 ∷ 16 ∷ 16 ∷ 1 ∷ 16 ∷ []) weak-bent-marks 2 (omega arith) in
    let new = marks-are bent_settings qs (16 ∷ 16 ∷ 1 ∷ 1 ∷ 16 ∷ []) weak-bent-moved-marks 2 (omega arith) in
    true≢false (sym (ap (has_mark leaf) old) ∙ sym same ∙ ap (has_mark leaf) new)

-- ---- the kept patch: a row of three whose first point is weak, and a point apart

-- cell size 100, fraction 1, strengths 1, 2, 2 and 2
abbrev four : List Point
four = on_row 0 10 0 one ∷ on_row 1 11 0x42C8_0000 two ∷ on_row 2 12 0x4348_0000 two ∷ on_row 9 13 0x4461_0000 two ∷ []

-- with this byte for the largest-patch switch
abbrev four_file : ℕ → List ℕ
four_file largest = long_file 0x42C8_0000 1 largest four ++ weights one four

abbrev four_settings : Settings
four_settings = of_three_weighed 0x42C8_0000 one

four_bytes : Bytes (four_file 1)
four_bytes = bytes-by (four_file 1) refl

four-accepted : ruling_of (four_file 1) 112 ≡ accepted four_settings four
unfolding file-computes rules-compute settings_in
four-accepted = refl

four-distinct : DistinctIndices four
unfolding every
four-distinct = distinct-by four refl

abbrev first_peeled : List ℕ
first_peeled = 16 ∷ 0 ∷ 0 ∷ 8 ∷ []

pub four-marks : marks_of four_settings four ≡ first_peeled
unfolding rules-compute
four-marks = refl

four-on : four_settings.apply_largest_component ≡ true
four-on = refl

-- what the promise says of it
pub four-largest : LargestPatch four_settings four
four-largest = kept-patch four_settings four (of-file (four_file 1) 112 four_settings four four_bytes four-accepted) four-distinct four-on

-- the kept patch is two points; without tag 4 it is three
pub two-kept : tally (kept_rank four_settings four) 4 ≡ 2
unfolding tally
two-kept = ap (λ (K : ℕ → Bool). tally K 4) (kept-is four_settings four first_peeled four-marks)

four-unweighed-marks : marks_of settings (with_strength 0 four) ≡ 0 ∷ 0 ∷ 0 ∷ 8 ∷ []
unfolding rules-compute
four-unweighed-marks = refl

pub three-kept : tally (kept_rank settings (with_strength 0 four)) 4 ≡ 3
unfolding tally
three-kept = ap (λ (K : ℕ → Bool). tally K 4) (kept-is settings (with_strength 0 four) (0 ∷ 0 ∷ 0 ∷ 8 ∷ []) four-unweighed-marks)

-- a survivor has no L mark: the first point is none, the second is one
pub first-peeled : survivor four_settings four 0 ≡ false
unfolding some
first-peeled = ap (λ (A : ℕ → Bool). A 0) (alive-is four_settings four first_peeled four-marks)

pub second-survives : survivor four_settings four 1 ≡ true
unfolding some
second-survives = ap (λ (A : ℕ → Bool). A 1) (alive-is four_settings four first_peeled four-marks)

pub survivor-no-leaf : (s : Settings) (ps : List Point) (k : ℕ) → survivor s ps k ≡ true → has_mark leaf (marks_in s ps k) ≡ false
survivor-no-leaf s ps k e =
    let m = marks_in s ps k in
    some-fails (λ (f : ℕ). not (eqb f component) && has_mark f m) filter_count (not-true (other_mark m) (and_parts (ltb k (length ps)) (not (other_mark m)) e).1) leaf (omega arith)

pub second-no-leaf : has_mark leaf (marks_in four_settings four 1) ≡ false
second-no-leaf = survivor-no-leaf four_settings four 1 second-survives

-- ---- the switches: with the largest-patch switch off the L marks are the same, and the C mark goes

four-switched : Switched (four_file 1) (four_file 0)
unfolding every
four-switched = switched-by (four_file 1) (four_file 0) refl refl refl refl refl

four-long : (layout_of (four_file 1)).full ≡ true
unfolding file-computes
four-long = refl

-- what the promise says of it: the validate and orientation bits stay
pub four-same-bits : (buffer : List ℕ) → length buffer ≡ 112 → SameRowBits (four_file 1) (four_file 0) buffer 4
four-same-bits buffer e = switched-rows (four_file 1) (four_file 0) buffer four_bytes four-switched four-long four_settings four (rw e four-accepted)

pub four-off-marks : marks_of (switched four_settings 1 0) four ≡ 16 ∷ 0 ∷ 0 ∷ 0 ∷ []
unfolding rules-compute
four-off-marks = refl

abbrev leaves_in : List ℕ → List Bool
leaves_in m = list_of 4 (λ (k : ℕ). has_mark leaf (get_or m k 0))

pub leaves-unswitched : leaves_in (marks_of (switched four_settings 1 0) four) ≡ leaves_in (marks_of four_settings four)
unfolding list_of
leaves-unswitched = ap leaves_in four-off-marks ∙ sym (ap leaves_in four-marks)

-- the wrong-label switch may alter them: two points 19 pixels apart, each with strength 1, and fraction 2, with the switch on and off
-- cell size 100 and fraction 2
abbrev fraction_two : Settings
fraction_two = weighed 0x42C8_0000 two

pub near-on-marks : marks_of fraction_two (with_strength one near) ≡ 4 ∷ 4 ∷ []
unfolding rules-compute
near-on-marks = refl

pub near-off-marks : marks_of (switched fraction_two 0 1) (with_strength one near) ≡ 16 ∷ 16 ∷ []
unfolding rules-compute
near-off-marks = refl

-- ---- what is left and what was removed, of every accepted sheet

-- what the promise says of the row: its second point has the L mark, so it is weak and has no C mark
pub row_ends : WeakEnds row_settings row
row_ends = weak-ends row_settings row row-sheet

second-has-leaf : has_mark leaf (marks_in row_settings row 1) ≡ true
second-has-leaf = ap (has_mark leaf) (marks-are row_settings row ends_marked row-marked 1 (omega arith))

pub second-weak : weak_rank row_settings row 1 ≡ true
second-weak = row_ends.removed-weak 1 (omega arith) second-has-leaf

pub second-no-component : has_mark component (marks_in row_settings row 1) ≡ false
second-no-component = row_ends.not-component 1 (omega arith) second-has-leaf

-- a square of four points, all weak: none is an end, so that all are left, each with two live neighbours
abbrev square : List Point
square =
    on_row 0 0 0 one ∷ record { u = 0; v = 1; index = 1; x = 0; y = 0x42C8_0000; strength = one } ∷ on_row 1 2 0x42C8_0000 one
    ∷ record { u = 1; v = 1; index = 3; x = 0x42C8_0000; y = 0x42C8_0000; strength = one }
    ∷ []

abbrev square_file : List ℕ
square_file = short_weighed 0x42C8_0000 two square

square-accepted : ruling_of square_file 112 ≡ accepted fraction_two square
unfolding file-computes rules-compute
square-accepted = refl

pub square-marks : marks_of fraction_two square ≡ 0 ∷ 0 ∷ 0 ∷ 0 ∷ []
unfolding rules-compute
square-marks = refl

pub first-left : survivor fraction_two square 0 ≡ true
unfolding some
first-left = ap (λ (A : ℕ → Bool). A 0) (alive-is fraction_two square (0 ∷ 0 ∷ 0 ∷ 0 ∷ []) square-marks)

pub first-weak : weak_rank fraction_two square 0 ≡ true
unfolding rules-compute
first-weak = refl

pub first_two : 2 ≤ live_neighbours fraction_two square 0
first_two = (weak-ends fraction_two square (of-file square_file 112 fraction_two square (bytes-by square_file refl) square-accepted)).left-two 0 first-left first-weak

-- the five points of the kept patch, without tag 4
five-unweighed : is_some (layout_of file).weights ≡ false
unfolding file-computes
five-unweighed = refl

pub five-no-leaves : NoLeaves settings five
five-no-leaves = unweighed settings five five-sheet (five-given.unweighed five-unweighed)
