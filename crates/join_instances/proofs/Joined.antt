-- A file of two points joined with itself, one column to the right and two, and with a file without points; and joins without the conditions of
-- the promises. Assumes nothing.
use Rattle.std.specs.Prelude.{Some}
use mathlib.Core.Path.{◌≡◌, refl, sym, ap, ◌∙◌}
use mathlib.Core.Bool.{false, true, not, true≢false}
use mathlib.Core.List.Permᴰ
use mathlib.Core.List.{List, [], Permᴰ}
use Prim.Native.Nat.{ℕ, ◌<◌}
use native.Mathlib.Omega.{arith}
use lib.IntN.{ℤ, pos, negsuc}
use lib.Ieee.{round, to_bits}
use lib.ListN.{length, get_or}
use Rattle.folds.specs.Below.{every}
use Rattle.folds.proofs.Below.{every-at}
use Rattle.cells.specs.Points.{Point, nowhere}
use Rattle.cells.specs.Cell.{cell_of, moved, coincide}
use Rattle.cells.proofs.Edges.{coincide-same}
use Rattle.sheet_file.specs.Bytes.{Bytes}
use Rattle.sheet_file.specs.Frame.{framing_of, layout_of}
use Rattle.sheet_file.specs.Refusals.{defaults_for}
use Rattle.sheet_file.specs.declared.Settings.{Settings}
use Rattle.ruling.specs.Ruling.{refused, accepted, ruling_of}
use Rattle.ruling.specs.Offset.{moved_file, StaysInRange}
use Rattle.ruling.specs.Order.{records_in, Relisted}
use Rattle.ruling.proofs.Given.{not-refused}
use Rattle.ruling.proofs.Header.{same-headed}
use Rattle.ruling.proofs.Weights.{bytes-by, headed-by}
use Rattle.written_file.specs.Remade.{remade}
use Rattle.joined.specs.Joined.{moved_move, joined_list, bad_move, joined_ruling, Joinable}
use Rattle.joined.specs.declared.moves.Move.{Move}
use Rattle.promises.specs.Words.{DistinctIndices}
use Rattle.promises.specs.Promises.{LargestPatch}
use Rattle.promises.specs.Joined.{Separated, BothWhole, MovedTogether, JoinedSheet, SameAsFile}
use Rattle.promises.proofs.Joined.{join-order, empty-right, separated, moved-together, joined-sheet, join-file}
use lib.Dec.{leb→le}
use Rattle.stars.specs.Stars.{rules-compute, settings}
use Rattle.stars.specs.Listed.{file-computes}
use Rattle.instances.proofs.Computed.{distinct-by, in-range-by}
use Rattle.join_instances.specs.Halves.{pair, half, turned_half, empty_half, by_columns, three}

-- This name on an `unfolding` line opens every definition that a join computes by.
unfoldable pub join-computes : ℕ
unfolding joined_ruling file-computes rules-compute to_bits round
join-computes = 0

pub half-bytes : Bytes half
half-bytes = bytes-by half refl

pub half-accepted : ruling_of half 84 ≡ accepted settings pair
unfolding file-computes rules-compute
half-accepted = refl

-- ---- one column to the right: where both hold a cell, the left point stands

abbrev one_on : Move
one_on = by_columns 1 0x42C8_0000

pub three-accepted : joined_ruling half half one_on 84 ≡ accepted settings three
unfolding join-computes
three-accepted = refl

-- what is promised of it
pub three-joined : JoinedSheet settings three
three-joined = joined-sheet half half one_on 84 settings three half-bytes half-bytes three-accepted

three-distinct : DistinctIndices three
unfolding every
three-distinct = distinct-by three refl

pub three-largest : LargestPatch settings three
unfolding defaults_for
three-largest = three-joined.kept-patch three-distinct refl

-- none of 15 to 17 applies to the halves
pub joinable : Joinable half half one_on 84 settings pair settings pair
unfolding join-computes defaults_for
joinable = record { left-ruled = half-accepted; right-ruled = half-accepted; low-left = refl; low-right = refl; allowed = refl; alike = refl }

-- ---- the numbers: each half has room in 56 bytes, and what they are joined to has not

pub too-short : joined_ruling half half one_on 56 ≡ refused 3
unfolding join-computes
too-short = refl

-- 16 applies to the 16,001st column
pub too-far : joined_ruling half half (by_columns 16001 0) 84 ≡ refused 16
unfolding join-computes
too-far = refl

-- so "only 2, 3, 6 and 7" needs that none of 15 to 17 applies
pub joinable-needed : ((left right : List ℕ) (m : Move) (room : ℕ) → Bytes left → Bytes right → (k : ℕ) → joined_ruling left right m room ≡ refused k → k < 8) → ⊥
joinable-needed f = omega (arith, f half half (by_columns 16001 0) 84 half-bytes half-bytes 16 too-far)

-- ---- another order

half-framed : framing_of half ≡ Some (layout_of half)
unfolding file-computes
half-framed = refl

half-turned : Relisted half turned_half (layout_of half)
unfolding file-computes records_in every
half-turned = record { rest = headed-by half turned_half (layout_of half) refl refl refl; records = Permᴰ.swap refl refl }

half-same : Relisted half half (layout_of half)
half-same = record { rest = same-headed half (layout_of half); records = Permᴰ.refl (records_in half (layout_of half)) }

pub turned-joined : joined_ruling turned_half half one_on 84 ≡ accepted settings three
turned-joined = (join-order half half turned_half half (layout_of half) (layout_of half) half-bytes half-framed half-turned half-bytes half-framed half-same one_on).ruling 84 ∙ three-accepted

-- ---- a right file without points

empty-accepted : ruling_of empty_half 84 ≡ accepted settings []
unfolding file-computes rules-compute
empty-accepted = refl

joinable-empty : Joinable half empty_half one_on 84 settings pair settings []
unfolding join-computes defaults_for
joinable-empty = record { left-ruled = half-accepted; right-ruled = empty-accepted; low-left = refl; low-right = refl; allowed = refl; alike = refl }

pub left-alone : joined_ruling half empty_half one_on 84 ≡ accepted settings pair
left-alone = empty-right half empty_half one_on 84 settings settings pair half-bytes joinable-empty ∙ half-accepted

empty-too-far : joined_ruling half empty_half (by_columns 16001 0) 84 ≡ refused 16
unfolding join-computes
empty-too-far = refl

-- so this needs that none of 15 to 17 applies
pub joinable-needed-alone : ((left right : List ℕ) (m : Move) (room : ℕ) (t : Settings) → Bytes left → ruling_of right room ≡ accepted t [] → joined_ruling left right m room ≡ ruling_of left room) → ⊥
joinable-needed-alone f = not-refused (sym empty-too-far ∙ f half empty_half (by_columns 16001 0) 84 settings half-bytes empty-accepted ∙ half-accepted)

-- ---- two columns to the right: four points, all as they were or moved

abbrev two_on : Move
two_on = by_columns 2 0x4348_0000

pub two-apart : Separated two_on pair pair
unfolding every
two-apart i j h l e =
    let clear : ℕ → ℕ → _ = λ i j. not (coincide (cell_of (get_or pair i nowhere)) (moved two_on.du two_on.dv (cell_of (get_or pair j nowhere)))) in
    let t : clear i j ≡ true = every-at (clear i) 2 (every-at (λ (i : ℕ). every (clear i) 2) 2 refl i h) j l in
    true≢false (sym t ∙ ap not (coincide-same _ _ e))

joinable-apart : Joinable half half two_on 84 settings pair settings pair
unfolding join-computes defaults_for
joinable-apart = record { left-ruled = half-accepted; right-ruled = half-accepted; low-left = refl; low-right = refl; allowed = refl; alike = refl }

pub four-whole : BothWhole half half two_on 84 pair pair
four-whole = separated half half two_on 84 settings settings pair pair half-bytes half-bytes joinable-apart two-apart

pub four-points : length (joined_list two_on pair pair) ≡ 4
four-points = ap length four-whole.list

-- one column to the right there are three, so the promise needs that the halves are apart
three-points : length (joined_list one_on pair pair) ≡ 3
unfolding joined_list
three-points = refl

pub apart-needed : ((left right : List ℕ) (m : Move) (room : ℕ) (s t : Settings) (ls rs : List Point) → Bytes left → Bytes right → Joinable left right m room s ls t rs → BothWhole left right m room ls rs) → ⊥
apart-needed f = omega (arith, three-points, ap length (f half half one_on 84 settings settings pair pair half-bytes half-bytes joinable).list)

-- ---- a whole move

-- what the promise says of the three points, moved by (−6, 7)
three-in-range : StaysInRange (negsuc 5) (pos 7) three
unfolding every
three-in-range = in-range-by (negsuc 5) (pos 7) three refl

pub three-moved : MovedTogether half half one_on 84 (negsuc 5) (pos 7) settings three
unfolding join-computes
three-moved = moved-together half half one_on 84 (negsuc 5) (pos 7) settings three half-bytes half-bytes three-accepted three-in-range refl

-- out of range: (1, 0) moved to (8001, 0)
pub moved-out : joined_ruling (moved_file half (pos 8000) (pos 0)) half (moved_move (pos 8000) (pos 0) one_on) 84 ≡ refused 6
unfolding join-computes moved_file
moved-out = refl

pub range-needed : ((left right : List ℕ) (m : Move) (room : ℕ) (a b : ℤ) (s : Settings) (ps : List Point) → Bytes left → Bytes right → joined_ruling left right m room ≡ accepted s ps
    → bad_move (moved_move a b m) ≡ false → MovedTogether left right m room a b s ps) → ⊥
unfolding join-computes
range-needed f = not-refused (sym moved-out ∙ (f half half one_on 84 (pos 8000) (pos 0) settings three half-bytes half-bytes three-accepted refl).along.ruling)

-- a new offset that 16 concerns: nothing is moved by it
abbrev farthest : Move
farthest = by_columns 16000 0

farthest-accepted : joined_ruling half empty_half farthest 84 ≡ accepted settings pair
unfolding join-computes
farthest-accepted = refl

pub farther-refused : joined_ruling (moved_file half (pos 1) (pos 0)) empty_half (moved_move (pos 1) (pos 0) farthest) 84 ≡ refused 16
unfolding join-computes moved_file
farther-refused = refl

pub offset-needed : ((left right : List ℕ) (m : Move) (room : ℕ) (a b : ℤ) (s : Settings) (ps : List Point) → Bytes left → Bytes right → joined_ruling left right m room ≡ accepted s ps
    → StaysInRange a b ps → MovedTogether left right m room a b s ps) → ⊥
unfolding every
offset-needed f =
    not-refused (sym farther-refused ∙ (f half empty_half farthest 84 (pos 1) (pos 0) settings pair half-bytes (bytes-by empty_half refl) farthest-accepted (in-range-by (pos 1) (pos 0) pair refl)).along.ruling)

-- ---- the file made of the joined list

pub three-file : SameAsFile half half one_on 84 (remade half (joined_list one_on pair pair))
unfolding joined_list
three-file = join-file half half one_on 84 settings settings pair pair half-bytes half-bytes joinable (leb→le 60 65535 tt)
