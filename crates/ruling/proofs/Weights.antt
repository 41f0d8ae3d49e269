-- Tag 4 on sheets of no point, one point and two: its numbers 12, 13 and 14 and their places among the others, and another order of points that
-- takes the strengths along or leaves them behind. Assumes nothing.
use Rattle.std.specs.List.{list_any}
use Rattle.std.specs.Prelude.{None, Some}
use mathlib.Core.Path.{◌≡◌, refl, sym, ap, ◌∙◌}
use mathlib.Core.Bool.{Bool, true, false}
use mathlib.Core.List.{List, [], ◌∷◌, ◌++◌, map, Permᴰ}
use mathlib.Core.Logic.{inl, inr}
use Prim.Native.Nat.{ℕ, zero, suc, ◌+◌, ◌-◌, ◌*◌, ◌/◌, ◌%◌, ◌≤◌}
use native.Mathlib.Omega.{arith}
use lib.Dec.{eqb, ltb}
use lib.Ieee.{of_bits}
use lib.ListN.{length, get_or, take, replicate, length-replicate}
use borrow.Author.Tests.{eqb-true, ltb-false}
use Rattle.folds.specs.Arith.{f32}
use Rattle.folds.specs.Below.{every}
use Rattle.folds.proofs.Below.{every-at}
use Rattle.refusals.proofs.Laws.{numbers_of}
use Rattle.sort.specs.Sorted.{sort}
use Rattle.cells.specs.Points.{Point, nowhere}
use Rattle.sheet_file.specs.Bytes.{Bytes, le16, le32}
use Rattle.sheet_file.specs.Frame.{field_at, end_from, strengths_from, points_from, gate_from, framing_of, layout_of}
use Rattle.sheet_file.specs.Grammar.{field, absent, present, WellFramed, most_records}
use Rattle.sheet_file.specs.Refusals.{defaults_for, edge_shape_of, fraction_of, settings_of, bad_flag, bad_float}
use Rattle.sheet_file.specs.declared.Fraction.TheVariants.{Given}
use Rattle.sheet_file.specs.declared.Layout.{Layout}
use Rattle.sheet_file.specs.declared.Settings.{Settings}
use Rattle.sheet_file.proofs.Words.{bytes-join}
use Rattle.points.specs.Records.{points_in}
use Rattle.ruling.specs.Ruling.{Ruling, refused, accepted, refusals_of, ruling_of}
use Rattle.ruling.specs.Header.{points_end, Headed}
use Rattle.ruling.specs.Order.{records_in, Relisted}
use Rattle.ruling.specs.Limit.{point_count, WeightsFit, short_sheet, zero_sheet}
use Rattle.ruling.proofs.Given.{numbers-are}
use Rattle.ruling.proofs.Limit.{more-refused, limit, zero-bytes}
use Rattle.ruling.proofs.Order.{same-ruling}
use Rattle.std.proofs.lemmas.Bool.{or_parts}

-- ---- the files

-- the four bytes of a pattern
abbrev word : ℕ → List ℕ
word b = b % 256 ∷ b / 256 % 256 ∷ b / 65536 % 256 ∷ b / 16777216 ∷ []

-- the point with this index in cell (u, 0), at position (x, 0), with this strength
abbrev point : ℕ → ℕ → ℕ → ℕ → Point
point u i x strength = record { u = u; v = 0; index = i; x = x; y = 0; strength = strength }

-- "each point is u i32, v i32, index u32, x f32, y f32"
abbrev point_bytes : List Point → List ℕ
point_bytes [] = []
point_bytes (p ∷ ps) = word p.u ++ word p.v ++ word p.index ++ word p.x ++ word p.y ++ point_bytes ps

abbrev strength_bytes : List Point → List ℕ
strength_bytes [] = []
strength_bytes (p ∷ ps) = word p.strength ++ strength_bytes ps

-- "Tag 4 .. carries a fraction f32 and one strength f32 per point, in the points' order"
abbrev weights : ℕ → List Point → List ℕ
weights fraction ps = field 4 (word fraction ++ strength_bytes ps)

-- the file of these points, settings of length 4 with cell size 0, and their strengths
abbrev weighed_sheet : ℕ → List Point → List ℕ
weighed_sheet fraction ps = short_sheet (point_bytes ps) ++ weights fraction ps

-- patterns of 1, 2, 16,384, 16,385, −16,385, −0, infinity and NaN
abbrev one : ℕ
one = 0x3F80_0000

abbrev two : ℕ
two = 0x4000_0000

abbrev at_limit : ℕ
at_limit = 0x4680_0000

abbrev over_limit : ℕ
over_limit = 0x4680_0200

abbrev below_limit : ℕ
below_limit = 0xC680_0200

abbrev minus_zero : ℕ
minus_zero = 0x8000_0000

abbrev infinite : ℕ
infinite = 0x7F80_0000

abbrev not_anumber : ℕ
not_anumber = 0x7FC0_0000

-- This name on an `unfolding` line opens every definition that a file is read by.
unfoldable file-computes : Bool
unfolding ruling_of framing_of gate_from points_from strengths_from end_from field_at le16 le32 bad_flag bad_float settings_of edge_shape_of fraction_of defaults_for points_in of_bits sort short_sheet
file-computes = true

-- ---- accepted, and number 12

-- a point with strength 2, and fraction 1
abbrev alone : List Point
alone = point 3 7 one two ∷ []

abbrev weighed : ℕ → Settings
weighed fraction = defaults_for (f32 0) None (Given (f32 fraction))

pub one-weighed : ruling_of (weighed_sheet one alone) 28 ≡ accepted (weighed one) alone
unfolding file-computes
one-weighed = refl

-- after settings of length 21 and tag 2 its data begin at byte 70
pub all-fields : framing_of (field 1 (replicate 21 0) ++ field 2 (replicate 17 0) ++ field 3 (point_bytes alone) ++ weights one alone)
    ≡ Some (record { full = true; gated = true; points = 47; count = 1; weights = Some (record { at = 70; len = 8 }) })
unfolding file-computes
all-fields = refl

-- "a tag 4 that is not 4 bytes plus 4 per point": of length 0, though there is no result buffer either
pub empty-refused : ruling_of (short_sheet (point_bytes alone) ++ field 4 []) 0 ≡ refused 12
unfolding file-computes
empty-refused = refl

-- without points it has the fraction alone
pub none-weighed : ruling_of (weighed_sheet two []) 0 ≡ accepted (weighed two) []
unfolding file-computes
none-weighed = refl

pub none-empty : ruling_of (short_sheet [] ++ field 4 []) 0 ≡ refused 12
unfolding file-computes
none-empty = refl

-- ---- number 1: "optional, after tag 3"

-- before it
pub weights-first : ruling_of (field 1 (word 0) ++ weights one alone ++ field 3 (point_bytes alone)) 28 ≡ refused 1
unfolding file-computes
weights-first = refl

-- twice
pub weights-twice : ruling_of (weighed_sheet one alone ++ weights one alone) 28 ≡ refused 1
unfolding file-computes
weights-twice = refl

-- without its last byte
pub weights-cut : ruling_of (take 40 (weighed_sheet one alone)) 28 ≡ refused 1
unfolding file-computes
weights-cut = refl

-- ---- numbers 13 and 14

-- the fraction: NaN, and −16,385 without points
pub fraction-refused : ruling_of (weighed_sheet not_anumber alone) 28 ≡ refused 13
unfolding file-computes
fraction-refused = refl

pub fraction-alone : ruling_of (weighed_sheet below_limit []) 0 ≡ refused 13
unfolding file-computes
fraction-alone = refl

-- 16,384 is the most, and two points of one cell, of which one has a strength of 16,385, are refused with 13 and not with 8
pub most-passes : ruling_of (weighed_sheet one (point 0 7 0 at_limit ∷ [])) 28 ≡ accepted (weighed one) (point 0 7 0 at_limit ∷ [])
unfolding file-computes
most-passes = refl

pub before-cells : ruling_of (weighed_sheet one (point 0 7 0 one ∷ point 0 8 0 over_limit ∷ [])) 56 ≡ refused 13
unfolding file-computes
before-cells = refl

pub cells-refused : ruling_of (weighed_sheet one (point 0 7 0 one ∷ point 0 8 0 at_limit ∷ [])) 56 ≡ refused 8
unfolding file-computes
cells-refused = refl

-- an infinite position is refused with 7 and not with 13
pub after-positions : ruling_of (weighed_sheet one (point 0 7 infinite not_anumber ∷ [])) 28 ≡ refused 7
unfolding file-computes
after-positions = refl

-- one index whose strengths are 0 and −0 is refused with 14, and with 9 where its positions differ too
pub two-zeros : ruling_of (weighed_sheet one (point 0 7 0 0 ∷ point 1 7 0 minus_zero ∷ [])) 56 ≡ refused 14
unfolding file-computes
two-zeros = refl

pub positions-first : ruling_of (weighed_sheet one (point 0 7 0 0 ∷ point 1 7 one minus_zero ∷ [])) 56 ≡ refused 9
unfolding file-computes
positions-first = refl

-- the numbers of every file and buffer, in their order
pub order-shown : (file : List ℕ) (room : ℕ) → numbers_of (refusals_of file room) ≡ 1 ∷ 12 ∷ 2 ∷ 3 ∷ 4 ∷ 5 ∷ 6 ∷ 7 ∷ 13 ∷ 8 ∷ 9 ∷ 14 ∷ []
order-shown file room = numbers-are file room

-- ---- 12 before 2

-- no element is over 255
pub bytes-by : (file : List ℕ) → list_any (ltb 255) file ≡ false → Bytes file
bytes-by [] e zero = omega arith
bytes-by [] e (suc k) = omega arith
bytes-by (b ∷ file) e zero = omega (arith, ltb-false 255 b (or_parts (ltb 255 b) (list_any (ltb 255) file) e).0)
bytes-by (b ∷ file) e (suc k) = bytes-by file (or_parts (ltb 255 b) (list_any (ltb 255) file) e).1 k

module _ (n : ℕ) (body : List ℕ) where
  abbrev zeros : List ℕ
  zeros = replicate (20 * n) 0

  -- n points of zeros with a tag 4 of these data
  abbrev pub zeros_with : List ℕ
  zeros_with = zero_sheet n ++ field 4 body

  zeros-framed : n ≤ most_records → (w : WellFramed zeros_with) × (point_count w ≡ n) × (length w.weights ≡ 3 + length body)
  unfolding short_sheet
  zeros-framed l =
      let size = length-replicate {A = ℕ} (20 * n) 0 in
      let q : length zeros / 256 % 256 ≡ length zeros / 256 = omega arith in (
        record {
          settings = replicate 4 0;
          gate = [];
          points = zeros;
          weights = field 4 body;
          settings-size = inr refl;
          gate-optional = absent refl;
          twenties = omega arith;
          weights-optional = present body tt refl;
          in_order = rw q;
        },
        omega arith,
        omega arith,
      )

-- 2,305 points with a tag 4 of length 0
pub unfit-above-limit : (n : ℕ) → n ≡ 2305 → ruling_of (zeros_with n []) 0 ≡ refused 12
unfit-above-limit n e =
    let w = zeros-framed n [] (omega arith) in
    (limit (zeros_with n []) 0 (bytes-join (zero_sheet n) (field 4 []) (zero-bytes n) (bytes-by (field 4 []) refl))).twelve w.0 (unfit w.0 w.2)
  where
    unfit : (w : WellFramed (zeros_with n [])) → length w.weights ≡ 3 → WeightsFit w → ⊥
    unfit w s (inl z) = omega arith
    unfit w s (inr z) = omega arith

-- and with one of the right length
pub fit-above-limit : (n : ℕ) → n ≡ 2305 → ruling_of (zeros_with n (replicate (4 + 4 * n) 0)) 0 ≡ refused 2
fit-above-limit n e =
    let body : List ℕ = replicate (4 + 4 * n) 0 in
    let w = zeros-framed n body (omega arith) in
    more-refused (zeros_with n body) 0 w.0 (inr (omega (arith, w.1, w.2, length-replicate {A = ℕ} (4 + 4 * n) 0))) (omega (arith, w.1))

-- ---- another order

abbrev first : ℕ → Point
first strength = point 0 7 0 strength

abbrev second : ℕ → Point
second strength = point 1 8 one strength

-- strengths 1 and 2, and the points the other way round: with their strengths, and with these left where they were
abbrev pub listed : List ℕ
listed = weighed_sheet one (first one ∷ second two ∷ [])

abbrev pub turned : List ℕ
turned = weighed_sheet one (second two ∷ first one ∷ [])

abbrev pub left_behind : List ℕ
left_behind = weighed_sheet one (second one ∷ first two ∷ [])

pub listed-accepted : ruling_of listed 56 ≡ accepted (weighed one) (first one ∷ second two ∷ [])
unfolding file-computes
listed-accepted = refl

pub left-behind-accepted : ruling_of left_behind 56 ≡ accepted (weighed one) (first two ∷ second one ∷ [])
unfolding file-computes
left-behind-accepted = refl

pub listed-framed : framing_of listed ≡ Some (layout_of listed)
unfolding file-computes
listed-framed = refl

-- two files have the same byte at a position
abbrev pub same_byte : List ℕ → List ℕ → ℕ → Bool
same_byte file other k = eqb (get_or other k 0) (get_or file k 0)

-- the header, by a test of its bytes
pub headed-by : (file other : List ℕ) (f : Layout) → length other ≡ length file → every (same_byte file other) f.points ≡ true
    → every (λ (j : ℕ). same_byte file other (points_end f + j)) 7 ≡ true → Headed file other f
headed-by file other f size before after = record {
  size = size;
  head = λ k l. eqb-true (get_or other k 0) (get_or file k 0) (every-at (same_byte file other) f.points before k l);
  after = λ k l m.
      let j : points_end f + (k - points_end f) ≡ k = omega arith in
      eqb-true (get_or other k 0) (get_or file k 0) (rw j at (every-at (λ (j : ℕ). same_byte file other (points_end f + j)) 7 after (k - points_end f) (omega arith)));
}

pub turned-relisted : Relisted listed turned (layout_of listed)
unfolding file-computes records_in every
turned-relisted = record { rest = headed-by listed turned (layout_of listed) refl refl refl; records = Permᴰ.swap refl refl }

left-behind-headed : Headed listed left_behind (layout_of listed)
unfolding file-computes every
left-behind-headed = headed-by listed left_behind (layout_of listed) refl refl refl

listed-bytes : Bytes listed
unfolding short_sheet
listed-bytes = bytes-by listed refl

-- so what is ruled on the one is ruled on the other
pub turned-accepted : ruling_of turned 56 ≡ accepted (weighed one) (first one ∷ second two ∷ [])
turned-accepted = sym (same-ruling listed turned (layout_of listed) listed-bytes listed-framed turned-relisted 56) ∙ listed-accepted

-- "points listed in another order take their strengths with them": without that, their 20 bytes in another order may be ruled otherwise
abbrev pub without_strengths : List ℕ → Layout → List (List ℕ)
without_strengths file f = map (take 20) (records_in file f)

abbrev strength_in : Ruling → ℕ
strength_in (refused k) = 0
strength_in (accepted s ps) = (get_or ps 0 nowhere).strength

pub strengths-needed : ((file other : List ℕ) (f : Layout) → Bytes file → framing_of file ≡ Some f → Headed file other f → Permᴰ (without_strengths file f) (without_strengths other f)
    → (room : ℕ) → ruling_of file room ≡ ruling_of other room) → ⊥
unfolding file-computes records_in
strengths-needed h =
    let e = h listed left_behind (layout_of listed) listed-bytes listed-framed left-behind-headed left-behind-turned 56 in
    let z : one ≡ two = ap strength_in (sym listed-accepted ∙ e ∙ left-behind-accepted) in
    omega (arith, z)
  where
    left-behind-turned : Permᴰ (without_strengths listed (layout_of listed)) (without_strengths left_behind (layout_of listed))
    left-behind-turned = Permᴰ.swap refl refl
