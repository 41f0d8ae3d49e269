-- The moved file consists of bytes; it is the file with a added to every u and b to every v, and no other file is; and its cells are in range,
-- where the moved cells of the accepted points are. Assumes nothing.
use Rattle.std.specs.List.{list_any}
use Rattle.std.specs.Prelude.{Some}
use mathlib.Core.Path.{◌≡◌, sym, ap, ◌∙◌}
use mathlib.Core.Bool.{Bool, true, false, cond, not, ◌||◌}
use mathlib.Core.List.{List}
use Prim.{Dec, yes, no}
use Prim.Native.Nat.{ℕ, zero, suc, ◌+◌, ◌-◌, ◌*◌, ◌/◌, ◌%◌, ◌^◌, ◌≤◌, ◌<◌}
use native.Mathlib.Decide.{dec_lt}
use native.Mathlib.Nat.{div-div-eq-div-mul}
use native.Mathlib.Omega.{arith}
use lib.Dec.{ltb, leb}
use lib.IntN.{ℤ, pos, negsuc}
use lib.ListN.{length, get_or, get_or-eq_default}
use lib.Seq.{ext_get_or}
use mir.Syntax.{w32}
use mir.Val.{SFits, of_z, to_z}
use mir.ValLaws.{to_z-of_z, of_z-to_z}
use borrow.Author.Tests.{lt-ltb, le-ltb, le-leb, lt-leb}
use Rattle.folds.proofs.Among.{any-list}
use Rattle.folds.proofs.Below.{some-no}
use Rattle.folds.proofs.Lists.{length-list, list_at, list_over}
use Rattle.cells.specs.Points.{Point, nowhere}
use Rattle.cells.specs.Cell.{Cell, CellInRange, cell_of, signed, within, moved}
use Rattle.cells.proofs.Coordinates.{lift-range}
use Rattle.sort.proofs.Sorted.{sorted-has}
use Rattle.sheet_file.specs.Bytes.{Bytes, le32}
use Rattle.sheet_file.specs.Frame.{framing_of, layout_of, layout_in}
use Rattle.sheet_file.specs.declared.Layout.{Layout}
use Rattle.sheet_file.specs.declared.Settings.{Settings}
use Rattle.sheet_file.proofs.Words.{le32-small}
use Rattle.sheet_file.proofs.Fields.{framed-held}
use Rattle.points.specs.Records.{ith_point, points_in}
use Rattle.points.specs.Refusals.{off_range, comes_before}
use Rattle.points.proofs.Located.{length-points}
use Rattle.ruling.specs.Ruling.{accepted, ruling_of, points_of, applies}
use Rattle.ruling.specs.Header.{points_end, Headed}
use Rattle.ruling.specs.Offset.{FileDisplaced, byte_of, moved_byte, byte_moved, moved_file, StaysInRange}
use Rattle.ruling.proofs.Header.{frame_same}
use Rattle.ruling.proofs.Standing.{accepted-file}
use Rattle.std.proofs.Math.Bool.{or-true}

-- ---- a whole number in range, and its four bytes

fits : (z : ℤ) → within z ≡ true → SFits w32 z
fits (pos n) e = record { sfits = omega (arith, lift-range (pos n) e) }
fits (negsuc n) e = record { sfits = omega (arith, lift-range (negsuc n) e) }

pattern-small : (z : ℤ) → within z ≡ true → of_z w32 z < 2 ^ 32
pattern-small (pos n) e = omega (arith, lift-range (pos n) e)
pattern-small (negsuc n) e = omega arith

join : (b p q r s t u : ℕ) → b ≡ s + 256 * p → p ≡ t + 256 * q → q ≡ u + 256 * r → s + 256 * t + 65536 * u + 16777216 * r ≡ b
join b p q r s t u e f g = omega arith

split : (b : ℕ) → b ≡ b % 256 + 256 * (b / 256)
split b = omega arith

four_bytes : (b : ℕ) → b < 2 ^ 32 → b / 256 ^ 0 % 256 + 256 * (b / 256 ^ 1 % 256) + 65536 * (b / 256 ^ 2 % 256) + 16777216 * (b / 256 ^ 3 % 256) ≡ b
four_bytes b h =
    let one : b / 256 ^ 0 ≡ b = omega arith in
    let two : b / 65536 ≡ b / 256 / 256 = sym (div-div-eq-div-mul b 256 256) in
    let three : b / 16777216 ≡ b / 65536 / 256 = sym (div-div-eq-div-mul b 65536 256) in
    let last : b / 16777216 % 256 ≡ b / 16777216 = omega arith in
    rw (one, last, three, two) (join b (b / 256) (b / 256 / 256) (b / 256 / 256 / 256) _ _ _ (split b) (split (b / 256)) (split (b / 256 / 256)))

-- what is read of the four bytes of z is z
read_back : (file : List ℕ) (at : ℕ) (z : ℤ) → within z ≡ true → ((j : ℕ) → j < 4 → get_or file (at + j) 0 ≡ byte_of z j) → signed (le32 file at) ≡ z
unfolding le32
read_back file at z e h =
    let o : at + 0 ≡ at = omega arith in
    let first : get_or file at 0 ≡ byte_of z 0 = rw o at (h 0 (omega arith)) in
    let read : le32 file at ≡ of_z w32 z = rw (first, h 1 (omega arith), h 2 (omega arith), h 3 (omega arith)) (four_bytes (of_z w32 z) (pattern-small z e)) in
    ap (to_z w32) read ∙ to_z-of_z w32 z (fits z e)

-- and the four bytes of which z is read are those of z
digits : (b s t u v : ℕ) → s < 256 → t < 256 → u < 256 → v < 256 → s + 256 * t + 65536 * u + 16777216 * v ≡ b
    → (s ≡ b / 1 % 256) × (t ≡ b / 256 % 256) × (u ≡ b / 65536 % 256) × (v ≡ b / 16777216 % 256)
digits b s t u v hs ht hu hv e = (omega arith, omega arith, omega arith, omega arith)

byte-of : (file : List ℕ) (at : ℕ) (z : ℤ) → Bytes file → signed (le32 file at) ≡ z → (j : ℕ) → j < 4 → get_or file (at + j) 0 ≡ byte_of z j
unfolding le32
byte-of file at z bytes e = go
  where
    pattern : le32 file at ≡ of_z w32 z
    pattern = sym (of_z-to_z w32 (le32 file at) (record { fits = le32-small file bytes at })) ∙ ap (of_z w32) e

    all : (get_or file at 0 ≡ byte_of z 0) × (get_or file (at + 1) 0 ≡ byte_of z 1) × (get_or file (at + 2) 0 ≡ byte_of z 2) × (get_or file (at + 3) 0 ≡ byte_of z 3)
    all = digits (of_z w32 z) _ _ _ _ (bytes at) (bytes (at + 1)) (bytes (at + 2)) (bytes (at + 3)) pattern

    go : (j : ℕ) → j < 4 → get_or file (at + j) 0 ≡ byte_of z j
    go zero h = let o : at + 0 ≡ at = omega arith in rw o all.0
    go (suc zero) h = all.1
    go (suc (suc zero)) h = all.2
    go (suc (suc (suc zero))) h = all.3
    go (suc (suc (suc (suc j)))) h = absurd (omega arith)

-- ---- the file

module _ (file : List ℕ) (a b : ℤ) where
  abbrev f : Layout
  f = layout_of file

  abbrev other : List ℕ
  other = moved_file file a b

  abbrev place : ℕ → ℕ
  place i = f.points + 20 * i

  -- the moved cell of point i
  abbrev cell_at : ℕ → Cell
  cell_at i = moved a b (cell_of (ith_point file f i))

  moved_at : (k : ℕ) → k < length file → get_or other k 0 ≡ byte_moved file a b k
  unfolding moved_file
  moved_at k h = list_at (length file) (byte_moved file a b) k 0 h

  -- the moved file consists of bytes
  pub moved-bytes : Bytes file → Bytes other
  unfolding moved_file
  moved-bytes bytes k = go (dec_lt k (length file))
    where
      either : (t : Bool) (x y : ℕ) → x < 256 → y < 256 → cond t x y < 256
      either true x y h l = h
      either false x y h l = l

      small : (at j : ℕ) → moved_byte file a b at j < 256
      small at j = either (ltb j 4) _ _ (omega arith) (either (ltb j 8) _ _ (omega arith) (bytes (at + j)))

      go : Dec (k < length file) → get_or other k 0 < 256
      go (yes h) = rw (moved_at k h) (either (ltb k f.points || leb (points_end f) k) _ _ (bytes k) (small (place ((k - f.points) / 20)) ((k - f.points) % 20)))
      go (no h) = rw (list_over (length file) (byte_moved file a b) k 0 (omega (arith, h))) (omega arith)

  module _ (framed : framing_of file ≡ Some f) where
    size-stays : length other ≡ length file
    unfolding moved_file
    size-stays = length-list (length file) (byte_moved file a b)

    head-stays : (k : ℕ) → k < f.points → get_or other k 0 ≡ get_or file k 0
    head-stays k h = moved_at k (omega (arith, (framed-held file f framed).fit)) ∙ rw (lt-ltb k f.points h)

    after-stays : (k : ℕ) → points_end f ≤ k → get_or other k 0 ≡ get_or file k 0
    after-stays k h = go (dec_lt k (length file))
      where
        go : Dec (k < length file) → get_or other k 0 ≡ get_or file k 0
        go (yes l) = moved_at k l ∙ rw (le-leb (points_end f) k h, or-true (ltb k f.points))
        go (no l) = get_or-eq_default other 0 {n = k} (omega (arith, l, size-stays)) ∙ sym (get_or-eq_default file 0 {n = k} (omega (arith, l)))

    headed : Headed file other f
    headed = record { size = size-stays; head = head-stays; after = λ k l m. after-stays k l }

    point-byte : (i j : ℕ) → i < f.count → j < 20 → get_or other (place i + j) 0 ≡ moved_byte file a b (place i) j
    point-byte i j h l =
        let q : (place i + j - f.points) / 20 ≡ i = omega arith in
        let r : (place i + j - f.points) % 20 ≡ j = omega arith in
        moved_at (place i + j) (omega (arith, (framed-held file f framed).fit)) ∙ rw (le-ltb (place i + j) f.points (omega arith), lt-leb (points_end f) (place i + j) (omega arith), q, r)

    u-byte : (i j : ℕ) → i < f.count → j < 4 → get_or other (place i + j) 0 ≡ byte_of (cell_at i).u j
    u-byte i j h l = point-byte i j h (omega arith) ∙ rw (lt-ltb j 4 l)

    v-byte : (i j : ℕ) → i < f.count → j < 4 → get_or other (place i + 4 + j) 0 ≡ byte_of (cell_at i).v j
    v-byte i j h l =
        let e : place i + 4 + j ≡ place i + (4 + j) = omega arith in
        let d : 4 + j - 4 ≡ j = omega arith in
        rw e (point-byte i (4 + j) h (omega arith) ∙ rw (le-ltb (4 + j) 4 (omega arith), lt-ltb (4 + j) 8 (omega arith), d))

    -- and no other file is the file with a added to every u and b to every v
    pub only-moved : (file' : List ℕ) → Bytes file' → FileDisplaced file file' f a b → file' ≡ other
    only-moved file' bytes o =
        ext_get_or 0 file' other (o.size ∙ sym size-stays) (λ k h. each k (dec_lt k f.points) (dec_lt k (points_end f)))
      where
        byte : (i j : ℕ) → i < f.count → j < 20 → Dec (j < 4) → Dec (j < 8) → get_or file' (place i + j) 0 ≡ moved_byte file a b (place i) j
        byte i j h l (yes u) e = rw (lt-ltb j 4 u) (byte-of file' (place i) (cell_at i).u bytes (ap (λ (c : Cell). c.u) (o.cell i h)) j u)
        byte i j h l (no u) (yes v) =
            let e : place i + j ≡ place i + 4 + (j - 4) = omega (arith, u) in
            rw (le-ltb j 4 (omega (arith, u)), lt-ltb j 8 v, e)
            (byte-of file' (place i + 4) (cell_at i).v bytes (ap (λ (c : Cell). c.v) (o.cell i h)) (j - 4) (omega arith))
        byte i j h l (no u) (no v) = rw (le-ltb j 4 (omega (arith, u)), le-ltb j 8 (omega (arith, v))) (o.rest i j h (omega (arith, v)) l)

        each : (k : ℕ) → Dec (k < f.points) → Dec (k < points_end f) → get_or file' k 0 ≡ get_or other k 0
        each k (yes l) d = o.head k l ∙ sym (head-stays k l)
        each k (no l) (no m) = o.after k (omega (arith, m)) ∙ sym (after-stays k (omega (arith, m)))
        each k (no l) (yes m) =
            let i = (k - f.points) / 20 in
            let j = (k - f.points) % 20 in
            let e : k ≡ place i + j = omega (arith, l) in
            let hi : i < f.count = omega (arith, l, m) in
            let hj : j < 20 = omega arith in
            rw e (byte i j hi hj (dec_lt j 4) (dec_lt j 8) ∙ sym (point-byte i j hi hj))

    module _ (in-range : (i : ℕ) → i < f.count → CellInRange (cell_at i)) where
      cell-moved : (i : ℕ) → i < f.count → cell_of (ith_point other f i) ≡ cell_at i
      cell-moved i h =
          let u = read_back other (place i) (cell_at i).u (in-range i h).u (λ j l. u-byte i j h l) in
          let v = read_back other (place i + 4) (cell_at i).v (in-range i h).v (λ j l. v-byte i j h l) in
          rw (u, v)

      offset-by : FileDisplaced file other f a b
      offset-by = record {
        size = size-stays;
        head = head-stays;
        after = after-stays;
        cell = cell-moved;
        rest = λ i j h l m. point-byte i j h m ∙ rw (le-ltb j 4 (omega arith), le-ltb j 8 l);
      }

      -- "In range means that the condition of number 6 fails."
      six-fails : (room : ℕ) → applies other room 6 ≡ false
      unfolding applies points_in
      six-fails room =
          let off : Cell → Bool = λ c. not (within c.u) || not (within c.v) in
          let same : layout_of other ≡ f = ap layout_in (frame_same file other f framed headed) in
          ap (λ (g : Layout). list_any off_range (points_in other g)) same
          ∙ any-list (ith_point other f) f.count off_range
          ∙ some-no (λ (i : ℕ). off_range (ith_point other f i)) f.count (λ i h. ap off (cell-moved i h) ∙ rw ((in-range i h).u, (in-range i h).v))

  -- ---- of an accepted file

  module _ (room : ℕ) (s : Settings) (ps : List Point) (e : ruling_of file room ≡ accepted s ps) (in-range : StaysInRange a b ps) where
    each-in-range : (i : ℕ) → i < f.count → CellInRange (cell_at i)
    unfolding points_in
    each-in-range i h =
        let are = (accepted-file file room s ps e).points-are in
        let at = sorted-has comes_before nowhere (points_of file) i (omega (arith, length-points file f)) in
        let listed = list_at f.count (ith_point file f) i nowhere h in
        let same : get_or ps at.place nowhere ≡ ith_point file f i = ap (λ (l : List Point). get_or l at.place nowhere) are ∙ sym at.is ∙ listed in
        rw same at (in-range at.place (omega (arith, at.below, ap length are)))

    pub moved-offset : FileDisplaced file other f a b
    moved-offset = offset-by (accepted-file file room s ps e).framed each-in-range

    pub moved-in-range : applies other room 6 ≡ false
    moved-in-range = six-fails (accepted-file file room s ps e).framed each-in-range room
