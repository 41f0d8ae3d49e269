-- "Length 4 gives the cell size only", and (document 02, A.9) "the default line minimum becomes 4 for length-4 settings": a file with settings of
-- length 4 is ruled as the one with all 21 bytes and 4, whatever bytes follow. Assumes nothing.
use Rattle.std.specs.List.{list_any}
use Rattle.std.specs.Prelude.{Option, Some, None, is_some, unwrap_or}
use Rattle.std.proofs.Math.Bool.{and-false, or-false}
use mathlib.Core.Path.{◌≡◌, refl, sym, ap, ◌∙◌, fun_ext}
use mathlib.Core.Bool.{Bool, true, false, cond, not, ◌&&◌, ◌||◌}
use mathlib.Core.List.{List, [], ◌∷◌, ◌++◌}
use Prim.Native.Nat.{ℕ, ◌+◌, ◌*◌, ◌/◌, ◌%◌}
use native.Mathlib.Omega.{arith}
use lib.Dec.{eqb, leb}
use lib.ListN.{length, length-append}
use lib.Seq.{get_or-append-add}
use lib.Ieee.{Float, of_bits}
use borrow.Author.Tests.{leb-true, le-leb}
use Rattle.folds.specs.Arith.{f32}
use Rattle.folds.specs.Lists.{list_of}
use Rattle.std.specs.Cmp.{both_ways}
use Rattle.refusals.specs.First.{ruled}
use Rattle.cells.proofs.Keys.{same_test}
use Rattle.sheet_file.specs.Bytes.{byte_at, le16, le32, little_endian}
use Rattle.sheet_file.specs.Frame.{field_at, end_from, weighed_at, unweighed, strengths_from, points_from, gate_from, framing_of, layout_in, gate_start}
use Rattle.sheet_file.specs.Grammar.{field}
use Rattle.sheet_file.specs.Limit.{outside}
use Rattle.sheet_file.specs.Refusals.{float_at, defaults_for, settings_in, gate_in, edge_shape_of, fraction_in, fraction_of, settings_of, misfit, too_many, too_short, bad_flag, settings_floats, gate_floats, bad_float, header_refusals}
use Rattle.sheet_file.specs.declared.EdgeShapeParams.{EdgeShapeParams}
use Rattle.sheet_file.specs.declared.Fraction.{Fraction}
use Rattle.sheet_file.specs.declared.Fraction.TheVariants.{Missing}
use Rattle.sheet_file.specs.declared.Layout.{Layout}
use Rattle.sheet_file.specs.declared.Weights.{Weights}
use Rattle.sheet_file.proofs.Fields.{points-from-is}
use Rattle.sheet_file.proofs.Words.{le16-same}
use Rattle.points.specs.Records.{ith_strength, points_in}
use Rattle.ruling.specs.Ruling.{Ruling, refused, ruling_for, ruling_of}
use Rattle.ruling.proofs.Given.{by-points}
use Rattle.written_file.specs.File.{spelled_out}
use Rattle.written_file.specs.Spelled.{settled}
use Rattle.written_file.proofs.Parts.{second-part, word_after, point-after, gate-same}

-- ---- after some first bytes every field stands as without them, so much later

module _ (p rest : List ℕ) (full : Bool) where
  abbrev file : List ℕ
  file = p ++ rest

  byte-after : (at k : ℕ) → at ≡ length p + k → byte_at file at ≡ byte_at rest k
  byte-after at k e = rw e (get_or-append-add p rest k 0)

  half-after : (at k : ℕ) → at ≡ length p + k → le16 file at ≡ le16 rest k
  half-after at k e = rw e (le16-same rest k file (length p + k) (second-part p rest 2 k))

  field-after : (at k tag n : ℕ) → at ≡ length p + k → field_at file at tag n ≡ field_at rest k tag n
  unfolding field_at
  field-after at k tag n e =
      let fits : leb (at + 3 + n) (length file) ≡ leb (k + 3 + n) (length rest) =
      both_ways (leb (at + 3 + n) (length file)) (leb (k + 3 + n) (length rest))
      (λ t. le-leb (k + 3 + n) (length rest) (omega (arith, length-append p rest, leb-true (at + 3 + n) (length file) t)))
      (λ t. le-leb (at + 3 + n) (length file) (omega (arith, length-append p rest, leb-true (k + 3 + n) (length rest) t))) in
      rw (fits, byte-after at k e, half-after (at + 1) (k + 1) (omega arith))

  abbrev later : Option Weights → Option Weights
  later None = None
  later (Some w) = Some (record { at = length p + w.at; len = w.len })

  -- the layout so much later
  abbrev moved : Layout → Layout
  moved f = record { full = full; gated = f.gated; points = length p + f.points; count = f.count; weights = later f.weights }

  abbrev moved_in : Option Layout → Option Layout
  moved_in None = None
  moved_in (Some f) = Some (moved f)

  either : (b c : Bool) (x y : Option Layout) {v w : Option Layout} → b ≡ c → v ≡ moved_in x → w ≡ moved_in y → cond b v w ≡ moved_in (cond c x y)
  either b true x y e g h = rw (e, g)
  either b false x y e g h = rw (e, h)

  end-after : (at k : ℕ) (f : Layout) → at ≡ length p + k → end_from file at (moved f) ≡ moved_in (end_from rest k f)
  unfolding end_from
  end-after at k f e =
      either (eqb at (length file)) (eqb k (length rest)) (Some f) None (same_test at (length file) k (length rest) (length p) 0 (omega arith) (omega (arith, length-append p rest))) refl refl

  strengths-after : (at k : ℕ) (f : Layout) → at ≡ length p + k → strengths_from file at (moved f) ≡ moved_in (strengths_from rest k f)
  unfolding strengths_from
  strengths-after at k f e =
      let n = le16 rest (k + 1) in
      let g = weighed_at f (k + 3) n in
      let three : at + 3 ≡ length p + (k + 3) = omega arith in
      rw (half-after (at + 1) (k + 1) (omega arith), three)
      (either (field_at file at 4 n) (field_at rest k 4 n) (end_from rest (k + 3 + n) g) (end_from rest k f) (field-after at k 4 n e) (end-after (length p + (k + 3) + n) (k + 3 + n) g (omega arith)) (end-after at k f e))

  points-after : (at k : ℕ) (gated : Bool) → at ≡ length p + k → points_from file at full gated ≡ moved_in (points_from rest k false gated)
  points-after at k gated e =
      let n = le16 rest (k + 1) in
      let g = unweighed false gated (k + 3) (n / 20) in
      let t = eqb (n % 20) 0 in
      let three : at + 3 ≡ length p + (k + 3) = omega arith in
      rw (points-from-is file at full gated, points-from-is rest k false gated, half-after (at + 1) (k + 1) (omega arith), three)
      (either (field_at file at 3 n && t) (field_at rest k 3 n && t) (strengths_from rest (k + 3 + n) g) None (ap (λ (b : Bool). b && t) (field-after at k 3 n e)) (strengths-after (length p + (k + 3) + n) (k + 3 + n) g (omega arith)) refl)

  gate-after : (at k : ℕ) → at ≡ length p + k → gate_from file at full ≡ moved_in (gate_from rest k false)
  unfolding gate_from
  gate-after at k e =
      either (field_at file at 2 17) (field_at rest k 2 17) (points_from rest (k + 20) false true) (points_from rest k false false) (field-after at k 2 17 e) (points-after (at + 20) (k + 20) true (omega arith)) (points-after at k false e)

  -- ---- and it is read so

  weights-after : {A : Type 0} (x : Option Weights) (none : A) (old new : Weights → A) → ((w : Weights) → new (record { at = length p + w.at; len = w.len }) ≡ old w)
      → cond (is_some (later x)) (new (unwrap_or (later x) (record { at = 0; len = 0 }))) none ≡ cond (is_some x) (old (unwrap_or x (record { at = 0; len = 0 }))) none
  weights-after None none old new e = refl
  weights-after (Some w) none old new e = e w

  misfit-same : (f : Layout) → misfit (moved f) ≡ misfit f
  misfit-same f = go f.weights
    where
      go : (x : Option Weights) → is_some (later x) && not (eqb (unwrap_or (later x) (record { at = 0; len = 0 })).len (4 + 4 * f.count)) ≡ is_some x && not (eqb (unwrap_or x (record { at = 0; len = 0 })).len (4 + 4 * f.count))
      go None = refl
      go (Some w) = refl

  fraction-read : (f : Layout) → fraction_of file (moved f) ≡ fraction_of rest f
  unfolding fraction_of
  fraction-read f =
      weights-after f.weights Missing (λ w. fraction_in (float_at rest w.at)) (λ w. fraction_in (float_at file w.at)) (λ w. ap (λ (b : ℕ). fraction_in (f32 b)) (word_after p rest (length p + w.at) w.at refl))

  strength-read : (f : Layout) (i : ℕ) → ith_strength file (moved f) i ≡ ith_strength rest f i
  strength-read f i =
      weights-after f.weights 0 (λ w. le32 rest (w.at + 4 + 4 * i)) (λ w. le32 file (w.at + 4 + 4 * i)) (λ w. word_after p rest (length p + w.at + 4 + 4 * i) (w.at + 4 + 4 * i) (omega arith))

  points-read : (f : Layout) → points_in file (moved f) ≡ points_in rest f
  unfolding points_in
  points-read f = ap (list_of f.count) (fun_ext (λ (i : ℕ). point-after p rest (length p + f.points + 20 * i) (f.points + 20 * i) (ith_strength file (moved f) i) (omega arith) ∙ rw (strength-read f i)))

  gate-read : gate_start full ≡ length p + 3 → (gate_in file (gate_start full) ≡ gate_in rest 3) × (list_any outside (gate_floats file (gate_start full)) ≡ list_any outside (gate_floats rest 3))
  gate-read e = let g = gate-same rest 3 file (length p + 3) (second-part p rest 17 3) in rw e (g.0, ap (list_any outside) g.1)

  -- the first bytes are tag 1, and say no more than this cell size
  record Plain (size : Float) : Type 0 where
    framing : framing_of file ≡ gate_from file (length p) full
    start : gate_start full ≡ length p + 3
    settings : (g : Option EdgeShapeParams) (x : Fraction) → cond full (settings_in file g x) (defaults_for (float_at file 3) g x) ≡ defaults_for size g x
    flags : (f : Layout) → bad_flag file (moved f) ≡ false
    floats : list_any outside (settings_floats file full) ≡ outside size

-- by the cell size, the bytes after tag 1 and their framing
abbrev ruled_after : Float → List ℕ → ℕ → Option Layout → Ruling
ruled_after size rest room None = refused 1
ruled_after size rest room (Some f) =
    ruled refused (ruling_for (defaults_for size (cond f.gated (Some (gate_in rest 3)) None) (fraction_of rest f)) (points_in rest f))
    ((12, misfit f) ∷ (2, too_many f.count) ∷ (3, too_short room f.count) ∷ (5, outside size || f.gated && list_any outside (gate_floats rest 3)) ∷ [])

plain-ruled : (p rest : List ℕ) (full : Bool) (size : Float) → Plain p rest full size → (room : ℕ) → ruling_of (p ++ rest) room ≡ ruled_after size rest room (gate_from rest 0 false)
unfolding header_refusals settings_of edge_shape_of bad_float
plain-ruled p rest full size h room = by-points (p ++ rest) room ∙ rw (h.framing, gate-after p rest full (length p) 0 (omega arith)) (go (gate_from rest 0 false))
  where
    go : (x : Option Layout) → let y = moved_in p rest full x in ruled refused (ruling_for (settings_of (p ++ rest) (layout_in y)) (points_in (p ++ rest) (layout_in y))) (header_refusals (p ++ rest) room y) ≡ ruled_after size rest room x
    go None = refl
    go (Some f) =
        let g = gate-read p rest full h.start in
        rw (misfit-same p rest full f, h.flags f, h.floats, fraction-read p rest full f, points-read p rest full f, g.0, g.1, h.settings (cond f.gated (Some (gate_in rest 3)) None) (fraction_of rest f))

-- ---- tag 1 of length 21 and of length 4

module _ (size : ℕ) (rest : List ℕ) where
  abbrev cell_size : Float
  cell_size = f32 (le32 (little_endian size) 0)

  long : Plain (field 1 (spelled_out size 4)) rest true cell_size
  unfolding framing_of field_at le16 le32 settings_in defaults_for bad_flag of_bits
  long = record { framing = rw (le-leb 24 (length (settled (spelled_out size 4) rest)) (omega arith)); start = refl; settings = λ g x. refl; flags = λ f. refl; floats = or-false (outside cell_size) }

  short : Plain (field 1 (little_endian size)) rest false cell_size
  unfolding framing_of field_at le16 le32 defaults_for bad_flag
  short = record { framing = rw (and-false (leb 24 (length (settled (little_endian size) rest))), le-leb 7 (length (settled (little_endian size) rest)) (omega arith)); start = refl; settings = λ g x. refl; flags = λ f. refl; floats = or-false (outside cell_size) }

-- the same settings, and whatever follows
pub short-spelled : (size : ℕ) (rest : List ℕ) (room : ℕ) → ruling_of (settled (spelled_out size 4) rest) room ≡ ruling_of (settled (little_endian size) rest) room
short-spelled size rest room =
    plain-ruled (field 1 (spelled_out size 4)) rest true (cell_size size rest) (long size rest) room ∙ sym (plain-ruled (field 1 (little_endian size)) rest false (cell_size size rest) (short size rest) room)
