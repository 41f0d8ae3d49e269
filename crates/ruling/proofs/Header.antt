-- What is read of a file but for its points depends on its length, on the bytes before the points and on the first seven of tag 4 alone, and
-- little of it on the two switches. Assumes nothing.
use Rattle.std.specs.List.{list_any}
use Rattle.std.specs.Prelude.{None, Option, Some, is_some}
use mathlib.Core.Path.{◌≡◌, refl, sym, ap, ◌∙◌}
use mathlib.Core.Bool.{Bool, true, false, cond, ◌&&◌, ◌||◌, true≢false}
use mathlib.Core.List.{List, [], ◌∷◌}
use mathlib.Core.Logic.{◌⊎◌, inl, inr}
use Prim.Native.Nat.{ℕ, ◌+◌, ◌*◌, ◌/◌, ◌≤◌, ◌<◌}
use native.Mathlib.Omega.{arith}
use lib.Ieee.{Float}
use lib.ListN.{length, get_or}
use Rattle.folds.proofs.Below.{and-under}
use Rattle.refusals.specs.First.{ruled}
use Rattle.sheet_file.specs.declared.EdgeShapeParams.{EdgeShapeParams}
use Rattle.sheet_file.specs.Bytes.{byte_at, le16, le32}
use Rattle.sheet_file.specs.Limit.{outside}
use Rattle.sheet_file.specs.Frame.{field_at, unweighed, strengths_from, points_from, gate_from, framing_of, gate_start, weights_of}
use Rattle.sheet_file.specs.Refusals.{float_at, defaults_for, settings_in, gate_in, edge_shape_of, fraction_in, fraction_of, settings_of, bad_flag, settings_floats, gate_floats, bad_float, header_refusals}
use Rattle.sheet_file.specs.declared.Layout.{Layout}
use Rattle.sheet_file.specs.declared.Fraction.{Fraction}
use Rattle.sheet_file.specs.declared.Fraction.TheVariants.{Missing}
use Rattle.sheet_file.proofs.Words.{le16-same, le32-same}
use Rattle.sheet_file.proofs.Fields.{field_in, points-from-is, StrengthsAt, strengths-there, strengths-absent, GateAt, gate-there, gate-absent, Fields, full-settings, short-settings, fields-of, points-in, before-points, strengths-after}
use Rattle.points.specs.Records.{points_in, ith_strength}
use Rattle.ruling.specs.Ruling.{refused, ruling_for, ruling_of}
use Rattle.ruling.specs.Header.{points_end, Headed}
use Rattle.ruling.specs.Switches.{switched}
use Rattle.ruling.proofs.Given.{by-points}

-- other is as long as file, and has its bytes before the points, but for the switches, which only settings of length 21 have, and after them
-- the tag, the length and the fraction of tag 4
pub record SameHeader (file other : List ℕ) (f : Layout) : Type 0 where
  pub size : length other ≡ length file
  pub same : (k : ℕ) → k < f.points → (f.full ≡ true → (k < 22) ⊎ (24 ≤ k)) → get_or other k 0 ≡ get_or file k 0
  pub after : (k : ℕ) → points_end f ≤ k → k < points_end f + 7 → get_or other k 0 ≡ get_or file k 0

module _ (file other : List ℕ) (f : Layout) (framed : framing_of file ≡ Some f) (h : SameHeader file other f) where
  -- ---- before the switches, and after them

  low : (k : ℕ) → k < 22 → k < f.points → get_or other k 0 ≡ get_or file k 0
  low k l m = h.same k m (λ t. inl l)

  low_half : (at : ℕ) → at + 2 ≤ 22 → at + 2 ≤ f.points → le16 other at ≡ le16 file at
  low_half at l m = le16-same file at other at (λ k b. low (at + k) (omega arith) (omega arith))

  low_word : (at : ℕ) → at + 4 ≤ 22 → at + 4 ≤ f.points → le32 other at ≡ le32 file at
  low_word at l m = le32-same file at other at (λ k b. low (at + k) (omega arith) (omega arith))

  abbrev Late : ℕ → Type 0
  Late at = f.full ≡ true → 24 ≤ at

  late : (k : ℕ) → Late k → k < f.points → get_or other k 0 ≡ get_or file k 0
  late k l m = h.same k m (λ t. inr (l t))

  late-half : (at : ℕ) → Late at → at + 2 ≤ f.points → le16 other at ≡ le16 file at
  late-half at l m = le16-same file at other at (λ k b. late (at + k) (λ t. omega (arith, l t)) (omega arith))

  late-word : (at : ℕ) → Late at → at + 4 ≤ f.points → le32 other at ≡ le32 file at
  late-word at l m = le32-same file at other at (λ k b. late (at + k) (λ t. omega (arith, l t)) (omega arith))

  -- ---- the fields

  field-by : (at tag n : ℕ) → get_or other at 0 ≡ get_or file at 0 → le16 other (at + 1) ≡ le16 file (at + 1) → field_at other at tag n ≡ field_at file at tag n
  unfolding field_at
  field-by at tag n e q = rw (h.size, e, q)

  late-field : (at tag n : ℕ) → Late at → at + 3 ≤ f.points → field_at other at tag n ≡ field_at file at tag n
  late-field at tag n l m = field-by at tag n (late at l (omega arith)) (late-half (at + 1) (λ t. omega (arith, l t)) (omega arith))

  -- tag 4, or the end
  after-half : (at : ℕ) → points_end f ≤ at → at + 2 ≤ points_end f + 7 → le16 other at ≡ le16 file at
  after-half at l m = le16-same file at other at (λ k b. h.after (at + k) (omega arith) (omega arith))

  after-word : (at : ℕ) → points_end f ≤ at → at + 4 ≤ points_end f + 7 → le32 other at ≡ le32 file at
  after-word at l m = le32-same file at other at (λ k b. h.after (at + k) (omega arith) (omega arith))

  strengths-same : (g : Layout) → strengths_from other (points_end f) g ≡ strengths_from file (points_end f) g
  unfolding strengths_from
  strengths-same g =
      let at = points_end f in
      let n : le16 other (at + 1) ≡ le16 file (at + 1) = after-half (at + 1) (omega arith) (omega arith) in
      rw (h.size, n, field-by at 4 (le16 file (at + 1)) (h.after at (omega arith) (omega arith)) n)

  points-same : (at : ℕ) (full gated : Bool) → Late at → points_from file at full gated ≡ Some f → points_from other at full gated ≡ Some f
  points-same at full gated l e =
      let p = points-in file f at full gated e in
      let s = (field_in file at 3 (20 * f.count) p.field-there).size_is in
      let m : at + 3 ≤ f.points = omega (arith, p.points-at) in
      let q : at + 3 + le16 file (at + 1) ≡ points_end f = omega (arith, s, p.points-at) in
      let n : le16 other (at + 1) ≡ le16 file (at + 1) = late-half (at + 1) (λ t. omega (arith, l t)) (omega arith) in
      rw (points-from-is other at full gated, n, late-field at 3 (le16 file (at + 1)) l m, q, strengths-same (unweighed full gated (at + 3) (le16 file (at + 1) / 20)))
      (rw (points-from-is file at full gated, q) at e)

  gate_same : (at : ℕ) (full : Bool) → Late at → GateAt file f at full → gate_from other at full ≡ Some f
  unfolding gate_from
  gate_same at full l (gate-there u e) =
      let p : at + 3 ≤ f.points = omega (arith, (points-in file f (at + 20) full true e).points-at) in
      rw (late-field at 2 17 l p, u) (points-same (at + 20) full true (λ t. omega (arith, l t)) e)
  gate_same at full l (gate-absent u e) =
      let p : at + 3 ≤ f.points = omega (arith, (points-in file f at full false e).points-at) in
      rw (late-field at 2 17 l p, u) (points-same at full false l e)

  full_is : (at : ℕ) (full : Bool) → GateAt file f at full → f.full ≡ full
  full_is at full (gate-there u e) = (points-in file f (at + 20) full true e).full_is
  full_is at full (gate-absent u e) = (points-in file f at full false e).full_is

  frame-alike : framing_of other ≡ Some f
  unfolding framing_of
  frame-alike = go (fields-of file f framed)
    where
      first : (n : ℕ) → field_at other 0 1 n ≡ field_at file 0 1 n
      first n = let b = before-points file f framed in field-by 0 1 n (low 0 (omega arith) (omega arith)) (low_half 1 (omega arith) (omega arith))

      go : Fields file f → cond (field_at other 0 1 21) (gate_from other 24 true) (cond (field_at other 0 1 4) (gate_from other 7 false) None) ≡ Some f
      go (full-settings u g) = rw (first 21, u) (gate_same 24 true (λ t. omega arith) g)
      go (short-settings v u g) = rw (first 21, v, first 4, u) (gate_same 7 false (λ t. absurd (true≢false (sym t ∙ full_is 7 false g))) g)

  -- ---- the gate, which stands after the switches

  gate-late : (b : Bool) → (b ≡ true → 24 ≤ gate_start b)
  gate-late true t = omega arith
  gate-late false t = absurd (true≢false (sym t))

  gate-word : (at : ℕ) → Late at → at + 17 ≤ f.points → (j : ℕ) → j + 4 ≤ 17 → le32 other (at + j) ≡ le32 file (at + j)
  gate-word at l m j b = late-word (at + j) (λ t. omega (arith, l t)) (omega arith)

  gate-floats : (at : ℕ) → Late at → at + 17 ≤ f.points → gate_floats other at ≡ gate_floats file at
  gate-floats at l m =
      let word = gate-word at l m in
      rw (word 1 (omega arith), word 5 (omega arith), word 9 (omega arith), word 13 (omega arith))

  gate-in-same : (at : ℕ) → Late at → at + 17 ≤ f.points → gate_in other at ≡ gate_in file at
  unfolding gate_in
  gate-in-same at l m =
      let word = gate-word at l m in
      rw (late at l (omega arith), word 1 (omega arith), word 5 (omega arith), word 9 (omega arith), word 13 (omega arith))

  edge_same : edge_shape_of other f ≡ edge_shape_of file f
  unfolding edge_shape_of
  edge_same = go f.gated (before-points file f framed).gate
    where
      go : (b : Bool) → (b ≡ true → gate_start f.full + 17 ≤ f.points) → cond b (Some (gate_in other (gate_start f.full))) None ≡ cond b (Some (gate_in file (gate_start f.full))) None
      go true l = rw (gate-in-same (gate_start f.full) (gate-late f.full) (l refl))
      go false l = refl

  -- ---- the settings

  settings-floats : settings_floats other f.full ≡ settings_floats file f.full
  settings-floats = rw (low_word 3 (omega arith) (omega (arith, (before-points file f framed).short))) (go f.full (before-points file f framed).long)
    where
      go : (b : Bool) → (b ≡ true → 27 ≤ f.points) → float_at file 3 ∷ cond b (float_at other 7 ∷ float_at other 13 ∷ float_at other 18 ∷ []) [] ≡ float_at file 3 ∷ cond b (float_at file 7 ∷ float_at file 13 ∷ float_at file 18 ∷ []) []
      go true l = let m = l refl in rw (low_word 7 (omega arith) (omega arith), low_word 13 (omega arith) (omega arith), low_word 18 (omega arith) (omega arith))
      go false l = refl

  floats_same : bad_float other f ≡ bad_float file f
  unfolding bad_float
  floats_same =
      ap (λ (l : List Float). list_any outside l || (f.gated && list_any outside (gate_floats other (gate_start f.full)))) settings-floats
      ∙ ap (λ (b : Bool). list_any outside (settings_floats file f.full) || b)
      (and-under f.gated (λ e. ap (list_any outside) (gate-floats (gate_start f.full) (gate-late f.full) ((before-points file f framed).gate e))))

  fraction-same : fraction_of other f ≡ fraction_of file f
  unfolding fraction_of
  fraction-same = go (is_some f.weights) (strengths-at (before-points file f framed).after)
    where
      strengths-at : StrengthsAt file f (points_end f) → is_some f.weights ≡ true → (weights_of f).at ≡ points_end f + 3
      strengths-at (strengths-there t w s e) b = s
      strengths-at (strengths-absent w e) b = absurd (true≢false (sym b ∙ w))

      go : (b : Bool) → (b ≡ true → (weights_of f).at ≡ points_end f + 3) → cond b (fraction_in (float_at other (weights_of f).at)) Missing ≡ cond b (fraction_in (float_at file (weights_of f).at)) Missing
      go true s = let e = s refl in rw (after-word (weights_of f).at (omega arith) (omega arith))
      go false s = refl

  settings-in-same : (g : Option EdgeShapeParams) (x : Fraction) → 27 ≤ f.points → settings_in other g x ≡ switched (settings_in file g x) (byte_at other 22) (byte_at other 23)
  unfolding settings_in
  settings-in-same g x l =
      rw (low_word 3 (omega arith) (omega arith), low_word 7 (omega arith) (omega arith), low_half 11 (omega arith) (omega arith), low_word 13 (omega arith) (omega arith), low 17 (omega arith) (omega arith), low_word 18 (omega arith) (omega arith))

  -- settings with the other file's switches, if they have any
  pub settings-alike : settings_of other f ≡ cond f.full (switched (settings_of file f) (byte_at other 22) (byte_at other 23)) (settings_of file f)
  unfolding settings_of
  settings-alike = rw (edge_same, fraction-same) (go f.full (before-points file f framed).long (edge_shape_of file f) (fraction_of file f))
    where
      go : (b : Bool) → (b ≡ true → 27 ≤ f.points) → (g : Option EdgeShapeParams) (x : Fraction)
          → cond b (settings_in other g x) (defaults_for (float_at other 3) g x)
          ≡ cond b (switched (cond b (settings_in file g x) (defaults_for (float_at file 3) g x)) (byte_at other 22) (byte_at other 23)) (cond b (settings_in file g x) (defaults_for (float_at file 3) g x))
      go true l g x = settings-in-same g x (l refl)
      go false l g x = rw (low_word 3 (omega arith) (omega (arith, (before-points file f framed).short)))

  -- ---- the ruling

  -- a file whose flags are as good is ruled on by the same header, and then by its own settings and points
  pub carried-alike : bad_flag other f ≡ bad_flag file f → (room : ℕ)
      → ruling_of other room ≡ ruled refused (ruling_for (settings_of other f) (points_in other f)) (header_refusals file room (Some f))
  unfolding header_refusals
  carried-alike e room = by-points other room ∙ rw (frame-alike, e, floats_same)

-- ---- the strengths, which stand after the points

pub strengths-alike : (file other : List ℕ) (f : Layout) → framing_of file ≡ Some f → ((k : ℕ) → points_end f ≤ k → get_or other k 0 ≡ get_or file k 0) → (i : ℕ) → ith_strength other f i ≡ ith_strength file f i
strengths-alike file other f framed after i = go (is_some f.weights) (λ w. strengths-after file f w (before-points file f framed))
  where
    at : ℕ
    at = (weights_of f).at + 4 + 4 * i

    go : (b : Bool) → (b ≡ true → points_end f ≤ (weights_of f).at) → cond b (le32 other at) 0 ≡ cond b (le32 file at) 0
    go true s = let l = s refl in le32-same file at other at (λ k m. after (at + k) (omega arith))
    go false s = refl

-- ---- with the same switches

pub same-headed : (file : List ℕ) (f : Layout) → Headed file file f
same-headed file f = record { size = refl; head = λ k l. refl; after = λ k l m. refl }

module _ (file other : List ℕ) (f : Layout) (framed : framing_of file ≡ Some f) (h : Headed file other f) where
  alike : SameHeader file other f
  alike = record { size = h.size; same = λ k m l. h.head k m; after = h.after }

  pub frame_same : framing_of other ≡ Some f
  frame_same = frame-alike file other f framed alike

  own-switches : f.full ≡ true → switched (settings_of file f) (byte_at file 22) (byte_at file 23) ≡ settings_of file f
  unfolding settings_of settings_in
  own-switches t = rw t

  settings-same : settings_of other f ≡ settings_of file f
  settings-same = settings-alike file other f framed alike ∙ go f.full refl
    where
      go : (b : Bool) → f.full ≡ b → cond b (switched (settings_of file f) (byte_at other 22) (byte_at other 23)) (settings_of file f) ≡ settings_of file f
      go true t = let l = (before-points file f framed).long t in rw (h.head 22 (omega arith), h.head 23 (omega arith)) (own-switches t)
      go false t = refl

  flags-same : bad_flag other f ≡ bad_flag file f
  unfolding bad_flag
  flags-same = and-under f.full (λ e. let l = (before-points file f framed).long e in rw (h.head 17 (omega arith), h.head 22 (omega arith), h.head 23 (omega arith)))

  -- a file with this header is ruled on by it, and then by its own points
  pub carried : (room : ℕ) → ruling_of other room ≡ ruled refused (ruling_for (settings_of file f) (points_in other f)) (header_refusals file room (Some f))
  carried room = carried-alike file other f framed alike flags-same room ∙ rw settings-same
