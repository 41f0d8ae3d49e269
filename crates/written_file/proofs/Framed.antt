-- Where the fields of a file are found: where they stand, and so where they were put. Assumes nothing.
use Rattle.std.specs.Prelude.{Option, Some, None, is_some, unwrap_or}
use mathlib.Core.Path.{◌≡◌, refl, sym, ap, ◌∙◌}
use mathlib.Core.Bool.{Bool, true, false, cond}
use mathlib.Core.Logic.{◌⊎◌, inl, inr}
use mathlib.Core.List.{List, [], ◌++◌, append-nil, append_assoc}
use Prim.Native.Nat.{ℕ, ◌+◌, ◌*◌}
use native.Mathlib.Omega.{arith}
use lib.Dec.{eqb}
use lib.ListN.{length, length-append}
use lib.Seq.{get_or-append-add}
use Rattle.cells.specs.Points.{Point}
use Rattle.sheet_file.specs.Bytes.{byte_at, le16, little_endian}
use Rattle.sheet_file.specs.Frame.{framing_of, layout_of, weights_of}
use Rattle.sheet_file.specs.Grammar.{field, Optional, absent, present, WellFramed}
use Rattle.sheet_file.specs.declared.Layout.{Layout}
use Rattle.sheet_file.specs.declared.Weights.{Weights}
use Rattle.sheet_file.proofs.Fields.{is_framed, field_in, StrengthsAt, strengths-there, strengths-absent, GateAt, gate-there, gate-absent, Fields, full-settings, short-settings, fields-of, PointsAt, points-in}
use Rattle.sheet_file.proofs.Grammar.{well-framed, points-counted}
use Rattle.written_file.specs.File.{points_bytes, strength_bytes, weights}
use Rattle.written_file.proofs.Parts.{records-length, strengths-length}

-- "Tag 1, length 21 .. Length 4 gives the cell size only"
abbrev pub SettingsSize : List ℕ → Type 0
SettingsSize settings = (length settings ≡ 21) ⊎ (length settings ≡ 4)

-- the fields of a file with n bytes of data of tag 1, m bytes of tag 2 (its tag and length among them, and none without it), so many points, and
-- tag 4, if it has one, with k bytes of data
abbrev pub layout_with : ℕ → ℕ → ℕ → Bool → ℕ → Layout
layout_with n m count weighed k = record {
  full = eqb n 21;
  gated = eqb m 20;
  points = n + m + 6;
  count = count;
  weights = cond weighed (Some (record { at = n + m + 6 + 20 * count + 3; len = k })) None;
}

-- tag 4 is given by whether it is there, and where
weights-are : (x : Option Weights) → x ≡ cond (is_some x) (Some (unwrap_or x (record { at = 0; len = 0 }))) None
weights-are None = refl
weights-are (Some w) = refl

-- a layout is given by its fields
same_layout : (f : Layout) {full gated : Bool} {points count : ℕ} {weights : Option Weights} → f.full ≡ full → f.gated ≡ gated → f.points ≡ points → f.count ≡ count → f.weights ≡ weights
    → f ≡ record { full = full; gated = gated; points = points; count = count; weights = weights }
same_layout f a b c d e = rw (← a, ← b, ← c, ← d, ← e) refl

-- ---- of any well-framed file

module _ (file : List ℕ) (w : WellFramed file) where
  abbrev f : Layout
  f = layout_of file

  -- how many bytes of data tag 1 has
  abbrev n : ℕ
  n = length w.settings

  -- and how many bytes tag 2 takes
  abbrev m : ℕ
  m = length w.gate

  -- what stands after tag 2
  abbrev last : List ℕ
  last = field 3 w.points ++ w.weights

  -- how long the file is
  file-length : length file ≡ n + m + 6 + length w.points + length w.weights
  file-length = ap length w.in_order ∙ simp length-append (omega arith)

  -- the length of tag 1, in its own two bytes
  first-size : le16 file 1 ≡ n
  unfolding le16
  first-size = rw w.in_order (omega arith)

  -- after tag 1 stands tag 2 or tag 3
  next-tag : byte_at file (n + 3) ≡ byte_at (w.gate ++ last) 0
  next-tag =
      let e : n + 3 ≡ length (field 1 w.settings) + 0 = omega arith in
      rw (e, w.in_order) (get_or-append-add (field 1 w.settings) (w.gate ++ last) 0 0)

  -- tag 3 stands after tag 2, or where that would stand
  next-points : (at k : ℕ) (full : Bool) → n + 3 ≡ at → m ≡ k → Optional 2 (λ (n : ℕ). n ≡ 17) w.gate → GateAt file f at full → PointsAt file f (at + k) full (eqb k 20)
  next-points at k full e s (absent q) (gate-there u g) = absurd (omega (arith, next-tag, ap (byte_at file) e, (field_in file at 2 17 u).tag_is, ap (λ (l : List ℕ). byte_at (l ++ last) 0) q))
  next-points at k full e s (absent q) (gate-absent u g) =
      let z : k ≡ 0 = omega (arith, ap length q) in
      let y : at + k ≡ at = omega arith in
      rw (y, z) (points-in file f at full false g)
  next-points at k full e s (present body b q) (gate-there u g) = let z : k ≡ 20 = omega (arith, ap length q) in rw z (points-in file f (at + 20) full true g)
  next-points at k full e s (present body b q) (gate-absent u g) =
      let p = points-in file f at full false g in
      absurd (omega (arith, next-tag, ap (byte_at file) e, (field_in file at 3 (20 * f.count) p.field-there).tag_is, ap (λ (l : List ℕ). byte_at (l ++ last) 0) q))

  -- whichever length tag 1 has
  third-field : (k : ℕ) → n ≡ k → (k ≡ 21) ⊎ (k ≡ 4) → Fields file f → PointsAt file f (k + 3 + m) (eqb k 21) (eqb m 20)
  third-field k e (inl q) (full-settings t g) = rw q (next-points 24 m true (omega arith) refl w.gate-optional g)
  third-field k e (inr q) (full-settings t g) = absurd (omega (arith, first-size, (field_in file 0 1 21 t).size_is))
  third-field k e (inl q) (short-settings u t g) = absurd (omega (arith, first-size, (field_in file 0 1 4 t).size_is))
  third-field k e (inr q) (short-settings u t g) = rw q (next-points 7 m false (omega arith) refl w.gate-optional g)

  -- and after tag 3 stands tag 4, or the end
  fourth-field : (at : ℕ) (weighed : Bool) (k : ℕ) → at ≡ n + m + 6 + length w.points → length w.weights ≡ cond weighed (3 + k) 0 → StrengthsAt file f at
      → f.weights ≡ cond weighed (Some (record { at = at + 3; len = k })) None
  fourth-field at true k e l (strengths-there t u s z) = let len : (weights_of f).len ≡ k = omega (arith, file-length) in weights-are f.weights ∙ rw (u, ← s, ← len) refl
  fourth-field at true k e l (strengths-absent u z) = absurd (omega (arith, file-length))
  fourth-field at false k e l (strengths-there t u s z) = absurd (omega (arith, file-length))
  fourth-field at false k e l (strengths-absent u z) = weights-are f.weights ∙ rw u

  -- where its fields are found
  pub framed-with : (count : ℕ) (weighed : Bool) (k : ℕ) → length w.points ≡ 20 * count → length w.weights ≡ cond weighed (3 + k) 0 → framing_of file ≡ Some (layout_with n m count weighed k)
  framed-with count weighed k e l =
      let p = third-field n refl w.settings-size (fields-of file f (is_framed file (well-framed file w))) in
      let c : f.count ≡ count = omega (arith, points-counted file w) in
      let x : f.points ≡ n + m + 6 = omega (arith, p.points-at) in
      let z : n + 3 + m + 3 + 20 * f.count ≡ n + m + 6 + 20 * count = omega arith in
      let v = rw z at (fourth-field (n + 3 + m + 3 + 20 * f.count) weighed k (omega arith) l p.after) in
      is_framed file (well-framed file w) ∙ ap Some (same_layout f p.full_is p.gated-is x c v)

-- ---- of a file that is made

-- the first bytes of a file: tag 1, and tag 2 or nothing
pub record Head (head : List ℕ) : Type 0 where
  pub settings : List ℕ
  pub gate : List ℕ
  pub settings-size : SettingsSize settings
  pub gate-optional : Optional 2 (λ (n : ℕ). n ≡ 17) gate
  pub head_is : head ≡ field 1 settings ++ gate

-- without tag 2
abbrev pub own-head : (settings : List ℕ) → SettingsSize settings → Head (field 1 settings)
own-head settings size = record { settings = settings; gate = []; settings-size = size; gate-optional = absent refl; head_is = sym (append-nil (field 1 settings)) }

-- these first bytes, these points, and tag 4 with this fraction, if it is wanted
abbrev pub made : List ℕ → Bool → ℕ → List Point → List ℕ
made head weighed fraction ps = head ++ (field 3 (points_bytes ps) ++ cond weighed (weights fraction ps) [])

-- the fields of such a file
abbrev pub made_layout : {head : List ℕ} → Head head → Bool → List Point → Layout
made_layout h weighed ps = layout_with (length h.settings) (length h.gate) (length ps) weighed (4 + 4 * length ps)

-- tag 4, or nothing
pub strengths-or-none : (weighed : Bool) (fraction : ℕ) (ps : List Point) → Optional 4 (λ (n : ℕ). Unit {0}) (cond weighed (weights fraction ps) [])
strengths-or-none true fraction ps = present (little_endian fraction ++ strength_bytes ps) tt refl
strengths-or-none false fraction ps = absent refl

-- it is well framed, and so its fields are found
module _ (head : List ℕ) (h : Head head) (weighed : Bool) (fraction : ℕ) (ps : List Point) where
  abbrev pub made-well : WellFramed (made head weighed fraction ps)
  made-well = record {
    settings = h.settings;
    gate = h.gate;
    points = points_bytes ps;
    weights = cond weighed (weights fraction ps) [];
    settings-size = h.settings-size;
    gate-optional = h.gate-optional;
    twenties = omega (arith, records-length ps);
    weights-optional = strengths-or-none weighed fraction ps;
    in_order =
        let rest = field 3 (points_bytes ps) ++ cond weighed (weights fraction ps) [] in
        ap (λ (l : List ℕ). l ++ rest) h.head_is ∙ append_assoc (field 1 h.settings) h.gate rest;
  }

  pub framed : framing_of (made head weighed fraction ps) ≡ Some (made_layout h weighed ps)
  framed = framed-with (made head weighed fraction ps) made-well (length ps) weighed (4 + 4 * length ps) (records-length ps) (size weighed)
    where
      size : (b : Bool) → length (cond b (weights fraction ps) []) ≡ cond b (3 + (4 + 4 * length ps)) 0
      size true = omega (arith, strengths-length ps)
      size false = refl
