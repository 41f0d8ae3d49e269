-- What a framing says of the fields: that each stands in the file, and where. Assumes nothing.
use mathlib.Core.Bool.{Bool, true, false, cond, ◌&&◌, true≢false, false≢true}
use mathlib.Core.List.{List}
use mathlib.Core.Path.{◌≡◌, refl, sym, ap, ◌∙◌}
use Prim.Native.Nat.{ℕ, ◌+◌, ◌*◌, ◌/◌, ◌%◌, ◌≤◌}
use native.Mathlib.Omega.{arith}
use borrow.Author.Tests.{leb-true, eqb-true}
use lib.Dec.{eqb, leb}
use lib.ListN.{length}
use Rattle.sheet_file.specs.Bytes.{byte_at, le16}
use Rattle.sheet_file.specs.Frame.{field_at, end_from, weighed_at, unweighed, strengths_from, points_from, gate_from, framing_of, layout_in, layout_of, weights_of, gate_start, Held}
use Rattle.sheet_file.specs.Refusals.{misframing, misframed, misfit}
use Rattle.sheet_file.specs.declared.Weights.{Weights}
use Rattle.sheet_file.specs.declared.Layout.{Layout}
use Rattle.std.specs.Prelude.{Option, Some, None, is_some, unwrap_or}
use Rattle.std.proofs.lemmas.Bool.{and_parts, not-false}

pub is_framed : (file : List ℕ) → misframed file ≡ false → framing_of file ≡ Some (layout_of file)
is_framed file m = go (framing_of file) m
  where
    go : (x : Option Layout) → misframing x ≡ false → x ≡ Some (layout_in x)
    go (Some f) m = refl
    go None m = absurd (true≢false m)

-- ---- one field

-- its room, its tag and its length
pub record FieldIn (file : List ℕ) (at tag n : ℕ) : Type 0 where
  pub fits : at + 3 + n ≤ length file
  pub tag_is : byte_at file at ≡ tag
  pub size_is : le16 file (at + 1) ≡ n

pub field_in : (file : List ℕ) (at tag n : ℕ) → field_at file at tag n ≡ true → FieldIn file at tag n
unfolding field_at
field_in file at tag n e =
    let r = (and_parts (leb (at + 3 + n) (length file)) (eqb (byte_at file at) tag && eqb (le16 file (at + 1)) n) e).1 in
    record {
      fits = leb-true (at + 3 + n) (length file) (and_parts (leb (at + 3 + n) (length file)) (eqb (byte_at file at) tag && eqb (le16 file (at + 1)) n) e).0;
      tag_is = eqb-true (byte_at file at) tag (and_parts (eqb (byte_at file at) tag) (eqb (le16 file (at + 1)) n) r).0;
      size_is = eqb-true (le16 file (at + 1)) n (and_parts (eqb (byte_at file at) tag) (eqb (le16 file (at + 1)) n) r).1;
    }

-- the data of tag 4, if it is there
pub weights-there : (f : Layout) → is_some f.weights ≡ true → f.weights ≡ Some (weights_of f)
weights-there f e = go f.weights e
  where
    go : (x : Option Weights) → is_some x ≡ true → x ≡ Some (unwrap_or x (record { at = 0; len = 0 }))
    go (Some w) e = refl
    go None e = absurd (false≢true e)

-- a tag 4 that fits: "4 bytes plus 4 per point"
pub fitting-len : (f : Layout) → is_some f.weights ≡ true → misfit f ≡ false → (weights_of f).len ≡ 4 + 4 * f.count
fitting-len f w e = eqb-true (weights_of f).len (4 + 4 * f.count) (not-false (eqb (weights_of f).len (4 + 4 * f.count)) (rw w at e))

-- ---- one definition opened at a time

pub points-from-is : (file : List ℕ) (at : ℕ) (full gated : Bool)
    → points_from file at full gated ≡ let n = le16 file (at + 1) in cond (field_at file at 3 n && eqb (n % 20) 0) (strengths_from file (at + 3 + n) (unweighed full gated (at + 3) (n / 20))) None
unfolding points_from
points-from-is file at full gated = refl

-- ---- all of them

-- what follows of a framing that is made by a test
by-test : (b : Bool) (x : Option Layout) (f : Layout) → cond b x None ≡ Some f → (b ≡ true) × (x ≡ Some f)
by-test true x f e = (refl, e)
by-test false x f e = cc

module _ (file : List ℕ) (f : Layout) where
  end-in : (at : ℕ) (g : Layout) → end_from file at g ≡ Some f → (at ≡ length file) × (g ≡ f)
  unfolding end_from
  end-in at g e = let w = by-test (eqb at (length file)) (Some g) f e in (eqb-true at (length file) w.0, cc w.1)

  -- what stands after tag 3, at a position: tag 4, with which the file ends, or the end
  pub data StrengthsAt (at : ℕ) : Type 0 where
    strengths-there : field_at file at 4 (weights_of f).len ≡ true → is_some f.weights ≡ true → (weights_of f).at ≡ at + 3 → at + 3 + (weights_of f).len ≡ length file → StrengthsAt at
    strengths-absent : is_some f.weights ≡ false → at ≡ length file → StrengthsAt at

  -- and the rest of the layout is as it was
  pub record SameStart (g : Layout) : Type 0 where
    pub full_is : f.full ≡ g.full
    pub gated-is : f.gated ≡ g.gated
    pub points-at : f.points ≡ g.points
    pub count-is : f.count ≡ g.count

  strengths-in : (at : ℕ) (g : Layout) → is_some g.weights ≡ false → strengths_from file at g ≡ Some f → StrengthsAt at × SameStart g
  unfolding strengths_from
  strengths-in at g z e = go (field_at file at 4 n) refl e
    where
      n : ℕ
      n = le16 file (at + 1)

      same : (h : Layout) → h ≡ f → h.full ≡ g.full → h.gated ≡ g.gated → h.points ≡ g.points → h.count ≡ g.count → SameStart g
      same h q a b c d = record {
        full_is = sym (ap (λ (x : Layout). x.full) q) ∙ a;
        gated-is = sym (ap (λ (x : Layout). x.gated) q) ∙ b;
        points-at = sym (ap (λ (x : Layout). x.points) q) ∙ c;
        count-is = sym (ap (λ (x : Layout). x.count) q) ∙ d;
      }

      go : (t : Bool) → field_at file at 4 n ≡ t → cond t (end_from file (at + 3 + n) (weighed_at g (at + 3) n)) (end_from file at g) ≡ Some f → StrengthsAt at × SameStart g
      go true t e =
          let w = end-in (at + 3 + n) (weighed_at g (at + 3) n) e in
          let l : n ≡ (weights_of f).len = ap (λ (x : Layout). (weights_of x).len) w.1 in
          (strengths-there (rw l at t) (sym (ap (λ (x : Layout). is_some x.weights) w.1)) (sym (ap (λ (x : Layout). (weights_of x).at) w.1)) (rw l at w.0), same (weighed_at g (at + 3) n) w.1 refl refl refl refl)
      go false t e = let w = end-in at g e in (strengths-absent (rw w.1 at z) w.0, same g w.1 refl refl refl refl)

  -- tag 3 stands at a position, and after it tag 4 or the end
  pub record PointsAt (at : ℕ) (full gated : Bool) : Type 0 where
    pub field-there : field_at file at 3 (20 * f.count) ≡ true
    pub after : StrengthsAt (at + 3 + 20 * f.count)
    pub full_is : f.full ≡ full
    pub gated-is : f.gated ≡ gated
    pub points-at : f.points ≡ at + 3

  pub points-in : (at : ℕ) (full gated : Bool) → points_from file at full gated ≡ Some f → PointsAt at full gated
  unfolding points_from
  points-in at full gated e =
      let n = le16 file (at + 1) in
      let g : Layout = unweighed full gated (at + 3) (n / 20) in
      let w = by-test (field_at file at 3 n && eqb (n % 20) 0) (strengths_from file (at + 3 + n) g) f e in
      let h = strengths-in (at + 3 + n) g refl w.1 in
      let q : f.count ≡ n / 20 = h.1.count-is in
      let z = eqb-true (n % 20) 0 (and_parts (field_at file at 3 n) (eqb (n % 20) 0) w.0).1 in
      let m : n ≡ 20 * f.count = omega arith in
      record {
        field-there = rw m at (and_parts (field_at file at 3 n) (eqb (n % 20) 0) w.0).0;
        after = rw m at h.0;
        full_is = h.1.full_is;
        gated-is = h.1.gated-is;
        points-at = h.1.points-at;
      }

  -- the fields after tag 1, with or without tag 2
  pub data GateAt (at : ℕ) (full : Bool) : Type 0 where
    gate-there : field_at file at 2 17 ≡ true → points_from file (at + 20) full true ≡ Some f → GateAt at full
    gate-absent : field_at file at 2 17 ≡ false → points_from file at full false ≡ Some f → GateAt at full

  gate-at : (at : ℕ) (full : Bool) → gate_from file at full ≡ Some f → GateAt at full
  unfolding gate_from
  gate-at at full e = go (field_at file at 2 17) refl e
    where
      go : (b : Bool) → field_at file at 2 17 ≡ b → cond b (points_from file (at + 20) full true) (points_from file at full false) ≡ Some f → GateAt at full
      go true t e = gate-there t e
      go false t e = gate-absent t e

  -- the whole file
  pub data Fields : Type 0 where
    full-settings : field_at file 0 1 21 ≡ true → GateAt 24 true → Fields
    short-settings : field_at file 0 1 21 ≡ false → field_at file 0 1 4 ≡ true → GateAt 7 false → Fields

  pub fields-of : framing_of file ≡ Some f → Fields
  unfolding framing_of
  fields-of e = go (field_at file 0 1 21) refl e
    where
      go : (a : Bool) → field_at file 0 1 21 ≡ a → cond a (gate_from file 24 true) (cond (field_at file 0 1 4) (gate_from file 7 false) None) ≡ Some f → Fields
      go true t e = full-settings t (gate-at 24 true e)
      go false t e = let w = by-test (field_at file 0 1 4) (gate_from file 7 false) f e in short-settings t w.0 (gate-at 7 false w.1)

  -- ---- the data of tags 1 and 2 end before the points, and those of tag 4 with the file

  pub record BeforePoints : Type 0 where
    pub short : 10 ≤ f.points
    pub long : f.full ≡ true → 27 ≤ f.points
    pub gate : f.gated ≡ true → gate_start f.full + 17 ≤ f.points
    pub after : StrengthsAt (f.points + 20 * f.count)

  placed : {at to : ℕ} → to ≡ at → StrengthsAt (at + 20 * f.count) → StrengthsAt (to + 20 * f.count)
  placed e h = rw e h

  before-gate : (at : ℕ) (full : Bool) → 7 ≤ at → at + 3 ≡ gate_start full → (full ≡ true → 24 ≤ at) → GateAt at full → BeforePoints
  before-gate at full l g h (gate-there u e) =
      let p = points-in (at + 20) full true e in
      let r : gate_start f.full ≡ gate_start full = ap gate_start p.full_is in
      record { short = omega arith; long = λ b. omega (arith, h (sym p.full_is ∙ b)); gate = λ b. omega arith; after = placed p.points-at p.after }
  before-gate at full l g h (gate-absent u e) =
      let p = points-in at full false e in
      record { short = omega arith; long = λ b. omega (arith, h (sym p.full_is ∙ b)); gate = λ b. absurd (false≢true (sym p.gated-is ∙ b)); after = placed p.points-at p.after }

  pub before-points : framing_of file ≡ Some f → BeforePoints
  before-points e = go (fields-of e)
    where
      go : Fields → BeforePoints
      go (full-settings t g) = before-gate 24 true (omega arith) refl (λ b. omega arith) g
      go (short-settings u t g) = before-gate 7 false (omega arith) refl (λ b. absurd (false≢true b)) g

  -- the strengths stand after the points
  pub strengths-after : is_some f.weights ≡ true → BeforePoints → f.points + 20 * f.count ≤ (weights_of f).at
  strengths-after w b = go b.after
    where
      go : {at : ℕ} → StrengthsAt at → at ≤ (weights_of f).at
      go (strengths-there t u s e) = omega arith
      go (strengths-absent u e) = absurd (false≢true (sym u ∙ w))

  after-points : {at : ℕ} → StrengthsAt at → at ≤ length file
  after-points (strengths-there t w s e) = omega arith
  after-points (strengths-absent w e) = omega arith

  pub framed-held : framing_of file ≡ Some f → Held file f
  framed-held e =
      let b = before-points e in
      let l = after-points b.after in
      record { short = omega arith; long = λ t. omega (arith, b.long t); gate = λ t. omega (arith, b.gate t); fit = l; weights = weights b.after }
    where
      weights : {at : ℕ} → StrengthsAt at → is_some f.weights ≡ true → (weights_of f).at + (weights_of f).len ≤ length file
      weights (strengths-there t w s e) b = omega arith
      weights (strengths-absent w e) b = absurd (false≢true (sym w ∙ b))
