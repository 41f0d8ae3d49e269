-- Exactly the well-framed files are not refused with 1, and their points are counted. Assumes nothing.
use mathlib.Core.Path.{◌≡◌, refl, sym, ap, ◌∙◌}
use mathlib.Core.Bool.{Bool, true, false, true≢false}
use mathlib.Core.Logic.{◌⊎◌, inl, inr}
use mathlib.Core.List.{List, [], ◌∷◌, ◌++◌, append-nil, append_assoc}
use Prim.Native.Nat.{ℕ, ◌+◌, ◌-◌, ◌*◌, ◌/◌, ◌%◌, ◌≤◌}
use native.Mathlib.Omega.{arith}
use native.Mathlib.Numerals.{add-one}
use lib.Dec.{eqb, leb}
use lib.ListN.{length, take, drop, length-append, length-drop, take-append-drop}
use lib.Seq.{drop-cons, drop-drop, drop-length, get_or-append-add, length-take-le}
use borrow.Author.Tests.{le-leb, lt-leb, eq-eqb, ne_eqb}
use Rattle.sheet_file.specs.Bytes.{Bytes, byte_at, le16}
use Rattle.sheet_file.specs.Frame.{field_at, unweighed, weighed_at, strengths_from, points_from, gate_from, framing_of, layout_of, weights_of, weights_size}
use Rattle.sheet_file.specs.Grammar.{field, Optional, absent, present, WellFramed}
use Rattle.sheet_file.specs.Refusals.{misframing, misframed}
use Rattle.sheet_file.specs.declared.Layout.{Layout}
use Rattle.std.specs.Prelude.{Option, Some, None, is_some}
use Rattle.sheet_file.proofs.Fields.{FieldIn, field_in, StrengthsAt, strengths-there, strengths-absent, GateAt, gate-there, gate-absent, Fields, full-settings, short-settings, fields-of, points-in}
use Rattle.std.proofs.Math.Bool.{and-false}

-- ---- a field that is found is one

data-size : (file : List ℕ) (at n : ℕ) → at + n ≤ length file → length (take n (drop at file)) ≡ n
data-size file at n l = length-take-le n (drop at file) (simp length-drop (omega arith))

field_found : (file : List ℕ) (at tag n : ℕ) → Bytes file → field_at file at tag n ≡ true → drop at file ≡ field tag (take n (drop (at + 3) file)) ++ drop (at + 3 + n) file
unfolding le16
field_found file at tag n b e =
    let h = field_in file at tag n e in
    let m = data-size file (at + 3) n h.fits in
    let lo : byte_at file (at + 1) ≡ n % 256 = omega (arith, h.size_is, b (at + 1), b (at + 1 + 1)) in
    let hi : byte_at file (at + 1 + 1) ≡ n / 256 = omega (arith, h.size_is, b (at + 1), b (at + 1 + 1)) in
    let a2 : at + 1 + 1 + 1 ≡ at + 3 = omega arith in
    drop-cons file at 0 (omega arith)
    ∙ rw (← add-one at, h.tag_is, m, drop-cons file (at + 1) 0 (omega arith), ← add-one (at + 1), drop-cons file (at + 1 + 1) 0 (omega arith), ← add-one (at + 1 + 1), a2, lo, hi)
    (ap (λ (l : List ℕ). tag ∷ n % 256 ∷ n / 256 ∷ l) (sym (take-append-drop n (drop (at + 3) file)) ∙ rw (drop-drop n (at + 3) file)))

module _ (file : List ℕ) (b : Bytes file) (f : Layout) where
  -- tag 4 from a position to the end, or nothing
  strengths-found : (at : ℕ) → StrengthsAt file f at → (w : List ℕ) × Optional 4 (λ (n : ℕ). Unit {0}) w × (drop at file ≡ w)
  strengths-found at (strengths-absent u e) = ([], absent refl, rw e (drop-length file))
  strengths-found at (strengths-there t u s e) =
      let n = (weights_of f).len in
      let w = take n (drop (at + 3) file) in
      (field 4 w, present w tt refl, field_found file at 4 n b t ∙ rw (e, drop-length file) (append-nil (field 4 w)))

  -- tag 3 from a position on, and what stands after it
  points-found : (at : ℕ) (full gated : Bool) → points_from file at full gated ≡ Some f
      → (p w : List ℕ) × (length p % 20 ≡ 0) × Optional 4 (λ (n : ℕ). Unit {0}) w × (drop at file ≡ field 3 p ++ w)
  points-found at full gated e =
      let n = 20 * f.count in
      let p = points-in file f at full gated e in
      let w = strengths-found (at + 3 + n) p.after in
      let m = data-size file (at + 3) n (field_in file at 3 n p.field-there).fits in
      (take n (drop (at + 3) file), w.0, rw m (omega arith), w.1, field_found file at 3 n b p.field-there ∙ rw w.2)

  -- tag 2, or nothing, and then tag 3
  gate-found : (at : ℕ) (full : Bool) → GateAt file f at full
      → (g p w : List ℕ) × Optional 2 (λ (n : ℕ). n ≡ 17) g × (length p % 20 ≡ 0) × Optional 4 (λ (n : ℕ). Unit {0}) w × (drop at file ≡ g ++ (field 3 p ++ w))
  gate-found at full (gate-absent u e) = let p = points-found at full false e in ([], p.0, p.1, absent refl, p.2, p.3, p.4)
  gate-found at full (gate-there u e) =
      let p = points-found (at + 20) full true e in
      let h = field_in file at 2 17 u in
      let q : at + 3 + 17 ≡ at + 20 = omega arith in
      let g = take 17 (drop (at + 3) file) in
      (field 2 g, p.0, p.1, present g (data-size file (at + 3) 17 h.fits) refl, p.2, p.3, field_found file at 2 17 b u ∙ rw (q, p.4))

  fields-found : (n : ℕ) (full : Bool) → (n ≡ 21) ⊎ (n ≡ 4) → field_at file 0 1 n ≡ true → GateAt file f (3 + n) full → WellFramed file
  fields-found n full o t g =
      let w = gate-found (3 + n) full g in
      let m = data-size file 3 n (field_in file 0 1 n t).fits in
      record {
        settings = take n (drop 3 file);
        gate = w.0;
        points = w.1;
        weights = w.2;
        settings-size = rw m o;
        gate-optional = w.3;
        twenties = w.4;
        weights-optional = w.5;
        in_order = field_found file 0 1 n b t ∙ rw w.6;
      }

  framed-well : framing_of file ≡ Some f → WellFramed file
  framed-well e = go (fields-of file f e)
    where
      go : Fields file f → WellFramed file
      go (full-settings t g) = fields-found 21 true (inl refl) t g
      go (short-settings u t g) = fields-found 4 false (inr refl) t g

-- ---- and a field that stands there is found

field-there : (l body r : List ℕ) (tag at n : ℕ) → length l ≡ at → length body ≡ n → FieldIn (l ++ (field tag body ++ r)) at tag n
unfolding le16
field-there l body r tag at n e m =
    let w = field tag body ++ r in
    let z : length l + 0 ≡ length l = omega arith in
    let q : length l + 1 + 1 ≡ length l + 2 = omega arith in
    rw (← e, ← m)
    (record {
      fits = simp length-append (omega arith);
      tag_is = rw z at (get_or-append-add l w 0 0);
      size_is = rw (q, get_or-append-add l w 1 0, get_or-append-add l w 2 0) (omega arith);
    })

module _ (file : List ℕ) where
  found : {at tag n : ℕ} → FieldIn file at tag n → field_at file at tag n ≡ true
  unfolding field_at
  found {at} {tag} {n} h = rw (le-leb (at + 3 + n) (length file) h.fits, eq-eqb (byte_at file at) tag h.tag_is, eq-eqb (le16 file (at + 1)) n h.size_is)

  -- the field has another tag or another length
  other_tag : (at n tag m k : ℕ) → FieldIn file at tag m → (tag ≡ k → ⊥) → field_at file at k n ≡ false
  unfolding field_at
  other_tag at n tag m k h f = rw (ne_eqb (byte_at file at) k (λ e. f (sym h.tag_is ∙ e))) (and-false (leb (at + 3 + n) (length file)))

  other_length : (at n tag m : ℕ) → FieldIn file at tag m → (m ≡ n → ⊥) → field_at file at tag n ≡ false
  unfolding field_at
  other_length at n tag m h f =
      rw (ne_eqb (le16 file (at + 1)) n (λ e. f (sym h.size_is ∙ e)), and-false (eqb (byte_at file at) tag)) (and-false (leb (at + 3 + n) (length file)))

  -- nor does one stand at the end of the file
  none_after : (at tag n : ℕ) → at ≡ length file → field_at file at tag n ≡ false
  unfolding field_at
  none_after at tag n e = rw (lt-leb (at + 3 + n) (length file) (omega arith))

  -- at a position stands tag 4, with which the file ends, or the end
  data FourthIn (at : ℕ) : Type 0 where
    fourth : (n : ℕ) → FieldIn file at 4 n → at + 3 + n ≡ length file → FourthIn at
    ending : at ≡ length file → FourthIn at

  -- how many bytes there are from there on
  abbrev left : ℕ → ℕ
  left at = length file - at

  -- tag 3 with n bytes, and after it tag 4 or the end
  record ThirdIn (at n : ℕ) : Type 0 where
    third : FieldIn file at 3 n
    twenties : n % 20 ≡ 0
    after : FourthIn (at + 3 + n)

  -- a framing with n points and m bytes of tag 4
  record Counted (x : Option Layout) (n m : ℕ) : Type 0 where
    layout : Layout
    framed : x ≡ Some layout
    counted : layout.count ≡ n
    weighed : weights_size layout ≡ m

  strengths-framed : (at : ℕ) (g : Layout) → is_some g.weights ≡ false → FourthIn at → Counted (strengths_from file at g) g.count (left at)
  unfolding strengths_from
  strengths-framed at g z (fourth n h e) = record {
    layout = weighed_at g (at + 3) n;
    framed = rw (h.size_is, found h, eq-eqb (at + 3 + n) (length file) e);
    counted = refl;
    weighed = omega arith;
  }
  strengths-framed at g z (ending e) = record { layout = g; framed = rw (none_after at 4 (le16 file (at + 1)) e, eq-eqb at (length file) e); counted = refl; weighed = rw z (omega arith) }

  points-framed : (at n : ℕ) (full gated : Bool) → ThirdIn at n → Counted (points_from file at full gated) (n / 20) (left (at + 3 + n))
  unfolding points_from
  points-framed at n full gated h = rw (h.third.size_is, found h.third, eq-eqb (n % 20) 0 h.twenties) (strengths-framed (at + 3 + n) (unweighed full gated (at + 3) (n / 20)) refl h.after)

  gate-framed : (at n : ℕ) (full : Bool) → FieldIn file at 2 17 → ThirdIn (at + 20) n → Counted (gate_from file at full) (n / 20) (left (at + 20 + 3 + n))
  unfolding gate_from
  gate-framed at n full g h = rw (found g) (points-framed (at + 20) n full true h)

  no-gate-framed : (at n : ℕ) (full : Bool) → ThirdIn at n → Counted (gate_from file at full) (n / 20) (left (at + 3 + n))
  unfolding gate_from
  no-gate-framed at n full h = rw (other_tag at 17 3 n 2 h.third (λ e. omega arith)) (points-framed at n full false h)

  settings-framed : (n m k : ℕ) → (n ≡ 21) ⊎ (n ≡ 4) → FieldIn file 0 1 n → ((full : Bool) → Counted (gate_from file (3 + n) full) m k) → Counted (framing_of file) m k
  unfolding framing_of
  settings-framed n m k (inl e) h g = rw (found (rw e at h)) (rw e at (g true))
  settings-framed n m k (inr e) h g = rw (other_length 0 21 1 n h (λ d. omega arith), found (rw e at h)) (rw e at (g false))

  -- tag 3 after other fields, and then tag 4 or the end
  third-in : (l p w : List ℕ) (at : ℕ) → length l ≡ at → file ≡ l ++ (field 3 p ++ w) → length p % 20 ≡ 0 → Optional 4 (λ (n : ℕ). Unit {0}) w → ThirdIn at (length p)
  third-in l p w at n e z o = record {
    third = rw e (field-there l p w 3 at (length p) n refl);
    twenties = z;
    after = go o;
  }
    where
      go : Optional 4 (λ (n : ℕ). Unit {0}) w → FourthIn (at + 3 + length p)
      go (absent q) = ending (sym (ap length e ∙ simp length-append (rw q (omega arith))))
      go (present body t q) =
          let to : length (l ++ field 3 p) ≡ at + 3 + length p = simp length-append (omega arith) in
          let r : file ≡ l ++ field 3 p ++ (field 4 body ++ []) = e ∙ rw q (sym (append_assoc l (field 3 p) (field 4 body)) ∙ rw (append-nil (field 4 body))) in
          fourth (length body) (rw r (field-there (l ++ field 3 p) body [] 4 (at + 3 + length p) (length body) to refl)) (sym (ap length e ∙ simp length-append (rw q (omega arith))))

  fields-framed : (w : WellFramed file) → Counted (framing_of file) (length w.points / 20) (length w.weights)
  fields-framed w = settings-framed (length w.settings) (length w.points / 20) (length w.weights) w.settings-size first (λ full. go full w.gate-optional)
    where
      at : ℕ
      at = 3 + length w.settings

      last : List ℕ
      last = field 3 w.points ++ w.weights

      first : FieldIn file 0 1 (length w.settings)
      first = rw w.in_order (field-there [] w.settings (w.gate ++ last) 1 0 (length w.settings) refl refl)

      size : length file ≡ at + (length w.gate + (3 + length w.points + length w.weights))
      size = ap length w.in_order ∙ simp length-append (omega arith)

      go : (full : Bool) → Optional 2 (λ (n : ℕ). n ≡ 17) w.gate → Counted (gate_from file at full) (length w.points / 20) (length w.weights)
      go full (absent e) =
          let z : length w.gate ≡ 0 = ap length e in
          let m : left (at + 3 + length w.points) ≡ length w.weights = omega (arith, size) in
          rw m at (no-gate-framed at (length w.points) full (third-in (field 1 w.settings) w.points w.weights at (omega arith) (rw e at w.in_order) w.twenties w.weights-optional))
      go full (present g n e) =
          let q : file ≡ field 1 w.settings ++ (field 2 g ++ last) = rw e at w.in_order in
          let z : length w.gate ≡ 20 = ap length e ∙ omega arith in
          let m : left (at + 20 + 3 + length w.points) ≡ length w.weights = omega (arith, size) in
          rw m at
          (gate-framed at (length w.points) full (rw q (field-there (field 1 w.settings) g last 2 at 17 (omega arith) n))
          (third-in (field 1 w.settings ++ field 2 g) w.points w.weights (at + 20) (simp length-append (omega arith)) (q ∙ sym (append_assoc (field 1 w.settings) (field 2 g) last)) w.twenties w.weights-optional))

  pub well-framed : WellFramed file → misframed file ≡ false
  well-framed w = rw (fields-framed w).framed

  -- "length 20 times the number of points": as many are counted
  pub points-counted : (w : WellFramed file) → (layout_of file).count ≡ length w.points / 20
  points-counted w = rw (fields-framed w).framed (fields-framed w).counted

  -- and as many bytes of tag 4
  pub weights-counted : (w : WellFramed file) → weights_size (layout_of file) ≡ length w.weights
  weights-counted w = rw (fields-framed w).framed (fields-framed w).weighed

  pub accepted-well : Bytes file → misframed file ≡ false → WellFramed file
  accepted-well b e = go (framing_of file) refl e
    where
      go : (x : Option Layout) → framing_of file ≡ x → misframing x ≡ false → WellFramed file
      go (Some f) h e = framed-well file b f h
      go None h e = absurd (true≢false e)
