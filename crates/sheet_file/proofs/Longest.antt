-- A file longer than `longest` is misframed, and a file of that length can be well framed. Assumes nothing.
use mathlib.Core.Path.{◌≡◌, refl, sym, ◌∙◌}
use mathlib.Core.Bool.{Bool, true, false}
use mathlib.Core.Logic.{inl}
use mathlib.Core.List.{List, ◌++◌, append_assoc}
use Prim.Native.Nat.{ℕ, ◌+◌, ◌*◌, ◌/◌, ◌≤◌, ◌<◌}
use native.Mathlib.Omega.{arith}
use lib.ListN.{length, get_or, replicate, length-append, length-replicate}
use lib.Seq.{get_or-append-add}
use Rattle.sheet_file.specs.Bytes.{Bytes}
use Rattle.sheet_file.specs.Frame.{framing_of, points_from, weights_of}
use Rattle.sheet_file.specs.Grammar.{field, present, WellFramed, most_records, most_data, longest}
use Rattle.sheet_file.specs.declared.Layout.{Layout}
use Rattle.std.specs.Prelude.{Option, Some, None}
use Rattle.sheet_file.proofs.Words.{le16-small}
use Rattle.sheet_file.proofs.Fields.{field_in, StrengthsAt, strengths-there, strengths-absent, GateAt, gate-there, gate-absent, Fields, full-settings, short-settings, fields-of, points-in}

module _ (file : List ℕ) (b : Bytes file) where
  module _ (f : Layout) where
    -- a field's length is a two-byte number
    strengths-end : (at : ℕ) → StrengthsAt file f at → length file ≤ at + 3 + most_data
    strengths-end at (strengths-there t u s e) = omega (arith, (field_in file at 4 (weights_of f).len t).size_is, le16-small file b (at + 1))
    strengths-end at (strengths-absent u e) = omega arith

    points-end : (at : ℕ) (full gated : Bool) → points_from file at full gated ≡ Some f → length file ≤ at + 3 + 20 * most_records + 3 + most_data
    points-end at full gated e =
        let p = points-in file f at full gated e in
        omega (arith, (field_in file at 3 (20 * f.count) p.field-there).size_is, le16-small file b (at + 1), strengths-end (at + 3 + 20 * f.count) p.after)

    gate-end : (at : ℕ) (full : Bool) → GateAt file f at full → length file ≤ at + 20 + 3 + 20 * most_records + 3 + most_data
    gate-end at full (gate-there u e) = points-end (at + 20) full true e
    gate-end at full (gate-absent u e) = omega (arith, points-end at full false e)

    framed-end : Fields file f → length file ≤ longest
    framed-end (full-settings u g) = gate-end 24 true g
    framed-end (short-settings v u g) = omega (arith, gate-end 7 false g)

  pub too_long : longest < length file → framing_of file ≡ None
  too_long l = go (framing_of file) refl
    where
      go : (x : Option Layout) → framing_of file ≡ x → x ≡ None
      go (Some f) e = absurd (omega (arith, framed-end f (fields-of file f e)))
      go None e = refl

-- more records than `most_records` cannot be framed
pub most-points : (file : List ℕ) → Bytes file → (w : WellFramed file) → length w.points / 20 ≤ most_records
most-points file b w =
    let l = field 1 w.settings ++ w.gate in
    let last = field 3 w.points ++ w.weights in
    let q : file ≡ l ++ last = w.in_order ∙ sym (append_assoc (field 1 w.settings) w.gate last) in
    let hi : get_or file (length l + 2) 0 ≡ length w.points / 256 = rw q (get_or-append-add l last 2 0) in
    omega (arith, b (length l + 2))

-- a well-framed file of this length
pub record Attained : Type 0 where
  pub bytes : List ℕ
  pub framed : WellFramed bytes
  pub size : length bytes ≡ longest

fields-size : (a g p w : List ℕ) → length (field 1 a ++ (field 2 g ++ (field 3 p ++ field 4 w))) ≡ 3 + length a + (3 + length g + (3 + length p + (3 + length w)))
fields-size a g p w = simp length-append (omega arith)

pub attained : Attained
attained =
    go (replicate 21 0) (replicate 17 0) (replicate (20 * most_records) 0) (replicate most_data 0) (length-replicate {A = ℕ} 21 0) (length-replicate {A = ℕ} 17 0)
    (length-replicate {A = ℕ} (20 * most_records) 0) (length-replicate {A = ℕ} most_data 0)
  where
    go : (a g p w : List ℕ) → length a ≡ 21 → length g ≡ 17 → length p ≡ 20 * most_records → length w ≡ most_data → Attained
    go a g p w x y z v = record {
      bytes = field 1 a ++ (field 2 g ++ (field 3 p ++ field 4 w));
      framed = record { settings = a; gate = field 2 g; points = p; weights = field 4 w; settings-size = inl x; gate-optional = present g y refl; twenties = omega arith; weights-optional = present w tt refl; in_order = refl };
      size = omega (arith, fields-size a g p w);
    }

-- "The longest well-framed file": its length
pub longest-is : longest ≡ 131105
longest-is = refl
