-- Which fields a file has, and where. Assumes nothing.
use Rattle.std.specs.Prelude.{Bool, true, false, cond, ◌&&◌, List, ◌≡◌, ℕ, ◌+◌, ◌*◌, ◌/◌, ◌%◌, ◌≤◌, eqb, leb, length, Option, Some, None, is_some, unwrap_or}
use Rattle.sheet_file.specs.Bytes.{byte_at, le16}
use Rattle.sheet_file.specs.declared.Weights.{Weights}
use Rattle.sheet_file.specs.declared.Layout.{Layout}

-- "A field is a one-byte tag, a two-byte length and its data." The field with this tag and n bytes of data stands at a position
unfoldable pub field_at : List ℕ → ℕ → ℕ → ℕ → Bool
field_at file at tag n = leb (at + 3 + n) (length file) && (eqb (byte_at file at) tag && eqb (le16 file (at + 1)) n)

-- how many bytes of data the field with this tag has, in its own two bytes, if it stands at a position
unfoldable pub field_len : List ℕ → ℕ → ℕ → Option ℕ
unfolding field_at
field_len file at tag = let n = le16 file (at + 1) in cond (field_at file at tag n) (Some n) None

-- "the end of the file": nothing stands after the last field, which ends at a position
unfoldable pub end_from : List ℕ → ℕ → Layout → Option Layout
end_from file at f = cond (eqb at (length file)) (Some f) None

-- the layout with n bytes of data of tag 4 from a position on
abbrev pub weighed_at : Layout → ℕ → ℕ → Layout
weighed_at f at n = record { full = f.full; gated = f.gated; points = f.points; count = f.count; weights = Some (record { at = at; len = n }) }

-- "Tag 4, optional, after tag 3", of any length, which stands in its own two bytes (another than "4 bytes plus 4 per point" is the condition
-- of number 12); and then the end
unfoldable pub strengths_from : List ℕ → ℕ → Layout → Option Layout
unfolding end_from
strengths_from file at f =
    let n = le16 file (at + 1) in
    cond (field_at file at 4 n) (end_from file (at + 3 + n) (weighed_at f (at + 3) n)) (end_from file at f)

-- without tag 4
abbrev pub unweighed : Bool → Bool → ℕ → ℕ → Layout
unweighed full gated points count = record { full = full; gated = gated; points = points; count = count; weights = None }

-- "Tag 3, one field, length 20 times the number of points", its length in its own two bytes; and then tag 4
unfoldable pub points_from : List ℕ → ℕ → Bool → Bool → Option Layout
unfolding strengths_from
points_from file at full gated =
    let n = le16 file (at + 1) in
    cond (field_at file at 3 n && eqb (n % 20) 0) (strengths_from file (at + 3 + n) (unweighed full gated (at + 3) (n / 20))) None

-- "Tag 2, optional, length 17", and then tag 3
unfoldable pub gate_from : List ℕ → ℕ → Bool → Option Layout
gate_from file at full = cond (field_at file at 2 17) (points_from file (at + 20) full true) (points_from file at full false)

-- "Fields stand in this order": tag 1, of length 21 or 4, and then the others
unfoldable pub framing_of : List ℕ → Option Layout
framing_of file = cond (field_at file 0 1 21) (gate_from file 24 true) (cond (field_at file 0 1 4) (gate_from file 7 false) None)

abbrev pub layout_in : Option Layout → Layout
layout_in x = unwrap_or x (unweighed false false 0 0)

-- where the fields of a well-framed file stand
abbrev pub layout_of : List ℕ → Layout
layout_of file = layout_in (framing_of file)

-- where the data of tag 2 begin, after the 21 or 4 bytes of tag 1
abbrev pub gate_start : Bool → ℕ
gate_start full = cond full 27 10

-- the data of tag 4; without it, of no length
abbrev pub weights_of : Layout → Weights
weights_of f = unwrap_or f.weights (record { at = 0; len = 0 })

-- how many bytes tag 4 takes, with its tag and length; 0 without it
abbrev pub weights_size : Layout → ℕ
weights_size f = cond (is_some f.weights) (3 + (weights_of f).len) 0

-- the fields' data are within the file
pub record Held (file : List ℕ) (f : Layout) : Type 0 where
  pub short : 7 ≤ length file
  pub long : f.full ≡ true → 24 ≤ length file
  pub gate : f.gated ≡ true → gate_start f.full + 17 ≤ length file
  pub fit : f.points + 20 * f.count ≤ length file
  pub weights : is_some f.weights ≡ true → (weights_of f).at + (weights_of f).len ≤ length file
