-- "well framed if the condition of number 1 fails for it": which lists of bytes are the fields of the list, in their order. That these are
-- exactly the files that are not refused with 1 is `well-framed` and `accepted-well` (proofs). Assumes nothing.
use Rattle.std.specs.Prelude.{◌≡◌, ◌⊎◌, List, [], ◌∷◌, ◌++◌, ℕ, ◌+◌, ◌*◌, ◌/◌, ◌%◌, length}

-- "A field is a one-byte tag, a two-byte length and its data."
abbrev pub field : ℕ → List ℕ → List ℕ
field tag body = tag ∷ length body % 256 ∷ length body / 256 ∷ body

-- "optional": nothing, or the field with this tag and data of a length that will do
pub data Optional (tag : ℕ) (Size : ℕ → Type 0) (part : List ℕ) : Type 0 where
  absent : part ≡ [] → Optional tag Size part
  present : (body : List ℕ) → Size (length body) → part ≡ field tag body → Optional tag Size part

-- "Fields stand in this order": tag 1 of length 21 or 4; tag 2, optional, of length 17; tag 3, of length 20 times the number of points;
-- "Tag 4, optional, after tag 3", of any length, since another than that of its number 12 follows 1; and nothing after
pub record WellFramed (file : List ℕ) : Type 0 where
  pub settings : List ℕ
  pub gate : List ℕ
  pub points : List ℕ
  pub weights : List ℕ
  pub settings-size : (length settings ≡ 21) ⊎ (length settings ≡ 4)
  pub gate-optional : Optional 2 (λ (n : ℕ). n ≡ 17) gate
  pub twenties : length points % 20 ≡ 0
  pub weights-optional : Optional 4 (λ (n : ℕ). Unit {0}) weights
  pub in_order : file ≡ field 1 settings ++ (gate ++ (field 3 points ++ weights))

-- the most bytes of data of a field: its length is a two-byte number
abbrev pub most_data : ℕ
most_data = 65535

-- the most points whose length, 20 times their number, is a two-byte number
abbrev pub most_records : ℕ
most_records = most_data / 20

-- the length of the longest well-framed file: tag 1 of length 21, tag 2, tag 3 of so many points, and tag 4 of so many bytes
abbrev pub longest : ℕ
longest = 3 + 21 + (3 + 17) + (3 + 20 * most_records) + (3 + most_data)
