-- Numbers in a list of bytes, and the bytes of a number: "files are little-endian". Assumes nothing.
use Rattle.std.specs.Prelude.{ℕ, ◌+◌, ◌*◌, ◌/◌, ◌%◌, ◌<◌, List, [], ◌∷◌, get_or}

-- every element is a byte
abbrev pub Bytes : List ℕ → Type 0
Bytes file = (k : ℕ) → get_or file k 0 < 256

-- the byte at a position
abbrev pub byte_at : List ℕ → ℕ → ℕ
byte_at file at = get_or file at 0

-- the u16 and the u32 in the bytes from a position on
unfoldable pub le16 : List ℕ → ℕ → ℕ
le16 file at = byte_at file at + 256 * byte_at file (at + 1)

unfoldable pub le32 : List ℕ → ℕ → ℕ
le32 file at = byte_at file at + 256 * byte_at file (at + 1) + 65536 * byte_at file (at + 2) + 16777216 * byte_at file (at + 3)

-- the four bytes of the u32 b
abbrev pub little_endian : ℕ → List ℕ
little_endian b = b % 256 ∷ b / 256 % 256 ∷ b / 65536 % 256 ∷ b / 16777216 % 256 ∷ []
