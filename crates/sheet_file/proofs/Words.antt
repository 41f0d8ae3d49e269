-- Numbers in a list of bytes are below 2 ^ 16 and 2 ^ 32, and depend on their own bytes alone. Assumes nothing.
use mathlib.Core.Path.{◌≡◌}
use mathlib.Core.List.{List, [], ◌∷◌, ◌++◌}
use Prim.Native.Nat.{ℕ, zero, suc, ◌+◌, ◌^◌, ◌≤◌, ◌<◌}
use native.Mathlib.Omega.{arith}
use lib.ListN.{get_or}
use Rattle.sheet_file.specs.Bytes.{Bytes, le16, le32}

-- two lists of bytes, one after the other
pub bytes-join : (a l : List ℕ) → Bytes a → Bytes l → Bytes (a ++ l)
bytes-join [] l h b k = b k
bytes-join (x ∷ a) l h b zero = h zero
bytes-join (x ∷ a) l h b (suc k) = bytes-join a l (λ k. h (suc k)) b k

pub le16-small : (file : List ℕ) → Bytes file → (at : ℕ) → le16 file at < 2 ^ 16
unfolding le16
le16-small file h at = omega (arith, h at, h (at + 1))

pub le32-small : (file : List ℕ) → Bytes file → (at : ℕ) → le32 file at < 2 ^ 32
unfolding le32
le32-small file h at = omega (arith, h at, h (at + 1), h (at + 2), h (at + 3))

-- the bytes from one position of a file are those from a position of another, n of them
abbrev pub SameBytes : ℕ → List ℕ → ℕ → List ℕ → ℕ → Type 0
SameBytes n file at other to = (k : ℕ) → k < n → get_or other (to + k) 0 ≡ get_or file (at + k) 0

module _ (file : List ℕ) (at : ℕ) (other : List ℕ) (to : ℕ) where
  byte-same : SameBytes 1 file at other to → get_or other to 0 ≡ get_or file at 0
  byte-same h = let z : to + 0 ≡ to = omega arith in let y : at + 0 ≡ at = omega arith in rw (z, y) at (h 0 (omega arith))

  pub le16-same : SameBytes 2 file at other to → le16 other to ≡ le16 file at
  unfolding le16
  le16-same h = rw (byte-same (λ k l. h k (omega arith)), h 1 (omega arith))

  pub le32-same : SameBytes 4 file at other to → le32 other to ≡ le32 file at
  unfolding le32
  le32-same h = rw (byte-same (λ k l. h k (omega arith)), h 1 (omega arith), h 2 (omega arith), h 3 (omega arith))

-- some of them
pub same-within : (n : ℕ) (file : List ℕ) (at : ℕ) (other : List ℕ) (to : ℕ) → SameBytes n file at other to → (j m : ℕ) → j + m ≤ n → SameBytes m file (at + j) other (to + j)
same-within n file at other to h j m l k b =
    let x : at + j + k ≡ at + (j + k) = omega arith in
    let y : to + j + k ≡ to + (j + k) = omega arith in
    rw (x, y) (h (j + k) (omega arith))
