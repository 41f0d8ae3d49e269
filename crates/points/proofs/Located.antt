-- A point depends on its own 20 bytes and its strength alone, and the list of a file's points is as long as is said. Assumes nothing.
use mathlib.Core.Path.{◌≡◌}
use mathlib.Core.List.{List}
use Prim.Native.Nat.{ℕ, ◌+◌, ◌≤◌}
use native.Mathlib.Omega.{arith}
use lib.ListN.{length}
use Rattle.folds.proofs.Lists.{length-list}
use Rattle.sheet_file.specs.Bytes.{le32}
use Rattle.sheet_file.proofs.Words.{SameBytes, same-within, le32-same}
use Rattle.sheet_file.specs.declared.Layout.{Layout}
use Rattle.points.specs.Records.{point_in, ith_point, points_in}

word_same : (file : List ℕ) (at : ℕ) (other : List ℕ) (to j : ℕ) → j + 4 ≤ 20 → SameBytes 20 file at other to → le32 other (to + j) ≡ le32 file (at + j)
word_same file at other to j l h = le32-same file (at + j) other (to + j) (same-within 20 file at other to h j 4 l)

pub point-same : (file : List ℕ) (at : ℕ) (other : List ℕ) (to w : ℕ) → SameBytes 20 file at other to → point_in other to w ≡ point_in file at w
point-same file at other to w h =
    let word : (j : ℕ) → j + 4 ≤ 20 → le32 other (to + j) ≡ le32 file (at + j) = λ j l. word_same file at other to j l h in
    rw (le32-same file at other to (λ k l. h k (omega arith)), word 4 (omega arith), word 8 (omega arith), word 12 (omega arith), word 16 (omega arith))

pub length-points : (file : List ℕ) (f : Layout) → length (points_in file f) ≡ f.count
unfolding points_in
length-points file f = length-list f.count (ith_point file f)
