-- A file longer than every well-framed one, and a result buffer with room for every sheet. Assumes nothing.
use mathlib.Core.Path.{◌≡◌}
use mathlib.Core.List.{List}
use Prim.{Dec, yes, no}
use Prim.Native.Nat.{ℕ, ◌+◌, ◌*◌, ◌≤◌, ◌<◌}
use native.Mathlib.Decide.{dec_lt}
use native.Mathlib.Omega.{arith}
use lib.ListN.{length, get_or, take, length-take, get_or-eq_default}
use lib.Seq.{take_all, get_or-take, length-take-le}
use borrow.Author.Tests.{ltb-true, ltb-false}
use Rattle.view.specs.View.{max_points}
use Rattle.sheet_file.specs.Bytes.{Bytes}
use Rattle.sheet_file.specs.Frame.{layout_of}
use Rattle.sheet_file.specs.Grammar.{longest}
use Rattle.sheet_file.proofs.Longest.{too_long}
use Rattle.ruling.specs.Ruling.{refused, ruling_of, applies, rows_size}
use Rattle.ruling.proofs.Given.{is-given}

module _ (file : List ℕ) (room : ℕ) where
  long-refused : Bytes file → longest < length file → ruling_of file room ≡ refused 1
  unfolding ruling_of
  long-refused b l = rw (too_long file b l)

  -- a buffer of 28 bytes for each of the most points is never too short
  pub never-three : rows_size ≤ room → ruling_of file room ≡ refused 3 → ⊥
  unfolding applies
  never-three l e =
      let g = is-given file room 3 e in
      omega (arith, ltb-true room (28 * (layout_of file).count) g.holding, ltb-false max_points (layout_of file).count (g.earlier 2))

pub bytes_cut : (file : List ℕ) (n : ℕ) → Bytes file → Bytes (take n file)
bytes_cut file n b k = go (dec_lt k n)
  where
    go : Dec (k < n) → get_or (take n file) k 0 < 256
    go (yes h) = rw (get_or-take n file k 0 h) (b k)
    go (no h) = rw (get_or-eq_default (take n file) 0 {n = k} (simp length-take (omega (arith, h)))) (omega arith)

-- a file may be cut one byte after the length of the longest: the ruling stays
pub cut-ruling : (file : List ℕ) → Bytes file → (room : ℕ) → ruling_of (take (longest + 1) file) room ≡ ruling_of file room
cut-ruling file b room = go (dec_lt longest (length file))
  where
    go : Dec (longest < length file) → ruling_of (take (longest + 1) file) room ≡ ruling_of file room
    go (yes l) =
        rw (long-refused file room b l)
        (long-refused (take (longest + 1) file) room (bytes_cut file (longest + 1) b) (omega (arith, length-take-le (longest + 1) file (omega arith))))
    go (no l) = rw (take_all (longest + 1) file (omega (arith, l)))
