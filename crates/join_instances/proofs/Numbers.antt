-- Each of the numbers 2, 3, 6 and 7 of a joined list arises; 7 is not looked for at a point that is gone. Assumes nothing.
use mathlib.Core.Path.{◌≡◌, refl, sym, ap, ◌∙◌}
use mathlib.Core.Bool.{false, true}
use mathlib.Core.List.{List, [], ◌∷◌, ◌++◌, map}
use Prim.Native.Nat.{ℕ, zero, suc, ◌+◌, ◌-◌, ◌*◌, ◌^◌, ◌≤◌, ◌<◌}
use native.Mathlib.Omega.{arith}
use lib.Dec.{leb, eqb}
use lib.IntN.{ℤ, pos, negsuc}
use lib.Ieee.{of_bits}
use lib.ListN.{length, get_or, length-append, length-map}
use borrow.Author.Tests.{lt-ltb, lt-leb}
use Rattle.std.specs.List.{list_any}
use Rattle.folds.specs.Arith.{f32}
use Rattle.folds.proofs.Among.{any-list}
use Rattle.folds.proofs.Below.{some-no}
use Rattle.view.specs.View.{max_points}
use Rattle.cells.specs.Points.{Point, nowhere}
use Rattle.cells.specs.Cell.{Cell, cell_of, moved}
use Rattle.ruling.specs.Ruling.{refused, accepted, rows_size}
use Rattle.joined.specs.declared.moves.Move.{Move}
use Rattle.joined.specs.Joined.{high_index, moved_by, joined_list, joined_ruling, Joinable}
use Rattle.promises.specs.Joined.{Separated}
use Rattle.promises.proofs.Joined.{join-numbers, separated}
use Rattle.worst_sheet.specs.Worst.{point_at, worst_points, worst_file}
use Rattle.worst_row.specs.Sheet.{worst_settings}
use Rattle.worst_row.proofs.Accepted.{point-is, point-count, worst-accepted, worst-bytes}
use Rattle.instances.specs.Files.{point}
use Rattle.stars.specs.Stars.{settings}
use Rattle.join_instances.specs.Halves.{first, second, half, by_columns}
use Rattle.join_instances.proofs.Joined.{join-computes}

-- 8,000 columns on, the second point of the right half comes to u = 8,001
pub out_of_range : joined_ruling half half (by_columns 8000 0) 112 ≡ refused 6
unfolding join-computes
out_of_range = refl

-- 16,384 pixels on, it comes to x = 16,484
pub out_of_limit : joined_ruling half half (by_columns 2 0x4680_0000) 112 ≡ refused 7
unfolding join-computes
out_of_limit = refl

-- one column back and as many pixels on, it would come there too, but the left half holds its cell
pub gone-unseen : joined_ruling half half (record { du = negsuc 0; dv = pos 0; dx = f32 0x4680_0000; dy = f32 0 }) 84
    ≡ accepted settings (point (2 ^ 32 - 1) 0 (10 + 2 ^ 31) 0x4680_0000 0 ∷ first ∷ second ∷ [])
unfolding join-computes
gone-unseen = refl

-- ---- a row of as many points as a sheet may have, and beside it a row of two

low-row : (n : ℕ) → n ≤ max_points → list_any high_index (worst_points n) ≡ false
low-row n few = any-list (point_at n) n high_index ∙ some-no (λ k. high_index (point_at n k)) n (λ k h. lt-leb (2 ^ 31) k (omega arith))

abbrev up : Move
up = record { du = pos 0; dv = pos 1; dx = f32 0; dy = f32 0 }

two_rows : Joinable (worst_file 2304) (worst_file 2) up rows_size worst_settings (worst_points 2304) worst_settings (worst_points 2)
unfolding of_bits
two_rows = record {
  left-ruled = worst-accepted 2304 (omega arith) rows_size (omega arith);
  right-ruled = worst-accepted 2 (omega arith) rows_size (omega arith);
  low-left = low-row 2304 (omega arith);
  low-right = low-row 2 (omega arith);
  allowed = refl;
  alike = refl;
}

rows-apart : Separated up (worst_points 2304) (worst_points 2)
rows-apart i j h l e =
    let p = point-is 2304 (omega arith) i (omega (arith, point-count 2304 (omega arith), h)) in
    let q = point-is 2 (omega arith) j (omega (arith, point-count 2 (omega arith), l)) in
    let v : ◌≡◌ {A = ℤ} (pos 0) (pos 1) = rw (p, q) at (ap (λ (c : Cell). c.v) e) in
    let z : ◌≡◌ {A = ℕ} 0 1 = cc in
    omega arith

-- 2,306 points
pub too-many : joined_ruling (worst_file 2304) (worst_file 2) up rows_size ≡ refused 2
too-many =
    let ls = worst_points 2304 in
    let rs = worst_points 2 in
    let bl = worst-bytes 2304 (omega arith) in
    let br = worst-bytes 2 (omega arith) in
    let apart = separated (worst_file 2304) (worst_file 2) up rows_size worst_settings worst_settings ls rs bl br two_rows rows-apart in
    let size : max_points < length (joined_list up ls rs) =
    omega (arith, ap length apart.list, length-append ls (map (moved_by up) rs), length-map rs (moved_by up), point-count 2304 (omega arith), point-count 2 (omega arith)) in
    (join-numbers (worst_file 2304) (worst_file 2) up rows_size worst_settings worst_settings ls rs bl br two_rows).by-four ∙ rw (lt-ltb max_points (length (joined_list up ls rs)) size) refl
