-- Document 02, A.6: "we need the worst sheet of n points, n from 2 to 2,304". The sheet, and what the program `worst` writes for an argument.
-- Assumes nothing.
use Rattle.std.specs.Prelude.{ℕ, ◌+◌, ◌*◌, cond, List, [], length, pos, ◌==◌, nat_lt, to_bits}
use Rattle.std.specs.Float.{binary32}
use Rattle.std.specs.Float.Ieee.{of_int}
use Rattle.folds.specs.Below.{first}
use Rattle.folds.specs.Lists.{list_of}
use Rattle.folds.specs.Same.{same_list}
use Rattle.view.specs.View.{max_points}
use Rattle.text.specs.Text.{decimal}
use Rattle.cells.specs.Points.{Point}
use Rattle.written_file.specs.File.{spelled_out, weighed_file}

-- the 32-bit pattern of the whole number n as f32
abbrev pub float_bits : ℕ → ℕ
float_bits n = to_bits binary32 (of_int binary32 (pos n))

-- "all strengths 1 but the last, which is 2"
abbrev pub strength_at : ℕ → ℕ → ℕ
strength_at n u = float_bits (cond (u + 1 == n) 2 1)

-- "cells (u,0) with index u at (7u,0)"
abbrev pub point_at : ℕ → ℕ → Point
point_at n u = record { u = u; v = 0; index = u; x = float_bits (7 * u); y = float_bits 0; strength = strength_at n u }

-- "from u = 0 upward"
abbrev pub worst_points : ℕ → List Point
worst_points n = list_of n (point_at n)

-- "cell size 7", and (document 02, A.9) "A.6's program, now spell out all 21 bytes with 3": the data of tag 1
abbrev pub settings_data : List ℕ
settings_data = spelled_out (float_bits 7) 3

-- "no tag 2, .. fraction 2"
unfoldable pub worst_file : ℕ → List ℕ
unfolding list_of
worst_file n = weighed_file settings_data (float_bits 2) (worst_points n)

-- "n as its one argument, printed like an index", "n from 2 to 2,304": the n whose decimal digits are the argument, and one more than the most
-- points where there is none
unfoldable pub asked : List ℕ → ℕ
unfolding first same_list decimal
asked argument = first (λ (n : ℕ). same_list (decimal n) argument) 2 (max_points + 1)

-- "writes a sheet that reaches it", "For anything else it writes nothing."
unfoldable pub worst_of : List ℕ → List ℕ
unfolding asked worst_file
worst_of argument = let n = asked argument in cond (nat_lt n (max_points + 1)) (worst_file n) []

-- no sheet that is written is longer: three fields, each with a tag and two bytes of length (proved in proofs/Size.antt)
abbrev pub worst_size : ℕ
worst_size = (3 + length settings_data) + (3 + 20 * max_points) + (3 + 4 + 4 * max_points)
