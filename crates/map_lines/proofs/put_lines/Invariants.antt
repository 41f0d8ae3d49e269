use mathlib.Core.List.{List, []}
use Prim.Native.Nat.{ℕ, ◌+◌}
use lib.IntN.{pos, ◌-ℤ◌}
use lib.ListN.{get_or}
use Rattle.cells.specs.Points.{bias}
use Rattle.text.specs.Text.{each}
use Rattle.text.specs.Stored.{Stored}
use Rattle.map_lines.specs.Map.{line_text}
use Rattle.map_lines.proofs.put_lines.Given as goal

abbrev pub line : List (List ℕ) → ℕ → ℕ → List ℕ
line page v i = line_text (pos (v + i) -ℤ pos bias) (get_or page i [])

abbrev pub invariant-loop-i : goal.invariant-loop-i
invariant-loop-i l = Stored l.initial.w (each (line l.page l.v) l.i) l.w
