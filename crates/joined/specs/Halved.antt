-- For the code: the sheets of two accepted halves, and the order of their joined points. Assumes nothing.
use Rattle.std.specs.List.{list_any}
use Rattle.std.specs.Prelude.{◌≡◌, false, List, ℕ, ◌+◌, ◌-◌, Some, ℤ, pos, negsuc, suc}
use Rattle.cells.specs.Points.{Point}
use Rattle.ruling.specs.Accepted.{AcceptedSheet}
use Rattle.ruling.specs.Sheet.{SheetOf}
use Rattle.ruling.specs.declared.sheet.Sheet.{Sheet}
use Rattle.merged.specs.Sources.{sources_of, in_array}
use Rattle.merged.specs.declared.halves.Halves.{Halves}
use Rattle.merged.specs.declared.halves.Sources.{Sources}
use Rattle.joined.specs.Joined.{high_index, bad_move}
use Rattle.joined.specs.declared.moves.Move.{Move}

-- the sheets are those of accepted points, which the numbers 15 and 16 do not concern
pub record Halved (left right : Sheet) (m : Move) : Type 0 where
  pub lefts : List Point
  pub rights : List Point
  pub left-sheet : SheetOf left.settings lefts left
  pub right-sheet : SheetOf right.settings rights right
  pub left-accepted : AcceptedSheet left.settings lefts
  pub right-accepted : AcceptedSheet right.settings rights
  pub low-left : list_any high_index lefts ≡ false
  pub low-right : list_any high_index rights ≡ false
  pub allowed : bad_move m ≡ false

-- an offset plus 16,000
abbrev pub raised : ℤ → ℕ
raised (pos n) = n + 16000
raised (negsuc n) = 16000 - suc n

-- the tables of both are to be merged, the right one moved by the offset
pub record HalvesOf (left right : Sheet) (m : Move) (h : Halves) : Type 0 where
  pub left-keys : h.left.keys.now ≡ left.table.keys
  pub left-count : h.left.count ≡ left.count
  pub right-keys : h.right.keys.now ≡ right.table.keys
  pub right-count : h.right.count ≡ right.count
  pub up-u : h.up_u ≡ raised m.du
  pub up-v : h.up_v ≡ raised m.dv

-- and are: these are their numbers in order
pub record Ordered (left right : Sheet) (m : Move) (h : Halves) (r : Sources) : Type 0 where
  pub halves : HalvesOf left right m h
  pub sources : Some r ≡ in_array (sources_of h)
