-- A buffer of map_size bytes has room for what is printed of any bytes. Assumes nothing.
use Rattle.std.proofs.Common.{Result, Ok}
use mathlib.Core.Path.{◌≡◌, refl, ap, ◌∙◌}
use mathlib.Core.Bool.{true}
use mathlib.Core.List.{List}
use Prim.Native.Nat.{ℕ, ◌≤◌, ◌<◌}
use native.Mathlib.Omega.{arith}
use lib.ListN.{length, take, drop}
use lib.Seq.{take_all, take-append_seam}
use borrow.Author.Tests.{le-leb}
use Rattle.cells.specs.Points.{Point}
use Rattle.cells.specs.Cell.{Cell, within, cells_of}
use Rattle.cells.proofs.Keys.{cell_at}
use Rattle.sheet_file.specs.Bytes.{Bytes}
use Rattle.sheet_file.specs.declared.Settings.{Settings}
use Rattle.ruling.specs.Ruling.{Ruling, refused, accepted, ruling_of, rows_size}
use Rattle.ruling.proofs.Standing.{accepted-order}
use Rattle.text.specs.Answer.{Shows}
use Rattle.text.specs.declared.NoRoom.{NoRoom}
use Rattle.text.proofs.Stores.{refusal-length, shown-whole, shown-first}
use Rattle.map_lines.specs.Map.{map_size}
use Rattle.map_lines.proofs.Size.{map-fits}
use Rattle.judging.specs.Judging.{judged_for}
use Rattle.sheet_map.specs.Text.{map_ruling_of, map_by, map_text_of}
use Rattle.sheet_map.proofs.Laws.{text-is, is-drawn, number_small}

-- the v of an accepted sheet's cells lie in −8,000 to 8,000
pub v-within : (file : List ℕ) → Bytes file → (s : Settings) (ps : List Point) → ruling_of file rows_size ≡ accepted s ps → (k : ℕ) → k < length ps → within (cells_of ps k).v ≡ true
v-within file b s ps e k h = ap (λ (c : Cell). within c.v) (cell_at ps k h) ∙ ((accepted-order file rows_size s ps b e).inside k h).v

pub text-fits : (file : List ℕ) → Bytes file → length (map_text_of file) ≤ map_size
text-fits file b = rw (text-is file) (go (map_ruling_of file) refl)
  where
    go : (x : Ruling) → map_ruling_of file ≡ x → length (map_by x) ≤ map_size
    go (refused k) e = omega (arith, refusal-length k (omega (arith, number_small file k e)))
    go (accepted s ps) e =
        let d = is-drawn file s ps e in
        map-fits (length ps) (cells_of ps) (judged_for s ps).marks (v-within file b s ps d.ruled) d.narrow

-- so the function that writes the text, lent such a buffer, writes it whole
pub whole : (s before after : List ℕ) (r : Result ℕ NoRoom) → Bytes s → map_size ≤ length before → Shows (map_text_of s) before after r → r ≡ Ok (length (map_text_of s))
whole s before after r b l h = shown-whole h (omega (arith, text-fits s b))

-- and its first bytes are then the text
pub printed : (s before after : List ℕ) (r : Result ℕ NoRoom) → Bytes s → map_size ≤ length before → Shows (map_text_of s) before after r → take (length (map_text_of s)) after ≡ map_text_of s
printed s before after r b l h = shown-first h (omega (arith, text-fits s b))
