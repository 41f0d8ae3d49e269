-- A file made of an accepted one and other points is ruled by these, with the settings of the accepted one. Assumes nothing.
use Rattle.std.specs.Prelude.{Some, is_some}
use mathlib.Core.Path.{◌≡◌, sym, ap, subst, ◌∙◌}
use mathlib.Core.Bool.{Bool}
use mathlib.Core.List.{List, [], ◌∷◌, ◌++◌, append_assoc}
use Prim.Native.Nat.{ℕ, zero, suc, ◌-◌, ◌*◌, ◌/◌, ◌≤◌}
use native.Mathlib.Omega.{arith}
use lib.ListN.{length, take, length-append, length-take}
use lib.Seq.{get_or-take, take-append_seam}
use Rattle.folds.specs.Lists.{All}
use Rattle.cells.specs.Points.{Point}
use Rattle.sheet_file.specs.Bytes.{Bytes, le32}
use Rattle.sheet_file.specs.Frame.{framing_of, layout_in, layout_of, weights_of}
use Rattle.sheet_file.specs.Grammar.{field, WellFramed, most_data}
use Rattle.sheet_file.specs.Refusals.{edge_shape_of, fraction_of, settings_of, bad_flag, bad_float}
use Rattle.sheet_file.specs.declared.Layout.{Layout}
use Rattle.sheet_file.specs.declared.Settings.{Settings}
use Rattle.sheet_file.proofs.Words.{le32-small}
use Rattle.sheet_file.proofs.Grammar.{weights-counted, accepted-well}
use Rattle.ruling.specs.Ruling.{accepted, ruling_in, ruling_of, applies}
use Rattle.ruling.specs.Accepted.{Words}
use Rattle.ruling.proofs.Given.{none-applies}
use Rattle.ruling.proofs.Standing.{accepted-file}
use Rattle.ruling.proofs.Bounds.{bytes_cut}
use Rattle.written_file.specs.Remade.{remade}
use Rattle.written_file.proofs.Parts.{no_bytes}
use Rattle.written_file.proofs.Framed.{Head, layout_with, framed-with, made_layout}
use Rattle.written_file.proofs.Heads.{settings_with, settings-are, Within, head-within, Begins, head-settings, head-flags, head-floats}
use Rattle.written_file.proofs.ReadBack.{fraction_for, Strengthless, ruled-by-points, made-bytes}

-- "a tag 3 can hold" the points: their length, 20 bytes for each, stands in two bytes. Then the file that is made is one of bytes
pub remade-bytes : (file : List ℕ) → Bytes file → (ps : List Point) → 20 * length ps ≤ most_data → Bytes (remade file ps)
unfolding remade
remade-bytes file b ps few =
    let f = layout_of file in
    made-bytes (take (f.points - 3) file) (is_some f.weights) (le32 file (weights_of f).at) ps (bytes_cut file (f.points - 3) b) few

module _ (file : List ℕ) (w : WellFramed file) where
  abbrev f : Layout
  f = layout_of file

  -- tags 1 and 2
  abbrev head : List ℕ
  head = take (f.points - 3) file

  abbrev weighed : Bool
  weighed = is_some f.weights

  abbrev count : ℕ
  count = length w.points / 20

  -- where its fields are found
  parted : framing_of file ≡ Some (layout_with (length w.settings) (length w.gate) count weighed (weights_of f).len)
  parted = framed-with file w count weighed (weights_of f).len (omega (arith, w.twenties)) (sym (weights-counted file w))

  -- its fields, by the parts of the file
  layout_is : f ≡ layout_with (length w.settings) (length w.gate) count weighed (weights_of f).len
  layout_is = ap layout_in parted

  -- they are the first bytes of the file
  first-parts : head ≡ field 1 w.settings ++ w.gate
  first-parts =
      let l : List ℕ = field 1 w.settings ++ w.gate in
      let q : file ≡ l ++ (field 3 w.points ++ w.weights) = w.in_order ∙ sym (append_assoc (field 1 w.settings) w.gate (field 3 w.points ++ w.weights)) in
      let e : f.points - 3 ≡ length l = omega (arith, ap (λ (x : Layout). x.points) layout_is, length-append (field 1 w.settings) w.gate) in
      ap (λ (n : ℕ). take n file) e ∙ ap (take (length l)) q ∙ take-append_seam l (field 3 w.points ++ w.weights)

  abbrev parts : Head head
  parts = record { settings = w.settings; gate = w.gate; settings-size = w.settings-size; gate-optional = w.gate-optional; head_is = first-parts }

  -- tags 1 and 2 are within the first bytes, with which the file begins
  within : Within head f
  within = subst (Within head) (sym layout_is) (head-within parts count weighed (weights_of f).len)

  begins : Begins file head
  begins k h = sym (get_or-take (f.points - 3) file k 0 (omega (arith, length-take (f.points - 3) file, h)))

  module _ (ps : List Point) where
    -- the fields of the file that is made
    abbrev g : Layout
    g = made_layout parts weighed ps

    -- tag 1 has the same length, and tag 2 is there in both or in neither
    same_full : f.full ≡ g.full
    same_full = ap (λ (x : Layout). x.full) layout_is

    same_gated : f.gated ≡ g.gated
    same_gated = ap (λ (x : Layout). x.gated) layout_is

    -- the settings, and the conditions of numbers 4 and 5, are those of the file
    settings-kept : settings_of file f ≡ settings_with head g (fraction_for weighed (le32 file (weights_of f).at))
    unfolding edge_shape_of fraction_of
    settings-kept =
        settings-are file f ∙ head-settings file head begins f within (fraction_of file f)
        ∙ rw (same_full, same_gated)

    flags-kept : bad_flag file f ≡ bad_flag head g
    unfolding bad_flag
    flags-kept = head-flags file head begins f within ∙ rw same_full

    floats-kept : bad_float file f ≡ bad_float head g
    unfolding bad_float
    floats-kept = head-floats file head begins f within ∙ rw (same_full, same_gated)

-- "The joined list is then read as a sheet with all its refusals": the file made of an accepted one and of points is ruled as these points are, with
-- the settings of the accepted one. Without tag 4 the points have no strengths.
pub remade-ruled : (file : List ℕ) (size : ℕ) (s : Settings) (ls : List Point) → Bytes file → ruling_of file size ≡ accepted s ls
    → (ps : List Point) → All Words ps → Strengthless (is_some (layout_of file).weights) ps → (room : ℕ) → ruling_of (remade file ps) room ≡ ruling_in room s ps
unfolding remade applies
remade-ruled file size s ls b e ps words bare room =
    let f = layout_of file in
    let no = none-applies file size e in
    let w = accepted-well file b (no 1) in
    let kept : settings_with (head file w) (g file w ps) (fraction_for (is_some f.weights) (le32 file (weights_of f).at)) ≡ s = sym (settings-kept file w ps) ∙ sym (accepted-file file size s ls e).settings-are in
    ruled-by-points (head file w) (parts file w) (le32 file (weights_of f).at) ps (le32-small file b (weights_of f).at) (is_some f.weights) words bare (sym (flags-kept file w ps) ∙ no 4) (sym (floats-kept file w ps) ∙ no 5) room
    ∙ rw kept
