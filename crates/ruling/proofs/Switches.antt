-- "Changing only the two switches": the file stays accepted, with the same points, and of its settings the two switches alone change.
-- Assumes nothing.
use Rattle.std.specs.Prelude.{Some}
use mathlib.Core.Path.{◌≡◌, refl, sym, ◌∙◌}
use mathlib.Core.Bool.{true, false, ◌||◌}
use mathlib.Core.List.{List}
use mathlib.Core.Logic.{inl, inr}
use Prim.Native.Nat.{ℕ, ◌+◌, ◌*◌, ◌≤◌}
use lib.ListN.{get_or}
use native.Mathlib.Omega.{arith}
use Rattle.folds.proofs.Lists.{list_ext}
use Rattle.refusals.proofs.Laws.{none_passes}
use Rattle.cells.specs.Points.{Point, nowhere}
use Rattle.sheet_file.specs.Bytes.{byte_at}
use Rattle.sheet_file.specs.Frame.{framing_of, layout_of}
use Rattle.sheet_file.specs.Refusals.{settings_of, no_flag, bad_flag, header_refusals}
use Rattle.sheet_file.specs.declared.Layout.{Layout}
use Rattle.sheet_file.specs.declared.Settings.{Settings}
use Rattle.sheet_file.proofs.Fields.{before-points}
use Rattle.points.specs.Records.{ith_strength, ith_point, points_in}
use Rattle.points.proofs.Located.{point-same}
use Rattle.ruling.specs.Ruling.{refused, accepted, ruling_for, ruling_of, applies}
use Rattle.ruling.specs.Switches.{Switched, switched}
use Rattle.ruling.proofs.Given.{other-settings, none-applies, in-file}
use Rattle.ruling.proofs.Header.{SameHeader, settings-alike, carried-alike, strengths-alike}
use Rattle.ruling.proofs.Standing.{accepted-file}
use Rattle.std.proofs.lemmas.Bool.{or_parts}

module _ (file other : List ℕ) (f : Layout) (h : Switched file other) (framed : framing_of file ≡ Some f) (full : f.full ≡ true) where
  alike : SameHeader file other f
  alike = record { size = h.size; same = λ k m l. h.rest k (l full); after = λ k l m. h.rest k (inr (omega (arith, (before-points file f framed).long full))) }

  flags-fine : bad_flag file f ≡ false → bad_flag other f ≡ false
  unfolding bad_flag
  flags-fine e = rw (full, h.rest 17 (inl (omega arith)), (or_parts (no_flag (byte_at file 17)) (no_flag (byte_at file 22) || no_flag (byte_at file 23)) (rw full at e)).0, h.first, h.second)

  settings-switched : settings_of other f ≡ switched (settings_of file f) (byte_at other 22) (byte_at other 23)
  settings-switched = settings-alike file other f framed alike ∙ rw full

  late : (k : ℕ) → f.points ≤ k → get_or other k 0 ≡ get_or file k 0
  late k l = h.rest k (inr (omega (arith, (before-points file f framed).long full)))

  strengths-are : (i : ℕ) → ith_strength other f i ≡ ith_strength file f i
  strengths-are = strengths-alike file other f framed (λ k l. late k (omega arith))

  points-are : points_in other f ≡ points_in file f
  unfolding points_in
  points-are =
      list_ext nowhere f.count (ith_point other f) (ith_point file f)
      (λ i b. rw (strengths-are i) (point-same file (f.points + 20 * i) other (f.points + 20 * i) (ith_strength file f i) (λ k m. late (f.points + 20 * i + k) (omega arith))))

flags : (file : List ℕ) (room : ℕ) (s : Settings) (ps : List Point) → ruling_of file room ≡ accepted s ps → bad_flag file (layout_of file) ≡ false
unfolding applies
flags file room s ps e = none-applies file room e 4

pub switches : (file other : List ℕ) → Switched file other → (layout_of file).full ≡ true → (room : ℕ) (s : Settings) (ps : List Point) → ruling_of file room ≡ accepted s ps
    → ruling_of other room ≡ accepted (switched s (byte_at other 22) (byte_at other 23)) ps
switches file other h full room s ps e =
    let f = layout_of file in
    let k = accepted-file file room s ps e in
    let t = switched s (byte_at other 22) (byte_at other 23) in
    let fine = rw k.framed at (in-file file room e).0 in
    let ok = flags file room s ps e in
    let same : ruling_for t (points_in file f) ≡ accepted t ps = other-settings s t (points_in file f) ps refl (rw (← k.settings-are) at k.ruled-so) in
    carried-alike file other f k.framed (alike file other f h k.framed full) (flags-fine file other f h k.framed full ok ∙ sym ok) room
    ∙ rw (settings-switched file other f h k.framed full, ← k.settings-are, points-are file other f h k.framed full)
    (none_passes refused (ruling_for t (points_in file f)) (header_refusals file room (Some f)) fine ∙ same)
