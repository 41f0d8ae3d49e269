-- An accepted sheet is sound, and an accepted file is one use of it. Assumes nothing.
use mathlib.Core.Path.{◌≡◌, refl, sym, ◌∙◌}
use mathlib.Core.Bool.{false}
use mathlib.Core.List.{List, [], ◌∷◌}
use Prim.Native.Nat.{ℕ, ◌≤◌}
use lib.ListN.{length}
use borrow.Author.Tests.{ltb-false}
use Rattle.view.specs.View.{max_points}
use Rattle.refusals.proofs.Laws.{none-applies-in, only_none}
use Rattle.cells.specs.Points.{Point}
use Rattle.sheet_file.specs.Bytes.{Bytes}
use Rattle.sheet_file.specs.Frame.{layout_of}
use Rattle.sheet_file.specs.Refusals.{settings_of, misframed, misfit, too_many, too_short, bad_flag, bad_float, header_refusals}
use Rattle.sheet_file.specs.declared.Settings.{Settings}
use Rattle.points.proofs.Located.{length-points}
use Rattle.ruling.specs.Ruling.{refused, accepted, ruling_for, ruling_in, ruling_of, points_of, applies}
use Rattle.ruling.specs.Accepted.{AcceptedSheet}
use Rattle.ruling.proofs.Given.{by-points, not-refused, none-applies}
use Rattle.ruling.proofs.Standing.{Sound, sound-for, words-in, accepted-file}

-- ---- of a list of points

-- what the ruling on an accepted list says
pub record Listed (room : ℕ) (s t : Settings) (ps qs : List Point) : Type 0 where
  pub few : length ps ≤ max_points
  pub room-short : too_short room (length ps) ≡ false
  pub ruled-so : ruling_for s ps ≡ accepted t qs

pub listed : (room : ℕ) (s t : Settings) (ps qs : List Point) → ruling_in room s ps ≡ accepted t qs → Listed room s t ps qs
unfolding ruling_in
listed room s t ps qs e =
    let r = only_none refused (ruling_for s ps) (accepted t qs) (λ k e. not-refused e) ((2, too_many (length ps)) ∷ (3, too_short room (length ps)) ∷ []) e in
    let no = none-applies-in ((2, too_many (length ps)) ∷ (3, too_short room (length ps)) ∷ []) r.0 in
    record { few = ltb-false max_points (length ps) (no 2); room-short = no 3; ruled-so = r.1 }

pub sound-sheet : (s : Settings) (ps : List Point) → AcceptedSheet s ps → Sound ps
sound-sheet s ps a = let k = listed a.room s s a.points ps a.ruled-so in sound-for s s a.points ps a.words k.few k.ruled-so

-- ---- of a file

-- where 1, 12, 4 and 5 do not apply, the ruling on a file is that on its points
pub by-list : (file : List ℕ) (room : ℕ) → let f = layout_of file in misframed file ≡ false → misfit f ≡ false → bad_flag file f ≡ false → bad_float file f ≡ false
    → ruling_of file room ≡ ruling_in room (settings_of file f) (points_of file)
unfolding ruling_in header_refusals
by-list file room a b c d = by-points file room ∙ rw (a, b, c, d, length-points file (layout_of file)) refl

pub of-file : (file : List ℕ) (room : ℕ) (s : Settings) (ps : List Point) → Bytes file → ruling_of file room ≡ accepted s ps → AcceptedSheet s ps
unfolding applies
of-file file room s ps b e =
    let no = none-applies file room e in
    let k = accepted-file file room s ps e in
    record {
      room = room;
      points = points_of file;
      words = words-in file (layout_of file) b;
      ruled-so = rw k.settings-are (sym (by-list file room (no 1) (no 12) (no 4) (no 5)) ∙ rw k.settings-are at e);
    }
