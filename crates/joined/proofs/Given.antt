-- Which numbers a join can be refused with. Assumes nothing.
use Rattle.std.specs.List.{list_any}
use mathlib.Core.Path.{◌≡◌, refl, sym}
use mathlib.Core.Bool.{Bool, true, false, cond}
use mathlib.Core.List.{List, [], ◌∷◌}
use Prim.Native.Nat.{ℕ}
use lib.Dec.{eqb}
use lib.ListN.{length}
use Rattle.folds.specs.Lists.{All}
use Rattle.refusals.specs.First.{Condition, ruled}
use Rattle.cells.specs.Points.{Point}
use Rattle.sheet_file.specs.Refusals.{too_many, too_short}
use Rattle.sheet_file.specs.declared.Settings.{Settings}
use Rattle.points.specs.Refusals.{point_refusals, cell_order}
use Rattle.ruling.specs.Ruling.{Ruling, refused, accepted, ruling_for, ruling_in, ruling_of}
use Rattle.ruling.proofs.Given.{one-number, not-refused, each_number, is-given}
use Rattle.joined.specs.declared.moves.Move.{Move}
use Rattle.joined.specs.Joined.{joined_list, join_refusals, join_numbers, if_accepted, joined_ruling}

-- a number is one of the list
abbrev InList : ℕ → Type 0
InList k = list_any (eqb k) join_numbers ≡ true

-- what is refused has one of them
abbrev Given : Ruling → Type 0
Given x = (k : ℕ) → x ≡ refused k → InList k

ruled-given : (z : Ruling) (l : List Condition) → All (λ (c : Condition). InList c.0) l → Given z → Given (ruled refused z l)
ruled-given z [] h w = w
ruled-given z (c ∷ l) h w = go c.1 (ruled-given z l h.1 w)
  where
    go : (b : Bool) → Given (ruled refused z l) → Given (cond b (refused c.0) (ruled refused z l))
    go true r k e = rw (sym (one-number c.0 k e)) h.0
    go false r k e = r k e

-- the numbers of a sheet are among them
sheet-given : (file : List ℕ) (room : ℕ) → Given (ruling_of file room)
sheet-given file room k e = each_number (λ (n : ℕ). list_any (eqb n) join_numbers) k refl (is-given file room k e).listed

list-given : (room : ℕ) (s : Settings) (ps : List Point) → Given (ruling_in room s ps)
unfolding ruling_in ruling_for point_refusals
list-given room s ps =
    ruled-given (ruling_for s ps) ((2, too_many (length ps)) ∷ (3, too_short room (length ps)) ∷ []) (refl, (refl, tt))
    (ruled-given (accepted s (cell_order ps)) (point_refusals s.score_frac ps) (refl, (refl, (refl, (refl, (refl, (refl, tt)))))) (λ k e. absurd (not-refused (sym e))))

pub join-listed : (left right : List ℕ) (m : Move) (room k : ℕ) → joined_ruling left right m room ≡ refused k → list_any (eqb k) join_numbers ≡ true
unfolding joined_ruling
join-listed left right m room k e = go (ruling_of left room) (ruling_of right room) (sheet-given left room) (sheet-given right room) k e
  where
    go : (x y : Ruling) → Given x → Given y
        → Given (if_accepted x (λ (s : Settings) (ls : List Point). if_accepted y (λ (t : Settings) (rs : List Point). ruled refused (ruling_in room s (joined_list m ls rs)) (join_refusals m s ls t rs))))
    go (refused k) y f g = f
    go (accepted s ls) (refused k) f g = g
    go (accepted s ls) (accepted t rs) f g = ruled-given (ruling_in room s (joined_list m ls rs)) (join_refusals m s ls t rs) (refl, (refl, (refl, tt))) (list-given room s (joined_list m ls rs))
