-- Which points an accepted join has; a right file without points, and halves that share no cell. Assumes nothing.
use Rattle.std.specs.List.{filter}
use mathlib.Core.Path.{◌≡◌, refl, sym, ap, ◌∙◌}
use mathlib.Core.Bool.{Bool, true}
use mathlib.Core.List.{List, [], ◌∷◌, ◌++◌, map, Permᴰ, append-nil}
use Prim.Native.Nat.{ℕ}
use lib.ListN.{length}
use Rattle.folds.specs.Lists.{All}
use Rattle.sort.proofs.Sorted.{sort-perm, sort-length}
use Rattle.cells.specs.Points.{Point}
use Rattle.sheet_file.specs.Bytes.{Bytes}
use Rattle.sheet_file.specs.Frame.{layout_of}
use Rattle.sheet_file.specs.declared.Settings.{Settings}
use Rattle.points.specs.Refusals.{cell_order, comes_before}
use Rattle.ruling.specs.Accepted.{Words}
use Rattle.ruling.specs.Ruling.{accepted, ruling_in, ruling_of, points_of, applies}
use Rattle.ruling.proofs.Accepted.{listed, by-list}
use Rattle.ruling.proofs.Given.{for-accepted, none-applies}
use Rattle.ruling.proofs.Order.{relisted}
use Rattle.ruling.proofs.Standing.{accepted-file, words-in}
use Rattle.joined.specs.declared.moves.Move.{Move}
use Rattle.joined.specs.Joined.{moved_by, is_free, joined_list, joined_ruling, Joinable}
use Rattle.joined.proofs.Accepted.{read-as-list, AcceptedJoin}

-- ---- a list that is accepted, again in cell order

-- the points of an accepted list are its points in cell order
pub in-order : (room : ℕ) (s t : Settings) (ps qs : List Point) → ruling_in room s ps ≡ accepted t qs → qs ≡ cell_order ps
in-order room s t ps qs e = let k = for-accepted s t ps qs (listed room s t ps qs e).ruled-so in cc k.1

list-relisted : (room : ℕ) (s : Settings) (ps qs : List Point) → All Words ps → Permᴰ ps qs → length qs ≡ length ps → ruling_in room s ps ≡ ruling_in room s qs
unfolding ruling_in
list-relisted room s ps qs w p e = rw (e, relisted s ps qs w p)

pub accepted-again : (room : ℕ) (s : Settings) (ps qs : List Point) → All Words ps → ruling_in room s ps ≡ accepted s qs → ruling_in room s qs ≡ accepted s qs
accepted-again room s ps qs w e =
    let q = in-order room s s ps qs e in
    sym (list-relisted room s ps qs w (rw q (sort-perm comes_before ps)) (ap length q ∙ sort-length comes_before ps)) ∙ e

-- the points of an accepted file are accepted with its settings
file-as-list : (file : List ℕ) (room : ℕ) (s : Settings) (ps : List Point) → ruling_of file room ≡ accepted s ps → ruling_in room s (points_of file) ≡ accepted s ps
unfolding applies
file-as-list file room s ps e =
    let no = none-applies file room e in
    let k = accepted-file file room s ps e in
    rw k.settings-are (sym (by-list file room (no 1) (no 12) (no 4) (no 5)) ∙ rw k.settings-are at e)

-- ---- which points

module _ (left right : List ℕ) (m : Move) (room : ℕ) (s : Settings) (ps : List Point) (j : AcceptedJoin left right m room s ps) where
  pub points-are : ps ≡ cell_order (joined_list m j.lefts j.rights)
  points-are = in-order room s s (joined_list m j.lefts j.rights) ps j.ruled-so

  -- the joined list, in another order
  pub rearranged : Permᴰ (joined_list m j.lefts j.rights) ps
  rearranged = rw points-are (sort-perm comes_before (joined_list m j.lefts j.rights))

-- ---- a right file without points

pub joined-none : (m : Move) (ls : List Point) → joined_list m ls [] ≡ ls
unfolding joined_list
joined-none m ls = append-nil ls

-- it gives the ruling on the left file
pub right-without-points : (left right : List ℕ) (m : Move) (room : ℕ) (s t : Settings) (ls : List Point) → Bytes left → Joinable left right m room s ls t []
    → joined_ruling left right m room ≡ ruling_of left room
right-without-points left right m room s t ls b j =
    read-as-list left right m room s ls t [] j ∙ ap (ruling_in room s) (joined-none m ls)
    ∙ accepted-again room s (points_of left) ls (words-in left (layout_of left) b) (file-as-list left room s ls j.left-ruled) ∙ sym j.left-ruled

-- ---- halves that share no cell

filter-passing : {A : Type 0} (t : A → Bool) (l : List A) → All (λ (a : A). t a ≡ true) l → filter t l ≡ l
filter-passing t [] h = refl
filter-passing t (a ∷ l) h = rw h.0 (ap (◌∷◌ a) (filter-passing t l h.1))

-- "an offset that separates them": the left points, and all right ones
pub joined-apart : (m : Move) (ls rs : List Point) → All (λ (q : Point). is_free ls q ≡ true) (map (moved_by m) rs) → joined_list m ls rs ≡ ls ++ map (moved_by m) rs
unfolding joined_list
joined-apart m ls rs h = ap (◌++◌ ls) (filter-passing (is_free ls) (map (moved_by m) rs) h)
