-- The parts of the reading of two files, as the code makes it. Assumes nothing.
use Rattle.std.specs.List.{list_any}
use Rattle.std.specs.Prelude.{None}
use mathlib.Core.Path.{◌≡◌, refl, sym, ap, ◌∙◌}
use mathlib.Core.Bool.{Bool, true, false, not, beq, ◌||◌, true≢false}
use mathlib.Core.List.{List, [], ◌∷◌}
use Prim.Native.Nat.{ℕ, ◌*◌, ◌^◌, ◌≤◌, ◌<◌}
use native.Mathlib.Omega.{arith}
use lib.Dec.{T, leb}
use lib.Ieee.{Float, nan, inf, fin}
use lib.Ieee.Scale.{finite}
use lib.ListN.{length, get_or}
use borrow.Author.Tests.{lt-ltb, le-ltb, leb-false}
use Rattle.std.proofs.Common.{Ok, Err}
use Rattle.std.proofs.lemmas.Bool.{or_parts}
use Rattle.folds.proofs.Among.{any-list}
use Rattle.folds.specs.Arith.{f32}
use Rattle.folds.specs.Below.{some}
use Rattle.folds.proofs.Below.{some-ext, some-fails}
use Rattle.folds.specs.Column.{column}
use Rattle.folds.proofs.Column.{column-at}
use Rattle.folds.proofs.Lists.{is-list}
use Rattle.view.specs.View.{max_points, Finite}
use Rattle.refusals.specs.First.{ruled}
use Rattle.refusals.specs.declared.Refusal.{Refusal}
use Rattle.refusals.specs.declared.Refusal.TheVariants.{TooManyPoints, ShortBuffer, BadCell, BadPosition, HighIndex, BadMove, UnlikeHalves}
use Rattle.cells.specs.Points.{Point, nowhere, xs_of, ys_of, strengths_of}
use Rattle.grid.proofs.InOrder.{keys-ready}
use Rattle.sheet_file.specs.Bytes.{Bytes}
use Rattle.sheet_file.specs.Limit.{outside}
use Rattle.sheet_file.specs.Refusals.{too_many, too_short}
use Rattle.sheet_file.specs.declared.Settings.{Settings}
use Rattle.points.specs.Refusals.{off_range, off_limit, cell_order}
use Rattle.points.specs.Table.{Tabled}
use Rattle.points.specs.declared.Table.{Table}
use Rattle.ruling.specs.Accepted.{AcceptedSheet}
use Rattle.ruling.specs.Arrays.{Arrays}
use Rattle.ruling.specs.Ruling.{Ruling, refused, accepted, ruling_in, ruling_of}
use Rattle.ruling.specs.Sheet.{SheetOf, Ruled}
use Rattle.ruling.specs.declared.sheet.Sheet.{Sheet}
use Rattle.ruling.proofs.Accepted.{of-file, sound-sheet}
use Rattle.ruling.proofs.Columns.{arrays-ready}
use Rattle.ruling.proofs.Standing.{Sound}
use Rattle.merged.specs.Sources.{sources_of, in_array}
use Rattle.merged.specs.declared.halves.Halves.{Halves}
use Rattle.merged.proofs.Numbers.{none-fits}
use Rattle.joined.specs.declared.moves.Move.{Move}
use Rattle.joined.specs.declared.pair.Pair.{Pair}
use Rattle.joined.specs.declared.pair.Joint.{Joint}
use Rattle.joined.specs.Joined.{joined_list, high_index, bad_move, only_one, unlike, joined_ruling}
use Rattle.joined.specs.Halved.{Halved, HalvesOf}
use Rattle.joined.specs.Numbered.{number_at, key_at, x_of, y_of, out_wide, TableOf}
use Rattle.joined.proofs.Accepted.{half-of, allowed-by, joined-words, all-words}
use Rattle.joined.proofs.Numbers.{only-2-3-6-7}
use Rattle.joined.proofs.Found.{few_numbers, how-many, count-is, range-found, limit-found, table-found, index-read}

-- ---- of a pair, the numbers 2, 3, 6 and 7

module _ (p : Pair) (h : Halved p.left.now p.right.now p.by) (room : ℕ) where
  abbrev settings : Settings
  settings = p.left.now.settings

  abbrev list : List Point
  list = joined_list p.by h.lefts h.rights

  four : ruling_in room settings list ≡ ruled refused (accepted settings (cell_order list))
      ((2, too_many (length list)) ∷ (3, too_short room (length list)) ∷ (6, list_any off_range list) ∷ (7, list_any off_limit list) ∷ [])
  four =
      let l = half-of settings h.lefts h.left-accepted h.low-left in
      let r = half-of p.right.now.settings h.rights h.right-accepted h.low-right in
      only-2-3-6-7 p.by (allowed-by p.by h.allowed) h.lefts h.rights l.0 r.0 room settings l.1

  pub too-many-found : (u : Halves) → HalvesOf p.left.now p.right.now p.by u → None ≡ in_array (sources_of u) → Ruled (ruling_in room settings list) (Err TooManyPoints)
  too-many-found u c e =
      let k : max_points < length list = omega (arith, how-many p u c h, none-fits (sources_of u) e) in
      rw (four, lt-ltb max_points (length list) k) refl

  -- and what it is joined to is an accepted sheet
  pub accepted-list : (ps : List Point) → ruling_in room settings list ≡ accepted settings ps → AcceptedSheet settings ps
  accepted-list ps e =
      let r = half-of p.right.now.settings h.rights h.right-accepted h.low-right in
      record {
        room = room;
        points = list;
        words = joined-words p.by (allowed-by p.by h.allowed) h.lefts h.rights (all-words settings h.lefts h.left-accepted) (all-words p.right.now.settings h.rights h.right-accepted) r.0;
        ruled-so = e;
      }

-- ---- by rank

module _ (j : Joint) (h : Halved j.pair.left.now j.pair.right.now j.pair.by) (room : ℕ) where
  abbrev own : Settings
  own = j.pair.left.now.settings

  abbrev all : List Point
  all = joined_list j.pair.by h.lefts h.rights

  abbrev count : ℕ
  count = j.sources.now.count

  abbrev out : Bool
  out = some (λ (r : ℕ). out_wide (key_at j r)) count

  abbrev off : Bool
  off = some (λ (r : ℕ). outside (x_of j.pair (number_at j r)) || outside (y_of j.pair (number_at j r))) count

  not-many : too_many (length all) ≡ false
  not-many = le-ltb max_points (length all) (omega (arith, count-is j h, few_numbers j))

  not-short : 28 * count ≤ room → too_short room (length all) ≡ false
  not-short l = le-ltb room (28 * length all) (omega (arith, count-is j h))

  pub short-found : room < 28 * count → Ruled (ruling_in room own all) (Err ShortBuffer)
  short-found l = let k : room < 28 * length all = omega (arith, count-is j h) in rw (four j.pair h room, not-many, lt-ltb room (28 * length all) k) refl

  pub range-ruled : 28 * count ≤ room → out ≡ true → Ruled (ruling_in room own all) (Err BadCell)
  range-ruled l e = rw (four j.pair h room, not-many, not-short l, range-found j h, e) refl

  pub limit-ruled : 28 * count ≤ room → out ≡ false → off ≡ true → Ruled (ruling_in room own all) (Err BadPosition)
  limit-ruled l e f = rw (four j.pair h room, not-many, not-short l, range-found j h, limit-found j h, e, f) refl

  module _ (l : 28 * count ≤ room) (e : out ≡ false) (f : off ≡ false) where
    is-accepted : ruling_in room own all ≡ accepted own (cell_order all)
    is-accepted = four j.pair h room ∙ rw (not-many, not-short l, range-found j h, limit-found j h, e, f) refl

    sound-all : Sound (cell_order all)
    sound-all = sound-sheet own (cell_order all) (accepted-list j.pair h room (cell_order all) is-accepted)

    size : length (cell_order all) ≡ count
    size = Rattle.sort.proofs.Sorted.sort-length Rattle.points.specs.Refusals.comes_before all ∙ count-is j h

    pub arrays-found : (t : Table) → TableOf j t → Arrays count t.keys t.x t.y t.strength
    arrays-found t c = arrays-ready (cell_order all) sound-all (sym size) (table-found j h e t c)

    pub list-ruled : (r : Sheet) → r.settings ≡ own → r.count ≡ count → TableOf j r.table → Ruled (ruling_in room own all) (Ok r)
    list-ruled r s c t = rw is-accepted (record { settings-are = s; count-is = c ∙ sym size; table_is = table-found j h e r.table t })

-- ---- of two files

-- what is ruled where the code has a sheet
pub record SheetRuled (x : Ruling) (l : Sheet) : Type 0 where
  pub points : List Point
  pub ruled-so : x ≡ accepted l.settings points
  pub sheet : SheetOf l.settings points l

pub sheet-ruled : (x : Ruling) (l : Sheet) → Ruled x (Ok l) → SheetRuled x l
sheet-ruled (refused k) l h = absurd h
sheet-ruled (accepted s ps) l h = record { points = ps; ruled-so = rw h.settings-are refl; sheet = record { settings-are = refl; count-is = h.count-is; table_is = h.table_is } }

-- its test of the number 15
pub high-found : (s : Settings) (ps : List Point) (l : Sheet) → SheetOf s ps l → some (λ (k : ℕ). leb (2 ^ 31) (get_or l.table.idx k 0)) l.count ≡ list_any high_index ps
high-found s ps l t =
    rw t.count-is
    (some-ext (λ (k : ℕ). leb (2 ^ 31) (get_or l.table.idx k 0)) (λ (k : ℕ). high_index (get_or ps k nowhere)) (length ps) (λ k b. ap (leb (2 ^ 31)) (index-read t k b))
    ∙ sym (any-list (λ (k : ℕ). get_or ps k nowhere) (length ps) high_index)
    ∙ ap (list_any high_index) (sym (is-list nowhere (length ps) (λ (k : ℕ). get_or ps k nowhere) ps refl (λ k b. refl))))

-- a refusal of one of the files
module _ (left right : List ℕ) (m : Move) (room : ℕ) where
  pub left-refused : (e : Refusal) → Ruled (ruling_of left room) (Err e) → Ruled (joined_ruling left right m room) (Err e)
  unfolding joined_ruling
  left-refused e h = go (ruling_of left room) refl h
    where
      go : (x : Ruling) → ruling_of left room ≡ x → Ruled x (Err e) → Ruled (joined_ruling left right m room) (Err e)
      go (refused k) f h = rw f h
      go (accepted s ps) f h = absurd h

  pub right-refused : (l : Sheet) (e : Refusal) → Ruled (ruling_of left room) (Ok l) → Ruled (ruling_of right room) (Err e) → Ruled (joined_ruling left right m room) (Err e)
  unfolding joined_ruling
  right-refused l e f h = go (ruling_of right room) refl h
    where
      go : (x : Ruling) → ruling_of right room ≡ x → Ruled x (Err e) → Ruled (joined_ruling left right m room) (Err e)
      go (refused k) g h = rw ((sheet-ruled (ruling_of left room) l f).ruled-so, g) h
      go (accepted s ps) g h = absurd h

-- ---- of two accepted files, the numbers 15 to 17

only-one-is : (a b : Bool) → not (beq a b) ≡ only_one a b
only-one-is true true = refl
only-one-is true false = refl
only-one-is false true = refl
only-one-is false false = refl

-- the test of the number 17
pub unlike-found : {x y a b t : Bool} → x ≡ a → y ≡ b → not (beq x y) ≡ t → only_one a b ≡ t
unlike-found {x} {y} e f g = rw (← e, ← f) (sym (only-one-is x y) ∙ g)

-- the test of the number 15 on a sheet
abbrev pub high : Sheet → Bool
high l = some (λ (k : ℕ). leb (2 ^ 31) (get_or l.table.idx k 0)) l.count

pub low-index : (l : Sheet) → high l ≡ false → (k : ℕ) → k < l.count → get_or l.table.idx k 0 < 2 ^ 31
low-index l e k b = leb-false (2 ^ 31) (get_or l.table.idx k 0) (some-fails (λ (k : ℕ). leb (2 ^ 31) (get_or l.table.idx k 0)) l.count e k b)

module _ (left right : List ℕ) (m : Move) (room : ℕ) (l r : Sheet) (f : Ruled (ruling_of left room) (Ok l)) (g : Ruled (ruling_of right room) (Ok r)) where
  pub a : SheetRuled (ruling_of left room) l
  a = sheet-ruled (ruling_of left room) l f

  pub b : SheetRuled (ruling_of right room) r
  b = sheet-ruled (ruling_of right room) r g

  abbrev joined : Ruling
  joined = ruling_in room l.settings (joined_list m a.points b.points)

  by-three : joined_ruling left right m room ≡ ruled refused joined ((15, high l || high r) ∷ (16, bad_move m) ∷ (17, unlike l.settings r.settings) ∷ [])
  unfolding joined_ruling
  by-three = rw (high-found l.settings a.points l a.sheet, high-found r.settings b.points r b.sheet, a.ruled-so, b.ruled-so)

  pub high-left : high l ≡ true → Ruled (joined_ruling left right m room) (Err HighIndex)
  high-left e = rw (by-three, e) refl

  pub high-right : high l ≡ false → high r ≡ true → Ruled (joined_ruling left right m room) (Err HighIndex)
  high-right d e = rw (by-three, d, e) refl

  pub move-refused : high l ≡ false → high r ≡ false → bad_move m ≡ true → Ruled (joined_ruling left right m room) (Err BadMove)
  move-refused d e h = rw (by-three, d, e, h) refl

  pub halves-refused : high l ≡ false → high r ≡ false → bad_move m ≡ false → unlike l.settings r.settings ≡ true → Ruled (joined_ruling left right m room) (Err UnlikeHalves)
  halves-refused d e h k = rw (by-three, d, e, h, k) refl

  -- none of them
  abbrev pub halved : Bytes left → Bytes right → high l ≡ false → high r ≡ false → bad_move m ≡ false → Halved l r m
  halved bl br d e h = record {
    lefts = a.points;
    rights = b.points;
    left-sheet = a.sheet;
    right-sheet = b.sheet;
    left-accepted = of-file left room l.settings a.points bl a.ruled-so;
    right-accepted = of-file right room r.settings b.points br b.ruled-so;
    low-left = sym (high-found l.settings a.points l a.sheet) ∙ d;
    low-right = sym (high-found r.settings b.points r b.sheet) ∙ e;
    allowed = h;
  }

  pub ruled-as-list : high l ≡ false → high r ≡ false → bad_move m ≡ false → unlike l.settings r.settings ≡ false → joined_ruling left right m room ≡ joined
  ruled-as-list d e h k = by-three ∙ rw (d, e, h, k)
