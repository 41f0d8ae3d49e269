-- Accepted points that are moved, their cells staying in range, are accepted with the same settings, and in cell order they are the old ones
-- moved: of a list of points, and of a file. Assumes nothing.
use Rattle.std.specs.List.{list_any}
use Rattle.std.specs.Prelude.{Some}
use mathlib.Core.Path.{◌≡◌, refl, sym, ap, ◌∙◌}
use mathlib.Core.Bool.{Bool, false}
use mathlib.Core.List.{List, map}
use Prim.Native.Nat.{ℕ, ◌+◌, ◌*◌, ◌≤◌, ◌<◌}
use native.Mathlib.Omega.{arith}
use lib.Dec.{ltb}
use lib.IntN.{ℤ}
use lib.ListN.{length, get_or, length-map, get_or-map}
use Rattle.folds.specs.Among.{pair_in}
use Rattle.folds.specs.Lists.{All, list_of}
use Rattle.folds.proofs.Lists.{list_at, is-list, get_d_any}
use Rattle.refusals.specs.First.{ruled}
use Rattle.refusals.proofs.Laws.{none_passes}
use Rattle.cells.specs.Points.{Point, nowhere, key_of}
use Rattle.cells.proofs.Keys.{key_up, key_down, same_test, key-moved}
use Rattle.sort.specs.Sorted.{sort}
use Rattle.sort.proofs.Sorted.{sort-all, all-at}
use Rattle.grid.specs.Moved.{Moved}
use Rattle.sheet_file.specs.Bytes.{Bytes, le32}
use Rattle.sheet_file.specs.Frame.{framing_of, layout_of}
use Rattle.sheet_file.specs.Refusals.{settings_of, header_refusals}
use Rattle.sheet_file.specs.declared.Fraction.{Fraction}
use Rattle.sheet_file.specs.declared.Layout.{Layout}
use Rattle.sheet_file.specs.declared.Settings.{Settings}
use Rattle.sheet_file.proofs.Words.{le32-same}
use Rattle.points.specs.Records.{ith_strength, ith_point, points_in}
use Rattle.points.specs.Refusals.{point_refusals, off_range, off_limit, off_strength, same_cell, two_positions, two_strengths, cell_order, comes_before}
use Rattle.points.proofs.Clashes.{Ranged, cells-by-key}
use Rattle.points.proofs.Located.{length-points}
use Rattle.ruling.specs.Ruling.{refused, accepted, ruling_for, ruling_of}
use Rattle.ruling.specs.Header.{Headed}
use Rattle.ruling.specs.Offset.{Displaced, AllDisplaced, FileDisplaced, MovedAlong}
use Rattle.ruling.proofs.Given.{for-accepted, in-file}
use Rattle.ruling.proofs.Header.{carried, strengths-alike}
use Rattle.ruling.proofs.Numbered.{first_numbers, numbers-below, any_same, pair_same, sorted-by-number}
use Rattle.ruling.specs.Accepted.{Words}
use Rattle.ruling.proofs.Standing.{all-in-range, none_apart, words-in, accepted-file}
use Rattle.folds.proofs.Below.{ltb_as}

-- ---- of a list of points

less-moved : (k l m o up down : ℕ) → m + down ≡ k + up → o + down ≡ l + up → ltb k l ≡ ltb m o
less-moved k l m o up down p q = ltb_as k l m o (λ h. omega arith) (λ h. omega arith)

module _ (a b : ℤ) (ps qs : List Point) (o : AllDisplaced a b ps qs) (wp : All Words ps) (wq : All Words qs) (ok : list_any off_range ps ≡ false) (in-range : list_any off_range qs ≡ false) where
  abbrev n : ℕ
  n = length ps

  abbrev old : ℕ → Point
  old i = get_or ps i nowhere

  abbrev new : ℕ → Point
  new i = get_or qs i nowhere

  own_old : ps ≡ list_of n old
  own_old = is-list nowhere n old ps refl (λ k h. refl)

  own_new : qs ≡ list_of n new
  own_new = is-list nowhere n new qs o.size (λ k h. refl)

  ranged-old : (i : ℕ) → i < n → Ranged (old i)
  ranged-old = all-at Ranged nowhere ps (all-in-range ps wp ok)

  ranged-new : (i : ℕ) → i < n → Ranged (new i)
  ranged-new i h = all-at Ranged nowhere qs (all-in-range qs wq in-range) i (omega (arith, o.size))

  point-moved : (i : ℕ) → i < n → Moved a b (old i) (new i)
  point-moved i h = let d = o.each i h in record { old = (ranged-old i h).cell; new = (ranged-new i h).cell; cell = d.cell; index = d.index; x = d.x; y = d.y; strength = d.strength }

  key-is-moved : (i : ℕ) → i < n → key_of (new i) + key_down a b ≡ key_of (old i) + key_up a b
  key-is-moved i h = let m = point-moved i h in key-moved a b (old i) (new i) m.old m.new m.cell

  any-stays : (t : Point → Bool) → ((i : ℕ) → i < n → t (new i) ≡ t (old i)) → list_any t qs ≡ list_any t ps
  any-stays t h = ap (list_any t) own_new ∙ any_same t new old n h ∙ sym (ap (list_any t) own_old)

  pair-stays : (t : Point → Point → Bool) → ((i j : ℕ) → i < n → j < n → t (new i) (new j) ≡ t (old i) (old j)) → pair_in t qs ≡ pair_in t ps
  pair-stays t h = ap (pair_in t) own_new ∙ pair_same t new old n h ∙ sym (ap (pair_in t) own_old)

  limit-same : list_any off_limit qs ≡ list_any off_limit ps
  limit-same = any-stays off_limit (λ i h. let m = point-moved i h in rw (m.x, m.y))

  strengths-same : list_any off_strength qs ≡ list_any off_strength ps
  strengths-same = any-stays off_strength (λ i h. rw (point-moved i h).strength)

  cells_same : pair_in same_cell qs ≡ pair_in same_cell ps
  cells_same =
      pair-stays same_cell
      (λ i j h l.
      cells-by-key (new i) (new j) (ranged-new i h) (ranged-new j l)
      ∙ rw (same_test (key_of (new i)) (key_of (new j)) (key_of (old i)) (key_of (old j)) (key_up a b) (key_down a b) (key-is-moved i h) (key-is-moved j l))
      (sym (cells-by-key (old i) (old j) (ranged-old i h) (ranged-old j l))))

  positions-same : pair_in two_positions qs ≡ pair_in two_positions ps
  positions-same = pair-stays two_positions (λ i j h l. let m = point-moved i h in let k = point-moved j l in rw (m.index, k.index, m.x, k.x, m.y, k.y))

  two-strengths-same : pair_in two_strengths qs ≡ pair_in two_strengths ps
  two-strengths-same = pair-stays two_strengths (λ i j h l. let m = point-moved i h in let k = point-moved j l in rw (m.index, k.index, m.strength, k.strength))

  refusals-same : (x : Fraction) → point_refusals x qs ≡ point_refusals x ps
  unfolding point_refusals
  refusals-same x = rw (ok, in-range, limit-same, strengths-same, cells_same, positions-same, two-strengths-same)

  -- the first_numbers of the points in cell order, which is that of both lists
  abbrev first : ℕ → ℕ → Bool
  first i j = ltb (key_of (old i)) (key_of (old j))

  places : List ℕ
  places = sort first (first_numbers n)

  old-order : cell_order ps ≡ map old places
  unfolding places
  old-order = ap cell_order own_old ∙ sorted-by-number old n first comes_before (λ i j h l. refl)

  new-order : cell_order qs ≡ map new places
  unfolding places
  new-order =
      ap cell_order own_new
      ∙ sorted-by-number new n first comes_before (λ i j h l. less-moved (key_of (old j)) (key_of (old i)) (key_of (new j)) (key_of (new i)) (key_up a b) (key_down a b) (key-is-moved j l) (key-is-moved i h))

  places-below : All (λ (i : ℕ). i < n) places
  unfolding places
  places-below = sort-all first (λ (i : ℕ). i < n) (first_numbers n) (numbers-below n)

  at_place : (g : ℕ → Point) (k : ℕ) → k < length places → get_or (map g places) k nowhere ≡ g (get_or places k 0)
  at_place g k h = get_d_any (map g places) k nowhere (g 0) (omega (arith, length-map places g)) ∙ get_or-map g places k 0

  sizes-same : length (cell_order qs) ≡ length (cell_order ps)
  sizes-same = rw (old-order, new-order) (length-map places new ∙ sym (length-map places old))

  points-moved : (k : ℕ) → k < length (cell_order ps) → Moved a b (get_or (cell_order ps) k nowhere) (get_or (cell_order qs) k nowhere)
  points-moved k h =
      let l : k < length places = omega (arith, ap length old-order, length-map places old) in
      rw (old-order, new-order, at_place old k l, at_place new k l) (point-moved (get_or places k 0) (all-at (λ (i : ℕ). i < n) 0 places places-below k l))

pub displaced : (a b : ℤ) (s t : Settings) (ps qs rs : List Point) → AllDisplaced a b ps qs → All Words ps → All Words qs → list_any off_range qs ≡ false
    → ruling_for s ps ≡ accepted t rs → MovedAlong (ruling_for s qs) a b t rs
unfolding ruling_for
displaced a b s t ps qs rs o wp wq in-range e =
    let k = for-accepted s t ps rs e in
    let x = s.score_frac in
    let ok = (none_apart x ps wp k.0).in-range in
    let q : rs ≡ cell_order ps = cc k.1 in
    let u : s ≡ t = cc k.1 in
    let r : ruling_for s qs ≡ accepted s (cell_order qs) = ap (ruled refused (accepted s (cell_order qs))) (refusals-same a b ps qs o wp wq ok in-range x) ∙ none_passes refused (accepted s (cell_order qs)) (point_refusals x ps) k.0 in
    record {
      points = cell_order qs;
      ruling = rw (← u) r;
      size = rw q (sizes-same a b ps qs o wp wq ok in-range);
      along = rw q (points-moved a b ps qs o wp wq ok in-range);
    }

-- ---- of a file

module _ (file other : List ℕ) (f : Layout) (a b : ℤ) (o : FileDisplaced file other f a b) where
  word-stays : (i j : ℕ) → i < f.count → 8 ≤ j → j + 4 ≤ 20 → le32 other (f.points + 20 * i + j) ≡ le32 file (f.points + 20 * i + j)
  word-stays i j h l m =
      le32-same file (f.points + 20 * i + j) other (f.points + 20 * i + j)
      (λ k b. let e : f.points + 20 * i + j + k ≡ f.points + 20 * i + (j + k) = omega arith in rw e (o.rest i (j + k) h (omega arith) (omega arith)))

  headed : Headed file other f
  headed = record { size = o.size; head = o.head; after = λ k l m. o.after k l }

  strength-stays : framing_of file ≡ Some f → (i : ℕ) → ith_strength other f i ≡ ith_strength file f i
  strength-stays framed = strengths-alike file other f framed o.after

  record-moved : framing_of file ≡ Some f → (i : ℕ) → i < f.count → Displaced a b (ith_point file f i) (ith_point other f i)
  record-moved framed i h = record {
    cell = o.cell i h;
    index = word-stays i 8 h (omega arith) (omega arith);
    x = word-stays i 12 h (omega arith) (omega arith);
    y = word-stays i 16 h (omega arith) (omega arith);
    strength = strength-stays framed i;
  }

  all-displaced : framing_of file ≡ Some f → AllDisplaced a b (points_in file f) (points_in other f)
  unfolding points_in
  all-displaced framed = record {
    size = length-points other f ∙ sym (length-points file f);
    each = λ i h.
        let l : i < f.count = omega (arith, length-points file f) in
        rw (list_at f.count (ith_point file f) i nowhere l, list_at f.count (ith_point other f) i nowhere l) (record-moved framed i l);
  }

pub offset : (file other : List ℕ) (a b : ℤ) → Bytes file → Bytes other → FileDisplaced file other (layout_of file) a b
    → list_any off_range (points_in other (layout_of file)) ≡ false
    → (room : ℕ) (s : Settings) (ps : List Point) → ruling_of file room ≡ accepted s ps → MovedAlong (ruling_of other room) a b s ps
offset file other a b bf bo o in-range room s ps e =
    let f = layout_of file in
    let old = points_in file f in
    let new = points_in other f in
    let k = accepted-file file room s ps e in
    let fine = rw k.framed at (in-file file room e).0 in
    let m = displaced a b (settings_of file f) s old new ps (all-displaced file other f a b o k.framed) (words-in file f bf) (words-in other f bo) in-range k.ruled-so in
    record {
      points = m.points;
      ruling = carried file other f k.framed (headed file other f a b o) room ∙ none_passes refused (ruling_for (settings_of file f) new) (header_refusals file room (Some f)) fine ∙ m.ruling;
      size = m.size;
      along = m.along;
    }
