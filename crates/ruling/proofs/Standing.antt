-- Points that are accepted stand in cell order: all in range, no two in one cell; of a list of points, and of a file. Assumes nothing.
use Rattle.std.specs.List.{list_any}
use Rattle.std.specs.Prelude.{Some, is_some}
use mathlib.Core.Path.{◌≡◌, refl, sym, ap, ◌∙◌}
use mathlib.Core.Bool.{Bool, true, false, cond, true≢false}
use mathlib.Core.List.{List, [], ◌∷◌, Permᴰ}
use mathlib.Core.Logic.{◌⊎◌, inl, inr}
use Prim.{Dec, yes, no}
use Prim.Native.Nat.{ℕ, zero, suc, ◌+◌, ◌*◌, ◌^◌, ◌≤◌, ◌<◌}
use native.Mathlib.Decide.{dec_lt}
use native.Mathlib.Omega.{arith}
use lib.ListN.{length, get_or}
use borrow.Author.Tests.{eq-eqb, ltb-false}
use Rattle.folds.specs.Among.{pair_in}
use Rattle.folds.proofs.Among.{none_in, any_order, pair-order}
use Rattle.folds.specs.Lists.{All, list_of}
use Rattle.folds.proofs.Lists.{length-list, list_at, is-list}
use Rattle.view.specs.View.{max_points}
use Rattle.refusals.proofs.Laws.{holds, none-applies-in}
use Rattle.cells.specs.Points.{Point, nowhere, key_of}
use Rattle.cells.specs.Cell.{cell_of, before}
use Rattle.cells.proofs.Keys.{key-order}
use Rattle.sort.specs.Sorted.{sort, Rises}
use Rattle.sort.proofs.Sorted.{At, all-at, at_all, sort-perm, sort-length, sort-all, sort-rises, TotalOrder, by_key, order-free}
use Rattle.grid.specs.InOrder.{CellOrder}
use Rattle.grid.proofs.InOrder.{order-by-keys}
use Rattle.sheet_file.specs.Bytes.{Bytes, le32}
use Rattle.sheet_file.specs.Frame.{framing_of, layout_of, weights_of}
use Rattle.sheet_file.specs.Refusals.{settings_of, misfit}
use Rattle.sheet_file.specs.declared.Fraction.{Fraction}
use Rattle.sheet_file.specs.declared.Layout.{Layout}
use Rattle.sheet_file.specs.declared.Settings.{Settings}
use Rattle.sheet_file.proofs.Words.{le32-small}
use Rattle.sheet_file.proofs.Fields.{is_framed}
use Rattle.points.specs.Records.{ith_strength, ith_point, points_in}
use Rattle.points.specs.Refusals.{point_refusals, off_range, off_limit, off_strength, off_fraction, same_cell, cell_order, comes_before}
use Rattle.points.proofs.Neighbours.{eqb_swap}
use Rattle.points.proofs.Clashes.{Ranged, ranged, cells-by-key}
use Rattle.points.proofs.Located.{length-points}
use Rattle.ruling.specs.Accepted.{Words}
use Rattle.ruling.specs.Ruling.{accepted, ruling_for, ruling_of, points_of, applies}
use Rattle.ruling.proofs.Given.{for-accepted, none-applies, is-accepted, in-file}
use Rattle.ruling.proofs.Numbered.{sorted-by-number}
use Rattle.std.proofs.lemmas.Bool.{or_parts}

-- ---- lists by place

-- no two at different places pass
pair-none : {A : Type 0} (t : A → A → Bool) (d : A) (l : List A) → pair_in t l ≡ false → (i j : ℕ) → i < j → j < length l → t (get_or l i d) (get_or l j d) ≡ false
pair-none t d [] e i j ij jn = absurd (omega arith)
pair-none t d (a ∷ l) e i zero ij jn = absurd (omega arith)
pair-none t d (a ∷ l) e zero (suc j) ij jn = all-at (λ b. t a b ≡ false) d l (none_in (t a) l (or_parts (list_any (t a) l) (pair_in t l) e).0) j (omega arith)
pair-none t d (a ∷ l) e (suc i) (suc j) ij jn = pair-none t d l (or_parts (list_any (t a) l) (pair_in t l) e).1 i j (omega arith) (omega arith)

rises-at : {A : Type 0} (before : A → A → Bool) (d : A) (l : List A) → Rises before l → (i j : ℕ) → i < j → j < length l → before (get_or l j d) (get_or l i d) ≡ false
rises-at before d [] r i j ij jn = absurd (omega arith)
rises-at before d (a ∷ l) r i zero ij jn = absurd (omega arith)
rises-at before d (a ∷ l) r zero (suc j) ij jn = all-at (λ b. before b a ≡ false) d l r.0 j (omega arith)
rises-at before d (a ∷ l) r (suc i) (suc j) ij jn = rises-at before d l r.1 i j (omega arith) (omega arith)

order-of : (i j : ℕ) → (i ≡ j) ⊎ ((i < j) ⊎ (j < i))
order-of i j = go (dec_lt i j) (dec_lt j i)
  where
    go : Dec (i < j) → Dec (j < i) → (i ≡ j) ⊎ ((i < j) ⊎ (j < i))
    go (yes l) d = inr (inl l)
    go (no f) (yes l) = inr (inr l)
    go (no f) (no g) = inl (omega arith)

pub cell-either-way : (p q : Point) → same_cell p q ≡ same_cell q p
cell-either-way p q = rw (eqb_swap p.u q.u, eqb_swap p.v q.v)

-- ---- of a list of points

pub all-in-range : (ps : List Point) → All Words ps → list_any off_range ps ≡ false → All Ranged ps
all-in-range [] h e = tt
all-in-range (p ∷ ps) h e = let w = or_parts (off_range p) (list_any off_range ps) e in (ranged p h.0.u h.0.v w.0, all-in-range ps h.1 w.1)

-- points that are all in range, and no two in one cell
pub record Apart (ps : List Point) : Type 0 where
  pub words : All Words ps
  pub in-range : list_any off_range ps ≡ false
  pub apart : pair_in same_cell ps ≡ false

module _ (ps : List Point) (h : Apart ps) where
  ranged-at : (i : ℕ) → i < length ps → Ranged (get_or ps i nowhere)
  ranged-at = all-at Ranged nowhere ps (all-in-range ps h.words h.in-range)

  -- their keys differ
  different : (i j : ℕ) → i < j → j < length ps → key_of (get_or ps i nowhere) ≡ key_of (get_or ps j nowhere) → ⊥
  different i j ij jn e =
      let p = get_or ps i nowhere in
      let q = get_or ps j nowhere in
      let y : same_cell p q ≡ true = cells-by-key p q (ranged-at i (omega arith)) (ranged-at j jn) ∙ rw (eq-eqb (key_of p) (key_of q) e) in
      true≢false (sym y ∙ pair-none same_cell nowhere ps h.apart i j ij jn)

  -- one key, one point
  one-point : (p q : Point) → At nowhere ps p → At nowhere ps q → key_of p ≡ key_of q → p ≡ q
  one-point p q a b e = go (order-of a.place b.place)
    where
      k : key_of (get_or ps a.place nowhere) ≡ key_of (get_or ps b.place nowhere)
      k = ap key_of (sym a.is) ∙ e ∙ ap key_of b.is

      go : (a.place ≡ b.place) ⊎ ((a.place < b.place) ⊎ (b.place < a.place)) → p ≡ q
      go (inl i) = a.is ∙ ap (λ (i : ℕ). get_or ps i nowhere) i ∙ sym b.is
      go (inr (inl l)) = absurd (different a.place b.place l b.below k)
      go (inr (inr l)) = absurd (different b.place a.place l a.below (sym k))

  all_listed : All (At nowhere ps) ps
  all_listed = at_all (At nowhere ps) nowhere ps (λ i l. record { place = i; below = l; is = refl })

  ordered : TotalOrder comes_before (At nowhere ps)
  ordered = by_key key_of (At nowhere ps) one-point

  -- "Another order is any rearrangement of the points": they have one cell order
  pub one-order : (qs : List Point) → Permᴰ ps qs → cell_order ps ≡ cell_order qs
  one-order qs p = order-free comes_before (At nowhere ps) ordered p all_listed

  sorted_apart : Apart (cell_order ps)
  sorted_apart = record {
    words = sort-all comes_before Words ps h.words;
    in-range = sym (any_order off_range (sort-perm comes_before ps)) ∙ h.in-range;
    apart = sym (pair-order same_cell cell-either-way (sort-perm comes_before ps)) ∙ h.apart;
  }

  sorted_rises : Rises comes_before (cell_order ps)
  sorted_rises = sort-rises comes_before (At nowhere ps) ordered ps all_listed

  -- "in cell order, by u, then v"
  pub by-u-then-v : cell_order ps ≡ sort (λ (p q : Point). before (cell_of p) (cell_of q)) ps
  by-u-then-v =
      let g : ℕ → Point = λ i. get_or ps i nowhere in
      let n = length ps in
      let own : ps ≡ list_of n g = is-list nowhere n g ps refl (λ k l. refl) in
      let second : Point → Point → Bool = λ p q. before (cell_of p) (cell_of q) in
      ap cell_order own ∙ sorted-by-number g n (λ (i j : ℕ). comes_before (g i) (g j)) comes_before (λ i j a b. refl)
      ∙ sym (sorted-by-number g n (λ (i j : ℕ). comes_before (g i) (g j)) second (λ i j a b. key-order (g j) (g i) (ranged-at j b).cell (ranged-at i a).cell))
      ∙ ap (sort second) (sym own)

-- the points, sorted, are ready for the tables of the grid
in-cell-order : (ps : List Point) → Apart ps → length ps ≤ max_points → CellOrder (cell_order ps)
in-cell-order ps h few =
    let o = sorted_apart ps h in
    order-by-keys (cell_order ps) (omega (arith, sort-length comes_before ps)) (λ k b. (ranged-at (cell_order ps) o k b).cell)
    (λ i j ij jn.
    omega (arith, ltb-false (key_of (get_or (cell_order ps) j nowhere)) (key_of (get_or (cell_order ps) i nowhere)) (rises-at comes_before nowhere (cell_order ps) (sorted_rises ps h) i j ij jn), different (cell_order ps) o i j ij jn))

-- where no number applies, they are so
pub none_apart : (x : Fraction) (ps : List Point) → All Words ps → list_any holds (point_refusals x ps) ≡ false → Apart ps
unfolding point_refusals
none_apart x ps h e = let no = none-applies-in (point_refusals x ps) e in record { words = h; in-range = no 6; apart = no 8 }

in-limit : (x : Fraction) (ps : List Point) → list_any holds (point_refusals x ps) ≡ false → (list_any off_limit ps ≡ false) × (list_any off_strength ps ≡ false)
unfolding point_refusals
in-limit x ps e = let no = none-applies-in (point_refusals x ps) e in (no 7, (or_parts (off_fraction x) (list_any off_strength ps) (no 13)).1)

-- what accepted points are: "in cell order", no position and no strength off the limit
pub record Sound (ps : List Point) : Type 0 where
  pub order : CellOrder ps
  pub limits : (k : ℕ) → k < length ps → off_limit (get_or ps k nowhere) ≡ false
  pub strengths : (k : ℕ) → k < length ps → off_strength (get_or ps k nowhere) ≡ false
  pub words : (k : ℕ) → k < length ps → Words (get_or ps k nowhere)

-- a fault that no point has, none has in cell order
none-sorted : (t : Point → Bool) (ps : List Point) → list_any t ps ≡ false → (k : ℕ) → k < length (cell_order ps) → t (get_or (cell_order ps) k nowhere) ≡ false
none-sorted t ps e = all-at (λ (p : Point). t p ≡ false) nowhere (cell_order ps) (none_in t (cell_order ps) (sym (any_order t (sort-perm comes_before ps)) ∙ e))

pub sound-for : (s t : Settings) (ps qs : List Point) → All Words ps → length ps ≤ max_points → ruling_for s ps ≡ accepted t qs → Sound qs
sound-for s t ps qs h few e =
    let k = for-accepted s t ps qs e in
    let q : qs ≡ cell_order ps = cc k.1 in
    let x = s.score_frac in
    rw q
    (record {
      order = in-cell-order ps (none_apart x ps h k.0) few;
      limits = none-sorted off_limit ps (in-limit x ps k.0).0;
      strengths = none-sorted off_strength ps (in-limit x ps k.0).1;
      words = all-at Words nowhere (cell_order ps) (sort-all comes_before Words ps h);
    })

-- ---- of a file

strength-small : (file : List ℕ) (f : Layout) (i : ℕ) → Bytes file → ith_strength file f i < 2 ^ 32
strength-small file f i b = go (is_some f.weights)
  where
    go : (t : Bool) → cond t (le32 file ((weights_of f).at + 4 + 4 * i)) 0 < 2 ^ 32
    go true = le32-small file b _
    go false = omega arith

pub words-in : (file : List ℕ) (f : Layout) → Bytes file → All Words (points_in file f)
unfolding points_in
words-in file f b =
    at_all Words nowhere (list_of f.count (ith_point file f))
    (λ k l.
    rw (list_at f.count (ith_point file f) k nowhere (omega (arith, length-list f.count (ith_point file f))))
    (record { u = le32-small file b _; v = le32-small file b _; index = le32-small file b _; x = le32-small file b _; y = le32-small file b _; strength = strength-small file f k b }))

-- what an accepted ruling says
pub record AcceptedFile (file : List ℕ) (f : Layout) (s : Settings) (ps : List Point) : Type 0 where
  pub framed : framing_of file ≡ Some f
  pub fits : misfit f ≡ false
  pub few : f.count ≤ max_points
  pub settings-are : s ≡ settings_of file f
  pub points-are : ps ≡ cell_order (points_in file f)
  pub ruled-so : ruling_for (settings_of file f) (points_in file f) ≡ accepted s ps
  pub size : length ps ≡ f.count

pub accepted-file : (file : List ℕ) (room : ℕ) (s : Settings) (ps : List Point) → ruling_of file room ≡ accepted s ps → AcceptedFile file (layout_of file) s ps
unfolding applies
accepted-file file room s ps e =
    let no = none-applies file room e in
    let q = (is-accepted file room e).1 in
    let p : ps ≡ cell_order (points_of file) = cc q in
    record {
      framed = is_framed file (no 1);
      fits = no 12;
      few = ltb-false max_points (layout_of file).count (no 2);
      settings-are = cc q;
      points-are = p;
      ruled-so = (in-file file room e).1;
      size = ap length p ∙ sort-length comes_before (points_of file) ∙ length-points file (layout_of file);
    }

pub sound : (file : List ℕ) (room : ℕ) (s : Settings) (ps : List Point) → Bytes file → ruling_of file room ≡ accepted s ps → Sound ps
sound file room s ps b e =
    let f = layout_of file in
    let k = accepted-file file room s ps e in
    sound-for (settings_of file f) s (points_of file) ps (words-in file f b) (omega (arith, k.few, length-points file f)) k.ruled-so

-- "in cell order": the points of an accepted file are ready for the tables of the grid
pub accepted-order : (file : List ℕ) (room : ℕ) (s : Settings) (ps : List Point) → Bytes file → ruling_of file room ≡ accepted s ps → CellOrder ps
accepted-order file room s ps b e = (sound file room s ps b e).order
