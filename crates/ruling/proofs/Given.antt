-- Which number is given: of a list of points with settings, and of a file and the length of a result buffer. Assumes nothing.
use Rattle.std.specs.List.{list_any}
use mathlib.Core.Path.{◌≡◌, refl, sym, ◌∙◌}
use mathlib.Core.Bool.{Bool, true, false, cond, not, true≢false}
use mathlib.Core.List.{List}
use Prim.Native.Nat.{ℕ, ◌≤◌}
use native.Mathlib.Omega.{arith}
use lib.Dec.{eqb, leb}
use borrow.Author.Tests.{leb-true, eq-eqb}
use Rattle.refusals.specs.First.{ruled, applies_in}
use Rattle.refusals.proofs.Laws.{holds, numbers_of, earlier_than, DistinctNumbers, none-applies-in, none-holds, each-listed, first-given, only-first, none_passes, only_none, ruled-in-two}
use Rattle.cells.specs.Points.{Point}
use Rattle.sheet_file.specs.Frame.{framing_of, layout_of}
use Rattle.sheet_file.specs.Refusals.{float_at, defaults_for, settings_in, edge_shape_of, fraction_of, settings_of, header_refusals}
use Rattle.sheet_file.specs.declared.Layout.{Layout}
use Rattle.sheet_file.specs.declared.Settings.{Settings}
use Rattle.points.specs.Refusals.{point_refusals, cell_order}
use Rattle.ruling.specs.Ruling.{Ruling, refused, accepted, ruling_for, points_of, refusals_of, sheet_numbers, ruling_of, applies}

-- a ruling refuses with one number, and then accepts nothing
pub one-number : (a b : ℕ) → refused a ≡ refused b → a ≡ b
one-number a b e = cc

pub not-refused : {s : Settings} {ps : List Point} {k : ℕ} → refused k ≡ accepted s ps → ⊥
not-refused e = let z : ◌≡◌ {A = ℕ} 0 1 = cc in omega arith

-- ---- of a list of points

-- none holds where they are accepted
pub for-accepted : (s t : Settings) (ps qs : List Point) → ruling_for s ps ≡ accepted t qs → (list_any holds (point_refusals s.score_frac ps) ≡ false) × (accepted s (cell_order ps) ≡ accepted t qs)
unfolding ruling_for
for-accepted s t ps qs e = only_none refused (accepted s (cell_order ps)) (accepted t qs) (λ k e. not-refused e) (point_refusals s.score_frac ps) e

-- settings are handed on, and but for the fraction they matter to no refusal of points
pub other-settings : (s t : Settings) (ps qs : List Point) → t.score_frac ≡ s.score_frac → ruling_for s ps ≡ accepted s qs → ruling_for t ps ≡ accepted t qs
unfolding ruling_for
other-settings s t ps qs x e =
    let k = for-accepted s s ps qs e in
    let q : cell_order ps ≡ qs = cc k.1 in
    none_passes refused (accepted t (cell_order ps)) (point_refusals t.score_frac ps) (rw x k.0) ∙ rw q

-- ---- of a file

-- the fraction of the settings is that of tag 4
pub own-fraction : (file : List ℕ) (f : Layout) → (settings_of file f).score_frac ≡ fraction_of file f
unfolding settings_of settings_in defaults_for
own-fraction file f = go f.full
  where
    go : (b : Bool) → (cond b (settings_in file (edge_shape_of file f) (fraction_of file f)) (defaults_for (float_at file 3) (edge_shape_of file f) (fraction_of file f))).score_frac ≡ fraction_of file f
    go true = refl
    go false = refl

module _ (file : List ℕ) (room : ℕ) where
  -- what is ruled where no number applies
  abbrev passed : Ruling
  passed = accepted (settings_of file (layout_of file)) (cell_order (points_of file))

  pub by-points : ruling_of file room ≡ ruled refused (ruling_for (settings_of file (layout_of file)) (points_of file)) (header_refusals file room (framing_of file))
  unfolding ruling_of
  by-points = refl

  -- "A call returns the first number that applies", in the order of one list
  pub in-one-list : ruling_of file room ≡ ruled refused (accepted (settings_of file (layout_of file)) (cell_order (points_of file))) (refusals_of file room)
  unfolding ruling_for refusals_of
  in-one-list = by-points ∙ sym (ruled-in-two refused passed (header_refusals file room (framing_of file)) (point_refusals (settings_of file (layout_of file)).score_frac (points_of file)))

  -- an accepted file has no fault in its header, and its points are accepted with its settings
  pub in-file : {s : Settings} {ps : List Point} → ruling_of file room ≡ accepted s ps
      → (list_any holds (header_refusals file room (framing_of file)) ≡ false) × (ruling_for (settings_of file (layout_of file)) (points_of file) ≡ accepted s ps)
  in-file {s} {ps} e = only_none refused (ruling_for (settings_of file (layout_of file)) (points_of file)) (accepted s ps) (λ k e. not-refused e) (header_refusals file room (framing_of file)) (sym by-points ∙ e)

  distinct : DistinctNumbers (refusals_of file room)
  unfolding refusals_of
  distinct = refl

  -- number k applies, and no earlier one does: it is given
  pub given : (k : ℕ) → applies file room k ≡ true → list_any holds (earlier_than (refusals_of file room) k) ≡ false → ruling_of file room ≡ refused k
  unfolding applies
  given k e f = in-one-list ∙ first-given refused passed (refusals_of file room) k e f

  -- no number applies: accepted
  pub none-given : ((j : ℕ) → applies file room j ≡ false) → ruling_of file room ≡ accepted (settings_of file (layout_of file)) (cell_order (points_of file))
  unfolding applies
  none-given f = in-one-list ∙ none_passes refused passed (refusals_of file room) (none-holds (refusals_of file room) distinct f)

  -- the numbers are those of one list, in its order
  pub numbers-are : numbers_of (refusals_of file room) ≡ sheet_numbers
  unfolding refusals_of
  numbers-are = refl

  -- what a refusal says of the conditions; a number is one of the list
  pub record NumberGiven (k : ℕ) : Type 0 where
    pub listed : list_any (eqb k) sheet_numbers ≡ true
    pub holding : applies file room k ≡ true
    pub earlier : (j : ℕ) → applies_in (earlier_than (refusals_of file room) k) j ≡ false

  pub is-given : (k : ℕ) → ruling_of file room ≡ refused k → NumberGiven k
  unfolding applies
  is-given k e =
      let f = only-first refused passed one-number (λ k e. not-refused e) (refusals_of file room) distinct k (sym in-one-list ∙ e) in
      record {
        listed = f.listed;
        holding = f.holding;
        earlier = none-applies-in (earlier_than (refusals_of file room) k) f.earlier;
      }

  -- what an accepted file says
  pub is-accepted : {s : Settings} {ps : List Point} → ruling_of file room ≡ accepted s ps
      → (list_any holds (refusals_of file room) ≡ false) × (accepted (settings_of file (layout_of file)) (cell_order (points_of file)) ≡ accepted s ps)
  is-accepted {s} {ps} e = only_none refused passed (accepted s ps) (λ k e. not-refused e) (refusals_of file room) (sym in-one-list ∙ e)

  pub none-applies : {s : Settings} {ps : List Point} → ruling_of file room ≡ accepted s ps → (j : ℕ) → applies file room j ≡ false
  unfolding applies
  none-applies e = none-applies-in (refusals_of file room) (is-accepted e).0

-- ---- the numbers themselves

-- what each of them is
pub each_number : (p : ℕ → Bool) (k : ℕ) → list_any (λ (n : ℕ). not (p n)) sheet_numbers ≡ false → list_any (eqb k) sheet_numbers ≡ true → p k ≡ true
each_number p k e h = each-listed p sheet_numbers k e h

pub record SheetNumber (k : ℕ) : Type 0 where
  pub low : 1 ≤ k
  pub high : k ≤ 14
  -- the numbers of other calls alone are not among them
  pub not-map : k ≡ 10 → ⊥
  pub not-run : k ≡ 11 → ⊥

pub sheet-number : (k : ℕ) → list_any (eqb k) sheet_numbers ≡ true → SheetNumber k
sheet-number k h = record {
  low = leb-true 1 k (each_number (leb 1) k refl h);
  high = leb-true k 14 (each_number (λ (n : ℕ). leb n 14) k refl h);
  not-map = λ e. other-number 10 e (each_number (λ (n : ℕ). not (eqb n 10)) k refl h);
  not-run = λ e. other-number 11 e (each_number (λ (n : ℕ). not (eqb n 11)) k refl h);
}
  where
    other-number : (m : ℕ) → k ≡ m → not (eqb k m) ≡ true → ⊥
    other-number m e t = true≢false (sym (rw (eq-eqb k m e) at t))
