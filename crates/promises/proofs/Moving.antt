-- Points that are seen alike have the same marks, once their validate marks are the same; and so have their rows. Assumes nothing.
use Rattle.std.specs.Prelude.{Ok}
use mathlib.Core.Path.{◌≡◌, sym, ap, ◌∙◌}
use mathlib.Core.Bool.{◌&&◌}
use mathlib.Core.List.{List}
use Prim.Native.Nat.{ℕ, ◌<◌}
use native.Mathlib.Omega.{arith}
use lib.Dec.{eqb, ltb}
use lib.ListN.{length, get_or}
use Rattle.view.specs.View.{View, max_points}
use lib.IntN.{ℤ}
use lib.Ieee.{nan}
use Rattle.folds.specs.Arith.{f32}
use Rattle.folds.proofs.Column.{column-ext}
use Rattle.cells.specs.Points.{Point, nowhere, strengths_of}
use Rattle.grid.specs.Moved.{Moved}
use Rattle.cells.specs.Cell.{cells_of}
use Rattle.grid.specs.Views.{view_of}
use Rattle.sheet_file.specs.declared.Settings.{Settings}
use Rattle.ruling.specs.Ruling.{accepted, ruling_of}
use Rattle.marks.specs.Filters.{validate, orientation, wrong}
use Rattle.marks.specs.Byte.{has_mark}
use Rattle.validate.specs.Validate.{validate_mark}
use Rattle.orientation.specs.Orientation.{orientation_mark}
use Rattle.drop_set.specs.Filters.{wrong_mark, judged_of}
use Rattle.judged.specs.Judged.{Judged}
use Rattle.judging.specs.Judging.{judged_for}
use Rattle.kept.specs.Answer.{Answer, answer_by, answer_of}
use Rattle.promises.specs.Words.{marks_in, kept_rank, marks_byte}
use Rattle.promises.proofs.Bits.{validate-bit, orientation-bit, wrong-bit, marks-same, counts_same}
use Rattle.promises.proofs.RowMarks.{row-marks}

-- a move takes the strengths along
pub strengths-moved : (a b : ℤ) (ps qs : List Point) → length qs ≡ length ps → ((k : ℕ) → k < length ps → Moved a b (get_or ps k nowhere) (get_or qs k nowhere)) → strengths_of qs ≡ strengths_of ps
unfolding strengths_of
strengths-moved a b ps qs size all =
    rw size (column-ext max_points nan (length ps) (λ (k : ℕ). f32 (get_or qs k nowhere).strength) (λ (k : ℕ). f32 (get_or ps k nowhere).strength) (λ k h. ap f32 (all k h).strength))

same_answer : {n m a b c d : ℕ} → n ≡ m → a ≡ b → c ≡ d
    → ◌≡◌ {A = Answer} (Ok (record { points = n; components = a; rounds = c })) (Ok (record { points = m; components = b; rounds = d }))
same_answer p q r = rw (p, q, r)

-- the bits of points in cell order
module _ (s : Settings) (ps : List Point) (k : ℕ) (h : k < length ps) where
  pub validate-in : has_mark validate (marks_in s ps k) ≡ validate_mark s (view_of ps) (cells_of ps) k
  unfolding judged_for view_of
  validate-in = validate-bit s (view_of ps) (cells_of ps) (strengths_of ps) k h

  pub orientation-in : has_mark orientation (marks_in s ps k) ≡ orientation_mark (view_of ps) k
  unfolding judged_for view_of
  orientation-in = orientation-bit s (view_of ps) (cells_of ps) (strengths_of ps) k h

  pub wrong-in : has_mark wrong (marks_in s ps k) ≡ wrong_mark s (view_of ps) k
  unfolding judged_for view_of
  wrong-in = wrong-bit s (view_of ps) (cells_of ps) (strengths_of ps) k h

module _ (s : Settings) (ps qs : List Point) (size : length qs ≡ length ps) (view : view_of qs ≡ view_of ps) (strengths : strengths_of qs ≡ strengths_of ps) where
  pub orientation-stays : (k : ℕ) → k < length ps → has_mark orientation (marks_in s qs k) ≡ has_mark orientation (marks_in s ps k)
  orientation-stays k h = orientation-in s qs k (omega arith) ∙ ap (λ (w : View). orientation_mark w k) view ∙ sym (orientation-in s ps k h)

  pub wrong_stays : (k : ℕ) → k < length ps → has_mark wrong (marks_in s qs k) ≡ has_mark wrong (marks_in s ps k)
  wrong_stays k h = wrong-in s qs k (omega arith) ∙ ap (λ (w : View). wrong_mark s w k) view ∙ sym (wrong-in s ps k h)

  module _ (same : (k : ℕ) → k < length ps → has_mark validate (marks_in s qs k) ≡ has_mark validate (marks_in s ps k)) where
    counted : (k : ℕ) → k < (view_of ps).count → k < length ps
    unfolding view_of
    counted k h = h

    validate-stays : (k : ℕ) → k < (view_of ps).count → validate_mark s (view_of ps) (cells_of qs) k ≡ validate_mark s (view_of ps) (cells_of ps) k
    validate-stays k l = let h = counted k l in ap (λ (w : View). validate_mark s w (cells_of qs) k) (sym view) ∙ sym (validate-in s qs k (omega arith)) ∙ same k h ∙ validate-in s ps k h

    seen : judged_for s qs ≡ judged_of s (view_of ps) (cells_of qs) (strengths_of ps)
    unfolding judged_for
    seen = ap (λ (w : View). judged_of s w (cells_of qs) (strengths_of qs)) view ∙ ap (judged_of s (view_of ps) (cells_of qs)) strengths

    pub marks_stay : (k : ℕ) → marks_in s qs k ≡ marks_in s ps k
    unfolding judged_for
    marks_stay k = ap (λ (j : Judged). get_or j.marks k 0) seen ∙ ap (λ (l : List ℕ). get_or l k 0) (marks-same s (view_of ps) (cells_of qs) (cells_of ps) (strengths_of ps) validate-stays)

    pub counts-stay : ((judged_for s qs).components ≡ (judged_for s ps).components) × ((judged_for s qs).rounds ≡ (judged_for s ps).rounds)
    unfolding judged_for
    counts-stay =
        let c = counts_same s (view_of ps) (cells_of qs) (cells_of ps) (strengths_of ps) validate-stays in
        (ap (λ (j : Judged). j.components) seen ∙ c.0, ap (λ (j : Judged). j.rounds) seen ∙ c.1)

    pub kept-stays : (k : ℕ) → kept_rank s qs k ≡ kept_rank s ps k
    kept-stays k = ap (λ (n : ℕ). ltb k n && eqb (marks_in s qs k) 0) size ∙ ap (λ (m : ℕ). ltb k (length ps) && eqb m 0) (marks_stay k)

  -- the rows
  module _ (file other buffer : List ℕ) (e : ruling_of file (length buffer) ≡ accepted s ps) (f : ruling_of other (length buffer) ≡ accepted s qs) where
    -- a bit of the rows is that of the marks
    pub through : (g : ℕ) → ((k : ℕ) → k < length ps → has_mark g (marks_in s qs k) ≡ has_mark g (marks_in s ps k)) → (k : ℕ) → k < length ps → has_mark g (marks_byte other buffer k) ≡ has_mark g (marks_byte file buffer k)
    through g same k h = ap (has_mark g) (row-marks other buffer s qs f k (omega arith)) ∙ same k h ∙ ap (has_mark g) (sym (row-marks file buffer s ps e k h))

    -- the validate bits of the rows are those of the marks
    marks-hold : ((k : ℕ) → k < length ps → has_mark validate (marks_byte other buffer k) ≡ has_mark validate (marks_byte file buffer k)) → (k : ℕ) → k < length ps → has_mark validate (marks_in s qs k) ≡ has_mark validate (marks_in s ps k)
    marks-hold same j l = ap (has_mark validate) (sym (row-marks other buffer s qs f j (omega arith))) ∙ same j l ∙ ap (has_mark validate) (row-marks file buffer s ps e j l)

    -- points, components and rounds
    pub answer-stays : ((k : ℕ) → k < length ps → has_mark validate (marks_byte other buffer k) ≡ has_mark validate (marks_byte file buffer k)) → answer_of other (length buffer) ≡ answer_of file (length buffer)
    unfolding answer_of
    answer-stays same =
        let c = counts-stay (marks-hold same) in
        ap answer_by f ∙ same_answer size c.0 c.1 ∙ sym (ap answer_by e)

    pub rows_stay : ((k : ℕ) → k < length ps → has_mark validate (marks_byte other buffer k) ≡ has_mark validate (marks_byte file buffer k)) → (k : ℕ) → k < length ps → marks_byte other buffer k ≡ marks_byte file buffer k
    rows_stay same k h =
        row-marks other buffer s qs f k (omega arith)
        ∙ marks_stay (marks-hold same) k
        ∙ sym (row-marks file buffer s ps e k h)
