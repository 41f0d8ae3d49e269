-- No filter that goes by the points themselves marks a point of a row, by settings that are plain. Assumes nothing.
use mathlib.Core.Path.{◌≡◌, refl, ap, ◌∙◌}
use mathlib.Core.Bool.{Bool, true, false, cond, ◌&&◌, ◌||◌}
use mathlib.Core.List.{List, []}
use Prim.Native.Nat.{ℕ, ◌<◌}
use Prim.{Dec, yes, no}
use native.Mathlib.Omega.{arith}
use native.Mathlib.Decide.{dec_lt}
use lib.Dec.{T, eqb}
use lib.ListN.{get_or}
use lib.Ieee.{Float, nan, lt, of_bits}
use Rattle.folds.specs.Arith.{zero_f}
use Rattle.folds.specs.Below.{tally}
use Rattle.folds.specs.Column.{column}
use Rattle.folds.specs.Marked.{bit}
use Rattle.folds.specs.Scattered.{counts}
use Rattle.folds.proofs.Below.{some-no}
use Rattle.folds.proofs.Column.{column-at, column-over}
use Rattle.folds.proofs.Counting.{tally-no}
use Rattle.folds.proofs.Lists.{past_end}
use Rattle.float.proofs.Order.{plain, above-plain, above_zero}
use Rattle.whole_floats.proofs.Signs.{times-plain}
use Rattle.offsets.specs.Offsets.{next_u, next_v}
use Rattle.view.specs.View.{View, max_points, alike, index_has}
use Rattle.cells.specs.Cell.{Cell}
use Rattle.sheet_file.specs.declared.Settings.{Settings}
use Rattle.marks.specs.Marks.{is_at}
use Rattle.marks.specs.Filters.{validate, orientation, wrong}
use Rattle.marks.specs.Byte.{with_mark, marked_by}
use Rattle.step.specs.Step.{scale_at}
use Rattle.lines.specs.Flags.{LineRule, is_flagged, flag_count, flags_at}
use Rattle.local_h.specs.Residual.{residual_at}
use Rattle.residuals.specs.ByIndex.{over_at, index_flags}
use Rattle.blame.specs.Marks.{Evidence, is_visited, blamed, blames, is_marked}
use Rattle.edge_shape.specs.Figures.{no_figures}
use Rattle.edge_shape.specs.declared.Figures.{Figures}
use Rattle.validate.specs.Validate.{index_step, scales_of, index_scale, flags_of, residual_flags_of, evidence_of, figures_of, is_reason, has_reason, validate_mark}
use Rattle.orientation.specs.Orientation.{orientation_mark}
use Rattle.wrong_label_filters.specs.Judged.{edge_mark}
use Rattle.close_pairs.specs.Close.{close_mark}
use Rattle.wrong_label_filters.specs.Frontier.{frontier_mark}
use Rattle.wrong_label_filters.specs.WrongLabel.{wrong_point, wrong_label_mark}
use Rattle.drop_set.specs.Filters.{wrong_mark, point_marks}
use Rattle.straight_row.specs.Row.{Row, Plain, seven}
use Rattle.straight_row.proofs.Apart.{no-close}
use Rattle.straight_row.proofs.Even.{no-orientation, no-frontier, no-edge-u, no-edge-v}
use Rattle.straight_row.proofs.Level.{no-flag}
use Rattle.straight_row.proofs.NoFit.{no-residual}
use Rattle.std.proofs.Math.Bool.{and-false}
use Rattle.blame.proofs.Blamed.{marked-is}

-- what each entry of a column has, and its filler too, is had at any place
module _ {A : Type 0} where
  column-has : (P : A → Type 0) (d : A) (n : ℕ) (f : ℕ → A) → P d → ((k : ℕ) → k < n → P (f k)) → (m : ℕ) → P (get_or (column max_points d n f) m d)
  column-has P d n f p h m = go (dec_lt m n)
    where
      go : Dec (m < n) → P (get_or (column max_points d n f) m d)
      go (yes l) = rw (column-at max_points d n f m l) (h m l)
      go (no g) = rw (column-over max_points d n f m (omega (arith, g))) p

-- a column of zeros
zeros : (n : ℕ) (f : ℕ → ℕ) → ((k : ℕ) → k < n → f k ≡ 0) → (m : ℕ) → get_or (column max_points 0 n f) m 0 ≡ 0
zeros n f = column-has (λ (x : ℕ). x ≡ 0) 0 n f refl

-- ---- wrong labels

wrong-is : (w : View) (cell : Float) (k : ℕ) → wrong_point w cell k ≡ edge_mark w next_u k || (edge_mark w next_v k || (close_mark w cell k || frontier_mark w k))
unfolding wrong_point
wrong-is w cell k = refl

wrong-label-is : (w : View) (cell : Float) (k : ℕ) → wrong_label_mark w cell k ≡ index_has w (wrong_point w cell) k
unfolding wrong_label_mark
wrong-label-is w cell k = refl

module _ (w : View) (r : Row w) where
  no-wrong : (k : ℕ) → k < w.count → wrong_point w seven k ≡ false
  no-wrong k h = wrong-is w seven k ∙ rw (no-edge-u w r k, no-edge-v w r k, no-close w r k h, no-frontier w r k h)

  pub no-wrong-label : (k : ℕ) → wrong_label_mark w seven k ≡ false
  no-wrong-label k = wrong-label-is w seven k ∙ some-no (λ (j : ℕ). wrong_point w seven j && alike w j k) w.count (λ j h. rw (no-wrong j h))

-- ---- validate

blames-is : (w : View) (e : Evidence) (k m : ℕ) → blames w e k m ≡ is_visited w e k && is_at (blamed w e.flags k) m
unfolding blames
blames-is w e k m = refl

-- where no index has a line flag, and no residual is over the tolerance, rules 1 to 4 mark nothing
no-rule : (w : View) (e : Evidence) → ((m : ℕ) → e.flags m ≡ 0) → ((m : ℕ) → e.over m ≡ false) → (m : ℕ) → is_marked w e m ≡ false
no-rule w e f o m =
    marked-is w e m
    ∙ rw (f m, and-false (e.high m), and-false (e.deviates m), some-no (λ (k : ℕ). blames w e k m) w.count (λ k h. blames-is w e k m ∙ rw (o k, and-false (eqb (w.by_idx k) k))))

seven-plain : T (plain seven)
unfolding of_bits
seven-plain = tt

scale-by : (w : View) (steps : ℕ → Float) (size : Float) (k : ℕ) → scale_at w steps size k ≡ cond (lt zero_f (steps (w.by_idx k))) (steps (w.by_idx k)) size
unfolding scale_at
scale-by w steps size k = refl

count-is : (by_idx : ℕ → ℕ) (rule : LineRule) (minimum : ℕ) (line : ℕ → ℕ) (n m : ℕ) → flag_count by_idx rule minimum line n m ≡ tally (counts by_idx (is_flagged rule minimum line n) m) n
unfolding flag_count
count-is by_idx rule minimum line n m = refl

module _ (s : Settings) (w : View) (cell : ℕ → Cell) (p : Plain s) (r : Row w) where
  -- the local step, where it is positive, or 7
  scale-plain : (k : ℕ) → k < w.count → T (plain (index_scale s w k))
  unfolding scales_of
  scale-plain k h =
      rw (column-at max_points nan w.count (scale_at w (index_step s w) s.cell_size) k h, scale-by w (index_step s w) s.cell_size k)
      (go (lt zero_f (index_step s w (w.by_idx k))) refl)
    where
      go : (b : Bool) → lt zero_f (index_step s w (w.by_idx k)) ≡ b → T (plain (cond b (index_step s w (w.by_idx k)) s.cell_size))
      go true e = above-plain (index_step s w (w.by_idx k)) (above_zero (index_step s w (w.by_idx k)) e)
      go false e = rw p.cell seven-plain

  no-flags : (m : ℕ) → get_or (flags_of s w) m 0 ≡ 0
  unfolding flags_of
  no-flags = zeros w.count (flags_at w (index_scale s w) s.line_tol_rel s.line_min_members) (λ k h. rw (none w.row k, none w.column k))
    where
      rule : LineRule
      rule = record { x = w.x; y = w.y; scale = index_scale s w; tolerance = s.line_tol_rel }

      none : (line : ℕ → ℕ) (m : ℕ) → flag_count w.by_idx rule s.line_min_members line w.count m ≡ 0
      none line m =
          count-is w.by_idx rule s.line_min_members line w.count m
          ∙ tally-no (counts w.by_idx (is_flagged rule s.line_min_members line w.count) m) w.count
          (λ k h. rw (no-flag w r (index_scale s w) s.line_tol_rel s.line_min_members line k h (times-plain s.line_tol_rel (index_scale s w k) p.tolerant (scale-plain k h))) (and-false (eqb (w.by_idx k) m)))

  no-reason : (k : ℕ) → has_reason (figures_of s w) k ≡ false
  unfolding figures_of
  no-reason = rw p.ungated (column-has (λ (f : Figures). is_reason f.reason ≡ false) no_figures w.count (λ (k : ℕ). no_figures) refl (λ k h. refl))

  none_over : (m : ℕ) → get_or (residual_flags_of s w cell).over m 0 ≡ 0
  unfolding residual_flags_of index_flags
  none_over =
      zeros w.count (λ (k : ℕ). bit (index_has w (over_at (residual_at w cell) (index_scale s w) s.local_h_tol_rel) k))
      (λ k h. ap bit (some-no (λ (j : ℕ). over_at (residual_at w cell) (index_scale s w) s.local_h_tol_rel j && alike w j k) w.count (λ j l. rw (no-residual w r j l cell))))

  pub no-validate : (k : ℕ) → validate_mark s w cell k ≡ false
  unfolding validate_mark
  no-validate k = rw (no-rule w (evidence_of s w cell) no-flags (λ m. ap (λ (x : ℕ). eqb x 1) (none_over m)) (w.by_idx k), no-reason k)

-- ---- the byte of marks

-- a filter that marks nothing leaves zeros
no_byte : (n f : ℕ) (t : ℕ → Bool) (marks : List ℕ) → ((k : ℕ) → t k ≡ false) → ((k : ℕ) → get_or marks k 0 ≡ 0) → (k : ℕ) → get_or (marked_by n f t marks) k 0 ≡ 0
unfolding marked_by
no_byte n f t marks none z = zeros n (λ (k : ℕ). cond (t k) (with_mark f (get_or marks k 0)) (get_or marks k 0)) (λ k h. rw (none k) (z k))

points-are : (s : Settings) (w : View) (cell : ℕ → Cell) → point_marks s w cell
    ≡ marked_by w.count wrong (wrong_mark s w) (marked_by w.count orientation (orientation_mark w) (marked_by w.count validate (validate_mark s w cell) []))
unfolding point_marks
points-are s w cell = refl

pub unmarked : (s : Settings) (w : View) (cell : ℕ → Cell) → Plain s → Row w → (k : ℕ) → get_or (point_marks s w cell) k 0 ≡ 0
unmarked s w cell p r =
    rw (points-are s w cell)
    (no_byte w.count wrong (wrong_mark s w) _ (λ k. rw (p.cell, no-wrong-label w r k) (and-false s.apply_wrong_label_drops))
    (no_byte w.count orientation (orientation_mark w) _ (no-orientation w r)
    (no_byte w.count validate (validate_mark s w cell) [] (no-validate s w cell p r) (past_end 0))))
