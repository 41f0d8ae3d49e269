-- No cosine of a sheet is NaN whose positions are finite and at most 16,384 in magnitude; and so one continuation's cosine is under the least
-- allowed just where the least of them is. Assumes nothing.
use mathlib.Core.Path.{◌≡◌, refl, sym, ap, ◌∙◌}
use mathlib.Core.List.{[], ◌∷◌}
use Rattle.std.specs.Prelude.{Option, Some, None}
use mathlib.Core.Bool.{Bool, true, false, cond, ◌&&◌, ◌||◌, true≢false}
use Prim.Native.Nat.{ℕ, ◌*◌, ◌<◌}
use lib.Dec.{T, eqb, ltb, leb}
use lib.Ieee.{Float, nan, inf, fin, up, down, is_nan, lt, le}
use borrow.Author.Tests.{ltb-true, ltb-false}
use Rattle.folds.specs.Arith.{◌⊕◌, ◌⊖◌, ◌⊗◌, ◌⊘◌}
use Rattle.float.specs.Constants.{epsilon}
use Rattle.float.specs.Scalar.{clamp_of, max_of, min_of}
use Rattle.float.proofs.Order.{plain}
use Rattle.float.proofs.Least.{under-least, over-largest}
use Rattle.float.proofs.Within.{Within, within-finite, within-number, sub_within, mul-within, add-within, norm-plain, over-epsilon, product-above, number-over, clamp-number}
use Rattle.offsets.specs.declared.Offset.{Offset}
use Rattle.offsets.specs.Offsets.{own, next_u, prev_u, next_v, prev_v, prev_uv}
use Rattle.view.specs.View.{View, rank_at, present, degree_at}
use Rattle.edges.specs.Edges.{edge_by, edge_at}
use Rattle.sheet_file.specs.Limit.{outside}
use Rattle.sheet_file.specs.declared.EdgeShapeParams.{EdgeShapeParams}
use Rattle.edge_shape.specs.declared.Side.{Side}
use Rattle.edge_shape.specs.declared.Measure.{Measure}
use Rattle.edge_shape.specs.declared.CellShape.{CellShape}
use Rattle.edge_shape.specs.declared.Reason.TheVariants.{LowCardinalDegree, BadContinuation, NoValidAdjacentCell}
use Rattle.edge_shape.specs.Figures.{side_at, compared, noted, continuation_at, shape_at, noted_cell, continuation_fails, figures_by, figures_at}
use Rattle.edge_shape.specs.Continuations.{cosine_under, ratio_over, bad_continuation, reason_by_each, reason_at, cosine_is_nan, cell_is_nan}
use Rattle.edge_shape.proofs.Laws.{continuation-step, cell-step, figures-step, reason-step}
use Rattle.std.proofs.Math.Bool.{and-false, or-false}
use Rattle.std.proofs.lemmas.Bool.{and_parts, or_parts}

-- ---- the least cosine and the largest ratio of two

pub least-cosine : (l : Float) (m p : Option Measure) → cosine_is_nan m ≡ false → cosine_is_nan p ≡ false → cosine_under l (noted m p) ≡ cosine_under l m || cosine_under l p
unfolding noted
least-cosine l m None f g = sym (or-false (cosine_under l m))
least-cosine l None (Some p) f g = refl
least-cosine l (Some m) (Some p) f g = under-least m.cosine p.cosine l f g

pub largest-ratio : (l : Float) (m p : Option Measure) → ratio_over l (noted m p) ≡ ratio_over l m || ratio_over l p
unfolding noted
largest-ratio l m None = sym (or-false (ratio_over l m))
largest-ratio l None (Some p) = refl
largest-ratio l (Some m) (Some p) = over-largest l m.ratio p.ratio

fails-is : (g : EdgeShapeParams) (degree valid : ℕ) (m : Option Measure) → continuation_fails g degree valid m
    ≡ cosine_under g.continuation_cos_min m || ((leb degree 3 || leb valid 2) && ratio_over g.continuation_length_ratio_max m)
fails-is g degree valid None = sym (and-false (leb degree 3 || leb valid 2))
fails-is g degree valid (Some m) = refl

pub fails-by-each : (g : EdgeShapeParams) (degree valid : ℕ) (m p : Option Measure) → cosine_is_nan m ≡ false → cosine_is_nan p ≡ false
    → continuation_fails g degree valid (noted m p) ≡ bad_continuation g degree valid m p
fails-by-each g degree valid m p f h =
    fails-is g degree valid (noted m p) ∙ rw (least-cosine g.continuation_cos_min m p f h, largest-ratio g.continuation_length_ratio_max m p)

-- ---- two sides

-- a side between positions of an accepted sheet: differences of at most 2 ^ 15, and a length that is no NaN
record Sound (s : Side) : Type 0 where
  pub dx : Within 15 s.dx
  pub dy : Within 15 s.dy
  pub len : T (plain s.len)

compared-number : (a b : Side) → Sound a → Sound b → cosine_is_nan (compared a b) ≡ false
unfolding compared
compared-number a b p q = go (le a.len epsilon) (le b.len epsilon) refl refl
  where
    top : Within 31 (a.dx ⊗ b.dx ⊕ a.dy ⊗ b.dy)
    top =
        add-within 30 (a.dx ⊗ b.dx) (a.dy ⊗ b.dy) (ltb-true 31 128 refl)
        (mul-within 15 15 a.dx b.dx (ltb-true 30 128 refl) p.dx q.dx)
        (mul-within 15 15 a.dy b.dy (ltb-true 30 128 refl) p.dy q.dy)

    go : (t u : Bool) → le a.len epsilon ≡ t → le b.len epsilon ≡ u
        → cosine_is_nan
        (cond (t || u) None
        (Some (record { cosine = clamp_of ((a.dx ⊗ b.dx ⊕ a.dy ⊗ b.dy) ⊘ (a.len ⊗ b.len)); ratio = max_of a.len b.len ⊘ min_of a.len b.len })))
        ≡ false
    go true u f g = refl
    go false true f g = refl
    go false false f g =
        clamp-number ((a.dx ⊗ b.dx ⊕ a.dy ⊗ b.dy) ⊘ (a.len ⊗ b.len))
        (number-over (a.dx ⊗ b.dx ⊕ a.dy ⊗ b.dy) (a.len ⊗ b.len) (within-finite 31 (a.dx ⊗ b.dx ⊕ a.dy ⊗ b.dy) top)
        (product-above a.len b.len p.len q.len (over-epsilon a.len p.len f) (over-epsilon b.len q.len g)))

noted-number : (m p : Option Measure) → cosine_is_nan m ≡ false → cosine_is_nan p ≡ false → cosine_is_nan (noted m p) ≡ false
unfolding noted
noted-number m None f g = f
noted-number None (Some p) f g = g
noted-number (Some m) (Some p) f g = go (lt p.cosine m.cosine)
  where
    go : (t : Bool) → is_nan (cond t p.cosine m.cosine) ≡ false
    go true = g
    go false = f

cell-noted : (m : Option Measure) (c : Option CellShape) → cosine_is_nan m ≡ false → cell_is_nan c ≡ false → cosine_is_nan (noted_cell m c) ≡ false
unfolding noted_cell
cell-noted m None f g = f
cell-noted m (Some c) f g =
    let h = or_parts (cosine_is_nan c.along_u) (cosine_is_nan c.along_v) g in
    noted-number (noted m c.along_u) c.along_v (noted-number m c.along_u f h.0) h.1

where-so : {A : Type 0} (P : A → Type 0) (t : Bool) {x y : A} → (t ≡ true → P x) → P y → P (cond t x y)
where-so P true f g = f refl
where-so P false f g = g

-- ---- the figures, from four cells

module _ (g : EdgeShapeParams) (degree : ℕ) where
  least-of : (m : Option Measure) (a b c d : Option CellShape) → cell_is_nan a ≡ false → cell_is_nan b ≡ false → cell_is_nan c ≡ false → cell_is_nan d ≡ false
      → cosine_is_nan (figures_by g degree m (a ∷ b ∷ c ∷ d ∷ [])).cells ≡ false
  unfolding figures_by
  least-of m a b c d p q r s =
      cell-noted (noted_cell (noted_cell (noted_cell None a) b) c) d
      (cell-noted (noted_cell (noted_cell None a) b) c (cell-noted (noted_cell None a) b (cell-noted None a refl p) q) r) s

  reason-of : (u v : Option Measure) (a b c d : Option CellShape) → cosine_is_nan u ≡ false → cosine_is_nan v ≡ false
      → let f = figures_by g degree (noted u v) (a ∷ b ∷ c ∷ d ∷ []) in f.reason ≡ reason_by_each g f.degree f.adjacent f.valid u v
  unfolding figures_by
  reason-of u v a b c d p q =
      let f = figures_by g degree (noted u v) (a ∷ b ∷ c ∷ d ∷ []) in
      reason-step g degree f.adjacent f.valid (noted u v)
      ∙ ap (λ (t : Bool). cond (ltb degree g.min_cardinal_degree) (Some LowCardinalDegree) (cond t (Some BadContinuation) (cond (ltb 0 f.adjacent && eqb f.valid 0) (Some NoValidAdjacentCell) None)))
      (fails-by-each g degree f.valid u v p q)

-- ---- a sheet

-- the positions are finite and at most 16,384 in magnitude
pub record Inside (w : View) : Type 0 where
  pub x : (k : ℕ) → k < w.count → outside (w.x k) ≡ false
  pub y : (k : ℕ) → k < w.count → outside (w.y k) ≡ false

-- no cosine of rank k is NaN, and the reason is that of document 01's words
pub record Cosines (g : EdgeShapeParams) (w : View) (k : ℕ) : Type 0 where
  -- of the continuations along u and along v
  pub along-u : cosine_is_nan (continuation_at w prev_u next_u k) ≡ false
  pub along-v : cosine_is_nan (continuation_at w prev_v next_v k) ≡ false
  -- of any cell, and so the least that rank k has
  pub cells : (t : ℕ) → cell_is_nan (shape_at w t) ≡ false
  pub least-cell : cosine_is_nan (figures_at g w k).cells ≡ false
  -- "a continuation cosine under the least, or a continuation ratio over the largest where degree is at most 3 or valid cells at most 2"
  pub reason : (figures_at g w k).reason ≡ reason_at g w k

pub within-limit : (x : Float) → outside x ≡ false → Within 14 x
within-limit nan h = absurd (true≢false h)
within-limit (inf s) h = absurd (true≢false h)
within-limit (fin s m e) h = ltb-false (16384 * down e) (m * up e) h

module _ (w : View) (inside : Inside w) where
  apart : (x : ℕ → Float) → ((k : ℕ) → k < w.count → outside (x k) ≡ false) → (a b : ℕ) → a < w.count → b < w.count → Within 15 (x b ⊖ x a)
  apart x f a b h k = sub_within 14 (x b) (x a) (ltb-true 15 128 refl) (within-limit (x b) (f b k)) (within-limit (x a) (f a h))

  side-sound : (o : Offset) (a : ℕ) → a < w.count → present w a o ≡ true → Sound (side_at w o a)
  unfolding side_at edge_at edge_by
  side-sound o a h e =
      let b = rank_at w a o in
      let k = ltb-true b w.count e in
      let dx = apart w.x inside.x a b h k in
      let dy = apart w.y inside.y a b h k in
      record { dx = dx; dy = dy; len = rw (T, e) (norm-plain (w.x b ⊖ w.x a) (w.y b ⊖ w.y a) (within-number 15 (w.x b ⊖ w.x a) dx) (within-number 15 (w.y b ⊖ w.y a) dy)) }

  pub continuation-number : (before after : Offset) (k : ℕ) → k < w.count → cosine_is_nan (continuation_at w before after k) ≡ false
  continuation-number before after k h =
      rw (continuation-step w before after k)
      (where-so (λ (m : Option Measure). cosine_is_nan m ≡ false) (present w k before && (present w k after && present w (rank_at w k before) after))
      (λ e.
      let b = (and_parts (present w k before) (present w k after && present w (rank_at w k before) after) e).0 in
      let r = (and_parts (present w k before) (present w k after && present w (rank_at w k before) after) e).1 in
      compared-number (side_at w after (rank_at w k before)) (side_at w after k)
      (side-sound after (rank_at w k before) (ltb-true (rank_at w k before) w.count b) (and_parts (present w k after) (present w (rank_at w k before) after) r).1)
      (side-sound after k h (and_parts (present w k after) (present w (rank_at w k before) after) r).0)) refl)

  pub cell-number : (t : ℕ) → cell_is_nan (shape_at w t) ≡ false
  cell-number t =
      let here = ltb t w.count in
      let right = present w t next_u in
      let below = present w t next_v in
      let across = present w (rank_at w t next_v) next_u in
      let down = present w (rank_at w t next_u) next_v in
      rw (cell-step w t)
      (where-so (λ (c : Option CellShape). cell_is_nan c ≡ false) (here && (right && (below && (across && down))))
      (λ e.
      let a = ltb-true t w.count (and_parts here (right && (below && (across && down))) e).0 in
      let f = (and_parts here (right && (below && (across && down))) e).1 in
      let u = (and_parts right (below && (across && down)) f).0 in
      let g = (and_parts right (below && (across && down)) f).1 in
      let v = (and_parts below (across && down) g).0 in
      let h = (and_parts below (across && down) g).1 in
      rw (
        compared-number (side_at w next_u t) (side_at w next_u (rank_at w t next_v)) (side-sound next_u t a u)
            (side-sound next_u (rank_at w t next_v) (ltb-true (rank_at w t next_v) w.count v) (and_parts across down h).0),
        compared-number (side_at w next_v t) (side_at w next_v (rank_at w t next_u)) (side-sound next_v t a v)
            (side-sound next_v (rank_at w t next_u) (ltb-true (rank_at w t next_u) w.count u) (and_parts across down h).1),
      )) refl)

  -- what holds of the cosines of rank k, with any gate
  pub cosines : (g : EdgeShapeParams) (k : ℕ) → k < w.count → Cosines g w k
  cosines g k h =
      let u = continuation_at w prev_u next_u k in
      let v = continuation_at w prev_v next_v k in
      let cell : Offset → Option CellShape = λ o. shape_at w (rank_at w k o) in
      let number : (o : Offset) → cell_is_nan (cell o) ≡ false = λ o. cell-number (rank_at w k o) in
      record {
        along-u = continuation-number prev_u next_u k h;
        along-v = continuation-number prev_v next_v k h;
        cells = cell-number;
        least-cell = rw (figures-step w g k) (least-of g (degree_at w k) (noted u v) (cell own) (cell prev_u) (cell prev_uv) (cell prev_v) (number own) (number prev_u) (number prev_uv) (number prev_v));
        reason = rw (figures-step w g k)
            (reason-of g (degree_at w k) u v (cell own) (cell prev_u) (cell prev_uv) (cell prev_v) (continuation-number prev_u next_u k h) (continuation-number prev_v next_v k h));
      }
