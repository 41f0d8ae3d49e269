-- Each definition by one step, so that the names in it stay shut. Assumes nothing.
use Rattle.std.proofs.Common.{◌≡◌, ℕ, refl, [], ◌∷◌, Bool, true, false, cond, ◌&&◌, ltb}
use Rattle.std.specs.Prelude.{eqb, Option, Some, None}
use Rattle.offsets.specs.declared.Offset.{Offset}
use Rattle.offsets.specs.Offsets.{own, next_u, prev_u, next_v, prev_v, prev_uv}
use Rattle.std.specs.Option.{option_and_then}
use Rattle.view.specs.Seen.{below}
use Rattle.view.specs.View.{View, rank_at, present, degree_at}
use Rattle.sheet_file.specs.declared.EdgeShapeParams.{EdgeShapeParams}
use Rattle.edge_shape.specs.declared.Measure.{Measure}
use Rattle.edge_shape.specs.declared.CellShape.{CellShape}
use Rattle.edge_shape.specs.declared.Reason.TheVariants.{LowCardinalDegree, BadContinuation, NoValidAdjacentCell}
use Rattle.edge_shape.specs.Figures.{side_at, compared, noted, continuation_at, continuations_at, shape_at, continuation_fails, reason_of, figures_by, figures_at}

-- tests of ranks one after the other, as the code looks for them
module _ {A : Type 0} (n r : ℕ) (x : Option A) where
  next : (b : Bool) (f : ℕ → Option A) → cond b x None ≡ f r → cond (ltb r n && b) x None ≡ option_and_then f (below n r)
  next b f e = go (ltb r n)
    where
      go : (t : Bool) → cond (t && b) x None ≡ option_and_then f (cond t (Some r) None)
      go true = e
      go false = refl

  last : cond (ltb r n) x None ≡ option_and_then (λ (k : ℕ). x) (below n r)
  last = go (ltb r n)
    where
      go : (t : Bool) → cond t x None ≡ option_and_then (λ (k : ℕ). x) (cond t (Some r) None)
      go true = refl
      go false = refl

module _ (w : View) where
  -- the rank at an offset from rank k, if there is a point, and then what it gives
  abbrev from : {A : Type 0} → ℕ → Offset → (ℕ → Option A) → Option A
  from k o f = option_and_then f (below w.count (rank_at w k o))

  module _ (before after : Offset) (k : ℕ) where
    pub continuation_steps : continuation_at w before after k ≡ from k before (λ r. from k after (λ s. from r after (λ t. compared (side_at w after r) (side_at w after k))))
    unfolding continuation_at
    continuation_steps =
        let r = rank_at w k before in
        let x = compared (side_at w after r) (side_at w after k) in
        next w.count r x (present w k after && present w r after) (λ r. from k after (λ s. from r after (λ t. compared (side_at w after r) (side_at w after k))))
        (next w.count (rank_at w k after) x (present w r after) (λ s. from r after (λ t. x)) (last w.count (rank_at w r after) x))

  -- a cell by three of its corners
  abbrev cell_by : ℕ → ℕ → ℕ → Option CellShape
  cell_by k right low = Some (record { along_u = compared (side_at w next_u k) (side_at w next_u low); along_v = compared (side_at w next_v k) (side_at w next_v right) })

  abbrev from_low : ℕ → ℕ → ℕ → Option CellShape
  from_low k right low = from low next_u (λ across. from right next_v (λ down. cell_by k right low))

  abbrev from_right : ℕ → ℕ → Option CellShape
  from_right k right = from k next_v (from_low k right)

  pub cell_steps : (t : ℕ) → shape_at w t ≡ option_and_then (λ k. from k next_u (from_right k)) (below w.count t)
  unfolding shape_at
  cell_steps t =
      let right = rank_at w t next_u in
      let low = rank_at w t next_v in
      let x = cell_by t right low in
      let d = present w right next_v in
      let c = present w low next_u && d in
      let b = present w t next_v && c in
      next w.count t x (present w t next_u && b) (λ k. from k next_u (from_right k))
      (next w.count right x b (from_right t)
      (next w.count low x c (from_low t right)
      (next w.count (rank_at w low next_u) x d (λ across. from right next_v (λ down. x)) (last w.count (rank_at w right next_v) x))))

module _ (w : View) where
  pub continuation-step : (before after : Offset) (k : ℕ) → continuation_at w before after k
      ≡ cond (present w k before && (present w k after && present w (rank_at w k before) after)) (compared (side_at w after (rank_at w k before)) (side_at w after k)) None
  unfolding continuation_at
  continuation-step before after k = refl

  pub cell-step : (t : ℕ) → shape_at w t
      ≡ cond (ltb t w.count && (present w t next_u && (present w t next_v && (present w (rank_at w t next_v) next_u && present w (rank_at w t next_u) next_v))))
      (Some (record {
        along_u = compared (side_at w next_u t) (side_at w next_u (rank_at w t next_v));
        along_v = compared (side_at w next_v t) (side_at w next_v (rank_at w t next_u));
      }))
      None
  unfolding shape_at
  cell-step t = refl

  pub figures-step : (g : EdgeShapeParams) (k : ℕ) → figures_at g w k
      ≡ figures_by g (degree_at w k) (noted (continuation_at w prev_u next_u k) (continuation_at w prev_v next_v k))
      (shape_at w (rank_at w k own) ∷ shape_at w (rank_at w k prev_u) ∷ shape_at w (rank_at w k prev_uv) ∷ shape_at w (rank_at w k prev_v) ∷ [])
  unfolding figures_at continuations_at
  figures-step g k = refl

pub reason-step : (g : EdgeShapeParams) (degree adjacent valid : ℕ) (m : Option Measure) → reason_of g degree adjacent valid m
    ≡ cond (ltb degree g.min_cardinal_degree) (Some LowCardinalDegree)
    (cond (continuation_fails g degree valid m) (Some BadContinuation) (cond (ltb 0 adjacent && eqb valid 0) (Some NoValidAdjacentCell) None))
unfolding reason_of
reason-step g degree adjacent valid m = refl
