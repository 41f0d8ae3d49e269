-- The columns of the table are those of the points in cell order. Assumes nothing.
use mathlib.Core.Path.{◌≡◌, sym, ap, ◌∙◌}
use mathlib.Core.Bool.{false}
use mathlib.Core.List.{List}
use Prim.Native.Nat.{ℕ, ◌/◌, ◌%◌, ◌≤◌, ◌<◌}
use native.Mathlib.Omega.{arith}
use lib.ListN.{length, get_or}
use Rattle.folds.specs.Arith.{f32}
use Rattle.folds.specs.Column.{column}
use Rattle.folds.proofs.Column.{column-ext}
use Rattle.folds.specs.Lists.{list_of}
use Rattle.folds.proofs.Lists.{length-list, list_at}
use Rattle.view.specs.View.{max_points}
use Rattle.cells.specs.Points.{Point, nowhere, key_of, keys_of}
use Rattle.sheet_file.specs.Limit.{outside}
use Rattle.sheet_file.specs.declared.Layout.{Layout}
use Rattle.sort.specs.Packed.{packed_places, placed}
use Rattle.sort.proofs.Packed.{things-in-order}
use Rattle.points.specs.Records.{ith_point, points_in}
use Rattle.points.specs.Refusals.{off_limit, off_strength, cell_order}
use Rattle.sort.specs.Packed.{entries_of}
use Rattle.points.specs.Held.{nth, at_rank, InCellOrder}
use Rattle.points.specs.declared.records.Order.{Order}
use Rattle.sort.proofs.Entries.{entry_at}
use Rattle.points.proofs.Ordering.{entry_key}
use Rattle.points.proofs.Clashes.{none-off, all-ranged}
use Rattle.std.proofs.lemmas.Bool.{or_parts}

module _ (file : List ℕ) (f : Layout) where
  abbrev n : ℕ
  n = f.count

  abbrev sorted_points : List Point
  sorted_points = cell_order (points_in file f)

  abbrev key_at : ℕ → ℕ
  key_at i = key_of (ith_point file f i)

  -- the point at rank r
  abbrev pub point_at : ℕ → Point
  point_at r = ith_point file f (get_or (entries_of n key_at) r 0 % packed_places)

  module _ (few : n ≤ max_points) where
    by_place : sorted_points ≡ list_of n (λ (r : ℕ). ith_point file f (placed key_at n r))
    unfolding points_in
    by_place = things-in-order key_of (ith_point file f) n (omega arith)

    pub points-length : length sorted_points ≡ n
    points-length = ap length by_place ∙ length-list n (λ (r : ℕ). ith_point file f (placed key_at n r))

    point-at : (r : ℕ) → r < n → get_or sorted_points r nowhere ≡ point_at r
    point-at r h =
        ap (λ (l : List Point). get_or l r nowhere) by_place ∙ list_at n (λ (r : ℕ). ith_point file f (placed key_at n r)) r nowhere h
        ∙ ap (λ (e : ℕ). ith_point file f (e % packed_places)) (sym (entry_at n key_at r h))

    -- one field of the points in the order of their cells is that field's column
    pub field-column : {B : Type 0} (d : B) (field : Point → B) → column max_points d n (λ (r : ℕ). field (point_at r)) ≡ column max_points d (length sorted_points) (λ (r : ℕ). field (get_or sorted_points r nowhere))
    field-column d field = rw points-length (column-ext max_points d n (λ (r : ℕ). field (point_at r)) (λ (r : ℕ). field (get_or sorted_points r nowhere)) (λ r h. ap field (sym (point-at r h))))

    pub key-column : column max_points 0 n (λ (r : ℕ). get_or (entries_of n key_at) r 0 / packed_places) ≡ keys_of sorted_points
    unfolding keys_of
    key-column =
        column-ext max_points 0 n (λ (r : ℕ). get_or (entries_of n key_at) r 0 / packed_places) (λ (r : ℕ). key_of (point_at r)) (λ r h. entry_key n key_at few r h)
        ∙ field-column 0 key_of

-- what holds of the point at a rank
module _ (o : Order) (a : InCellOrder o) (r : ℕ) (l : r < o.points.layout.count) where
  abbrev f : Layout
  f = o.points.layout

  abbrev place : ℕ
  place = get_or o.entries r 0 % packed_places

  -- the keys of points in range are below 2 ^ 32
  pub cell_fits : get_or o.entries r 0 / packed_places < 0x1_0000_0000
  cell_fits =
      let g = all-ranged o.points.file.now f a.bytes a.in-range place (o.placed r l) in
      let e : get_or o.entries r 0 / packed_places ≡ key_of (at_rank o r) = rw a.ordered (entry_key f.count (λ (i : ℕ). key_of (nth o.points i)) o.points.fit.records.few r l) in
      omega (arith, e, g.u, g.v)

  inside : (outside (f32 (at_rank o r).x) ≡ false) × (outside (f32 (at_rank o r).y) ≡ false)
  inside = or_parts (outside (f32 (at_rank o r).x)) (outside (f32 (at_rank o r).y)) (none-off o.points.file.now f off_limit a.in-limit place (o.placed r l))

  pub x_inside : outside (f32 (at_rank o r).x) ≡ false
  x_inside = inside.0

  pub y_inside : outside (f32 (at_rank o r).y) ≡ false
  y_inside = inside.1

  pub strength_inside : outside (f32 (at_rank o r).strength) ≡ false
  strength_inside = none-off o.points.file.now f off_strength a.strengths place (o.placed r l)
