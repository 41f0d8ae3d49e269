-- What the code reads of the sheets of two halves is what the joined list has. Assumes nothing.
use Rattle.std.specs.List.{list_any}
use mathlib.Core.Path.{◌≡◌, refl, sym, ap, ◌∙◌}
use mathlib.Core.Bool.{Bool, true, false, cond, not, ◌&&◌, ◌||◌}
use mathlib.Core.List.{List, map}
use mathlib.Core.Logic.{◌⊎◌, inl, inr}
use Prim.{Dec, yes, no}
use Prim.Native.Nat.{ℕ, ◌+◌, ◌-◌, ◌*◌, ◌/◌, ◌%◌, ◌^◌, ◌≤◌, ◌<◌}
use native.Mathlib.Omega.{arith}
use native.Mathlib.Decide.{dec_lt}
use lib.Dec.{ltb, leb}
use lib.Ieee.{Float, nan, binary32, to_bits}
use lib.Ieee.Bits.{of_bits-to_bits}
use lib.Ieee.Fits.{add-fits}
use lib.ListN.{length, get_or, length-map, get_or-map}
use borrow.Author.Tests.{lt-ltb, le-ltb, lt-leb, le-leb}
use Rattle.folds.proofs.Among.{any_order, any-list}
use Rattle.folds.specs.Arith.{◌⊕◌, f32}
use Rattle.folds.specs.Below.{some}
use Rattle.folds.proofs.Below.{some-ext, some-fails}
use Rattle.folds.specs.Column.{column}
use Rattle.folds.proofs.Column.{column-at, column-ext}
use Rattle.folds.specs.Lists.{list_of}
use Rattle.folds.proofs.Lists.{length-list, list_at, is-list, get_d_any}
use Rattle.view.specs.View.{max_points}
use Rattle.cells.specs.Points.{Point, nowhere, biased, key_of, keys_of, indices_of, xs_of, ys_of, strengths_of}
use Rattle.cells.specs.Cell.{signed, within, InRange}
use Rattle.cells.proofs.Keys.{range-is}
use Rattle.sort.specs.Sorted.{sort}
use Rattle.sort.proofs.Sorted.{sort-perm, sort-length}
use Rattle.sheet_file.specs.Limit.{outside}
use Rattle.sheet_file.specs.declared.Settings.{Settings}
use Rattle.points.specs.Refusals.{off_range, off_limit, cell_order}
use Rattle.points.specs.Table.{Tabled}
use Rattle.points.specs.declared.Table.{Table}
use Rattle.points.proofs.Clashes.{ranged}
use Rattle.ruling.specs.Accepted.{AcceptedSheet}
use Rattle.ruling.specs.Sheet.{SheetOf}
use Rattle.ruling.specs.declared.sheet.Sheet.{Sheet}
use Rattle.ruling.proofs.Accepted.{sound-sheet}
use Rattle.merged.specs.Merged.{merged}
use Rattle.merged.specs.Sources.{widened, own, source_key, sources_of}
use Rattle.merged.proofs.Numbers.{left-key, right-key, sources-map, Arrayed, some-fits, source-known}
use Rattle.joined.specs.Joined.{moved_by, joined_list}
use Rattle.joined.specs.Halved.{Halved, HalvesOf, raised}
use Rattle.joined.specs.Numbered.{number_at, key_at, index_of, coordinate_of, x_of, y_of, strength_of, out_wide, narrowed, TableOf}
use Rattle.joined.specs.declared.pair.Pair.{Pair}
use Rattle.joined.specs.declared.pair.Joint.{Joint}
use Rattle.merged.specs.declared.halves.Halves.{Halves}
use Rattle.grid.specs.InOrder.{CellOrder}
use Rattle.joined.proofs.Accepted.{allowed-by}
use Rattle.joined.proofs.Cells.{Allowed, Near, spread, wide_of, near-own, near-moved, wide-own, wide-moved}
use Rattle.joined.proofs.Order.{by_wide, merge-law, cell-order-merged}

-- ---- the order of the numbers

numbers-are : (j : Joint) → Arrayed (sources_of j.halves) j.sources.now
numbers-are j = some-fits (sources_of j.halves) j.sources.now j.ordered.sources

pub few_numbers : (j : Joint) → j.sources.now.count ≤ max_points
few_numbers j = let a = numbers-are j in omega (arith, a.count, a.few)

pub number_known : (j : Joint) (r : ℕ) → r < j.sources.now.count → number_at j r < j.pair.left.now.count + j.pair.right.now.count
number_known j r l = let o = j.ordered.halves in omega (arith, source-known j.halves j.sources.now (numbers-are j) r l, o.left-count, o.right-count)

-- where none is out of range
pub key_inside : (j : Joint) → some (λ (r : ℕ). out_wide (key_at j r)) j.sources.now.count ≡ false → (r : ℕ) → r < j.sources.now.count → out_wide (key_at j r) ≡ false
key_inside j e r l = some-fails (λ (r : ℕ). out_wide (key_at j r)) j.sources.now.count e r l

-- ---- one cell

-- x lies between two ends, or it does not, by either test
record Inside (lo hi x : ℕ) : Type 0 where
  pub low : lo ≤ x
  pub high : x ≤ hi
  pub between : leb lo x && leb x hi ≡ true
  pub out : ltb x lo || ltb hi x ≡ false

record Off (lo hi x : ℕ) : Type 0 where
  pub either : lo ≤ x → x ≤ hi → ⊥
  pub between : leb lo x && leb x hi ≡ false
  pub out : ltb x lo || ltb hi x ≡ true

sides : (lo hi x : ℕ) → Inside lo hi x ⊎ Off lo hi x
sides lo hi x = go (dec_lt x lo) (dec_lt hi x)
  where
    go : Dec (x < lo) → Dec (hi < x) → Inside lo hi x ⊎ Off lo hi x
    go (yes l) d = inr (record { either = λ a b. omega arith; between = rw (lt-leb lo x l); out = rw (lt-ltb x lo l) })
    go (no f) (yes l) = inr (record { either = λ a b. omega arith; between = rw (le-leb lo x (omega arith), lt-leb x hi l); out = rw (le-ltb x lo (omega arith), lt-ltb hi x l) })
    go (no f) (no g) = inl (record { low = omega arith; high = omega arith; between = rw (le-leb lo x (omega arith), le-leb x hi (omega arith)); out = rw (le-ltb x lo (omega arith), le-ltb hi x (omega arith)) })

within-spread : (b : ℕ) → b < 2 ^ 32 → not (within (signed b)) ≡ ltb (spread b) 16003 || ltb 32003 (spread b)
within-spread b h = ap not (range-is b h) ∙ go (sides 3 16003 (biased b)) (sides 16003 32003 (spread b))
  where
    go : Inside 3 16003 (biased b) ⊎ Off 3 16003 (biased b) → Inside 16003 32003 (spread b) ⊎ Off 16003 32003 (spread b)
        → not (leb 3 (biased b) && leb (biased b) 16003) ≡ ltb (spread b) 16003 || ltb 32003 (spread b)
    go (inl i) (inl k) = rw (i.between, k.out)
    go (inr i) (inr k) = rw (i.between, k.out)
    go (inl i) (inr k) = absurd (k.either (omega (arith, i.low, i.high)) (omega (arith, i.low, i.high)))
    go (inr i) (inl k) = absurd (i.either (omega (arith, k.low, k.high)) (omega (arith, k.low, k.high)))

digits : (a b : ℕ) → b < 65536 → ((a * 65536 + b) / 65536 ≡ a) × ((a * 65536 + b) % 65536 ≡ b)
digits a b h = (omega arith, omega arith)

out-is : (p : Point) → Near p → off_range p ≡ out_wide (wide_of p)
out-is p n = let d = digits (spread p.u) (spread p.v) n.v in rw (d.0, d.1, within-spread p.u n.fits-u, within-spread p.v n.fits-v)

same-wide : {a b c d k l : ℕ} → a ≡ c → b ≡ d → k ≡ l → widened a b k ≡ widened c d l
same-wide e f g = rw (e, f, g)

narrow-widened : (k : ℕ) → narrowed (widened own own k) ≡ k
narrow-widened k = omega arith

-- ---- the sheet of one half

module _ {s : Settings} {ps : List Point} {l : Sheet} (t : SheetOf s ps l) (k : ℕ) (low : k < length ps) where
  abbrev p : Point
  p = get_or ps k nowhere

  key-read : get_or l.table.keys k 0 ≡ key_of p
  unfolding keys_of
  key-read = rw t.table_is.keys-are (column-at max_points 0 (length ps) (λ (i : ℕ). key_of (get_or ps i nowhere)) k low)

  pub index-read : get_or l.table.idx k 0 ≡ p.index
  unfolding indices_of
  index-read = rw t.table_is.indices-are (column-at max_points 0 (length ps) (λ (i : ℕ). (get_or ps i nowhere).index) k low)

  x-read : get_or l.table.x k nan ≡ f32 p.x
  unfolding xs_of
  x-read = rw t.table_is.xs-are (column-at max_points nan (length ps) (λ (i : ℕ). f32 (get_or ps i nowhere).x) k low)

  y-read : get_or l.table.y k nan ≡ f32 p.y
  unfolding ys_of
  y-read = rw t.table_is.ys-are (column-at max_points nan (length ps) (λ (i : ℕ). f32 (get_or ps i nowhere).y) k low)

  strength-read : get_or l.table.strength k nan ≡ f32 p.strength
  unfolding strengths_of
  strength-read = rw t.table_is.strengths-are (column-at max_points nan (length ps) (λ (i : ℕ). f32 (get_or ps i nowhere).strength) k low)

half-inside : {s : Settings} {ps : List Point} → AcceptedSheet s ps → (k : ℕ) → k < length ps → InRange (get_or ps k nowhere)
half-inside {s} {ps} a = (sound-sheet s ps a).order.inside

-- ---- the joined list

sum-bits : (a b : Float) → a ⊕ b ≡ f32 (to_bits binary32 (a ⊕ b))
sum-bits a b = sym (of_bits-to_bits binary32 (a ⊕ b) (add-fits binary32 a b))

module _ (p : Pair) (u : Halves) (c : HalvesOf p.left.now p.right.now p.by u) (h : Halved p.left.now p.right.now p.by) where
  abbrev ls : List Point
  ls = h.lefts

  abbrev rs : List Point
  rs = h.rights

  abbrev n : ℕ
  n = p.left.now.count

  abbrev m : ℕ
  m = p.right.now.count

  abbrev moves : List Point
  moves = map (moved_by p.by) rs

  o : Allowed p.by
  o = allowed-by p.by h.allowed

  -- the point with a number
  unfoldable pub point_of : ℕ → Point
  point_of s = cond (ltb s n) (get_or ls s nowhere) (moved_by p.by (get_or rs (s - n) nowhere))

  -- what the arrays say of it
  pub record Read (s : ℕ) : Type 0 where
    pub key-is : source_key u s ≡ wide_of (point_of s)
    pub index-is : index_of p s ≡ (point_of s).index
    pub x-is : x_of p s ≡ f32 (point_of s).x
    pub y-is : y_of p s ≡ f32 (point_of s).y
    pub strength-is : strength_of p s ≡ f32 (point_of s).strength
    pub near : Near (point_of s)

  read-left : (s : ℕ) → s < n → Read s
  unfolding point_of index_of coordinate_of strength_of
  read-left s l =
      let e = lt-ltb s n l in
      let k : s < length ls = omega (arith, h.left-sheet.count-is) in
      let t = h.left-sheet in
      let inside = half-inside h.left-accepted s k in
      record {
        key-is = rw e (left-key u s (omega (arith, c.left-count)) ∙ same-wide refl refl (ap (λ (l : List ℕ). get_or l s 0) c.left-keys ∙ key-read t s k) ∙ sym (wide-own (get_or ls s nowhere) inside));
        index-is = rw e (index-read t s k);
        x-is = rw e (x-read t s k);
        y-is = rw e (y-read t s k);
        strength-is = rw e (strength-read t s k);
        near = rw e (near-own (get_or ls s nowhere) inside);
      }

  read-right : (k : ℕ) → k < m → Read (n + k)
  unfolding point_of index_of coordinate_of strength_of
  read-right k l =
      let e : ltb (n + k) n ≡ false = le-ltb (n + k) n (omega arith) in
      let d : n + k - n ≡ k = omega arith in
      let b : k < length rs = omega (arith, h.right-sheet.count-is) in
      let t = h.right-sheet in
      let q = get_or rs k nowhere in
      let inside = half-inside h.right-accepted k b in
      let key : source_key u (n + k) ≡ widened (raised p.by.du) (raised p.by.dv) (key_of q) =
      ap (λ (i : ℕ). source_key u (i + k)) (sym c.left-count) ∙ right-key u k ∙ same-wide c.up-u c.up-v (ap (λ (l : List ℕ). get_or l k 0) c.right-keys ∙ key-read t k b) in
      record {
        key-is = rw (e, d) (key ∙ sym (wide-moved p.by o q inside));
        index-is = rw (e, d) (ap (λ (i : ℕ). i + 2 ^ 31) (index-read t k b));
        x-is = rw (e, d, x-read t k b) (sum-bits (f32 q.x) p.by.dx);
        y-is = rw (e, d, y-read t k b) (sum-bits (f32 q.y) p.by.dy);
        strength-is = rw (e, d) (strength-read t k b);
        near = rw (e, d) (near-moved p.by o q inside);
      }

  pub read-each : (s : ℕ) → s < n + m → Read s
  read-each s l = go (dec_lt s n)
    where
      go : Dec (s < n) → Read s
      go (yes k) = read-left s k
      go (no f) = let e : n + (s - n) ≡ s = omega arith in rw e at (read-right (s - n) (omega arith))

  left-points : list_of n point_of ≡ ls
  unfolding point_of
  left-points = sym (is-list nowhere n point_of ls (sym h.left-sheet.count-is) (λ k l. rw (lt-ltb k n l)))

  right-points : list_of m (λ (k : ℕ). point_of (n + k)) ≡ moves
  unfolding point_of
  right-points =
      sym (is-list nowhere m (λ (k : ℕ). point_of (n + k)) moves (length-map rs (moved_by p.by) ∙ sym h.right-sheet.count-is)
      (λ k l. let d : n + k - n ≡ k = omega arith in rw (le-ltb (n + k) n (omega arith), d) (moved-at k (omega (arith, h.right-sheet.count-is)))))
    where
      moved-at : (k : ℕ) → k < length rs → get_or moves k nowhere ≡ moved_by p.by (get_or rs k nowhere)
      moved-at k l = get_d_any moves k nowhere (moved_by p.by nowhere) (omega (arith, length-map rs (moved_by p.by))) ∙ get_or-map (moved_by p.by) rs k nowhere

  -- the points of the numbers, in their order
  merged-are : merged wide_of ls moves ≡ map point_of (sources_of u)
  merged-are =
      sym (of-counts u.left.count u.right.count c.left-count c.right-count)
      ∙ sym (sources-map u wide_of point_of (λ s b. (read-each s (omega (arith, c.left-count, c.right-count))).key-is))
    where
      of-counts : (a b : ℕ) → a ≡ n → b ≡ m → merged wide_of (list_of a point_of) (list_of b (λ (k : ℕ). point_of (a + k))) ≡ merged wide_of ls moves
      of-counts a b e f = rw (e, f, left-points, right-points)

  left-order : CellOrder ls
  left-order = (sound-sheet p.left.now.settings ls h.left-accepted).order

  right-order : CellOrder rs
  right-order = (sound-sheet p.right.now.settings rs h.right-accepted).order

  pub sorted-are : sort by_wide (joined_list p.by ls rs) ≡ map point_of (sources_of u)
  sorted-are = merge-law p.by o ls rs left-order right-order ∙ merged-are

  pub cells-are : list_any off_range (joined_list p.by ls rs) ≡ false → cell_order (joined_list p.by ls rs) ≡ map point_of (sources_of u)
  cells-are e = cell-order-merged p.by o ls rs left-order right-order e ∙ merged-are

  pub how-many : length (joined_list p.by ls rs) ≡ length (sources_of u)
  how-many = sym (sort-length by_wide (joined_list p.by ls rs)) ∙ ap length sorted-are ∙ length-map (sources_of u) point_of

-- ---- by rank

module _ (j : Joint) (h : Halved j.pair.left.now j.pair.right.now j.pair.by) where
  abbrev count : ℕ
  count = j.sources.now.count

  abbrev list : List Point
  list = joined_list j.pair.by h.lefts h.rights

  abbrev point : ℕ → Point
  point = point_of j.pair j.halves j.ordered.halves h

  abbrev at_rank : ℕ → Point
  at_rank r = point (number_at j r)

  in-order : map point (sources_of j.halves) ≡ list_of count at_rank
  in-order =
      let a = numbers-are j in
      let l = sources_of j.halves in
      is-list (point 0) count at_rank (map point l) (length-map l point ∙ sym a.count) (λ r b. get_or-map point l r 0 ∙ ap point (sym (a.at r)))

  pub count-is : length list ≡ count
  count-is = how-many j.pair j.halves j.ordered.halves h ∙ sym (numbers-are j).count

  any-is : (t : Point → Bool) → list_any t list ≡ some (λ (r : ℕ). t (at_rank r)) count
  any-is t = any_order t (sort-perm by_wide list) ∙ ap (list_any t) (sorted-are j.pair j.halves j.ordered.halves h ∙ in-order) ∙ any-list at_rank count t

  read-rank : (r : ℕ) → r < count → Read j.pair j.halves j.ordered.halves h (number_at j r)
  read-rank r l = read-each j.pair j.halves j.ordered.halves h (number_at j r) (number_known j r l)

  -- ---- what the code finds of it

  pub range-found : list_any off_range list ≡ some (λ (r : ℕ). out_wide (key_at j r)) count
  range-found =
      any-is off_range
      ∙ some-ext (λ (r : ℕ). off_range (at_rank r)) (λ (r : ℕ). out_wide (key_at j r)) count
      (λ r l. let q = read-rank r l in out-is (at_rank r) q.near ∙ ap out_wide (sym q.key-is))

  pub limit-found : list_any off_limit list ≡ some (λ (r : ℕ). outside (x_of j.pair (number_at j r)) || outside (y_of j.pair (number_at j r))) count
  limit-found =
      any-is off_limit
      ∙ some-ext (λ (r : ℕ). off_limit (at_rank r)) (λ (r : ℕ). outside (x_of j.pair (number_at j r)) || outside (y_of j.pair (number_at j r))) count
      (λ r l. let q = read-rank r l in rw (q.x-is, q.y-is))

  module _ (e : some (λ (r : ℕ). out_wide (key_at j r)) count ≡ false) where
    order-is : cell_order list ≡ list_of count at_rank
    order-is = cells-are j.pair j.halves j.ordered.halves h (range-found ∙ e) ∙ in-order

    -- one field of the points in order is that field's column
    field-column : {B : Type 0} (d : B) (field : Point → B) (f : ℕ → B) → ((r : ℕ) → r < count → f r ≡ field (at_rank r))
        → column max_points d count f ≡ column max_points d (length (cell_order list)) (λ (r : ℕ). field (get_or (cell_order list) r nowhere))
    field-column d field f g =
        rw (order-is, length-list count at_rank)
        (column-ext max_points d count f (λ (r : ℕ). field (get_or (list_of count at_rank) r nowhere)) (λ r l. g r l ∙ ap field (sym (list_at count at_rank r nowhere l))))

    narrow-key : (r : ℕ) → r < count → narrowed (key_at j r) ≡ key_of (at_rank r)
    narrow-key r l =
        let q = read-rank r l in
        let f : off_range (at_rank r) ≡ false = out-is (at_rank r) q.near ∙ ap out_wide (sym q.key-is) ∙ some-fails (λ (r : ℕ). out_wide (key_at j r)) count e r l in
        ap narrowed (q.key-is ∙ wide-own (at_rank r) (ranged (at_rank r) q.near.fits-u q.near.fits-v f).cell) ∙ narrow-widened (key_of (at_rank r))

    pub table-found : (t : Table) → TableOf j t → Tabled (cell_order list) t
    unfolding keys_of indices_of xs_of ys_of strengths_of
    table-found t c = record {
      keys-are = c.keys ∙ field-column 0 key_of (λ (r : ℕ). narrowed (key_at j r)) narrow-key;
      indices-are = c.indices ∙ field-column 0 (λ (p : Point). p.index) (λ (r : ℕ). index_of j.pair (number_at j r)) (λ r l. (read-rank r l).index-is);
      xs-are = c.xs ∙ field-column nan (λ (p : Point). f32 p.x) (λ (r : ℕ). x_of j.pair (number_at j r)) (λ r l. (read-rank r l).x-is);
      ys-are = c.ys ∙ field-column nan (λ (p : Point). f32 p.y) (λ (r : ℕ). y_of j.pair (number_at j r)) (λ r l. (read-rank r l).y-is);
      strengths-are = c.strengths ∙ field-column nan (λ (p : Point). f32 p.strength) (λ (r : ℕ). strength_of j.pair (number_at j r)) (λ r l. (read-rank r l).strength-is);
    }
