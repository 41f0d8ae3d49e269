-- The joined list in cell order is one merge of the halves in cell order. Assumes nothing.
use Rattle.std.specs.List.{list_any, filter}
use mathlib.Core.Path.{◌≡◌, refl, ap, ◌∙◌}
use mathlib.Core.Bool.{Bool, false, not}
use mathlib.Core.List.{List, [], ◌∷◌, ◌++◌, map}
use Prim.Native.Nat.{ℕ, suc, ◌<◌}
use native.Mathlib.Omega.{arith}
use lib.Dec.{eqb, ltb}
use lib.ListN.{length, get_or}
use borrow.Author.Tests.{ltb-true}
use Rattle.folds.proofs.Among.{none_in}
use Rattle.folds.specs.Lists.{All}
use Rattle.sort.specs.Sorted.{sort, insert}
use Rattle.sort.proofs.Sorted.{at_all, sort-all}
use Rattle.cells.specs.Points.{Point, nowhere, key_of}
use Rattle.cells.specs.Cell.{InRange}
use Rattle.cells.proofs.Keys.{key-order}
use Rattle.grid.specs.InOrder.{CellOrder}
use Rattle.points.specs.Refusals.{off_range, same_cell, cell_order, comes_before}
use Rattle.points.proofs.Clashes.{ranged}
use Rattle.merged.specs.Merged.{merged, Climbs, is_fresh}
use Rattle.merged.proofs.Filtered.{all_map, all-filter, filter_ext}
use Rattle.merged.proofs.Merged.{sorted-merged}
use Rattle.merged.proofs.Numbers.{widened-rises}
use Rattle.joined.specs.declared.moves.Move.{Move}
use Rattle.joined.specs.Joined.{moved_by, is_free, joined_list}
use Rattle.joined.specs.Halved.{raised}
use Rattle.joined.proofs.Lists.{all-both, all-append, all-images}
use Rattle.joined.proofs.Cells.{Allowed, Near, wide_of, near-zero, near-own, near-moved, wide-own, wide-moved, cells-by-wide, order-by-wide}

abbrev pub by_wide : Point → Point → Bool
by_wide p q = ltb (wide_of p) (wide_of q)

-- ---- lists

module _ {A : Type 0} where
  -- keys that rise from place to place
  climbs-at : (key : A → ℕ) (d : A) (l : List A) → ((i j : ℕ) → i < j → j < length l → key (get_or l i d) < key (get_or l j d)) → Climbs key l
  climbs-at key d [] h = tt
  climbs-at key d (a ∷ l) h = (at_all (λ (b : A). key a < key b) d l (λ k b. h 0 (suc k) (omega arith) (omega arith)), climbs-at key d l (λ i j ij jl. h (suc i) (suc j) (omega arith) (omega arith)))

  -- two tests that agree sort alike
  insert-ext : (s t : A → A → Bool) (a : A) (l : List A) → All (λ (b : A). s b a ≡ t b a) l → insert s a l ≡ insert t a l
  unfolding insert
  insert-ext s t a [] h = refl
  insert-ext s t a (b ∷ l) h = rw (h.0, insert-ext s t a l h.1)

  sort-ext : (P : A → Type 0) (s t : A → A → Bool) → ((a b : A) → P a → P b → s a b ≡ t a b) → (l : List A) → All P l → sort s l ≡ sort t l
  unfolding sort
  sort-ext P s t f [] h = refl
  sort-ext P s t f (a ∷ l) h = ap (insert s a) (sort-ext P s t f l h.1) ∙ insert-ext s t a (sort t l) (all_map (λ b p. f b a p h.0) (sort t l) (sort-all t P l h.1))

climbs-images : {A B : Type 0} (g : A → B) (key : B → ℕ) (l : List A) → Climbs (λ (a : A). key (g a)) l → Climbs key (map g l)
climbs-images g key [] h = tt
climbs-images g key (a ∷ l) h = (all-images g (λ b. key (g a) < key b) l h.0, climbs-images g key l h.1)

-- ---- points in cell order

module _ (ps : List Point) (o : CellOrder ps) where
  pub all-inside : All InRange ps
  all-inside = at_all InRange nowhere ps o.inside

  keys-rise : (i j : ℕ) → i < j → j < length ps → key_of (get_or ps i nowhere) < key_of (get_or ps j nowhere)
  keys-rise i j ij h =
      let p = get_or ps i nowhere in
      let q = get_or ps j nowhere in
      ltb-true (key_of p) (key_of q) (key-order p q (o.inside i (omega arith)) (o.inside j h) ∙ o.rising i j ij h)

  -- any key that rises with the key of the cell
  climbs-by : (key : Point → ℕ) → ((p q : Point) → InRange p → InRange q → key_of p < key_of q → key p < key q) → Climbs key ps
  climbs-by key f = climbs-at key nowhere ps (λ i j ij h. f (get_or ps i nowhere) (get_or ps j nowhere) (o.inside i (omega arith)) (o.inside j h) (keys-rise i j ij h))

-- ---- the joined list

module _ (m : Move) (o : Allowed m) (ls rs : List Point) (hl : CellOrder ls) (hr : CellOrder rs) where
  abbrev moves : List Point
  moves = map (moved_by m) rs

  right-near : All Near moves
  right-near = all-images (moved_by m) Near rs (all_map (λ p r. near-moved m o p r) rs (all-inside rs hr))

  joined-near : All Near (joined_list m ls rs)
  unfolding joined_list
  joined-near = all-append Near ls (filter (is_free ls) moves) (all_map near-own ls (all-inside ls hl)) (all-filter Near (is_free ls) moves right-near)

  -- where no cell is out of range
  joined-inside : list_any off_range (joined_list m ls rs) ≡ false → All InRange (joined_list m ls rs)
  joined-inside e =
      all-both Near (λ (p : Point). off_range p ≡ false) InRange (λ p n f. (ranged p n.fits-u n.fits-v f).cell) (joined_list m ls rs) joined-near (none_in off_range (joined_list m ls rs) e)

  -- a cell that no left point has is a key that none has
  cells-of : (q : Point) → Near q → (l : List Point) → All InRange l → list_any (λ (p : Point). same_cell p q) l ≡ list_any (λ (p : Point). eqb (wide_of p) (wide_of q)) l
  cells-of q n [] h = refl
  cells-of q n (p ∷ l) h = rw (← cells-by-wide p q (near-own p h.0) n, cells-of q n l h.1)

  fresh-are-free : All (λ (q : Point). is_free ls q ≡ is_fresh wide_of ls q) moves
  fresh-are-free = all_map (λ q n. ap not (cells-of q n ls (all-inside ls hl))) moves right-near

  left-climbs : Climbs wide_of ls
  left-climbs = climbs-by ls hl wide_of (λ p q r s e. rw (wide-own p r, wide-own q s) (widened-rises _ _ (key_of p) (key_of q) (omega arith) e))

  right-climbs : Climbs wide_of moves
  right-climbs =
      climbs-images (moved_by m) wide_of rs
      (climbs-by rs hr (λ (p : Point). wide_of (moved_by m p))
      (λ p q r s e. rw (wide-moved m o p r, wide-moved m o q s) (widened-rises (raised m.du) (raised m.dv) (key_of p) (key_of q) (near-zero m.dv o.v) e)))

  -- for cells in range or not
  pub merge-law : sort by_wide (joined_list m ls rs) ≡ merged wide_of ls moves
  unfolding joined_list
  merge-law = ap (λ (l : List Point). sort by_wide (ls ++ l)) (filter_ext (is_free ls) (is_fresh wide_of ls) moves fresh-are-free) ∙ sorted-merged wide_of ls moves left-climbs right-climbs

  -- "in cell order": one merge of both
  pub cell-order-merged : list_any off_range (joined_list m ls rs) ≡ false → cell_order (joined_list m ls rs) ≡ merged wide_of ls moves
  cell-order-merged e = sort-ext InRange comes_before by_wide order-by-wide (joined_list m ls rs) (joined-inside e) ∙ merge-law
