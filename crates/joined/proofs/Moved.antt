-- A join moves along: where the left cells and the offset move by the same whole numbers, so does what is accepted. Assumes nothing.
use Rattle.std.specs.List.{list_any, filter}
use Rattle.std.proofs.lemmas.Int.{of_z-to_z}
use Rattle.std.specs.Cmp.{both_ways}
use mathlib.Core.Path.{◌≡◌, refl, sym, ap, ◌∙◌}
use mathlib.Core.Bool.{Bool, true, false, cond, not, ◌||◌}
use mathlib.Core.List.{List, [], ◌∷◌, ◌++◌, map}
use Prim.Native.Nat.{ℕ, zero, suc, ◌^◌, ◌<◌}
use native.Mathlib.Omega.{arith}
use lib.Dec.{eqb}
use lib.IntN.{ℤ, ◌+ℤ◌, +ℤ_assoc}
use lib.ListN.{length, get_or, length-append, get_or-append}
use mir.Syntax.{w32}
use mir.Val.{of_z}
use borrow.Author.Tests.{eqb-true, eq-eqb, le-ltb}
use Rattle.folds.specs.Lists.{All}
use Rattle.folds.proofs.Among.{any_order}
use Rattle.view.specs.View.{max_points}
use Rattle.sort.proofs.Sorted.{at_all, sort-perm, sorted-has}
use Rattle.cells.specs.Points.{Point, nowhere}
use Rattle.cells.specs.Cell.{Cell, signed, within, cell_of, moved, agree, InRange}
use Rattle.cells.proofs.Edges.{agree_same, agree-true, agree-moved, same-cell}
use Rattle.grid.specs.Moved.{Moved}
use Rattle.sheet_file.specs.Bytes.{Bytes}
use Rattle.sheet_file.specs.Frame.{layout_of}
use Rattle.sheet_file.specs.declared.Settings.{Settings}
use Rattle.points.specs.Records.{points_in}
use Rattle.points.specs.Refusals.{off_range, same_cell, cell_order, comes_before}
use Rattle.ruling.specs.Accepted.{AcceptedSheet}
use Rattle.ruling.specs.Offset.{Displaced, AllDisplaced, FileDisplaced, MovedAlong, StaysInRange}
use Rattle.ruling.specs.Ruling.{accepted, ruling_for, ruling_in, ruling_of}
use Rattle.ruling.proofs.Accepted.{Listed, listed, of-file}
use Rattle.ruling.proofs.Given.{for-accepted}
use Rattle.ruling.proofs.Offset.{displaced, offset}
use Rattle.merged.proofs.Filtered.{all_map}
use Rattle.joined.specs.declared.moves.Move.{Move}
use Rattle.joined.specs.Joined.{moved_by, moved_move, is_free, joined_list, high_index, bad_move, joined_ruling, Joinable}
use Rattle.joined.proofs.Lists.{any-none}
use Rattle.joined.proofs.Cells.{Allowed, near-moved, cell-moves}
use Rattle.joined.proofs.Numbers.{Half}
use Rattle.joined.proofs.Accepted.{half-of, allowed-by, all-words, joined-words, read-as-list, AcceptedJoin, is-accepted}

-- ---- lists side by side

-- one list is as long as the other, and R holds place by place
abbrev Along : {A : Type 0} → (A → A → Type 0) → List A → List A → Type 0
Along R [] [] = Unit {0}
Along R [] (b ∷ k) = ⊥
Along R (a ∷ l) [] = ⊥
Along R (a ∷ l) (b ∷ k) = R a b × Along R l k

module _ {A : Type 0} (R : A → A → Type 0) where
  -- from what holds by place
  along-from : (d : A) (l k : List A) → length k ≡ length l → ((i : ℕ) → i < length l → R (get_or l i d) (get_or k i d)) → Along R l k
  along-from d [] [] e h = tt
  along-from d [] (b ∷ k) e h = absurd (omega arith)
  along-from d (a ∷ l) [] e h = absurd (omega arith)
  along-from d (a ∷ l) (b ∷ k) e h = (h 0 (omega arith), along-from d l k (omega arith) (λ i b. h (suc i) (omega arith)))

  -- as long as each other
  along-length : (l k : List A) → Along R l k → length k ≡ length l
  along-length [] [] h = refl
  along-length [] (b ∷ k) h = absurd h
  along-length (a ∷ l) [] h = absurd h
  along-length (a ∷ l) (b ∷ k) h = ap suc (along-length l k h.1)

  -- at a place
  along-at : (d : A) (l k : List A) → Along R l k → (i : ℕ) → i < length l → R (get_or l i d) (get_or k i d)
  along-at d [] k h i b = absurd (omega arith)
  along-at d (a ∷ l) [] h i b = absurd h
  along-at d (a ∷ l) (c ∷ k) h zero b = h.0
  along-at d (a ∷ l) (c ∷ k) h (suc i) b = along-at d l k h.1 i (omega arith)

  -- two pairs of lists, put together
  along-append : (l k m n : List A) → Along R l k → Along R m n → Along R (l ++ m) (k ++ n)
  along-append [] [] m n h g = g
  along-append [] (b ∷ k) m n h g = absurd h
  along-append (a ∷ l) [] m n h g = absurd h
  along-append (a ∷ l) (b ∷ k) m n h g = (h.0, along-append l k m n h.1 g)

  -- tests that agree on what stands side by side: both lists have an element that passes, or neither
  module _ (s t : A → Bool) (f : (a b : A) → R a b → t b ≡ s a) where
    along-any : (l k : List A) → Along R l k → list_any t k ≡ list_any s l
    along-any [] [] h = refl
    along-any [] (b ∷ k) h = absurd h
    along-any (a ∷ l) [] h = absurd h
    along-any (a ∷ l) (b ∷ k) h = rw (f a b h.0, along-any l k h.1)

    -- keep what stands side by side
    along-filter : (l k : List A) → Along R l k → Along R (filter s l) (filter t k)
    along-filter [] [] h = tt
    along-filter [] (b ∷ k) h = absurd h
    along-filter (a ∷ l) [] h = absurd h
    along-filter (a ∷ l) (b ∷ k) h = rw (f a b h.0) (go (s a) (along-filter l k h.1))
      where
        go : (c : Bool) → Along R (filter s l) (filter t k) → Along R (cond c (a ∷ filter s l) (filter s l)) (cond c (b ∷ filter t k) (filter t k))
        go true r = (h.0, r)
        go false r = r

-- two images of one list
along-images : {A B : Type 0} (R : B → B → Type 0) (f g : A → B) (l : List A) → All (λ (a : A). R (f a) (g a)) l → Along R (map f l) (map g l)
along-images R f g [] h = tt
along-images R f g (a ∷ l) h = (h.0, along-images R f g l h.1)

-- ---- cells

-- one pattern, one number
same-number : (i j : ℕ) → i < 2 ^ 32 → j < 2 ^ 32 → agree (signed i) (signed j) ≡ eqb i j
same-number i j h k =
    both_ways (agree (signed i) (signed j)) (eqb i j) (λ e. eq-eqb i j (sym (of_z-to_z w32 i h) ∙ ap (of_z w32) (agree-true (signed i) (signed j) e) ∙ of_z-to_z w32 j k))
    (λ e. agree_same (signed i) (signed j) (ap signed (eqb-true i j e)))

-- two numbers moved alike are one as before
numbers-stay : (z : ℤ) (i j k l : ℕ) → (i < 2 ^ 32) × (k < 2 ^ 32) → (j < 2 ^ 32) × (l < 2 ^ 32) → signed k ≡ signed i +ℤ z → signed l ≡ signed j +ℤ z → eqb k l ≡ eqb i j
numbers-stay z i j k l h g e f = sym (same-number k l h.1 g.1) ∙ rw (e, f) (agree-moved (signed i) (signed j) z) ∙ same-number i j h.0 g.0

module _ (a b : ℤ) where
  -- q is p moved, and the cells of both are patterns of 32 bits
  record Beside (p q : Point) : Type 0 where
    pub u : (p.u < 2 ^ 32) × (q.u < 2 ^ 32)
    pub v : (p.v < 2 ^ 32) × (q.v < 2 ^ 32)
    pub shift : Displaced a b p q

  -- so are the points of an accepted moved file
  of-moved : (p q : Point) → Moved a b p q → Beside p q
  of-moved p q h = record {
    u = (h.old.fits-u, h.new.fits-u);
    v = (h.old.fits-v, h.new.fits-v);
    shift = record { cell = h.cell; index = h.index; x = h.x; y = h.y; strength = h.strength };
  }

  -- two points moved alike share a cell as before
  cells-stay : (p q r s : Point) → Beside p q → Beside r s → same_cell q s ≡ same_cell p r
  cells-stay p q r s h g =
      let u = numbers-stay a p.u r.u q.u s.u h.u g.u (ap (λ (c : Cell). c.u) h.shift.cell) (ap (λ (c : Cell). c.u) g.shift.cell) in
      let v = numbers-stay b p.v r.v q.v s.v h.v g.v (ap (λ (c : Cell). c.v) h.shift.cell) (ap (λ (c : Cell). c.v) g.shift.cell) in
      rw (u, v)

-- ---- the joined list

module _ (a b : ℤ) (m : Move) (o : Allowed m) (w : Allowed (moved_move a b m)) where
  -- a right point, by the one move and by the other
  right-beside : (p : Point) → InRange p → Beside a b (moved_by m p) (moved_by (moved_move a b m) p)
  right-beside p r =
      let old = near-moved m o p r in
      let new = near-moved (moved_move a b m) w p r in
      let further = same-cell (sym (+ℤ_assoc (signed p.u) m.du a)) (sym (+ℤ_assoc (signed p.v) m.dv b)) in
      record {
        u = (old.fits-u, new.fits-u);
        v = (old.fits-v, new.fits-v);
        shift = record {
          cell = cell-moves (moved_move a b m) w p r ∙ further ∙ sym (ap (moved a b) (cell-moves m o p r));
          index = refl;
          x = refl;
          y = refl;
          strength = refl;
        };
      }

  module _ (ls ks rs : List Point) (h : Along (Beside a b) ls ks) (r : All InRange rs) where
    -- what is free stays free
    free-stays : (p q : Point) → Beside a b p q → is_free ks q ≡ is_free ls p
    free-stays p q g = ap not (along-any (Beside a b) (λ (l : Point). same_cell l p) (λ (k : Point). same_cell k q) (λ l k f. cells-stay a b l k p q f g) ls ks h)

    -- the joined list moves along
    joined-along : Along (Beside a b) (joined_list m ls rs) (joined_list (moved_move a b m) ks rs)
    unfolding joined_list
    joined-along =
        let f = moved_by m in
        let g = moved_by (moved_move a b m) in
        along-append (Beside a b) ls ks _ _ h
        (along-filter (Beside a b) (is_free ls) (is_free ks) free-stays (map f rs) (map g rs) (along-images (Beside a b) f g rs (all_map right-beside rs r)))

-- ---- the ruling

-- 6 does not apply to the moved list where its cells stay in range
range-stays : (a b : ℤ) (l k ps : List Point) → Along (Beside a b) l k → ps ≡ cell_order l → StaysInRange a b ps → list_any off_range k ≡ false
range-stays a b l k ps h e c =
    along-any (Beside a b) off off_range (λ p q g. ap out g.shift.cell) l k h
    ∙ any_order off (sort-perm comes_before l)
    ∙ rw (← e) (any-none off ps (at_all (λ (p : Point). off p ≡ false) nowhere ps (λ i n. rw ((c i n).u, (c i n).v))))
  where
    out : Cell → Bool
    out c = not (within c.u) || not (within c.v)

    off : Point → Bool
    off p = out (moved a b (cell_of p))

-- the numbers 2 and 3 depend on the length alone
room-stays : (room : ℕ) (s t : Settings) (l k ps : List Point) → length k ≡ length l → Listed room s t l ps → ruling_in room s k ≡ ruling_for s k
unfolding ruling_in
room-stays room s t l k ps e h = rw (e, le-ltb max_points (length l) h.few, h.room-short)

-- of a left file that is moved, and an offset that is moved with it
module _ (left other right : List ℕ) (a b : ℤ) (m : Move) (bl : Bytes left) (bo : Bytes other) (br : Bytes right) (o : FileDisplaced left other (layout_of left) a b) (room : ℕ)
    (in-range : list_any off_range (points_in other (layout_of left)) ≡ false) (ok : bad_move (moved_move a b m) ≡ false) (s : Settings) (ps : List Point) where
  -- the new move
  abbrev new : Move
  new = moved_move a b m

  module _ (j : AcceptedJoin left right m room s ps) where
    -- the left half, moved
    half-moved : MovedAlong (ruling_of other room) a b s j.lefts
    half-moved = offset left other a b bl bo o in-range room s j.lefts j.halves.left-ruled

    abbrev lefts : List Point
    lefts = half-moved.points

    -- by place
    left-beside : Along (Beside a b) j.lefts lefts
    left-beside = along-from (Beside a b) nowhere j.lefts lefts half-moved.size (λ i h. of-moved a b _ _ (half-moved.along i h))

    -- it joins: none of 15 to 17 applies
    joinable : Joinable other right new room s lefts j.other j.rights
    joinable = record {
      left-ruled = half-moved.ruling;
      right-ruled = j.halves.right-ruled;
      low-left = along-any (Beside a b) high_index high_index (λ p q g. rw g.shift.index) j.lefts lefts left-beside ∙ j.halves.low-left;
      low-right = j.halves.low-right;
      allowed = ok;
      alike = j.halves.alike;
    }

    -- all three files are accepted sheets
    old-left : AcceptedSheet s j.lefts
    old-left = of-file left room s j.lefts bl j.halves.left-ruled

    new-left : AcceptedSheet s lefts
    new-left = of-file other room s lefts bo half-moved.ruling

    right-sheet : AcceptedSheet j.other j.rights
    right-sheet = of-file right room j.other j.rights br j.halves.right-ruled

    -- with low indices
    right-half : Half j.rights
    right-half = (half-of j.other j.rights right-sheet j.halves.low-right).0

    -- what is joined, before and after
    abbrev old-list : List Point
    old-list = joined_list m j.lefts j.rights

    abbrev new-list : List Point
    new-list = joined_list new lefts j.rights

    -- the two joined lists, by place
    beside : Along (Beside a b) old-list new-list
    beside = joined-along a b m (allowed-by m j.halves.allowed) (allowed-by new ok) j.lefts lefts j.rights left-beside right-half.inside

    all-displaced : AllDisplaced a b old-list new-list
    all-displaced = record { size = along-length (Beside a b) old-list new-list beside; each = λ i h. (along-at (Beside a b) nowhere old-list new-list beside i h).shift }

    -- the new one is read as the old one, moved
    from-accepted : StaysInRange a b ps → MovedAlong (joined_ruling other right new room) a b s ps
    from-accepted c =
        let k = listed room s s old-list ps j.ruled-so in
        let q : ps ≡ cell_order old-list = cc (for-accepted s s old-list ps k.ruled-so).1 in
        let wo = joined-words m (allowed-by m j.halves.allowed) j.lefts j.rights (all-words s j.lefts old-left) (all-words j.other j.rights right-sheet) right-half in
        let wn = joined-words new (allowed-by new ok) lefts j.rights (all-words s lefts new-left) (all-words j.other j.rights right-sheet) right-half in
        let d = displaced a b s s old-list new-list ps all-displaced wo wn (range-stays a b old-list new-list ps beside q c) k.ruled-so in
        record {
          points = d.points;
          ruling = read-as-list other right new room s lefts j.other j.rights joinable ∙ room-stays room s s old-list new-list ps all-displaced.size k ∙ d.ruling;
          size = d.size;
          along = d.along;
        }

-- the same, of every join that is accepted
pub moved-join : (left other right : List ℕ) (a b : ℤ) (m : Move) → Bytes left → Bytes other → Bytes right → FileDisplaced left other (layout_of left) a b
    → (room : ℕ) → list_any off_range (points_in other (layout_of left)) ≡ false → bad_move (moved_move a b m) ≡ false
    → (s : Settings) (ps : List Point) → joined_ruling left right m room ≡ accepted s ps → StaysInRange a b ps → MovedAlong (joined_ruling other right (moved_move a b m) room) a b s ps
moved-join left other right a b m bl bo br o room in-range ok s ps e = from-accepted left other right a b m bl bo br o room in-range ok s ps (is-accepted left right m room s ps e)

-- in range with the joined points, the left ones stay so
pub left-stays : (left right : List ℕ) (m : Move) (room : ℕ) (a b : ℤ) (s : Settings) (ps : List Point) → (j : AcceptedJoin left right m room s ps) → StaysInRange a b ps → StaysInRange a b j.lefts
unfolding joined_list
left-stays left right m room a b s ps j c k l =
    let i = sorted-has comes_before nowhere (joined_list m j.lefts j.rights) k (simp length-append (omega arith)) in
    let q : ps ≡ cell_order (joined_list m j.lefts j.rights) = cc (for-accepted s s (joined_list m j.lefts j.rights) ps (listed room s s _ ps j.ruled-so).ruled-so).1 in
    let e : get_or ps i.place nowhere ≡ get_or j.lefts k nowhere = ap (λ (l : List Point). get_or l i.place nowhere) q ∙ sym i.is ∙ get_or-append j.lefts _ nowhere k l in
    rw e at (c i.place (omega (arith, i.below, ap length q)))
