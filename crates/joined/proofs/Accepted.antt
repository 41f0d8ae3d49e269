-- What an accepted join says of its two files; the joined list is read as a sheet. Assumes nothing.
use Rattle.std.specs.List.{list_any, filter}
use mathlib.Core.Path.{◌≡◌, refl, sym, ◌∙◌}
use mathlib.Core.Bool.{Bool, true, false, ◌||◌, true≢false}
use mathlib.Core.List.{List, [], ◌∷◌, map}
use mathlib.Core.Logic.{◌⊎◌, inl, inr}
use Prim.Native.Nat.{ℕ, ◌^◌, ◌<◌}
use native.Mathlib.Omega.{arith}
use lib.Dec.{eqb}
use lib.ListN.{length}
use lib.Ieee.{binary32}
use lib.Ieee.Bits.{to_bits-lt}
use lib.Ieee.Fits.{add-fits}
use borrow.Author.Tests.{eqb-true, leb-false}
use Rattle.std.proofs.lemmas.Bool.{or_parts}
use Rattle.folds.proofs.Among.{none_in, any_order, pair-order}
use Rattle.folds.specs.Arith.{◌⊕◌, f32}
use Rattle.folds.specs.Lists.{All}
use Rattle.sort.proofs.Sorted.{at_all, sort-perm}
use Rattle.refusals.specs.First.{Condition, ruled}
use Rattle.refusals.proofs.Laws.{none-applies-in, only_none, only-first}
use Rattle.cells.specs.Points.{Point, nowhere}
use Rattle.cells.specs.Cell.{InRange}
use Rattle.sheet_file.specs.Bytes.{Bytes}
use Rattle.sheet_file.specs.Refusals.{too_many, too_short}
use Rattle.sheet_file.specs.declared.Settings.{Settings}
use Rattle.points.specs.Refusals.{off_range, off_limit, off_strength, off_fraction, same_cell, two_positions, two_strengths, point_refusals, cell_order, comes_before}
use Rattle.points.proofs.Neighbours.{eqb_swap}
use Rattle.ruling.specs.Accepted.{Words, AcceptedSheet}
use Rattle.ruling.specs.Ruling.{Ruling, refused, accepted, ruling_in, ruling_of}
use Rattle.ruling.proofs.Accepted.{listed, sound-sheet, of-file}
use Rattle.ruling.proofs.Given.{one-number, not-refused, for-accepted}
use Rattle.ruling.proofs.Standing.{cell-either-way}
use Rattle.ruling.proofs.Order.{position-either-way, strength-either-way}
use Rattle.joined.specs.declared.moves.Move.{Move}
use Rattle.joined.specs.Joined.{moved_by, is_free, joined_list, high_index, far, bad_move, join_refusals, if_accepted, joined_ruling, Joinable}
use Rattle.merged.proofs.Filtered.{all_map, all-filter}
use Rattle.joined.proofs.Lists.{all-both, all-append, all-images}
use Rattle.joined.proofs.Cells.{Allowed, near-moved}
use Rattle.joined.proofs.Numbers.{Half, only-2-3-6-7}

-- ---- a half

low-indices : (ps : List Point) → list_any high_index ps ≡ false → All (λ (p : Point). p.index < 2 ^ 31) ps
low-indices ps e = all_map (λ p h. omega (arith, leb-false (2 ^ 31) p.index h)) ps (none_in high_index ps e)

-- an accepted sheet without an index of 2^31 or more, and its fraction
pub half-of : (s : Settings) (ps : List Point) → AcceptedSheet s ps → list_any high_index ps ≡ false → Half ps × (off_fraction s.score_frac ≡ false)
unfolding point_refusals
half-of s ps a low =
    let k = for-accepted s s a.points ps (listed a.room s s a.points ps a.ruled-so).ruled-so in
    let no = none-applies-in (point_refusals s.score_frac a.points) k.0 in
    let q : ps ≡ cell_order a.points = cc k.1 in
    let p = sort-perm comes_before a.points in
    let strengths = or_parts (off_fraction s.score_frac) (list_any off_strength a.points) (no 13) in (
      record {
        inside = at_all InRange nowhere ps (sound-sheet s ps a).order.inside;
        low = low-indices ps low;
        cells = rw q (sym (pair-order same_cell cell-either-way p) ∙ no 8);
        positions = rw q (sym (pair-order two_positions position-either-way p) ∙ no 9);
        strengths = rw q (sym (pair-order two_strengths strength-either-way p) ∙ no 14);
        limits = rw q (sym (any_order off_strength p) ∙ strengths.1);
      },
      strengths.0,
    )

pub allowed-by : (m : Move) → bad_move m ≡ false → Allowed m
allowed-by m e = let w = or_parts (far m.du) (far m.dv) (or_parts (far m.du || far m.dv) _ e).0 in record { u = w.0; v = w.1 }

-- the words of an accepted sheet, and of the joined list
pub all-words : (s : Settings) (ps : List Point) → AcceptedSheet s ps → All Words ps
all-words s ps a = at_all Words nowhere ps (sound-sheet s ps a).words

sum-small : (x d : _) → lib.Ieee.to_bits binary32 (x ⊕ d) < 2 ^ 32
sum-small x d = to_bits-lt binary32 (x ⊕ d) (add-fits binary32 x d)

pub joined-words : (m : Move) → Allowed m → (ls rs : List Point) → All Words ls → All Words rs → Half rs → All Words (joined_list m ls rs)
unfolding joined_list
joined-words m o ls rs wl wr hr =
    all-append Words ls (filter (is_free ls) (map (moved_by m) rs)) wl
    (all-filter Words (is_free ls) (map (moved_by m) rs) (all-images (moved_by m) Words rs
    (all-both (λ (p : Point). InRange p × (p.index < 2 ^ 31)) Words (λ (p : Point). Words (moved_by m p))
    (λ p r w. record {
      u = (near-moved m o p r.0).fits-u;
      v = (near-moved m o p r.0).fits-v;
      index = omega (arith, r.1);
      x = sum-small (f32 p.x) m.dx;
      y = sum-small (f32 p.y) m.dy;
      strength = w.strength;
    }) rs (all-both InRange (λ (p : Point). p.index < 2 ^ 31) (λ (p : Point). InRange p × (p.index < 2 ^ 31)) (λ p r l. (r, l)) rs hr.inside hr.low) wr)))

-- settings are handed on
same-settings : (room : ℕ) (s t : Settings) (ps qs : List Point) → ruling_in room s ps ≡ accepted t qs → t ≡ s
same-settings room s t ps qs e = let k = for-accepted s t ps qs (listed room s t ps qs e).ruled-so in cc k.1

-- ---- two files

module _ (left right : List ℕ) (m : Move) (room : ℕ) where
  -- so "the joined list is then read as a sheet"
  pub read-as-list : (s : Settings) (ls : List Point) (t : Settings) (rs : List Point) → Joinable left right m room s ls t rs → joined_ruling left right m room ≡ ruling_in room s (joined_list m ls rs)
  unfolding joined_ruling
  read-as-list s ls t rs j = rw (j.left-ruled, j.right-ruled, j.low-left, j.low-right, j.allowed, j.alike)

  module _ (bl : Bytes left) (br : Bytes right) (s : Settings) (ls : List Point) (t : Settings) (rs : List Point) (j : Joinable left right m room s ls t rs) where
    left-half : Half ls × (off_fraction s.score_frac ≡ false)
    left-half = half-of s ls (of-file left room s ls bl j.left-ruled) j.low-left

    right-half : Half rs × (off_fraction t.score_frac ≡ false)
    right-half = half-of t rs (of-file right room t rs br j.right-ruled) j.low-right

    -- by four conditions
    abbrev pub four_refusals : List Condition
    four_refusals =
        let l = joined_list m ls rs in
        (2, too_many (length l)) ∷ (3, too_short room (length l)) ∷ (6, list_any off_range l) ∷ (7, list_any off_limit l) ∷ []

    pub by-four : joined_ruling left right m room ≡ ruled refused (accepted s (cell_order (joined_list m ls rs))) four_refusals
    by-four = read-as-list s ls t rs j ∙ only-2-3-6-7 m (allowed-by m j.allowed) ls rs left-half.0 right-half.0 room s left-half.1

    -- and what is refused has one of their numbers
    pub four-numbers : (k : ℕ) → joined_ruling left right m room ≡ refused k → (k ≡ 2) ⊎ ((k ≡ 3) ⊎ ((k ≡ 6) ⊎ (k ≡ 7)))
    four-numbers k e = one-of (only-first refused (accepted s (cell_order (joined_list m ls rs))) one-number (λ k e. not-refused e) four_refusals refl k (sym by-four ∙ e)).listed
      where
        one-of : list_any (eqb k) (2 ∷ 3 ∷ 6 ∷ 7 ∷ []) ≡ true → (k ≡ 2) ⊎ ((k ≡ 3) ⊎ ((k ≡ 6) ⊎ (k ≡ 7)))
        one-of h = go (eqb k 2) (eqb k 3) (eqb k 6) (eqb k 7) refl refl refl refl h
          where
            go : (a b c d : Bool) → eqb k 2 ≡ a → eqb k 3 ≡ b → eqb k 6 ≡ c → eqb k 7 ≡ d → a || (b || (c || (d || false))) ≡ true → (k ≡ 2) ⊎ ((k ≡ 3) ⊎ ((k ≡ 6) ⊎ (k ≡ 7)))
            go true b c d p q r u h = inl (eqb-true k 2 p)
            go false true c d p q r u h = inr (inl (eqb-true k 3 q))
            go false false true d p q r u h = inr (inr (inl (eqb-true k 6 r)))
            go false false false true p q r u h = inr (inr (inr (eqb-true k 7 u)))
            go false false false false p q r u h = absurd (true≢false (sym h))

  -- what an accepted join says
  pub record AcceptedJoin (s : Settings) (ps : List Point) : Type 0 where
    pub lefts : List Point
    pub other : Settings
    pub rights : List Point
    pub halves : Joinable left right m room s lefts other rights
    pub ruled-so : ruling_in room s (joined_list m lefts rights) ≡ accepted s ps

  module _ (s : Settings) (ps : List Point) where
    by-conditions : (u : Settings) (ls : List Point) (t : Settings) (rs : List Point) → ruling_of left room ≡ accepted u ls → ruling_of right room ≡ accepted t rs
        → ruled refused (ruling_in room u (joined_list m ls rs)) (join_refusals m u ls t rs) ≡ accepted s ps → AcceptedJoin s ps
    by-conditions u ls t rs f g e =
        let r = only_none refused (ruling_in room u (joined_list m ls rs)) (accepted s ps) (λ k e. not-refused e) (join_refusals m u ls t rs) e in
        let no = none-applies-in (join_refusals m u ls t rs) r.0 in
        let low = or_parts (list_any high_index ls) (list_any high_index rs) (no 15) in
        let q : s ≡ u = same-settings room u s (joined_list m ls rs) ps r.1 in
        record {
          lefts = ls;
          other = t;
          rights = rs;
          halves = rw q (record { left-ruled = f; right-ruled = g; low-left = low.0; low-right = low.1; allowed = no 16; alike = no 17 });
          ruled-so = rw (← q) at r.1;
        }

    pub is-accepted : joined_ruling left right m room ≡ accepted s ps → AcceptedJoin s ps
    unfolding joined_ruling
    is-accepted e = go (ruling_of left room) (ruling_of right room) refl refl e
      where
        go : (x y : Ruling) → ruling_of left room ≡ x → ruling_of right room ≡ y
            → if_accepted x (λ (u : Settings) (ls : List Point). if_accepted y (λ (t : Settings) (rs : List Point). ruled refused (ruling_in room u (joined_list m ls rs)) (join_refusals m u ls t rs))) ≡ accepted s ps → AcceptedJoin s ps
        go (refused k) y f g e = absurd (not-refused e)
        go (accepted u ls) (refused k) f g e = absurd (not-refused e)
        go (accepted u ls) (accepted t rs) f g e = by-conditions u ls t rs f g e

    -- an accepted join is an accepted sheet
    pub accepted-join : Bytes left → Bytes right → joined_ruling left right m room ≡ accepted s ps → AcceptedSheet s ps
    accepted-join bl br e =
        let j = is-accepted e in
        let l = of-file left room s j.lefts bl j.halves.left-ruled in
        let r = of-file right room j.other j.rights br j.halves.right-ruled in
        record {
          room = room;
          points = joined_list m j.lefts j.rights;
          words = joined-words m (allowed-by m j.halves.allowed) j.lefts j.rights (all-words s j.lefts l) (all-words j.other j.rights r) (half-of j.other j.rights r j.halves.low-right).0;
          ruled-so = j.ruled-so;
        }
