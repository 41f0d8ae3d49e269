-- Which numbers can arise of the joined list: 2, 3, 6 and 7, and no others. Assumes nothing.
use Rattle.std.specs.List.{list_any, filter}
use mathlib.Core.Path.{◌≡◌, sym, ap, ◌∙◌}
use mathlib.Core.Bool.{Bool, true, false, not, true≢false}
use mathlib.Core.List.{List, [], ◌∷◌, map}
use Prim.Native.Nat.{ℕ, ◌+◌, ◌^◌, ◌<◌}
use native.Mathlib.Omega.{arith}
use lib.Dec.{eqb}
use lib.ListN.{length}
use lib.Ieee.{binary32, to_bits}
use borrow.Author.Tests.{eqb-true, eq-eqb, ne_eqb}
use Rattle.std.proofs.lemmas.Bool.{and_from, and_parts, not-true, false_from_ne_true}
use Rattle.folds.specs.Among.{pair_in}
use Rattle.folds.proofs.Among.{none_in}
use Rattle.folds.specs.Arith.{◌⊕◌, f32}
use Rattle.folds.specs.Lists.{All}
use Rattle.refusals.specs.First.{ruled}
use Rattle.cells.specs.Points.{Point}
use Rattle.cells.specs.Cell.{InRange}
use Rattle.sheet_file.specs.Refusals.{too_many, too_short}
use Rattle.sheet_file.specs.declared.Settings.{Settings}
use Rattle.points.specs.Entries.{clash}
use Rattle.points.specs.Refusals.{off_range, off_limit, off_strength, off_fraction, same_cell, same_position, two_positions, same_strength, two_strengths, point_refusals, cell_order}
use Rattle.ruling.specs.Ruling.{refused, accepted, ruling_for, ruling_in}
use Rattle.joined.specs.declared.moves.Move.{Move}
use Rattle.joined.specs.Joined.{moved_by, is_free, joined_list}
use Rattle.merged.proofs.Filtered.{all_map, all-filter}
use Rattle.joined.proofs.Lists.{all-pass, append-none, filter-none, pair-append, pair-filter, across, all-images, map-none, pair-image}
use Rattle.joined.proofs.Cells.{near-zero, wide_of, near-own, near-moved, wide-own, wide-moved, widened-one, cells-by-wide, Allowed}

-- a half: points that were accepted alone, with indices below 2^31 (else 15)
pub record Half (ps : List Point) : Type 0 where
  pub inside : All InRange ps
  pub low : All (λ (p : Point). p.index < 2 ^ 31) ps
  pub cells : pair_in same_cell ps ≡ false
  pub positions : pair_in two_positions ps ≡ false
  pub strengths : pair_in two_strengths ps ≡ false
  pub limits : list_any off_strength ps ≡ false

-- ---- one move

module _ (m : Move) where
  apart-moved : Allowed m → (p q : Point) → InRange p → InRange q → same_cell p q ≡ false → same_cell (moved_by m p) (moved_by m q) ≡ false
  apart-moved o p q r s e = false_from_ne_true (same_cell (moved_by m p) (moved_by m q)) (λ h. true≢false (sym (back h) ∙ e))
    where
      back : same_cell (moved_by m p) (moved_by m q) ≡ true → same_cell p q ≡ true
      back h =
          let k = eqb-true (wide_of (moved_by m p)) (wide_of (moved_by m q)) (cells-by-wide (moved_by m p) (moved_by m q) (near-moved m o p r) (near-moved m o q s) ∙ h) in
          let w = widened-one _ _ _ _ (near-zero m.dv o.v) (sym (wide-moved m o p r) ∙ k ∙ wide-moved m o q s) in
          sym (cells-by-wide p q (near-own p r) (near-own q s)) ∙ eq-eqb (wide_of p) (wide_of q) (wide-own p r ∙ rw w (sym (wide-own q s)))

  -- of two points with one index
  module _ (same : Point → Point → Bool) (kept : (p q : Point) → same p q ≡ true → same (moved_by m p) (moved_by m q) ≡ true) where
    abbrev clashes : Point → Point → Bool
    clashes = clash (λ (p : Point). p.index) same

    clash-moved : (p q : Point) → clashes p q ≡ false → clashes (moved_by m p) (moved_by m q) ≡ false
    clash-moved p q e = false_from_ne_true (clashes (moved_by m p) (moved_by m q)) (λ h. true≢false (sym (back h) ∙ e))
      where
        back : clashes (moved_by m p) (moved_by m q) ≡ true → clashes p q ≡ true
        back h =
            let w = and_parts (eqb (p.index + 2 ^ 31) (q.index + 2 ^ 31)) (not (same (moved_by m p) (moved_by m q))) h in
            let i = eqb-true (p.index + 2 ^ 31) (q.index + 2 ^ 31) w.0 in
            let n : not (same p q) ≡ true = ap not (false_from_ne_true (same p q) (λ s. true≢false (sym (kept p q s) ∙ not-true _ w.1))) in
            and_from (eqb p.index q.index) (not (same p q)) (eq-eqb p.index q.index (omega arith)) n

    -- a low index is no moved one
    no-clash : (ls rs : List Point) → All (λ (p : Point). p.index < 2 ^ 31) ls → pair_in clashes ls ≡ false → pair_in clashes rs ≡ false → pair_in clashes (joined_list m ls rs) ≡ false
    unfolding joined_list
    no-clash ls rs low hl hr =
        pair-append clashes ls (filter (is_free ls) (map (moved_by m) rs)) hl
        (pair-filter clashes (is_free ls) (map (moved_by m) rs) (pair-image (moved_by m) clashes clashes (λ (p : Point). Unit {0}) (λ p q a b e. clash-moved p q e) rs (anything rs) hr))
        (all_map
        (λ p (l : p.index < 2 ^ 31). all-filter (λ (q : Point). clashes p q ≡ false) (is_free ls) (map (moved_by m) rs) (all-images (moved_by m) (λ (q : Point). clashes p q ≡ false) rs
        (all_map (λ q u. rw (ne_eqb p.index (q.index + 2 ^ 31) (λ e. omega arith))) rs (anything rs)))) ls low)
      where
        anything : (l : List Point) → All (λ (p : Point). Unit {0}) l
        anything [] = tt
        anything (p ∷ l) = (tt, anything l)

  same-position-moved : (p q : Point) → same_position p q ≡ true → same_position (moved_by m p) (moved_by m q) ≡ true
  same-position-moved p q h =
      let w = and_parts (eqb p.x q.x) (eqb p.y q.y) h in
      and_from (eqb (moved_by m p).x (moved_by m q).x) (eqb (moved_by m p).y (moved_by m q).y)
      (eq-eqb (moved_by m p).x (moved_by m q).x (ap (λ (b : ℕ). to_bits binary32 (f32 b ⊕ m.dx)) (eqb-true p.x q.x w.0)))
      (eq-eqb (moved_by m p).y (moved_by m q).y (ap (λ (b : ℕ). to_bits binary32 (f32 b ⊕ m.dy)) (eqb-true p.y q.y w.1)))

-- ---- the joined list

module _ (m : Move) (o : Allowed m) (ls rs : List Point) (hl : Half ls) (hr : Half rs) where
  abbrev more : List Point
  more = filter (is_free ls) (map (moved_by m) rs)

  -- "8. Two points have the same cell" cannot arise
  pub no-8 : pair_in same_cell (joined_list m ls rs) ≡ false
  unfolding joined_list
  no-8 =
      pair-append same_cell ls more hl.cells
      (pair-filter same_cell (is_free ls) (map (moved_by m) rs) (pair-image (moved_by m) same_cell same_cell InRange (apart-moved m o) rs hr.inside hr.cells))
      (across (λ (p q : Point). same_cell p q ≡ false) ls more
      (all_map
      (λ q e. none_in (λ (p : Point). same_cell p q) ls (not-true _ e)) more (all-pass (is_free ls) (map (moved_by m) rs))))

  -- nor can "9. One index stands at positions with different bits"
  pub no-9 : pair_in two_positions (joined_list m ls rs) ≡ false
  no-9 = no-clash m same_position (same-position-moved m) ls rs hl.low hl.positions hr.positions

  -- nor "one index with different strength bits"
  pub no-14 : pair_in two_strengths (joined_list m ls rs) ≡ false
  no-14 = no-clash m same_strength (λ p q e. e) ls rs hl.low hl.strengths hr.strengths

  -- nor a strength "that is not finite or exceeds 16,384 in magnitude"
  pub no-13 : list_any off_strength (joined_list m ls rs) ≡ false
  unfolding joined_list
  no-13 = append-none off_strength ls more hl.limits (filter-none off_strength (is_free ls) (map (moved_by m) rs) (map-none (moved_by m) off_strength rs (none_in off_strength rs hr.limits)))

  -- "all its refusals": of the joined list only 2, 3, 6 and 7 can arise
  pub only-2-3-6-7 : (room : ℕ) (s : Settings) → off_fraction s.score_frac ≡ false → ruling_in room s (joined_list m ls rs) ≡ ruled refused (accepted s (cell_order (joined_list m ls rs)))
      ((2, too_many (length (joined_list m ls rs))) ∷ (3, too_short room (length (joined_list m ls rs))) ∷ (6, list_any off_range (joined_list m ls rs)) ∷ (7, list_any off_limit (joined_list m ls rs)) ∷ [])
  unfolding ruling_in ruling_for point_refusals
  only-2-3-6-7 room s e = rw (no-8, no-9, no-14, no-13, e)
