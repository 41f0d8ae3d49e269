-- The promises about two files and what they are joined to. Assumes nothing.
use Rattle.std.specs.List.{list_any, filter}
use Rattle.std.proofs.lemmas.Bool.{and_parts, false_from_ne_true}
use mathlib.Core.Path.{◌≡◌, refl, sym, ap, ◌∙◌}
use Rattle.std.specs.Prelude.{is_some}
use mathlib.Core.Bool.{Bool, true, false, cond, not, true≢false}
use mathlib.Core.List.{List, ◌++◌, map}
use Prim.Native.Nat.{ℕ, ◌<◌}
use native.Mathlib.Omega.{arith}
use lib.Dec.{eqb}
use lib.ListN.{length, get_or}
use borrow.Author.Tests.{eqb-true}
use lib.Ieee.{Float}
use Rattle.folds.specs.Lists.{All, list_of}
use Rattle.folds.proofs.Lists.{length-list, list_at}
use Rattle.sort.proofs.Sorted.{at_all, sort-perm, sort-all}
use Rattle.refusals.specs.First.{ruled}
use Rattle.cells.specs.Points.{Point, nowhere}
use Rattle.cells.specs.Cell.{InRange, cell_of, moved}
use Rattle.sheet_file.specs.Bytes.{Bytes}
use Rattle.sheet_file.specs.Frame.{layout_in, layout_of, weights_of}
use Rattle.sheet_file.specs.Limit.{outside}
use Rattle.sheet_file.specs.Refusals.{float_at, fraction_in, fraction_of}
use Rattle.sheet_file.specs.declared.Fraction.TheVariants.{Missing, Outside, Given}
use Rattle.sheet_file.specs.declared.Layout.{Layout}
use Rattle.sheet_file.specs.declared.Settings.{Settings}
use Rattle.points.specs.Records.{ith_point, points_in}
use Rattle.points.specs.Refusals.{off_range, same_cell, cell_order, comes_before}
use Rattle.ruling.specs.Ruling.{Ruling, refused, accepted, ruling_in, ruling_of, applies, rows_size}
use Rattle.ruling.specs.Accepted.{Words}
use Rattle.ruling.proofs.Accepted.{sound-sheet, of-file}
use Rattle.ruling.proofs.Given.{own-fraction}
use Rattle.ruling.specs.Offset.{moved_file}
use Rattle.ruling.proofs.Header.{frame_same}
use Rattle.ruling.proofs.MovedFile.{moved-bytes, moved-offset, moved-in-range}
use Rattle.ruling.proofs.Standing.{accepted-file}
use Rattle.ruling.proofs.Order.{same-ruling}
use Rattle.written_file.specs.Remade.{remade}
use Rattle.written_file.proofs.Remade.{remade-bytes, remade-ruled}
use Rattle.joined.specs.Joined.{moved_by, moved_move, is_free, joined_list, is_weighed, only_one, join_refusals, if_accepted, joined_ruling, Joinable}
use Rattle.joined.specs.declared.moves.Move.{Move}
use Rattle.joined.proofs.Lists.{any-none, all-append, all-images}
use Rattle.joined.proofs.Cells.{cell-moves}
use Rattle.joined.proofs.Cases.{in-order, right-without-points, joined-apart}
use Rattle.joined.proofs.Moved.{moved-join, left-stays}
use Rattle.joined.proofs.Accepted as halves
use Rattle.merged.proofs.Filtered.{all-filter}
use Rattle.kept.specs.Answer.{answer_by, rows_by, answer_of, rows_after}
use Rattle.kept_joined.specs.Answer.{joined_answer_of, joined_rows_after}
use Rattle.sheet_listing.specs.Text.{text_by}
use Rattle.joined_listing.specs.Text.{joined_text_of}
use Rattle.promises.specs.Joined.{JoinNumbersPromise, SameJoin, JoinOrderPromise, EmptyRightPromise, Separated, SeparatedPromise, MovedTogetherPromise, JoinedSheetPromise, OfJoinPromise, JoinFilePromise}
use Rattle.promises.proofs.Theorems.{moved-marks, kept-patch, component-count, no-count, tally-by-index}
use Rattle.promises.proofs.Leaves.{weak-ends, unweighed}
use Rattle.promises.proofs.Longest.{longest}
use Rattle.promises.proofs.Fills.{fills, moved-along-fills}

-- ---- what is ruled

-- the ruling on both files, made of the ruling on each
abbrev ruling_by : Move → ℕ → Ruling → Ruling → Ruling
ruling_by m room x y =
    if_accepted x
    (λ (s : Settings) (ls : List Point).
    if_accepted y (λ (t : Settings) (rs : List Point). ruled refused (ruling_in room s (joined_list m ls rs)) (join_refusals m s ls t rs)))

by-each : (left right : List ℕ) (m : Move) (room : ℕ) → joined_ruling left right m room ≡ ruling_by m room (ruling_of left room) (ruling_of right room)
unfolding joined_ruling
by-each left right m room = refl

-- ---- the numbers

pub join-numbers : JoinNumbersPromise
join-numbers left right m room s t ls rs bl br j = record {
  four = halves.four-numbers left right m room bl br s ls t rs j;
  by-four = halves.by-four left right m room bl br s ls t rs j;
}

-- ---- another order

module _ (left right left-other right-other : List ℕ) (m : Move) (same : (room : ℕ) → joined_ruling left-other right-other m room ≡ joined_ruling left right m room) where
  same-join : SameJoin left right left-other right-other m
  unfolding joined_answer_of joined_rows_after joined_text_of
  same-join = record {
    ruling = same;
    answer = λ room. ap answer_by (same room);
    rows = λ buffer. ap (rows_by buffer) (same (length buffer));
    listing = ap text_by (same rows_size);
  }

pub join-order : JoinOrderPromise
join-order left right left-other right-other f g bl fl rl br fr rr m =
    same-join left right left-other right-other m
    (λ room.
    by-each left-other right-other m room
    ∙ ap (λ (x : Ruling). ruling_by m room x (ruling_of right-other room)) (sym (same-ruling left left-other f bl fl rl room))
    ∙ ap (ruling_by m room (ruling_of left room)) (sym (same-ruling right right-other g br fr rr room))
    ∙ sym (by-each left right m room))

-- ---- an empty half

pub empty-right : EmptyRightPromise
empty-right = right-without-points

-- ---- halves that are apart

module _ {left right : List ℕ} {m : Move} {room : ℕ} {s t : Settings} {ls rs : List Point} (bl : Bytes left) (br : Bytes right) (j : Joinable left right m room s ls t rs) where
  right-inside : (i : ℕ) → i < length rs → InRange (get_or rs i nowhere)
  right-inside = (sound-sheet t rs (of-file right room t rs br j.right-ruled)).order.inside

  cell-moved : (i : ℕ) → i < length rs → cell_of (moved_by m (get_or rs i nowhere)) ≡ moved m.du m.dv (cell_of (get_or rs i nowhere))
  cell-moved i h = cell-moves m (halves.allowed-by m j.allowed) (get_or rs i nowhere) (right-inside i h)

  module _ (apart : Separated m ls rs) where
    -- no left point is in the cell of a moved right one
    free : (i : ℕ) → i < length rs → is_free ls (moved_by m (get_or rs i nowhere)) ≡ true
    free i h =
        let q = get_or rs i nowhere in
        ap not
        (any-none (λ (p : Point). same_cell p (moved_by m q)) ls
        (at_all (λ (p : Point). same_cell p (moved_by m q) ≡ false) nowhere ls
        (λ k l.
        let p = get_or ls k nowhere in
        false_from_ne_true (same_cell p (moved_by m q))
        (λ e.
        let w = and_parts (eqb p.u (moved_by m q).u) (eqb p.v (moved_by m q).v) e in
        let c : cell_of p ≡ cell_of (moved_by m q) = rw (eqb-true p.u (moved_by m q).u w.0, eqb-true p.v (moved_by m q).v w.1) in
        apart k i l h (c ∙ cell-moved i h)))))

    both-listed : joined_list m ls rs ≡ ls ++ map (moved_by m) rs
    both-listed = joined-apart m ls rs (all-images (moved_by m) (λ (q : Point). is_free ls q ≡ true) rs (at_all (λ (q : Point). is_free ls (moved_by m q) ≡ true) nowhere rs free))

pub separated : SeparatedPromise
separated left right m room s t ls rs bl br j apart =
    let list = both-listed bl br j apart in
    record {
      list = list;
      points = λ u ps e.
          let q : ps ≡ cell_order (joined_list m ls rs) = in-order room s u (joined_list m ls rs) ps (sym (halves.read-as-list left right m room s ls t rs j) ∙ e) in
          rw (← list, q) (sort-perm comes_before (joined_list m ls rs));
      cells = cell-moved bl br j;
    }

-- ---- the same theorems

pub joined-sheet : JoinedSheetPromise
joined-sheet left right m room s ps bl br e =
    let a = halves.accepted-join left right m room s ps bl br e in
    record {
      sheet = a;
      kept-patch = kept-patch s ps a;
      counted = component-count s ps a;
      uncounted = no-count s ps;
      tally = tally-by-index s ps;
      weak-ends = weak-ends s ps a;
      unweighed = unweighed s ps a;
      longest = longest s ps a;
      fills = fills s ps a;
    }

pub of-join : OfJoinPromise
unfolding joined_answer_of joined_rows_after
of-join left right m room s ps e = record {
  answer = ap answer_by e;
  rows = λ buffer size. ap (λ (n : ℕ). rows_by buffer (joined_ruling left right m n)) size ∙ ap (rows_by buffer) e;
}

-- ---- a whole move

pub moved-together : MovedTogetherPromise
unfolding applies
moved-together left right m room a b s ps bl br e stays ok =
    let j = halves.is-accepted left right m room s ps e in
    let lr = j.halves.left-ruled in
    let lefts = left-stays left right m room a b s ps j stays in
    let other = moved_file left a b in
    let o = moved-offset left a b room s j.lefts lr lefts in
    let framed = (accepted-file left room s j.lefts lr).framed in
    let same : layout_of left ≡ layout_of other = sym (ap layout_in (frame_same left other (layout_of left) framed (record { size = o.size; head = o.head; after = λ k l m. o.after k l }))) in
    let in-range = ap (λ (f : Layout). list_any off_range (points_in other f)) same ∙ moved-in-range left a b room s j.lefts lr lefts in
    let along = moved-join left other right a b m bl (moved-bytes left a b bl) br o room in-range ok s ps e stays in
    record {
      along = along;
      marks = moved-marks (joined_ruling other right (moved_move a b m) room) a b s ps along;
      fills = moved-along-fills (joined_ruling other right (moved_move a b m) room) a b s ps along;
    }

-- ---- the file made of the joined list

-- no point of a list has a strength
abbrev Bare : List Point → Type 0
Bare ps = All (λ (p : Point). p.strength ≡ 0) ps

-- the points of an accepted file without tag 4 have none
bare-points : (file : List ℕ) (f : Layout) → is_some f.weights ≡ false → Bare (points_in file f)
unfolding points_in
bare-points file f w =
    at_all (λ (p : Point). p.strength ≡ 0) nowhere (list_of f.count (ith_point file f))
    (λ k l. rw (list_at f.count (ith_point file f) k nowhere (omega (arith, length-list f.count (ith_point file f))), w) refl)

bare-sheet : (file : List ℕ) (room : ℕ) (s : Settings) (ps : List Point) → ruling_of file room ≡ accepted s ps → is_some (layout_of file).weights ≡ false → Bare ps
bare-sheet file room s ps e w =
    rw (accepted-file file room s ps e).points-are
    (sort-all comes_before (λ (p : Point). p.strength ≡ 0) (points_in file (layout_of file)) (bare-points file (layout_of file) w))

-- a file has a fraction just where it has tag 4
weighed-there : (file : List ℕ) (f : Layout) → is_weighed (fraction_of file f) ≡ is_some f.weights
unfolding fraction_of
weighed-there file f = go (is_some f.weights) (float_at file (weights_of f).at)
  where
    by_limit : (b : Bool) (x : Float) → is_weighed (cond b Outside (Given x)) ≡ true
    by_limit true x = refl
    by_limit false x = refl

    go : (b : Bool) (x : Float) → is_weighed (cond b (fraction_in x) Missing) ≡ b
    go true x = by_limit (outside x) x
    go false x = refl

-- "a tag 4 in only one file" is looked for by the fractions: an accepted file has one just where it has tag 4
pub sheet-weighed : (file : List ℕ) (room : ℕ) (s : Settings) (ps : List Point) → ruling_of file room ≡ accepted s ps → is_weighed s.score_frac ≡ is_some (layout_of file).weights
sheet-weighed file room s ps e =
    ap (λ (t : Settings). is_weighed t.score_frac) (accepted-file file room s ps e).settings-are
    ∙ ap is_weighed (own-fraction file (layout_of file)) ∙ weighed-there file (layout_of file)

-- where neither of two holds, the other does not
neither : (a b : Bool) → only_one a b ≡ false → a ≡ false → b ≡ false
neither true b e f = absurd (true≢false f)
neither false true e f = e
neither false false e f = refl

module _ (left right : List ℕ) (m : Move) (room : ℕ) (s t : Settings) (ls rs : List Point) (bl : Bytes left) (br : Bytes right) (j : Joinable left right m room s ls t rs) where
  list-words : All Words (joined_list m ls rs)
  list-words =
      let l = of-file left room s ls bl j.left-ruled in
      let r = of-file right room t rs br j.right-ruled in
      halves.joined-words m (halves.allowed-by m j.allowed) ls rs (halves.all-words s ls l) (halves.all-words t rs r) (halves.half-of t rs r j.low-right).0

  -- without tag 4 in the left file there is none in the right one, and no strength in the list
  list-bare : is_some (layout_of left).weights ≡ false → Bare (joined_list m ls rs)
  unfolding joined_list
  list-bare w =
      let o = neither (is_weighed s.score_frac) (is_weighed t.score_frac) j.alike (sheet-weighed left room s ls j.left-ruled ∙ w) in
      let v : is_some (layout_of right).weights ≡ false = sym (sheet-weighed right room t rs j.right-ruled) ∙ o in
      all-append (λ (p : Point). p.strength ≡ 0) ls (filter (is_free ls) (map (moved_by m) rs)) (bare-sheet left room s ls j.left-ruled w)
      (all-filter (λ (p : Point). p.strength ≡ 0) (is_free ls) (map (moved_by m) rs)
      (all-images (moved_by m) (λ (p : Point). p.strength ≡ 0) rs (bare-sheet right room t rs j.right-ruled v)))

  ruled-as-file : joined_ruling left right m room ≡ ruling_of (remade left (joined_list m ls rs)) room
  ruled-as-file =
      halves.read-as-list left right m room s ls t rs j ∙ sym (remade-ruled left room s ls bl j.left-ruled (joined_list m ls rs) list-words list-bare room)

pub join-file : JoinFilePromise
unfolding joined_answer_of joined_rows_after answer_of rows_after
join-file left right m room s t ls rs bl br j few =
    let file = remade left (joined_list m ls rs) in
    let e = ruled-as-file left right m room s t ls rs bl br j in
    record {
      bytes = remade-bytes left bl (joined_list m ls rs) few;
      ruling = e;
      answer = ap answer_by e;
      rows = λ buffer size. ap (λ (n : ℕ). rows_by buffer (joined_ruling left right m n)) size ∙ ap (rows_by buffer) e ∙ ap (λ (n : ℕ). rows_by buffer (ruling_of file n)) (sym size);
    }
