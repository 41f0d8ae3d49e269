-- Another order of the points leaves the ruling the same: of a list of points, and of a file. Assumes nothing.
use Rattle.std.specs.List.{list_any}
use Rattle.std.specs.Prelude.{Some, is_some}
use mathlib.Core.Path.{◌≡◌, refl, sym, ap, ◌∙◌}
use mathlib.Core.Bool.{Bool, true, false, cond, not, ◌&&◌}
use mathlib.Core.List.{List, [], ◌++◌, map, Permᴰ}
use Prim.Native.Nat.{ℕ, ◌+◌, ◌*◌, ◌<◌}
use native.Mathlib.Omega.{arith}
use lib.ListN.{length, drop, length-drop, length-map, get_or-map, get_or-append}
use lib.Seq.{get_or-take, get_or-drop, get_or-append-add, length-take-le}
use Rattle.folds.proofs.Among.{any_order, pair-order}
use Rattle.folds.specs.Lists.{All, list_of}
use Rattle.folds.proofs.Lists.{length-list, list_at, is-list}
use Rattle.cells.specs.Points.{Point}
use Rattle.sheet_file.specs.Bytes.{Bytes, le32}
use Rattle.sheet_file.specs.Frame.{framing_of, weights_of}
use Rattle.sheet_file.specs.Refusals.{misfit, settings_of, header_refusals}
use Rattle.refusals.specs.First.{ruled}
use Rattle.refusals.proofs.Laws.{holds, none-applies-in, ruled-same-end}
use Rattle.sheet_file.specs.declared.Fraction.{Fraction}
use Rattle.sheet_file.proofs.Words.{SameBytes, le32-same}
use Rattle.sheet_file.proofs.Fields.{framed-held}
use Rattle.sheet_file.specs.declared.Layout.{Layout}
use Rattle.sheet_file.specs.declared.Settings.{Settings}
use Rattle.points.specs.Records.{point_in, ith_strength, ith_point, points_in}
use Rattle.points.specs.Refusals.{point_refusals, off_range, off_limit, off_strength, same_cell, two_positions, two_strengths, cell_order}
use Rattle.points.proofs.Neighbours.{eqb_swap}
use Rattle.points.proofs.Located.{point-same}
use Rattle.ruling.specs.Ruling.{refused, accepted, ruling_for, ruling_of}
use Rattle.ruling.specs.Order.{bytes_at, record_of, records_in, Relisted}
use Rattle.ruling.proofs.Header.{same-headed, frame_same, carried}
use Rattle.ruling.specs.Accepted.{Words}
use Rattle.ruling.proofs.Standing.{cell-either-way, none_apart, one-order, words-in}

-- ---- of a list of points

pub position-either-way : (p q : Point) → two_positions p q ≡ two_positions q p
position-either-way p q = rw (eqb_swap p.index q.index, eqb_swap p.x q.x, eqb_swap p.y q.y)

pub strength-either-way : (p q : Point) → two_strengths p q ≡ two_strengths q p
strength-either-way p q = rw (eqb_swap p.index q.index, eqb_swap p.strength q.strength)

refusals-same : (x : Fraction) {ps qs : List Point} → Permᴰ ps qs → point_refusals x ps ≡ point_refusals x qs
unfolding point_refusals
refusals-same x p =
    rw (any_order off_range p, any_order off_limit p, any_order off_strength p, pair-order same_cell cell-either-way p, pair-order two_positions position-either-way p, pair-order two_strengths strength-either-way p)

pub relisted : (s : Settings) (ps qs : List Point) → All Words ps → Permᴰ ps qs → ruling_for s ps ≡ ruling_for s qs
unfolding ruling_for
relisted s ps qs h p =
    ruled-same-end refused (accepted s (cell_order ps)) (accepted s (cell_order qs)) (point_refusals s.score_frac ps) (λ e. ap (accepted s) (one-order ps (none_apart s.score_frac ps h e) qs p))
    ∙ ap (ruled refused (accepted s (cell_order qs))) (refusals-same s.score_frac p)

-- ---- of a file

-- a record's point
abbrev point_of : Bool → List ℕ → Point
point_of weighed r = point_in r 0 (cond weighed (le32 r 20) 0)

module _ (file : List ℕ) (f : Layout) (framed : framing_of file ≡ Some f) (fit : misfit f ≡ false) where
  abbrev at : ℕ → ℕ
  at i = f.points + 20 * i

  first-size : (i : ℕ) → i < f.count → length (bytes_at file (at i) 20) ≡ 20
  first-size i h = length-take-le 20 (drop (at i) file) (simp length-drop (omega (arith, (framed-held file f framed).fit)))

  -- its first 20 bytes are the point's
  first-bytes : (i : ℕ) → i < f.count → SameBytes 20 file (at i) (record_of file f i) 0
  first-bytes i h k l =
      let z : 0 + k ≡ k = omega arith in
      rw z (get_or-append (bytes_at file (at i) 20) _ 0 k (omega (arith, first-size i h)) ∙ get_or-take 20 (drop (at i) file) k 0 l ∙ get_or-drop (at i) file k 0)

  -- and the others its strength's
  strength-is : (i : ℕ) → i < f.count → cond (is_some f.weights) (le32 (record_of file f i) 20) 0 ≡ ith_strength file f i
  strength-is i h = go (is_some f.weights) refl
    where
      from : ℕ
      from = (weights_of f).at + 4 + 4 * i

      last-bytes : (b : List ℕ) → SameBytes 4 file from (bytes_at file (at i) 20 ++ (bytes_at file from 4)) 20
      last-bytes b k l =
          let e : 20 + k ≡ length (bytes_at file (at i) 20) + k = omega (arith, first-size i h) in
          rw e (get_or-append-add (bytes_at file (at i) 20) (bytes_at file from 4) k 0 ∙ get_or-take 4 (drop from file) k 0 l ∙ get_or-drop from file k 0)

      go : (b : Bool) → is_some f.weights ≡ b → cond b (le32 (bytes_at file (at i) 20 ++ cond (b && not (misfit f)) (bytes_at file from 4) []) 20) 0 ≡ cond b (le32 file from) 0
      go true w = rw fit (le32-same file from (bytes_at file (at i) 20 ++ bytes_at file from 4) 20 (last-bytes []))
      go false w = refl

  point-is : (i : ℕ) → i < f.count → point_of (is_some f.weights) (record_of file f i) ≡ ith_point file f i
  point-is i h = rw (strength-is i h) (point-same file (at i) (record_of file f i) 0 (ith_strength file f i) (first-bytes i h))

  points-are : map (point_of (is_some f.weights)) (records_in file f) ≡ points_in file f
  unfolding records_in points_in
  points-are =
      let point = point_of (is_some f.weights) in
      let each = record_of file f in
      let n = f.count in
      is-list (point []) n (ith_point file f) (map point (list_of n each)) (length-map (list_of n each) point ∙ length-list n each)
      (λ k h. get_or-map point (list_of n each) k [] ∙ ap point (list_at n each k [] h) ∙ point-is k h)

perm-map : {A B : Type 0} (g : A → B) {a b : List A} → Permᴰ a b → Permᴰ (map g a) (map g b)
perm-map g mathlib.Core.List.Permᴰ.nil = mathlib.Core.List.Permᴰ.nil
perm-map g (mathlib.Core.List.Permᴰ.cons e p) = mathlib.Core.List.Permᴰ.cons (ap g e) (perm-map g p)
perm-map g (mathlib.Core.List.Permᴰ.swap e f) = mathlib.Core.List.Permᴰ.swap (ap g e) (ap g f)
perm-map g (mathlib.Core.List.Permᴰ.trans p q) = mathlib.Core.List.Permᴰ.trans (perm-map g p) (perm-map g q)

-- where no number of the header applies, tag 4 fits
header-fits : (file : List ℕ) (room : ℕ) (f : Layout) → list_any holds (header_refusals file room (Some f)) ≡ false → misfit f ≡ false
unfolding header_refusals
header-fits file room f h = none-applies-in (header_refusals file room (Some f)) h 12

pub same-ruling : (file other : List ℕ) (f : Layout) → Bytes file → framing_of file ≡ Some f → Relisted file other f → (room : ℕ) → ruling_of file room ≡ ruling_of other room
same-ruling file other f b e r room =
    carried file file f e (same-headed file f) room
    ∙ ruled-same-end refused (ruling_for (settings_of file f) (points_in file f)) (ruling_for (settings_of file f) (points_in other f)) (header_refusals file room (Some f)) same_points
    ∙ sym (carried file other f e r.rest room)
  where
    same_points : list_any holds (header_refusals file room (Some f)) ≡ false → ruling_for (settings_of file f) (points_in file f) ≡ ruling_for (settings_of file f) (points_in other f)
    same_points h =
        let m = header-fits file room f h in
        let p : Permᴰ (points_in file f) (points_in other f) =
        rw (points-are file f e m, points-are other f (frame_same file other f e r.rest) m) at (perm-map (point_of (is_some f.weights)) r.records) in
        relisted (settings_of file f) (points_in file f) (points_in other f) (words-in file f b) p
