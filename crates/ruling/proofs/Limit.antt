-- The limit of points: it is as `LimitPromise` says of every file and buffer; and sheets at the limit, above it, of the most points that
-- can be framed, and of one more. Assumes nothing.
use Rattle.std.specs.Prelude.{is_some}
use mathlib.Core.Path.{◌≡◌, refl, sym, ◌∙◌}
use mathlib.Core.Bool.{Bool, true, false, cond, not, ◌&&◌, true≢false}
use mathlib.Core.Logic.{inl, inr}
use mathlib.Core.List.{List, [], ◌∷◌, ◌++◌, append-nil}
use Prim.Native.Nat.{ℕ, zero, suc, ◌+◌, ◌*◌, ◌/◌, ◌%◌, ◌≤◌, ◌<◌}
use native.Mathlib.Omega.{arith}
use lib.ListN.{length, get_or, replicate, length-replicate}
use lib.Seq.{get_or-append-add}
use lib.Dec.{eqb}
use borrow.Author.Tests.{lt-ltb, ltb-true, eq-eqb, eqb-true}
use Rattle.folds.specs.Lists.{All}
use Rattle.folds.proofs.Column.{replicate-at}
use Rattle.view.specs.View.{max_points}
use Rattle.sheet_file.specs.Bytes.{Bytes, byte_at, le16}
use Rattle.sheet_file.specs.Frame.{layout_of, weights_of}
use Rattle.sheet_file.specs.Grammar.{absent, WellFramed, most_records}
use Rattle.sheet_file.specs.Refusals.{misframed, misfit}
use Rattle.sheet_file.specs.declared.Layout.{Layout}
use Rattle.sheet_file.proofs.Fields.{is_framed, field_in, StrengthsAt, strengths-there, strengths-absent, GateAt, gate-there, gate-absent, Fields, full-settings, short-settings, fields-of, PointsAt, points-in}
use Rattle.sheet_file.proofs.Words.{le16-small}
use Rattle.sheet_file.proofs.Grammar.{well-framed, points-counted, weights-counted, accepted-well}
use Rattle.ruling.specs.Ruling.{refused, ruling_of, applies}
use Rattle.ruling.specs.Limit.{point_count, WeightsFit, Passes, LimitPromise, short_sheet, zero_sheet}
use Rattle.ruling.proofs.Given.{given, is-given}
use Rattle.std.proofs.lemmas.Bool.{not-false, or_from}

-- ---- every file

module _ (file : List ℕ) (room : ℕ) where
  misframed-one : misframed file ≡ true → ruling_of file room ≡ refused 1
  unfolding applies
  misframed-one m = given file room 1 m refl

  framed-not-one : WellFramed file → ruling_of file room ≡ refused 1 → ⊥
  unfolding applies
  framed-not-one w e = true≢false (sym (is-given file room 1 e).holding ∙ well-framed file w)

  -- a tag 4 that fits, or none
  pub fits : (w : WellFramed file) → WeightsFit w → misfit (layout_of file) ≡ false
  fits w o = go (is_some (layout_of file).weights) (weights-counted file w) o
    where
      n : ℕ
      n = (weights_of (layout_of file)).len

      go : (b : Bool) → cond b (3 + n) 0 ≡ length w.weights → WeightsFit w → b && not (eqb n (4 + 4 * (layout_of file).count)) ≡ false
      go true e (inl z) = absurd (omega arith)
      go true e (inr z) = rw (eq-eqb n (4 + 4 * (layout_of file).count) (omega (arith, points-counted file w)))
      go false e o = refl

  fitting : (w : WellFramed file) → misfit (layout_of file) ≡ false → WeightsFit w
  fitting w m = go (is_some (layout_of file).weights) (weights-counted file w) m
    where
      n : ℕ
      n = (weights_of (layout_of file)).len

      go : (b : Bool) → cond b (3 + n) 0 ≡ length w.weights → b && not (eqb n (4 + 4 * (layout_of file).count)) ≡ false → WeightsFit w
      go true e m = inr (omega (arith, eqb-true n (4 + 4 * (layout_of file).count) (not-false (eqb n (4 + 4 * (layout_of file).count)) m), points-counted file w))
      go false e m = inl (sym e)

  unfit-twelve : (w : WellFramed file) → (WeightsFit w → ⊥) → ruling_of file room ≡ refused 12
  unfolding applies
  unfit-twelve w f = given file room 12 (go (misfit (layout_of file)) refl) (or_from _ _ (well-framed file w) refl)
    where
      go : (b : Bool) → misfit (layout_of file) ≡ b → b ≡ true
      go true m = refl
      go false m = absurd (f (fitting w m))

  -- more points than the limit, whatever else is wrong with the file and however short the buffer
  pub more-refused : (w : WellFramed file) → WeightsFit w → max_points < point_count w → ruling_of file room ≡ refused 2
  unfolding applies
  more-refused w o l =
      given file room 2 (lt-ltb max_points (layout_of file).count (omega (arith, points-counted file w))) (or_from _ _ (well-framed file w) (or_from _ _ (fits w o) refl))

  -- at most as many
  pub few-pass : (w : WellFramed file) → point_count w ≤ max_points → Passes file room
  unfolding applies
  few-pass w l = record {
    not-one = framed-not-one w;
    not-two = λ e. omega (arith, ltb-true max_points (layout_of file).count (is-given file room 2 e).holding, points-counted file w);
  }

  -- "on longer lists the program still tells 1 from 2"
  pub limit : Bytes file → LimitPromise file room
  unfolding applies
  limit b = record {
    one = λ f. go f (misframed file) refl;
    one_only = λ e w. framed-not-one w e;
    twelve = unfit-twelve;
    twelve-only = λ e.
        let g = is-given file room 12 e in
        let w = accepted-well file b (g.earlier 1) in
        (w, λ o. true≢false (sym g.holding ∙ fits w o));
    two = more-refused;
    two-only = λ e.
        let g = is-given file room 2 e in
        let w = accepted-well file b (g.earlier 1) in
        (w, fitting w (g.earlier 12), omega (arith, ltb-true max_points (layout_of file).count g.holding, points-counted file w));
    passes = few-pass;
  }
    where
      go : (WellFramed file → ⊥) → (m : Bool) → misframed file ≡ m → ruling_of file room ≡ refused 1
      go f true m = misframed-one m
      go f false m = absurd (f (accepted-well file b m))

-- ---- sheets with settings of length 4 and n points

bytes_after : (l r : List ℕ) → All (λ (a : ℕ). a < 256) l → Bytes r → Bytes (l ++ r)
bytes_after [] r h b k = b k
bytes_after (a ∷ l) r h b zero = h.0
bytes_after (a ∷ l) r h b (suc k) = bytes_after l r h.1 b k

-- what stands before the points
abbrev head_of : List ℕ → List ℕ
head_of p = 1 ∷ 4 ∷ 0 ∷ 0 ∷ 0 ∷ 0 ∷ 0 ∷ 3 ∷ length p % 256 ∷ length p / 256 % 256 ∷ []

pub after-head : (p : List ℕ) (k : ℕ) → byte_at (short_sheet p) (10 + k) ≡ byte_at p k
unfolding short_sheet
after-head p k = get_or-append-add (head_of p) p k 0

pub short-bytes : (p : List ℕ) → Bytes p → Bytes (short_sheet p)
unfolding short_sheet
short-bytes p b =
    bytes_after (head_of p) p
    (omega arith, (omega arith, (omega arith, (omega arith, (omega arith, (omega arith, (omega arith, (omega arith, (omega arith, (omega arith, tt)))))))))) b

module _ (p : List ℕ) (n : ℕ) (size : length p ≡ 20 * n) where
  -- a two-byte length holds so many
  pub short-framed : n ≤ most_records → (w : WellFramed (short_sheet p)) × (point_count w ≡ n) × (length w.weights ≡ 0)
  unfolding short_sheet
  short-framed l =
      let q : length p / 256 % 256 ≡ length p / 256 = omega arith in (
        record {
          settings = replicate 4 0;
          gate = [];
          points = p;
          weights = [];
          settings-size = inr refl;
          gate-optional = absent refl;
          twenties = omega arith;
          weights-optional = absent refl;
          in_order = rw (q, append-nil p);
        },
        omega arith,
        refl,
      )

  short-size : length (short_sheet p) ≡ 10 + 20 * n
  unfolding short_sheet
  short-size = omega (arith, size)

-- its length stands in two bytes, without what these cannot hold
length-there : (p : List ℕ) → le16 (short_sheet p) 8 ≡ length p % 65536
unfolding short_sheet le16
length-there p = omega arith

-- tag 3 follows on settings of length 4
module _ (file : List ℕ) (f : Layout) (s : le16 file 1 ≡ 4) (t : byte_at file 7 ≡ 3) where
  points-next : GateAt file f 7 false → PointsAt file f 7 false false
  points-next (gate-there u e) = absurd (omega (arith, t, (field_in file 7 2 17 u).tag_is))
  points-next (gate-absent u e) = points-in file f 7 false false e

  points-after : Fields file f → PointsAt file f 7 false false
  points-after (full-settings u g) = absurd (omega (arith, s, (field_in file 0 1 21 u).size_is))
  points-after (short-settings v u g) = points-next g

pub short-fields : (p : List ℕ) → WellFramed (short_sheet p) → PointsAt (short_sheet p) (layout_of (short_sheet p)) 7 false false
unfolding short_sheet le16
short-fields p w = let file = short_sheet p in points-after file (layout_of file) refl refl (fields-of file (layout_of file) (is_framed file (well-framed file w)))

-- a length of more than two bytes, less what these hold, is no tag 4 either: it would be of 65,536 bytes, which are no twenties
no_room : (n count len q : ℕ) → 20 * n ≡ 65536 * q + 20 * count → most_records < n → 20 * count < 65536 → 3 + len + 20 * count ≡ 20 * n → len < 65536 → ⊥
no_room n count len q e l s d b = go (omega arith)
  where
    go : q ≡ 1 → ⊥
    go o = let t : 20 * n ≡ 65536 + 20 * count = omega arith in omega (arith, t)

module _ (p : List ℕ) (n : ℕ) (size : length p ≡ 20 * n) (room : ℕ) where
  short-pass : n ≤ max_points → Passes (short_sheet p) room
  short-pass l = let w = short-framed p n size (omega arith) in few-pass (short_sheet p) room w.0 (omega (arith, w.1))

  short-many : max_points < n → n ≤ most_records → ruling_of (short_sheet p) room ≡ refused 2
  short-many l m = let w = short-framed p n size m in more-refused (short_sheet p) room w.0 (inl w.2) (omega (arith, w.1))

  short-unframed : Bytes p → most_records < n → ruling_of (short_sheet p) room ≡ refused 1
  short-unframed b l = (limit (short_sheet p) room c).one no
    where
      c : Bytes (short_sheet p)
      c = short-bytes p b

      -- what follows the points is not tag 4, and there is something
      no : WellFramed (short_sheet p) → ⊥
      no w = go h.after
        where
          file : List ℕ
          file = short_sheet p

          h : PointsAt file (layout_of file) 7 false false
          h = short-fields p w

          count : ℕ
          count = (layout_of file).count

          counted : length p % 65536 ≡ 20 * count
          counted = sym (length-there p) ∙ (field_in file 7 3 (20 * count) h.field-there).size_is

          go : StrengthsAt file (layout_of file) (7 + 3 + 20 * count) → ⊥
          go (strengths-there t u s e) =
              no_room n count (weights_of (layout_of file)).len (length p / 65536) (omega (arith, size, counted)) l (omega (arith, counted)) (omega (arith, short-size p n size))
              (omega (arith, (field_in file (7 + 3 + 20 * count) 4 (weights_of (layout_of file)).len t).size_is, le16-small file c (7 + 3 + 20 * count + 1)))
          go (strengths-absent u e) = omega (arith, short-size p n size, counted)

-- ---- the sheet of n points of zeros, by n

zeros : (n k : ℕ) → get_or (replicate (20 * n) 0) k 0 < 256
zeros n k = rw (replicate-at {A = ℕ} (20 * n) 0 k) (omega arith)

pub zero-bytes : (n : ℕ) → Bytes (zero_sheet n)
zero-bytes n = short-bytes (replicate (20 * n) 0) (zeros n)

module _ (n room : ℕ) where
  pub zero-pass : n ≤ max_points → Passes (zero_sheet n) room
  zero-pass l = short-pass (replicate (20 * n) 0) n (length-replicate {A = ℕ} (20 * n) 0) room l

  pub zero-many : max_points < n → n ≤ most_records → ruling_of (zero_sheet n) room ≡ refused 2
  zero-many l m = short-many (replicate (20 * n) 0) n (length-replicate {A = ℕ} (20 * n) 0) room l m

  -- the length field cannot hold so many
  pub zero-unframed : most_records < n → ruling_of (zero_sheet n) room ≡ refused 1
  zero-unframed l = short-unframed (replicate (20 * n) 0) n (length-replicate {A = ℕ} (20 * n) 0) room (zeros n) l

-- "2,304 points pass"
pub limit_is : max_points ≡ 2304
limit_is = refl

pub at-limit : (n room : ℕ) → n ≡ 2304 → Passes (zero_sheet n) room
at-limit n room e = zero-pass n room (omega arith)

-- "and 2,305 give refusal 2", though there is no result buffer
pub above-limit : (n : ℕ) → n ≡ 2305 → ruling_of (zero_sheet n) 0 ≡ refused 2
above-limit n e = zero-many n 0 (omega arith) (omega arith)

-- so do the most points that a length field can hold
pub most-is : most_records ≡ 3276
most-is = refl

pub most-refused : (n : ℕ) → n ≡ 3276 → ruling_of (zero_sheet n) 0 ≡ refused 2
most-refused n e = zero-many n 0 (omega arith) (omega arith)

-- The first number above the limit that is not refused with 2, since the file is not well framed: of the length 65,540 of 3,277 points two
-- bytes hold 4.
pub wrapped-length : (20 * (most_records + 1) % 256 ≡ 4) × (20 * (most_records + 1) / 256 % 256 ≡ 0)
wrapped-length = (refl, refl)

pub past-most : (n room : ℕ) → n ≡ 3277 → ruling_of (zero_sheet n) room ≡ refused 1
past-most n room e = zero-unframed n room (omega arith)

pub framing-needed : ((n room : ℕ) → max_points < n → ruling_of (zero_sheet n) room ≡ refused 2) → ⊥
framing-needed f = let e : refused 1 ≡ refused 2 = sym (past-most (most_records + 1) 0 refl) ∙ f (most_records + 1) 0 (omega arith) in let z : ◌≡◌ {A = ℕ} 1 2 = cc in omega arith
