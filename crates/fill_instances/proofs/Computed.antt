-- What the promises ask and say of the fills of a small sheet, from its marks, which are computed once. Assumes nothing.
use mathlib.Core.Path.{◌≡◌, sym, ap, ◌∙◌}
use mathlib.Core.Bool.{Bool, true, false, not, ◌&&◌, ◌||◌, false≢true}
use mathlib.Core.List.{List}
use Prim.Native.Nat.{ℕ, ◌<◌}
use borrow.Author.Tests.{eqb-true, ltb-true, lt-ltb}
use lib.Dec.{eqb, ltb}
use lib.ListN.{length, get_or}
use Rattle.folds.specs.Below.{some, every}
use Rattle.folds.proofs.Below.{some_at, every-at}
use Rattle.cells.specs.Points.{Point, nowhere}
use Rattle.cells.specs.Cell.{Cell, cell_of, coincide}
use Rattle.cells.proofs.Edges.{coincide-true}
use Rattle.grid.specs.Views.{view_of}
use Rattle.sheet_file.specs.declared.Settings.{Settings}
use Rattle.predict.specs.Fills.{fills_of}
use Rattle.predict.specs.Predict.{Prediction}
use Rattle.std.specs.Prelude.{None}
use Rattle.predict.proofs.ByRank.{fills_same}
use Rattle.drop_set.specs.Filters.{sides_of}
use Rattle.judging.specs.Judging.{judged_for, fills_for}
use Rattle.promises.specs.Words.{marks_in, kept_rank}
use Rattle.promises.specs.Fills.{fill_in, dropped_rank, Carried, KeptAlike}
use Rattle.instances.specs.Files.{marks_of}
use Rattle.instances.proofs.Computed.{marks-are, kept-is}
use Rattle.std.proofs.lemmas.Bool.{and_from, and_parts}

-- ---- from the marks

-- the fill of rank k
abbrev pub fill_by : Settings → List Point → List ℕ → ℕ → Prediction
fill_by s ps m k = get_or (fills_of (view_of ps) (sides_of s) m) k None

module _ (s : Settings) (ps : List Point) (m : List ℕ) (e : marks_of s ps ≡ m) where
  seen : (k : ℕ) → k < (view_of ps).count → eqb (get_or (judged_for s ps).marks k 0) 0 ≡ eqb (get_or m k 0) 0
  unfolding view_of
  seen k h = ap (λ (b : ℕ). eqb b 0) (marks-are s ps m e k h)

  fills-are : fills_for s ps ≡ fills_of (view_of ps) (sides_of s) m
  unfolding fills_for
  fills-are = fills_same (view_of ps) (sides_of s) (judged_for s ps).marks m seen

  pub fill-by : (k : ℕ) → fill_in s ps k ≡ fill_by s ps m k
  fill-by k = ap (λ (l : List Prediction). get_or l k None) fills-are

  pub dropped-by : (k : ℕ) → k < length ps → eqb (get_or m k 0) 0 ≡ false → dropped_rank s ps k ≡ true
  dropped-by k h z =
      let marked = eqb (marks_in s ps k) 0 in
      and_from (ltb k (length ps)) (not marked) (lt-ltb k (length ps) h) (ap not (ap (λ (b : ℕ). eqb b 0) (marks-are s ps m e k h) ∙ z))

-- ---- kept points alike, by a test of all ranks

-- of a list of points with these marks
abbrev kept_by : List Point → List ℕ → ℕ → Bool
kept_by ps m k = ltb k (length ps) && eqb (get_or m k 0) 0

-- where the first test passes, the second does
abbrev implies : Bool → Bool → Bool
implies a b = not a || b

implied : (a b : Bool) → implies a b ≡ true → a ≡ true → b ≡ true
implied true b e f = e
implied false b e f = absurd (false≢true f)

module _ (move : Cell → Cell) where
  abbrev carries : Point → Point → Bool
  carries p q = coincide (cell_of q) (move (cell_of p)) && (eqb q.x p.x && eqb q.y p.y)

  carried-by : (p q : Point) → carries p q ≡ true → Carried move p q
  carried-by p q e =
      let there = coincide (cell_of q) (move (cell_of p)) in
      let rest = (and_parts there (eqb q.x p.x && eqb q.y p.y) e).1 in
      record {
        cell = coincide-true (cell_of q) (move (cell_of p)) (and_parts there (eqb q.x p.x && eqb q.y p.y) e).0;
        x = eqb-true q.x p.x (and_parts (eqb q.x p.x) (eqb q.y p.y) rest).0;
        y = eqb-true q.y p.y (and_parts (eqb q.x p.x) (eqb q.y p.y) rest).1;
      }

  module _ (s t : Settings) (ps qs : List Point) (m l : List ℕ) (e : marks_of s ps ≡ m) (f : marks_of t qs ≡ l) where
    -- each kept point of ps is carried to one of qs, and each of qs comes from one of ps
    abbrev pub carried_over : Bool
    carried_over = every (λ (j : ℕ). implies (kept_by ps m j) (some (λ (i : ℕ). kept_by qs l i && carries (get_or ps j nowhere) (get_or qs i nowhere)) (length qs))) (length ps)

    abbrev pub came_over : Bool
    came_over = every (λ (i : ℕ). implies (kept_by qs l i) (some (λ (j : ℕ). kept_by ps m j && carries (get_or ps j nowhere) (get_or qs i nowhere)) (length ps))) (length qs)

    old : (j : ℕ) → kept_rank s ps j ≡ kept_by ps m j
    old j = ap (λ (K : ℕ → Bool). K j) (kept-is s ps m e)

    new : (i : ℕ) → kept_rank t qs i ≡ kept_by qs l i
    new i = ap (λ (K : ℕ → Bool). K i) (kept-is t qs l f)

    pub alike-by : carried_over ≡ true → came_over ≡ true → KeptAlike move s ps t qs
    alike-by a b = record { there = there; back = back }
      where
        there : (j : ℕ) → kept_rank s ps j ≡ true → (i : ℕ) × (kept_rank t qs i ≡ true) × Carried move (get_or ps j nowhere) (get_or qs i nowhere)
        there j k =
            let kept = sym (old j) ∙ k in
            let h = ltb-true j (length ps) (and_parts (ltb j (length ps)) (eqb (get_or m j 0) 0) kept).0 in
            let v = some_at (λ (i : ℕ). kept_by qs l i && carries (get_or ps j nowhere) (get_or qs i nowhere)) (length qs) (implied (kept_by ps m j) _ (every-at _ (length ps) a j h) kept) in
            let c = carries (get_or ps j nowhere) (get_or qs v.0 nowhere) in
            (v.0, new v.0 ∙ (and_parts (kept_by qs l v.0) c v.2).0, carried-by (get_or ps j nowhere) (get_or qs v.0 nowhere) (and_parts (kept_by qs l v.0) c v.2).1)

        back : (i : ℕ) → kept_rank t qs i ≡ true → (j : ℕ) × (kept_rank s ps j ≡ true) × Carried move (get_or ps j nowhere) (get_or qs i nowhere)
        back i k =
            let kept = sym (new i) ∙ k in
            let h = ltb-true i (length qs) (and_parts (ltb i (length qs)) (eqb (get_or l i 0) 0) kept).0 in
            let v = some_at (λ (j : ℕ). kept_by ps m j && carries (get_or ps j nowhere) (get_or qs i nowhere)) (length ps) (implied (kept_by qs l i) _ (every-at _ (length qs) b i h) kept) in
            let c = carries (get_or ps v.0 nowhere) (get_or qs i nowhere) in
            (v.0, old v.0 ∙ (and_parts (kept_by ps m v.0) c v.2).0, carried-by (get_or ps v.0 nowhere) (get_or qs i nowhere) (and_parts (kept_by ps m v.0) c v.2).1)
