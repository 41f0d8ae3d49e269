-- What the promises ask and say of a small sheet, from what is computed of it once. Assumes nothing.
use mathlib.Core.Path.{◌≡◌, refl, sym, ap, ◌∙◌, fun_ext}
use mathlib.Core.Bool.{Bool, true, false, not, ◌&&◌, ◌||◌, true≢false}
use mathlib.Core.List.{List}
use Prim.Native.Nat.{ℕ, ◌<◌}
use lib.Dec.{eqb, ltb}
use lib.IntN.{ℤ}
use lib.ListN.{length, get_or}
use lib.Seq.{get_or-take}
use borrow.Author.Tests.{eqb-true, eq-eqb, ltb-true}
use Rattle.folds.specs.Below.{every}
use Rattle.folds.proofs.Below.{every-at, and-under}
use Rattle.cells.specs.Points.{Point, nowhere}
use Rattle.cells.specs.Cell.{Cell, within, cell_of, moved, joined_by}
use Rattle.sheet_file.specs.declared.Settings.{Settings}
use Rattle.ruling.specs.Offset.{StaysInRange}
use Rattle.patches.specs.Reach.{Reach, here, step}
use Rattle.components.specs.WholePatches.{WholePatch}
use Rattle.drop_set.specs.Filters.{sides_of}
use Rattle.judging.specs.Judging.{judged_for}
use Rattle.promises.specs.Words.{DistinctIndices, other_mark, marks_in, survivor, joined, kept_rank}
use Rattle.instances.specs.Files.{marks_of}
use Rattle.std.proofs.lemmas.Bool.{and_parts}

-- ---- the conditions

-- every pair of k below n passes a test
abbrev every_pair : (ℕ → ℕ → Bool) → ℕ → Bool
every_pair t n = every (λ (i : ℕ). every (t i) n) n

pair-at : (t : ℕ → ℕ → Bool) (n : ℕ) → every_pair t n ≡ true → (i j : ℕ) → i < n → j < n → t i j ≡ true
pair-at t n e i j hi hj = every-at (t i) n (every-at (λ (i : ℕ). every (t i) n) n e i hi) j hj

-- two ranks are one, or have two indices
abbrev own_index : List Point → ℕ → ℕ → Bool
own_index ps i j = eqb i j || not (eqb (get_or ps i nowhere).index (get_or ps j nowhere).index)

pub distinct-by : (ps : List Point) → every_pair (own_index ps) (length ps) ≡ true → DistinctIndices ps
distinct-by ps e i j hi hj same =
    eqb-true i j (go (eqb i j) (rw (eq-eqb (get_or ps i nowhere).index (get_or ps j nowhere).index same) at (pair-at (own_index ps) (length ps) e i j hi hj)))
  where
    go : (b : Bool) → b || false ≡ true → b ≡ true
    go true t = refl
    go false t = t

-- each moved cell passes the test of range
abbrev range_holds : Cell → Bool
range_holds c = within c.u && within c.v

pub in-range-by : (a b : ℤ) (ps : List Point) → every (λ (k : ℕ). range_holds (moved a b (cell_of (get_or ps k nowhere)))) (length ps) ≡ true → StaysInRange a b ps
in-range-by a b ps e k h =
    let c = moved a b (cell_of (get_or ps k nowhere)) in
    let both = every-at (λ (k : ℕ). range_holds (moved a b (cell_of (get_or ps k nowhere)))) (length ps) e k h in
    record { u = (and_parts (within c.u) (within c.v) both).0; v = (and_parts (within c.u) (within c.v) both).1 }

-- ---- what is reached

-- a set that no link leaves holds all that is reached from one of it
stays : {alive : ℕ → Bool} {link : ℕ → ℕ → Bool} (W : ℕ → Bool) {a : ℕ} → W a ≡ true → ((b c : ℕ) → W b ≡ true → link b c ≡ true → W c ≡ true)
    → {k : ℕ} → Reach alive link a k → W k ≡ true
stays W h f (here t) = h
stays W h f (step {b} {c} r t) = f b c (stays W h f r) t

-- ---- the words of the promises, from the marks

module _ (s : Settings) (ps : List Point) (m : List ℕ) (e : marks_of s ps ≡ m) where
  abbrev n : ℕ
  n = length ps

  pub marks-are : (k : ℕ) → k < n → marks_in s ps k ≡ get_or m k 0
  marks-are k h = sym (get_or-take n (judged_for s ps).marks k 0 h) ∙ ap (λ (l : List ℕ). get_or l k 0) e

  abbrev pub alive : ℕ → Bool
  alive k = ltb k n && not (other_mark (get_or m k 0))

  abbrev touching : ℕ → ℕ → Bool
  touching a b = joined_by (sides_of s) (cell_of (get_or ps a nowhere)) (cell_of (get_or ps b nowhere))

  abbrev pub link : ℕ → ℕ → Bool
  link a b = alive a && (alive b && touching a b)

  pub alive-is : survivor s ps ≡ alive
  alive-is = fun_ext (λ (k : ℕ). and-under (ltb k n) (λ t. ap (λ (b : ℕ). not (other_mark b)) (marks-are k (ltb-true k n t))))

  pub link-is : joined s ps ≡ link
  link-is = fun_ext (λ (a : ℕ). fun_ext (λ (b : ℕ). ap (λ (f : ℕ → Bool). f a && (f b && touching a b)) alive-is))

  pub kept-is : kept_rank s ps ≡ λ (k : ℕ). ltb k n && eqb (get_or m k 0) 0
  kept-is = fun_ext (λ (k : ℕ). and-under (ltb k n) (λ t. ap (λ (b : ℕ). eqb b 0) (marks-are k (ltb-true k n t))))

  -- no link leaves W, by a test of all pairs
  abbrev leads_in : (ℕ → Bool) → ℕ → ℕ → Bool
  leads_in W b c = not (W b && link b c) || W c

  abbrev pub closed : (ℕ → Bool) → Bool
  closed W = every_pair (leads_in W) n

  stays-in : (W : ℕ → Bool) → closed W ≡ true → (b c : ℕ) → W b ≡ true → link b c ≡ true → W c ≡ true
  stays-in W h b c w t =
      let lb = ltb-true b n (and_parts (ltb b n) (not (other_mark (get_or m b 0))) (and_parts (alive b) (alive c && touching b c) t).0).0 in
      let rest = (and_parts (alive c) (touching b c) (and_parts (alive b) (alive c && touching b c) t).1).0 in
      let lc = ltb-true c n (and_parts (ltb c n) (not (other_mark (get_or m c 0))) rest).0 in
      go (W b) (link b c) w t (pair-at (leads_in W) n h b c lb lc)
    where
      go : (x y : Bool) → x ≡ true → y ≡ true → not (x && y) || W c ≡ true → W c ≡ true
      go true true p q r = r
      go true false p q r = absurd (true≢false (sym q))
      go false y p q r = absurd (true≢false (sym p))

  -- what is reached from one of W is in W
  pub reached-in : (W : ℕ → Bool) → closed W ≡ true → (a k : ℕ) → W a ≡ true → Reach (survivor s ps) (joined s ps) a k → W k ≡ true
  reached-in W h a k w r = stays W w (stays-in W h) (rw (alive-is, link-is) at r)

  -- a whole patch: a survivor, what is reached from it, and nothing beyond
  pub patch-by : (W : ℕ → Bool) (seed : ℕ) → alive seed ≡ true → W seed ≡ true → closed W ≡ true → ((k : ℕ) → W k ≡ true → Reach alive link seed k)
      → WholePatch (survivor s ps) (joined s ps) W
  patch-by W seed a w h inner = record {
    seed = seed;
    survives = ap (λ (A : ℕ → Bool). A seed) alive-is ∙ a;
    inner = λ k e. rw (alive-is, link-is) (inner k e);
    outer = λ k r. reached-in W h seed k w r;
  }
