-- The members of a base are ranks; whom a corner blames; and the marks of all rules together. Assumes nothing.
use Rattle.std.specs.List.{fold}
use Rattle.std.proofs.Common.{◌≡◌, refl, sym, ap, ◌∙◌, Bool, true, false, cond, ◌&&◌, ◌||◌, List, [], Float, ℕ, ◌+◌, ◌≤◌, ◌<◌, length, get_or, take, arith}
use Prim.Native.Nat.{zero, suc}
use Rattle.std.specs.Prelude.{Option, Some, None, IfSome}
use Rattle.std.proofs.lemmas.List.{take_all}
use borrow.Author.Tests.{ltb-true}
use lib.Dec.{ltb}
use lib.ListN.{replicate}
use Rattle.folds.specs.Below.{some}
use Rattle.folds.proofs.Below.{first_holds}
use Rattle.folds.specs.Column.{column, overlaid}
use Rattle.folds.proofs.Column.{column-at, length-column}
use Rattle.folds.specs.Marked.{bit, Marked}
use Rattle.folds.proofs.Marked.{marked-none, marked-as}
use Rattle.marks.specs.Marks.{is_at}
use Rattle.view.specs.View.{View, max_points, view_at}
use Rattle.view.specs.Seen.{below}
use Rattle.view.proofs.Spread.{spread-column}
use Rattle.local_h.specs.Order.{offset_at}
use Rattle.local_h.specs.Base.{member_at, on_line, is_other, is_fourth, FourPlaces, places_of, base_of}
use Rattle.local_h.proofs.Bases.{other-rank, serving-rank}
use Rattle.blame.specs.declared.Worst.{Worst}
use Rattle.blame.specs.Marks.{Evidence, rule1, rule2, rule3, rule4, is_outlier, place_in, worse_of, worst_of, blamed, is_visited, blames, is_marked, blame_marks}

-- ---- the members of a base

module _ (w : View) (k : ℕ) where
  abbrev p : FourPlaces
  p = places_of w k

  -- a place with the rank there
  abbrev Ranked-at : ℕ → Type 0
  Ranked-at q = (q < 24) × (member_at w k q < w.count)

  a-there : p.a < 24 → member_at w k p.a < w.count
  unfolding places_of
  a-there h = other-rank w k _ (first_holds (is_other w k) _ 24 h)

  b_there : p.b < 24 → member_at w k p.b < w.count
  unfolding places_of
  b_there h = other-rank w k _ (first_holds (is_other w k) _ 24 h)

  c-there : p.c < 24 → member_at w k p.c < w.count
  unfolding places_of
  c-there h = other-rank w k _ (first_holds (is_other w k) _ 24 h)

  d-there : p.d < 24 → member_at w k p.d < w.count
  unfolding places_of
  d-there h = serving-rank w k (on_line (offset_at p.a) (offset_at p.b) (offset_at p.c)) (offset_at p.a) (offset_at p.b) p.d (first_holds (is_fourth w k p.a p.b p.c) (p.c + 1) 24 h)

  there : (q : ℕ) → (q < 24 → member_at w k q < w.count) → IfSome (below 24 q) Ranked-at
  there q h = go (ltb q 24) refl
    where
      go : (b : Bool) → ltb q 24 ≡ b → IfSome (cond b (Some q) None) Ranked-at
      go true e = let l : q < 24 = ltb-true q 24 e in (l, h l)
      go false e = tt

  pub members-there : {b : List (Option ℕ)} → b ≡ base_of w k → (i : ℕ) → IfSome (get_or b i None) Ranked-at
  members-there e i = rw e (go i)
    where
      go : (i : ℕ) → IfSome (get_or (base_of w k) i None) Ranked-at
      go zero = there p.a a-there
      go (suc zero) = there p.b b_there
      go (suc (suc zero)) = there p.c c-there
      go (suc (suc (suc zero))) = there p.d d-there
      go (suc (suc (suc (suc i)))) = tt

-- ---- whom a corner blames

module _ (w : View) (flags : ℕ → ℕ) (k : ℕ) where
  worst-is : (b : List (Option ℕ)) → fold (worse_of w flags k) None b ≡ worst_of w flags k b
  unfolding worst_of
  worst-is b = refl

  blamed-is : place_in (worst_of w flags k (base_of w k)) ≡ blamed w flags k
  unfolding blamed
  blamed-is = refl

  -- after all members of the base
  pub blamed-by : {b : List (Option ℕ)} {worst : Option Worst} {r : Option ℕ} (n : ℕ) → b ≡ base_of w k → length b ≤ n → worst ≡ fold (worse_of w flags k) None (take n b) → r ≡ place_in worst → r ≡ blamed w flags k
  blamed-by {b} n e h f g = rw (g, f, take_all n b h, worst-is b, e) blamed-is

-- the place of the worst is that of an index
pub place-inside : (n : ℕ) (worst : Option Worst) → IfSome worst (λ w. w.at < n) → IfSome (place_in worst) (λ m. m < n)
place-inside n None h = h
place-inside n (Some worst) h = h

module _ (w : View) (e : Evidence) (k : ℕ) where
  blames-is : (m : ℕ) → blames w e k m ≡ is_visited w e k && is_at (blamed w e.flags k) m
  unfolding blames
  blames-is m = refl

  -- the mark that a visited corner sets
  pub blames-one : {at : Option ℕ} {a b : List ℕ} → is_visited w e k ≡ true → at ≡ blamed w e.flags k → Marked (is_at at) a b → Marked (blames w e k) a b
  blames-one v d = marked-as _ (blames w e k) (λ i l. sym (blames-is i ∙ rw (v, ← d)))

  pub not-visited : (a : List ℕ) → is_visited w e k ≡ false → Marked (blames w e k) a a
  not-visited a v = marked-none (blames w e k) a (λ i. blames-is i ∙ rw v)

-- ---- all rules

pub marked-is : (w : View) (e : Evidence) (m : ℕ) → is_marked w e m ≡ rule1 e m || (rule2 e m || (rule3 w e m || rule4 e m))
unfolding is_marked
marked-is w e m = refl

-- the marks of rule 3 put over those of the others
module _ (w : View) (e : Evidence) (few : w.count ≤ max_points) (ranks : (k : ℕ) → k < w.count → w.by_idx k < w.count) where
  -- the marks of the rules that look at an index alone
  abbrev alone_at : ℕ → ℕ
  alone_at m = bit (is_outlier e m)

  all-rules : {a b : List ℕ} → a ≡ column max_points 0 w.count alone_at → Marked (λ (m : ℕ). some (λ (k : ℕ). blames w e k m) w.count) a b → (m : ℕ) → m < w.count → get_or b m 0 ≡ bit (is_marked w e m)
  all-rules s t m l =
      t.at m (rw s (omega (arith, length-column max_points 0 w.count alone_at few)))
      ∙ rw (s, column-at max_points 0 w.count alone_at m l)
      (regroup (rule1 e m) (rule2 e m) (rule3 w e m) (rule4 e m) ∙ ap bit (sym (marked-is w e m)))
    where
      regroup : (p q r s : Bool) → cond r 1 (bit (p || (q || s))) ≡ bit (p || (q || (r || s)))
      regroup true q true s = refl
      regroup true q false s = refl
      regroup false true true s = refl
      regroup false true false s = refl
      regroup false false true s = refl
      regroup false false false s = refl

  -- at each rank what stands at the place of its index
  pub by_rank : {a b r : List ℕ} → a ≡ column max_points 0 w.count alone_at → Marked (λ (m : ℕ). some (λ (k : ℕ). blames w e k m) w.count) a b
      → r ≡ overlaid w.count (λ (k : ℕ). get_or b (w.by_idx k) 0) (replicate max_points 0) → r ≡ blame_marks w e
  unfolding blame_marks
  by_rank s t h = spread-column 0 w.count _ _ h (λ k l. all-rules s t (w.by_idx k) (ranks k l))

-- the positions do not count for the marks
pub marked-of : (n : ℕ) (ranks : List ℕ) (xs ys : List Float) (e : Evidence) → blame_marks (view_at n ranks [] []) e ≡ blame_marks (view_at n ranks xs ys) e
unfolding blame_marks
marked-of n ranks xs ys e = refl
