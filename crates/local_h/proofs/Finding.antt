-- What the functions find: each place with a point of another index, the first that serves, and the members of a base. Assumes nothing.
use Rattle.std.proofs.Common.{◌≡◌, refl, sym, ap, ◌∙◌, Bool, true, false, cond, not, ◌&&◌, List, [], ◌∷◌, ℕ, ◌+◌, ◌≤◌, ◌<◌, get_or, Float, arith}
use mathlib.Core.Bool.{true≢false}
use Prim.Native.Nat.{zero, suc}
use Rattle.std.specs.Prelude.{Option, Some, None}
use Rattle.std.specs.Option.{is_some}
use Rattle.std.proofs.lemmas.Option.{cond_some, none-some}
use borrow.Author.Tests.{eq-eqb, ne_eqb, lt-ltb, le-ltb, ltb-true, ltb-false}
use lib.Dec.{ltb}
use Rattle.folds.specs.Below.{first}
use Rattle.folds.proofs.Below.{first_more, first-end, first-from}
use Rattle.offsets.specs.declared.Offset.{Offset}
use Rattle.cells.specs.Cell.{Cell}
use Rattle.view.specs.View.{View, max_points, view_at, rank_at}
use Rattle.view.specs.Seen.{below}
use Rattle.view.proofs.Found.{not-found, found, found-below}
use Rattle.local_h.specs.declared.Found.{Found as Place}
use Rattle.local_h.specs.Order.{offset_at}
use Rattle.local_h.specs.Base.{member_at, on_line, is_other, is_serving, is_fourth, FourPlaces, places_of, base_of}
use Rattle.local_h.specs.Finding.{place_at, other_at, found_at, found_from, found_base, place_in}
use Rattle.local_h.specs.Residual.{residual_from, residual_at}
use Rattle.local_h.proofs.Bases.{FourOthers, base-four, other-rank, nearest-base}
use Rattle.std.proofs.Math.Bool.{and-false}

-- ---- one place

module _ (w : View) (k p : ℕ) {o : Offset} (e : o ≡ offset_at p) where
  pub no-point : None ≡ below w.count (rank_at w k o) → None ≡ other_at w k p
  unfolding is_other
  no-point h = rw (← e, not-found _ _ h)

  pub own-index : {j : ℕ} → Some j ≡ below w.count (rank_at w k o) → w.by_idx j ≡ w.by_idx k → None ≡ other_at w k p
  unfolding is_other
  own-index h i = rw (← e, found-below _ _ h, found _ _ h, eq-eqb _ _ i)

  pub other-index : {j : ℕ} → Some j ≡ below w.count (rank_at w k o) → (w.by_idx j ≡ w.by_idx k → ⊥) → Some (record { place = p; offset = o; rank = j }) ≡ other_at w k p
  unfolding is_other
  other-index h i = rw (← e, found-below _ _ h, found _ _ h, ne_eqb _ _ i)

-- ---- the first that serves

nothing : {A : Type 0} (b : Bool) (x : A) → None ≡ cond b (Some x) None → b ≡ false
nothing true x e = absurd (none-some x e)
nothing false x e = refl

module _ (w : View) (k : ℕ) (serves : Offset → Bool) where
  abbrev q : ℕ → Bool
  q p = serves (offset_at p) && is_other w k p

  module _ (start p : ℕ) (left : first q p 24 ≡ first q start 24) where
    -- a place that is passed
    passed : p < 24 → q p ≡ false → first q (p + 1) 24 ≡ first q start 24
    passed h e = rw (first_more q p 24 h, e) at left

    pub passed-none : p < 24 → None ≡ other_at w k p → first q (p + 1) 24 ≡ first q start 24
    passed-none h e = passed h (rw (nothing (is_other w k p) _ e) (and-false (serves (offset_at p))))

    pub passed-some : {f : Place} → p < 24 → Some f ≡ other_at w k p → serves f.offset ≡ false → first q (p + 1) 24 ≡ first q start 24
    passed-some {f} h e n =
        let here : offset_at p ≡ f.offset = ap (λ (f : Place). f.offset) (cond_some (is_other w k p) (place_at w k p) f (sym e)).1 in
        passed h (rw (here, n))

    -- the place where it ends
    pub stopped : {f : Place} → p < 24 → Some f ≡ other_at w k p → serves f.offset ≡ true → Some f ≡ found_from w k serves start
    stopped {f} h e y =
        let t = cond_some (is_other w k p) (place_at w k p) f (sym e) in
        let here : offset_at p ≡ f.offset = ap (λ (f : Place). f.offset) t.1 in
        let at : first q start 24 ≡ p = sym left ∙ first_more q p 24 h ∙ rw (here, y, t.0) in
        ap Some (sym t.1) ∙ sym (rw (at, lt-ltb p 24 h))

    pub ended : 24 ≤ p → None ≡ found_from w k serves start
    ended h = rw (← left, first-end q p 24 h, le-ltb p 24 h)

-- ---- the members of a base

-- a point of another index was found
pub is-there : (w : View) (k p : ℕ) {r : Option Place} → r ≡ other_at w k p → true ≡ is_some r → is_other w k p ≡ true
is-there w k p e h = go (is_other w k p) (rw e at h)
  where
    go : (b : Bool) → true ≡ is_some (cond b (Some (place_at w k p)) None) → b ≡ true
    go true h = refl
    go false h = absurd (true≢false h)

module _ (n : ℕ) (ranks : List ℕ) (k : ℕ) (xs ys : List Float) where
  abbrev seen : View
  seen = view_at n ranks [] []

  abbrev whole : View
  whole = view_at n ranks xs ys

  abbrev after : ℕ → ℕ
  after i = first (is_other whole k) i 24

  abbrev any : Offset → Bool
  any o = true

  later : (i : ℕ) → 24 ≤ i → 24 ≤ after (i + 1)
  later i h = omega (arith, first-from (is_other whole k) (i + 1) 24)

  short : (i : ℕ) → None ≡ found_from seen k any i → 24 ≤ after i
  unfolding is_other
  short i e = ltb-false (after i) 24 (nothing (ltb (after i) 24) _ e)

  member : {a : Place} (i : ℕ) → Some a ≡ found_from seen k any i → (ltb (after i) 24 ≡ true) × (place_at whole k (after i) ≡ a)
  unfolding is_other
  member {a} i e = cond_some (ltb (after i) 24) (place_at seen k (after i)) a (sym e)

  fourth-none : (a b c : ℕ) → 24 ≤ c → ltb (first (is_fourth whole k a b c) (c + 1) 24) 24 ≡ false
  fourth-none a b c h = le-ltb _ 24 (omega (arith, first-from (is_fourth whole k a b c) (c + 1) 24))

  pub none-found : None ≡ found_from seen k any 0 → None ∷ None ∷ None ∷ None ∷ [] ≡ found_base whole k
  unfolding found_base places_of
  none-found e =
      let a = short 0 e in
      let b = later (after 0) a in
      let c = later (after (after 0 + 1)) b in
      rw (le-ltb _ 24 a, le-ltb _ 24 b, le-ltb _ 24 c, fourth-none _ _ _ c)

  pub one-found : {a : Place} → Some a ≡ found_from seen k any 0 → None ≡ found_from seen k any (a.place + 1) → Some a ∷ None ∷ None ∷ None ∷ [] ≡ found_base whole k
  unfolding found_base places_of
  one-found {a} e f =
      let m = member 0 e in
      let at : after 0 ≡ a.place = ap (λ (f : Place). f.place) m.1 in
      let b = short (after 0 + 1) (rw (← at) at f) in
      let c = later (after (after 0 + 1)) b in
      ap (λ (f : Place). Some f ∷ None ∷ None ∷ None ∷ []) (sym m.1) ∙ sym (rw (m.0, le-ltb _ 24 b, le-ltb _ 24 c, fourth-none _ _ _ c))

  pub two-found : {a b : Place} → Some a ≡ found_from seen k any 0 → Some b ≡ found_from seen k any (a.place + 1) → None ≡ found_from seen k any (b.place + 1) → Some a ∷ Some b ∷ None ∷ None ∷ [] ≡ found_base whole k
  unfolding found_base places_of
  two-found {a} {b} e f g =
      let m = member 0 e in
      let at : after 0 ≡ a.place = ap (λ (f : Place). f.place) m.1 in
      let n = member (after 0 + 1) (rw (← at) at f) in
      let bt : after (after 0 + 1) ≡ b.place = ap (λ (f : Place). f.place) n.1 in
      let c = short (after (after 0 + 1) + 1) (rw (← bt) at g) in
      ap (λ (f : Place). Some f ∷ Some b ∷ None ∷ None ∷ []) (sym m.1)
      ∙ ap (λ (f : Place). Some (place_at whole k (after 0)) ∷ Some f ∷ None ∷ None ∷ []) (sym n.1)
      ∙ sym (rw (m.0, n.0, le-ltb _ 24 c, fourth-none _ _ _ c))

  pub all_found : {a b c : Place} {d : Option Place} {leave : Bool} → Some a ≡ found_from seen k any 0 → Some b ≡ found_from seen k any (a.place + 1) → Some c ≡ found_from seen k any (b.place + 1)
      → leave ≡ on_line a.offset b.offset c.offset → d ≡ found_from seen k (λ (o : Offset). not (leave && on_line a.offset b.offset o)) (c.place + 1) → Some a ∷ Some b ∷ Some c ∷ d ∷ [] ≡ found_base whole k
  unfolding found_base places_of is_serving is_other
  all_found {a} {b} {c} {d} {leave} e f g l h =
      let m = member 0 e in
      let at : after 0 ≡ a.place = ap (λ (f : Place). f.place) m.1 in
      let n = member (after 0 + 1) (rw (← at) at f) in
      let bt : after (after 0 + 1) ≡ b.place = ap (λ (f : Place). f.place) n.1 in
      let o = member (after (after 0 + 1) + 1) (rw (← bt) at g) in
      rw (h, l, ← m.1, ← n.1, ← o.1, m.0, n.0, o.0)

  -- where the nearest four have points of other indices, they are the base
  pub nearest-found : {a b c d : Option Place} → a ≡ other_at seen k 0 → b ≡ other_at seen k 1 → c ≡ other_at seen k 2 → d ≡ other_at seen k 3
      → true ≡ is_some a → true ≡ is_some b → true ≡ is_some c → true ≡ is_some d → a ∷ b ∷ c ∷ d ∷ [] ≡ found_base whole k
  unfolding found_base is_other
  nearest-found ea eb ec ed ta tb tc td =
      let ia = is-there seen k 0 ea ta in
      let ib = is-there seen k 1 eb tb in
      let ic = is-there seen k 2 ec tc in
      let id = is-there seen k 3 ed td in
      rw (← nearest-base whole k ia ib ic id, ea, eb, ec, ed, ia, ib, ic, id)

-- ---- what is read of it

pub record FourFound (w : View) (k : ℕ) (a b c d : Place) : Type 0 where
  pub has : (places_of w k).d < 24
  pub one : a.rank ≡ member_at w k (places_of w k).a
  pub two : b.rank ≡ member_at w k (places_of w k).b
  pub three : c.rank ≡ member_at w k (places_of w k).c
  pub four : d.rank ≡ member_at w k (places_of w k).d

module _ (w : View) (k : ℕ) {l : List (Option Place)} (e : l ≡ found_base w k) where
  abbrev p : FourPlaces
  p = places_of w k

  -- whatever would be read past the last
  read : (x : Option Place) → (get_or l 0 x ≡ found_at w k p.a) × (get_or l 1 x ≡ found_at w k p.b) × (get_or l 2 x ≡ found_at w k p.c) × (get_or l 3 x ≡ found_at w k p.d)
  unfolding found_base
  read x = (rw e, rw e, rw e, rw e)

  there : (i : ℕ) {r : Option Place} {f : Place} → r ≡ found_at w k i → r ≡ Some f → (i < 24) × (f.rank ≡ member_at w k i)
  there i {r} {f} h t =
      let m = cond_some (ltb i 24) (place_at w k i) f (sym h ∙ t) in
      (ltb-true i 24 m.0, sym (ap (λ (f : Place). f.rank) m.1))

  absent : (i : ℕ) {r : Option Place} → r ≡ found_at w k i → r ≡ None → 24 ≤ i
  absent i h t = ltb-false i 24 (nothing (ltb i 24) _ (sym t ∙ h))

  pub four-found : (x y z u : Option Place) {a b c d : Place} → get_or l 0 x ≡ Some a → get_or l 1 y ≡ Some b → get_or l 2 z ≡ Some c → get_or l 3 u ≡ Some d → FourFound w k a b c d
  four-found x y z u ta tb tc td =
      record { has = (there p.d (read u).3 td).0; one = (there p.a (read x).0 ta).1; two = (there p.b (read y).1 tb).1; three = (there p.c (read z).2 tc).1; four = (there p.d (read u).3 td).1 }

  -- where one is missing, so is the fourth
  rising : (p.a < p.b) × (p.b < p.c) × (p.c < p.d)
  unfolding places_of
  rising = (omega (arith, first-from (is_other w k) (p.a + 1) 24), omega (arith, first-from (is_other w k) (p.b + 1) 24), omega (arith, first-from (is_fourth w k p.a p.b p.c) (p.c + 1) 24))

  pub no-first : (x : Option Place) → get_or l 0 x ≡ None → 24 ≤ p.d
  no-first x t = omega (arith, absent p.a (read x).0 t, rising)

  pub no-second : (x : Option Place) → get_or l 1 x ≡ None → 24 ≤ p.d
  no-second x t = omega (arith, absent p.b (read x).1 t, rising)

  pub no-third : (x : Option Place) → get_or l 2 x ≡ None → 24 ≤ p.d
  no-third x t = omega (arith, absent p.c (read x).2 t, rising)

  pub no-fourth : (x : Option Place) → get_or l 3 x ≡ None → 24 ≤ p.d
  no-fourth x t = absent p.d (read x).3 t

  -- the places of the members
  pub places-in : (x y z u : Option Place) → place_in (get_or l 0 x) ∷ place_in (get_or l 1 y) ∷ place_in (get_or l 2 z) ∷ place_in (get_or l 3 u) ∷ [] ≡ base_of w k
  places-in x y z u = rw ((read x).0, (read y).1, (read z).2, (read u).3, own p.a, own p.b, own p.c, own p.d)
    where
      own : (i : ℕ) → place_in (found_at w k i) ≡ below 24 i
      own i = elim (ltb i 24) as (λ b. place_in (cond b (Some (place_at w k i)) None) ≡ cond b (Some i) None) [ true ↦ refl | false ↦ refl ]

-- ---- the residual

-- the members of a base with its fourth are ranks
pub members-ranked : (w : View) (k : ℕ) {a b c d : Place} → FourFound w k a b c d → w.count ≤ max_points → (i : ℕ) → i < 4 → get_or (a.rank ∷ b.rank ∷ c.rank ∷ d.rank ∷ []) i 0 < max_points
members-ranked w k {a} {b} {c} {d} f few i h = go i h
  where
    o : FourOthers w k (places_of w k)
    o = (base-four w k f.has).others

    go : (i : ℕ) → i < 4 → get_or (a.rank ∷ b.rank ∷ c.rank ∷ d.rank ∷ []) i 0 < max_points
    go zero h = omega (arith, f.one, other-rank w k (places_of w k).a o.one)
    go (suc zero) h = omega (arith, f.two, other-rank w k (places_of w k).b o.two)
    go (suc (suc zero)) h = omega (arith, f.three, other-rank w k (places_of w k).c o.three)
    go (suc (suc (suc zero))) h = omega (arith, f.four, other-rank w k (places_of w k).d o.four)
    go (suc (suc (suc (suc i)))) h = absurd (omega arith)

module _ (w : View) (cell : ℕ → Cell) (k : ℕ) where
  pub fitted : {a b c d : Place} → FourFound w k a b c d → residual_from w cell k a.rank b.rank c.rank d.rank ≡ residual_at w cell k
  unfolding residual_at residual_from
  fitted f = rw (lt-ltb _ 24 f.has, ← f.one, ← f.two, ← f.three, ← f.four)

  pub unfitted : 24 ≤ (places_of w k).d → None ≡ residual_at w cell k
  unfolding residual_at
  unfitted h = rw (le-ltb _ 24 h)
