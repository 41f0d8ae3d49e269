-- The laws of the byte of marks: each bit is its filter's mark, there is no other, and the byte is 0 where no filter marks. One test over all
-- bytes and filters says what setting a bit does. Assumes nothing.
use Rattle.std.specs.List.{list_any}
use mathlib.Core.Path.{◌≡◌, refl, sym, ap, ◌∙◌}
use mathlib.Core.Bool.{Bool, true, false, cond, not, ◌&&◌, ◌||◌, true≢false}
use mathlib.Core.List.{List, [], ◌∷◌, ◌++◌}
use Prim.Native.Nat.{ℕ, ◌<◌}
use native.Mathlib.Omega.{arith}
use lib.Dec.{eqb, ltb}
use lib.ListN.{get_or, replicate}
use borrow.Author.Tests.{eqb-true, eq-eqb, ltb-true}
use Rattle.folds.specs.Below.{some, every}
use Rattle.folds.proofs.Below.{some-yes, some-ext, every-at}
use Rattle.folds.proofs.Column.{column-at, column-ext, replicate-at}
use Rattle.view.specs.View.{max_points}
use Rattle.marks.specs.Filters.{filter_count, leaf, component}
use Rattle.marks.specs.Byte.{has_mark, with_mark, marked_by, Marking, marked_by_all, first_mark}
use Rattle.std.proofs.Math.Bool.{or-false}
use Rattle.std.proofs.lemmas.Bool.{and_parts, false_from_ne_true, not-false, or_parts, not-true}

-- ---- one byte

abbrev alike : Bool → Bool → Bool
alike true b = b
alike false b = not b

pub not-not : (b : Bool) → not (not b) ≡ b
not-not true = refl
not-not false = refl

alike_is : (a b : Bool) → alike a b ≡ true → a ≡ b
alike_is true b e = sym e
alike_is false b e = sym (not-true b e)

-- filter f's bit set in the byte m: it is set, no other bit changes, and the byte is one, and not 0
abbrev others : ℕ → ℕ → ℕ → Bool
others m f g = eqb f g || alike (has_mark g (with_mark f m)) (has_mark g m)

abbrev right : ℕ → ℕ → Bool
right m f = (has_mark f (with_mark f m) && every (others m f) filter_count) && (ltb (with_mark f m) 256 && not (eqb (with_mark f m) 0))

all_right : every (λ (m : ℕ). every (right m) filter_count) 256 ≡ true
unfolding every
all_right = refl

module _ (m f : ℕ) (small : m < 256) (listed : f < filter_count) where
  at_right : right m f ≡ true
  at_right = every-at (right m) filter_count (every-at (λ (m : ℕ). every (right m) filter_count) 256 all_right m small) f listed

  first-half : has_mark f (with_mark f m) && every (others m f) filter_count ≡ true
  first-half = (and_parts (has_mark f (with_mark f m) && every (others m f) filter_count) (ltb (with_mark f m) 256 && not (eqb (with_mark f m) 0)) at_right).0

  second-half : ltb (with_mark f m) 256 && not (eqb (with_mark f m) 0) ≡ true
  second-half = (and_parts (has_mark f (with_mark f m) && every (others m f) filter_count) (ltb (with_mark f m) 256 && not (eqb (with_mark f m) 0)) at_right).1

  pub own-set : has_mark f (with_mark f m) ≡ true
  own-set = (and_parts (has_mark f (with_mark f m)) (every (others m f) filter_count) first-half).0

  pub other-stays : (g : ℕ) → g < filter_count → eqb f g ≡ false → has_mark g (with_mark f m) ≡ has_mark g m
  other-stays g h e = alike_is (has_mark g (with_mark f m)) (has_mark g m) (go (eqb f g) e (every-at (others m f) filter_count (and_parts (has_mark f (with_mark f m)) (every (others m f) filter_count) first-half).1 g h))
    where
      go : (b : Bool) → b ≡ false → b || alike (has_mark g (with_mark f m)) (has_mark g m) ≡ true → alike (has_mark g (with_mark f m)) (has_mark g m) ≡ true
      go true q r = absurd (true≢false q)
      go false q r = r

  pub set-fits : with_mark f m < 256
  set-fits = ltb-true (with_mark f m) 256 (and_parts (ltb (with_mark f m) 256) (not (eqb (with_mark f m) 0)) second-half).0

  pub set-not-zero : eqb (with_mark f m) 0 ≡ false
  set-not-zero = not-true (eqb (with_mark f m) 0) (and_parts (ltb (with_mark f m) 256) (not (eqb (with_mark f m) 0)) second-half).1

-- bit 4 is the leaf filter's and bit 3 the component filter's; the first of them is that of the table, not that of the lower bit
leaf-alone : with_mark leaf 0 ≡ 16
leaf-alone = refl

component-alone : with_mark component 0 ≡ 8
component-alone = refl

leaf_first : first_mark 24 ≡ leaf
unfolding first_mark
leaf_first = refl

-- each leaves the other's mark, set or not, though not its own
component-stays : has_mark component (with_mark leaf 8) ≡ has_mark component 8
component-stays = other-stays 8 leaf (omega arith) (omega arith) component (omega arith) refl

leaf-stays : has_mark leaf (with_mark component 0) ≡ has_mark leaf 0
leaf-stays = other-stays 0 component (omega arith) (omega arith) leaf (omega arith) refl

own-changes : has_mark leaf (with_mark leaf 0) ≡ has_mark leaf 0 → ⊥
own-changes e = true≢false e

-- 0 has no mark
none-set : (f : ℕ) → f < filter_count → has_mark f 0 ≡ false
unfolding every
none-set f h = not-true (has_mark f 0) (every-at (λ (f : ℕ). not (has_mark f 0)) filter_count refl f h)

-- the same of a filter that marks or does not
abbrev turned : Bool → ℕ → ℕ → ℕ
turned b f m = cond b (with_mark f m) m

module _ (m f : ℕ) (small : m < 256) (listed : f < filter_count) where
  turned-own : (b : Bool) → has_mark f (turned b f m) ≡ b || has_mark f m
  turned-own true = own-set m f small listed
  turned-own false = refl

  turned-other : (b : Bool) (g : ℕ) → g < filter_count → eqb f g ≡ false → has_mark g (turned b f m) ≡ has_mark g m
  turned-other true g h e = other-stays m f small listed g h e
  turned-other false g h e = refl

  turned-fits : (b : Bool) → turned b f m < 256
  turned-fits true = set-fits m f small listed
  turned-fits false = small

  turned_zero : (b : Bool) → eqb (turned b f m) 0 ≡ not b && eqb m 0
  turned_zero true = set-not-zero m f small listed
  turned_zero false = refl

-- ---- the bytes of n points, after filters that run one after the other

-- each filter of the list stands in the table
abbrev pub Listed : List Marking → Type 0
Listed l = list_any (λ (g : Marking). not (ltb g.filter filter_count)) l ≡ false

-- filter f is not in the list
abbrev pub Absent : ℕ → List Marking → Type 0
Absent f l = list_any (λ (g : Marking). eqb g.filter f) l ≡ false

-- some filter of the list marks rank k
abbrev pub some_marks : ℕ → List Marking → List ℕ → ℕ → Bool
some_marks n [] marks k = false
some_marks n (g ∷ l) marks k = g.marks marks k || some_marks n l (marked_by n g.filter (g.marks marks) marks) k

pub in_two : (n : ℕ) (a b : List Marking) (marks : List ℕ) → marked_by_all n (a ++ b) marks ≡ marked_by_all n b (marked_by_all n a marks)
unfolding marked_by_all
in_two n [] b marks = refl
in_two n (g ∷ a) b marks = in_two n a b (marked_by n g.filter (g.marks marks) marks)

pub one-more : (n : ℕ) (l : List Marking) (g : Marking) (marks : List ℕ) → marked_by_all n (l ++ g ∷ []) marks ≡ marked_by n g.filter (g.marks (marked_by_all n l marks)) (marked_by_all n l marks)
unfolding marked_by_all
one-more n l g marks = in_two n l (g ∷ []) marks

module _ (n k : ℕ) (inside : k < n) where
  after_one : (f : ℕ) (t : ℕ → Bool) (marks : List ℕ) → get_or (marked_by n f t marks) k 0 ≡ turned (t k) f (get_or marks k 0)
  unfolding marked_by
  after_one f t marks = column-at max_points 0 n (λ (k : ℕ). turned (t k) f (get_or marks k 0)) k inside

  head : (g : Marking) (l : List Marking) → Listed (g ∷ l) → (g.filter < filter_count) × Listed l
  head g l e =
      let w = or_parts (not (ltb g.filter filter_count)) (list_any (λ (g : Marking). not (ltb g.filter filter_count)) l) e in
      (ltb-true g.filter filter_count (not-false (ltb g.filter filter_count) w.0), w.1)

  module _ (g : Marking) (marks : List ℕ) (small : get_or marks k 0 < 256) (listed : g.filter < filter_count) where
    abbrev next : List ℕ
    next = marked_by n g.filter (g.marks marks) marks

    next_small : get_or next k 0 < 256
    next_small = rw (after_one g.filter (g.marks marks) marks) (turned-fits (get_or marks k 0) g.filter small listed (g.marks marks k))

    next-own : has_mark g.filter (get_or next k 0) ≡ g.marks marks k || has_mark g.filter (get_or marks k 0)
    next-own = rw (after_one g.filter (g.marks marks) marks) (turned-own (get_or marks k 0) g.filter small listed (g.marks marks k))

    next-other : (f : ℕ) → f < filter_count → eqb g.filter f ≡ false → has_mark f (get_or next k 0) ≡ has_mark f (get_or marks k 0)
    next-other f h e = rw (after_one g.filter (g.marks marks) marks) (turned-other (get_or marks k 0) g.filter small listed (g.marks marks k) f h e)

    pub next-zero : eqb (get_or next k 0) 0 ≡ not (g.marks marks k) && eqb (get_or marks k 0) 0
    next-zero = rw (after_one g.filter (g.marks marks) marks) (turned_zero (get_or marks k 0) g.filter small listed (g.marks marks k))

  -- a byte stays one
  pub all_small : (l : List Marking) (marks : List ℕ) → Listed l → get_or marks k 0 < 256 → get_or (marked_by_all n l marks) k 0 < 256
  unfolding marked_by_all
  all_small [] marks e h = h
  all_small (g ∷ l) marks e h = let w = head g l e in all_small l (next g marks h w.0) w.1 (next_small g marks h w.0)

  -- a filter that is not in the list marks nothing
  pub not-marked : (l : List Marking) (marks : List ℕ) (f : ℕ) → f < filter_count → Listed l → Absent f l → get_or marks k 0 < 256 → has_mark f (get_or (marked_by_all n l marks) k 0) ≡ has_mark f (get_or marks k 0)
  unfolding marked_by_all
  not-marked [] marks f i e a h = refl
  not-marked (g ∷ l) marks f i e a h =
      let w = head g l e in
      let v = or_parts (eqb g.filter f) (list_any (λ (g : Marking). eqb g.filter f) l) a in
      not-marked l (next g marks h w.0) f i w.1 v.1 (next_small g marks h w.0) ∙ next-other g marks h w.0 f i v.0

  -- the mark of a filter that is in it once, given the bytes before it
  pub marked-by : (before after : List Marking) (g : Marking) → Listed before → Listed (g ∷ after) → Absent g.filter before → Absent g.filter after
      → has_mark g.filter (get_or (marked_by_all n (before ++ g ∷ after) []) k 0) ≡ g.marks (marked_by_all n before []) k
  unfolding marked_by_all
  marked-by before after g pre post a b =
      let m = marked_by_all n before [] in
      let w = head g after post in
      let s = all_small before [] pre (omega arith) in
      ap (λ (l : List ℕ). has_mark g.filter (get_or l k 0)) (in_two n before (g ∷ after) [])
      ∙ not-marked after (next g m s w.0) g.filter w.0 w.1 b (next_small g m s w.0)
      ∙ next-own g m s w.0
      ∙ ap (λ (b : Bool). g.marks m k || b) (not-marked before [] g.filter w.0 pre a (omega arith) ∙ none-set g.filter w.0)
      ∙ or-false (g.marks m k)

  -- the byte is 0 where none marks
  pub zero_is : (l : List Marking) (marks : List ℕ) → Listed l → get_or marks k 0 < 256 → eqb (get_or (marked_by_all n l marks) k 0) 0 ≡ not (some_marks n l marks k) && eqb (get_or marks k 0) 0
  unfolding marked_by_all
  zero_is [] marks e h = refl
  zero_is (g ∷ l) marks e h =
      let w = head g l e in
      zero_is l (next g marks h w.0) w.1 (next_small g marks h w.0)
      ∙ ap (λ (b : Bool). not (some_marks n l (next g marks h w.0) k) && b) (next-zero g marks h w.0)
      ∙ neither (g.marks marks k) (some_marks n l (next g marks h w.0) k) (eqb (get_or marks k 0) 0)
    where
      neither : (a b c : Bool) → not b && (not a && c) ≡ not (a || b) && c
      neither true true c = refl
      neither true false c = refl
      neither false b c = refl

-- ---- bytes with no bit but those of the table

-- the byte is 0 just where it has no mark
abbrev Plain : ℕ → Type 0
Plain m = eqb m 0 ≡ not (some (λ (f : ℕ). has_mark f m) filter_count)

nothing-plain : Plain 0
unfolding some
nothing-plain = refl

turned_plain : (b : Bool) (m f : ℕ) → m < 256 → f < filter_count → Plain m → Plain (turned b f m)
turned_plain true m f h l p = set-not-zero m f h l ∙ ap not (sym (some-yes (λ (g : ℕ). has_mark g (with_mark f m)) filter_count f l (own-set m f h l)))
turned_plain false m f h l p = p

module _ (n k : ℕ) (inside : k < n) where
  pub zero-means : (l : List Marking) (marks : List ℕ) → Listed l → get_or marks k 0 < 256 → Plain (get_or marks k 0) → Plain (get_or (marked_by_all n l marks) k 0)
  unfolding marked_by_all
  zero-means [] marks e h p = p
  zero-means (g ∷ l) marks e h p =
      let w = head n k inside g l e in
      zero-means l (next n k inside g marks h w.0) w.1 (next_small n k inside g marks h w.0)
      (rw (after_one n k inside g.filter (g.marks marks) marks) (turned_plain (g.marks marks k) (get_or marks k 0) g.filter h w.0 p))

  -- a mark other than that of the last filter: the byte before it is not 0
  pub others-than : (l : List Marking) (g : Marking) → Listed l → g.filter < filter_count → Absent g.filter l
      → some (λ (f : ℕ). not (eqb f g.filter) && has_mark f (get_or (marked_by_all n (l ++ g ∷ []) []) k 0)) filter_count ≡ not (eqb (get_or (marked_by_all n l []) k 0) 0)
  others-than l g e i a =
      let m = marked_by_all n l [] in
      let s = all_small n k inside l [] e (omega arith) in
      some-ext _ (λ (f : ℕ). has_mark f (get_or m k 0)) filter_count (λ f h. go f h (eqb f g.filter) refl s)
      ∙ sym (ap not (zero-means l [] e (omega arith) nothing-plain) ∙ not-not (some (λ (f : ℕ). has_mark f (get_or m k 0)) filter_count))
    where
      go : (f : ℕ) → f < filter_count → (b : Bool) → eqb f g.filter ≡ b → get_or (marked_by_all n l []) k 0 < 256
          → not b && has_mark f (get_or (marked_by_all n (l ++ g ∷ []) []) k 0) ≡ has_mark f (get_or (marked_by_all n l []) k 0)
      go f h true q s = sym (rw (eqb-true f g.filter q) (not-marked n k inside l [] g.filter i e a (omega arith) ∙ none-set g.filter i))
      go f h false q s = ap (λ (m : List ℕ). has_mark f (get_or m k 0)) (one-more n l g []) ∙ next-other n k inside g (marked_by_all n l []) s i f h (false_from_ne_true (eqb g.filter f) (λ r. true≢false (sym (eq-eqb f g.filter (sym (eqb-true g.filter f r))) ∙ q)))

-- filters that mark the same ranks leave the same bytes
pub by-same : (n f : ℕ) (t u : ℕ → Bool) (marks : List ℕ) → ((k : ℕ) → k < n → t k ≡ u k) → marked_by n f t marks ≡ marked_by n f u marks
unfolding marked_by
by-same n f t u marks h = column-ext max_points 0 n _ _ (λ k l. ap (λ (b : Bool). turned b f (get_or marks k 0)) (h k l))

-- filters with the same places whose tests agree on n points
unfoldable pub Agree : ℕ → List Marking → List Marking → Type 0
Agree n [] [] = Unit {0}
Agree n [] (h ∷ b) = ⊥
Agree n (g ∷ a) [] = ⊥
Agree n (g ∷ a) (h ∷ b) = ((g.filter ≡ h.filter) × ((m : List ℕ) (k : ℕ) → k < n → g.marks m k ≡ h.marks m k)) × Agree n a b

-- leave the same bytes
pub all_same : (n : ℕ) (a b : List Marking) (marks : List ℕ) → Agree n a b → marked_by_all n a marks ≡ marked_by_all n b marks
unfolding marked_by_all Agree
all_same n [] [] marks e = refl
all_same n [] (h ∷ b) marks e = absurd e
all_same n (g ∷ a) [] marks e = absurd e
all_same n (g ∷ a) (h ∷ b) marks e =
    ap (λ (f : ℕ). marked_by_all n a (marked_by n f (g.marks marks) marks)) e.0.0
    ∙ ap (marked_by_all n a) (by-same n h.filter (g.marks marks) (h.marks marks) marks (e.0.1 marks))
    ∙ all_same n a b (marked_by n h.filter (h.marks marks) marks) e.1

-- an array of zeros is as good as none
pub from-zeros : (n f : ℕ) (t : ℕ → Bool) → marked_by n f t (replicate max_points 0) ≡ marked_by n f t []
unfolding marked_by
from-zeros n f t = column-ext max_points 0 n _ _ (λ k l. ap (turned (t k) f) (replicate-at max_points 0 k))
