-- The marks that one line sets, those of all lines together, and the counts of an index from the marks of its ranks. Assumes nothing.
use Rattle.std.specs.List.{fold as over}
use mathlib.Core.Path.{◌≡◌, refl, sym, ap, ◌∙◌}
use mathlib.Core.Bool.{Bool, true, false, cond, ◌&&◌}
use mathlib.Core.List.{List, [], ◌∷◌}
use Prim.Native.Nat.{ℕ, zero, suc, ◌+◌, ◌≤◌, ◌<◌}
use Prim.{Dec, yes, no}
use native.Mathlib.Decide.{ℕ_discrete, dec_lt}
use native.Mathlib.Omega.{arith}
use borrow.Author.Tests.{eq-eqb, ne_eqb, lt-ltb, le-ltb, le-leb, lt-leb}
use lib.Dec.{eqb, ltb, leb}
use lib.ListN.{length, get_or, set, replicate, length-replicate, get_or-eq_default}
use Rattle.folds.specs.Below.{fold, some, tally}
use Rattle.folds.proofs.Below.{some_one, some-no, some-ext, tally-ext}
use Rattle.folds.specs.Lists.{gather}
use Rattle.folds.proofs.Lists.{over-listed}
use Rattle.std.proofs.lemmas.List.{take_all}
use Rattle.folds.specs.Marked.{bit, Marked}
use Rattle.folds.proofs.Marked.{marked-none, marked-one, marked-as, marked-then, marked_more, marked-column, bit_is}
use Rattle.folds.specs.Column.{column}
use Rattle.folds.proofs.Column.{column-at, column-ext, filled, replicate-at}
use Rattle.folds.specs.Scattered.{counts, Scattered, one_more}
use Rattle.folds.proofs.Scattered.{fold-tally}
use Rattle.lines.specs.Fit.{fit_of}
use Rattle.lines.specs.declared.Line.{Line}
use Rattle.lines.specs.Flags.{LineRule, is_far, flagged_by, is_on, is_flagged, flag_count}
use Rattle.lines.specs.Lines.{mark_if}
use Rattle.marks.specs.Marks.{is_set}
use Rattle.std.proofs.Math.Bool.{and-false, and-true}

-- two tests that agree set the same marks
over-ext : (f g : ℕ → Bool) (a l : List ℕ) → ((k : ℕ) → f k ≡ g k) → over (mark_if f) a l ≡ over (mark_if g) a l
over-ext f g a [] h = refl
over-ext f g a (k ∷ l) h = rw (h k) (over-ext f g (mark_if g a k) l h)

over-same : (a l : List ℕ) → over (mark_if (λ k. false)) a l ≡ a
over-same a [] = refl
over-same a (k ∷ l) = over-same a l

flagged-is : (rule : LineRule) (minimum : ℕ) (l : List ℕ) (k : ℕ) → flagged_by rule minimum l k ≡ leb minimum (length l) && is_far rule (fit_of rule.x rule.y l) k
unfolding flagged_by
flagged-is rule minimum l k = refl

-- a line with no members marks none
pub no-members : (rule : LineRule) (minimum : ℕ) (a l : List ℕ) → length l ≡ 0 → a ≡ over (mark_if (flagged_by rule minimum l)) a l
no-members rule minimum a [] h = refl
no-members rule minimum a (k ∷ l) h = absurd (omega arith)

-- nor does one with too few
pub short-line : (rule : LineRule) (minimum : ℕ) (a l : List ℕ) → length l < minimum → a ≡ over (mark_if (flagged_by rule minimum l)) a l
short-line rule minimum a l h =
    sym (over-ext (flagged_by rule minimum l) (λ k. false) a l (λ k. flagged-is rule minimum l k ∙ rw (lt-leb minimum (length l) h)) ∙ over-same a l)

-- another marks the members that are far from it
pub long-line : (rule : LineRule) (minimum : ℕ) (line : Line) (a l : List ℕ) → minimum ≤ length l → line ≡ fit_of rule.x rule.y l → over (mark_if (is_far rule line)) a l ≡ over (mark_if (flagged_by rule minimum l)) a l
long-line rule minimum line a l h e =
    over-ext (is_far rule line) (flagged_by rule minimum l) a l (λ k. rw e (sym (flagged-is rule minimum l k ∙ rw (le-leb minimum (length l) h))))

-- ---- one line

-- rank k of the line with p marks m
hits : (p f : ℕ → Bool) → ℕ → ℕ → Bool
hits p f k m = (p k && f k) && eqb k m

line-turn : (p f : ℕ → Bool) (k : ℕ) (a : List ℕ) → Marked (hits p f k) a (cond (p k) (mark_if f a k) a)
unfolding hits
line-turn p f k a = go (p k) (f k)
  where
    go : (b t : Bool) → Marked (λ (m : ℕ). (b && t) && eqb k m) a (cond b (cond t (set a k 1) a) a)
    go true true = marked-one k a
    go true false = marked-none (λ (m : ℕ). false) a (λ m. refl)
    go false t = marked-none (λ (m : ℕ). false) a (λ m. refl)

line-turns : (p f : ℕ → Bool) (a : List ℕ) (n : ℕ) → Marked (λ (m : ℕ). some (λ (k : ℕ). hits p f k m) n) a (fold (λ k b. cond (p k) (mark_if f b k) b) a n)
unfolding fold some
line-turns p f a zero = marked-none (λ (m : ℕ). false) a (λ m. refl)
line-turns p f a (suc n) = marked-then _ (hits p f n) (line-turns p f a n) (line-turn p f n _)

-- the marks of the ranks below n with p and f
line_marked : (p f : ℕ → Bool) (n : ℕ) (a : List ℕ) → Marked (λ (m : ℕ). ltb m n && (p m && f m)) a (over (mark_if f) a (gather p n))
unfolding hits
line_marked p f n a =
    rw (over-listed (mark_if f) a p (λ (k : ℕ). k) n)
    (marked-as _ _ (λ m l. one m (dec_lt m n)) (line-turns p f a n))
  where
    one : (m : ℕ) → Dec (m < n) → some (λ (k : ℕ). (p k && f k) && eqb k m) n ≡ ltb m n && (p m && f m)
    one m (yes h) = rw (lt-ltb m n h) (some_one (λ (k : ℕ). p k && f k) n m h)
    one m (no h) = rw (le-ltb m n (omega (arith, h))) (some-no (λ (k : ℕ). (p k && f k) && eqb k m) n (λ k l. rw (ne_eqb k m (λ e. h (omega arith))) (and-false (p k && f k))))

-- ---- all lines

module _ (rule : LineRule) (minimum : ℕ) (line : ℕ → ℕ) (n : ℕ) where
  -- the line with a number marks m
  unfoldable pub line_hits : ℕ → ℕ → Bool
  line_hits number m = ltb m n && (is_on line number m && flagged_by rule minimum (gather (is_on line number) n) m)

  -- the lines with numbers below i have set their marks
  abbrev pub Lines : ℕ → List ℕ → List ℕ → Type 0
  Lines i a b = Marked (λ (m : ℕ). some (λ (number : ℕ). line_hits number m) i) a b

  pub lines_none : (a : List ℕ) → Lines 0 a a
  unfolding some
  lines_none a = marked-none (λ (m : ℕ). false) a (λ m. refl)

  pub lines_more : (i : ℕ) {a b c l : List ℕ} → Lines i a b → l ≡ gather (is_on line i) n → c ≡ over (mark_if (flagged_by rule minimum l)) b l → Lines (i + 1) a c
  unfolding line_hits
  lines_more i {a} {b} {c} {l} t g e =
      marked_more (λ (number m : ℕ). line_hits number m) i t
      (rw (e, g) (line_marked (is_on line i) (flagged_by rule minimum (gather (is_on line i) n)) n b))

  pub lines-column : (size : ℕ) {b : List ℕ} → n ≤ size → ((k : ℕ) → k < n → line k < n) → Lines n (replicate size 0) b → b ≡ column size 0 n (λ (k : ℕ). bit (is_flagged rule minimum line n k))
  unfolding line_hits is_flagged
  lines-column size {b} h ranks t =
      marked-column (λ (m : ℕ). some (λ (number : ℕ). line_hits number m) n) size n h (λ m l. some-no (λ (number : ℕ). line_hits number m) n (λ number g. rw (le-ltb m n l))) t
      ∙ column-ext size 0 n _ _ (λ k l. ap bit (own k l))
    where
      own : (k : ℕ) → k < n → some (λ (number : ℕ). line_hits number k) n ≡ flagged_by rule minimum (gather (is_on line (line k)) n) k
      own k l =
          some-ext (λ (number : ℕ). line_hits number k) (λ (number : ℕ). flagged_by rule minimum (gather (is_on line number) n) k && eqb number (line k)) n
          (λ number g. rw (lt-ltb k n l) (turned number (ℕ_discrete (line k) number)))
          ∙ some_one (λ (number : ℕ). flagged_by rule minimum (gather (is_on line number) n) k) n (line k) (ranks k l)
        where
          turned : (number : ℕ) → Dec (line k ≡ number) → is_on line number k && flagged_by rule minimum (gather (is_on line number) n) k ≡ flagged_by rule minimum (gather (is_on line number) n) k && eqb number (line k)
          turned number (yes e) = rw (eq-eqb (line k) number e, eq-eqb number (line k) (sym e)) (sym (and-true (flagged_by rule minimum (gather (is_on line number) n) k)))
          turned number (no f) = rw (ne_eqb (line k) number f, ne_eqb number (line k) (λ e. f (sym e))) (sym (and-false (flagged_by rule minimum (gather (is_on line number) n) k)))

-- ---- the counts of the indices

module _ (by_idx : ℕ → ℕ) (size n : ℕ) where
  -- the ranks that count at place m, where f names the marks
  abbrev counted : (ℕ → Bool) → ℕ → ℕ → Bool
  counted f m = counts by_idx (is_set (column size 0 n (λ (k : ℕ). bit (f k)))) m

  -- they are the ranks of its index that f names
  counted-tally : (f : ℕ → Bool) (m : ℕ) → tally (counted f m) n ≡ tally (counts by_idx f m) n
  counted-tally f m =
      tally-ext (counted f m) (counts by_idx f m) n
      (λ k l. ap (λ (b : Bool). eqb (by_idx k) m && b) (rw (column-at size 0 n (λ (k : ℕ). bit (f k)) k l) (bit_is (f k))))

  never : (i : ℕ) → tally (λ (k : ℕ). false) i ≡ 0
  unfolding tally
  never zero = refl
  never (suc i) = never i

  module _ (few : n ≤ size) (ranks : (k : ℕ) → k < n → by_idx k < n) where
    -- nothing is counted past the ranks
    counted_none : (f : ℕ → Bool) (m : ℕ) → n ≤ m → tally (counted f m) n ≡ 0
    counted_none f m h =
        tally-ext (counted f m) (λ (k : ℕ). false) n (λ k l. rw (ne_eqb (by_idx k) m (λ e. omega (arith, ranks k l)))) ∙ never n

    -- the counts of two arrays of marks, one after the other
    pub both-counts : (f g : ℕ → Bool) {a b : List ℕ}
        → Scattered 0 by_idx (is_set (column size 0 n (λ (k : ℕ). bit (f k)))) one_more (replicate size 0) n a
        → Scattered 0 by_idx (is_set (column size 0 n (λ (k : ℕ). bit (g k)))) one_more a n b
        → b ≡ column size 0 n (λ (m : ℕ). tally (counts by_idx f m) n + tally (counts by_idx g m) n)
    both-counts f g {a} {b} s t =
        filled n few (record {
          long = t.size ∙ s.size;
          done = λ m l. summed m (omega arith) ∙ rw (counted-tally f m, counted-tally g m);
          left = λ m l. past m l (dec_lt m size);
        })
      where
        summed : (m : ℕ) → m < size → get_or b m 0 ≡ tally (counted f m) n + tally (counted g m) n
        summed m l =
            let z : length (replicate {A = ℕ} size 0) ≡ size = length-replicate {A = ℕ} size 0 in
            omega (arith, t.at m (omega (arith, s.size)), s.at m (omega arith), fold-tally (counted g m) (get_or a m 0) n, fold-tally (counted f m) (get_or (replicate {A = ℕ} size 0) m 0) n, replicate-at {A = ℕ} size 0 m)

        past : (m : ℕ) → n ≤ m → Dec (m < size) → get_or b m 0 ≡ get_or (replicate {A = ℕ} size 0) m 0
        past m l (yes k) = summed m k ∙ rw (counted_none f m l, counted_none g m l) (sym (replicate-at {A = ℕ} size 0 m))
        past m l (no k) =
            get_or-eq_default b 0 (omega (arith, k, t.size, s.size, length-replicate {A = ℕ} size 0)) ∙ sym (replicate-at {A = ℕ} size 0 m)

    -- the flags of the indices, from the marks of both directions
    pub line-counts : (rule : LineRule) (minimum : ℕ) (row col : ℕ → ℕ) {rows columns a b : List ℕ}
        → rows ≡ column size 0 n (λ (k : ℕ). bit (is_flagged rule minimum row n k)) → columns ≡ column size 0 n (λ (k : ℕ). bit (is_flagged rule minimum col n k))
        → Scattered 0 by_idx (is_set rows) one_more (replicate size 0) n a → Scattered 0 by_idx (is_set columns) one_more a n b
        → b ≡ column size 0 n (λ (m : ℕ). flag_count by_idx rule minimum row n m + flag_count by_idx rule minimum col n m)
    unfolding flag_count
    line-counts rule minimum row col d e s t = both-counts (is_flagged rule minimum row n) (is_flagged rule minimum col n) (rw d at s) (rw e at t)
