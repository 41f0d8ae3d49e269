-- How pieces of a text in a buffer join, and what the whole leaves. Assumes nothing.
use mathlib.Core.Path.{◌≡◌, refl, ap, sym, ◌∙◌}
use mathlib.Core.Bool.{Bool, true, false, cond}
use mathlib.Core.List.{List, [], ◌∷◌, ◌++◌}
use Prim.Native.Nat.{ℕ, zero, suc, ◌+◌, ◌-◌, ◌*◌, ◌≤◌, ◌<◌}
use native.Mathlib.Nat.{mul-suc}
use native.Mathlib.Numerals.{add-one}
use native.Mathlib.Decide.{dec_le}
use native.Mathlib.Omega.{arith}
use borrow.Author.Tests.{lt-ltb, le-ltb, lt-leb, leb-true}
use lib.Dec.{leb}
use lib.ListN.{length, take, drop, set, length-append, length-set}
use lib.Seq.{set_out, take-append_seam}
use Rattle.folds.proofs.Below.{fold-none, fold_more, fold-ext}
use Rattle.text.specs.Text.{bytes, each, spaces, right_aligned, refusal_of}
use Rattle.text.specs.Stored.{next_place, place_after, laid, Stored}
use Rattle.text.proofs.Numbers.{below_or_not, decimal-length}
use Rattle.text.specs.declared.NoRoom.{NoRoom}
use Rattle.text.specs.declared.Writer.{Writer}
use Rattle.std.proofs.Common.{Result, Ok, Err, MutBor, le-leb, take_all}
use Rattle.text.specs.Answer.{no_room, written_of, Shows}

length-laid : (l : List ℕ) (at : ℕ) (t : List ℕ) → length (laid l at t) ≡ length l
length-laid l at [] = refl
length-laid l at (c ∷ t) = length-laid (set l at c) (next_place (length l) at) t ∙ length-set l at c

laid_then : (l : List ℕ) (at : ℕ) (s t : List ℕ) → laid (laid l at s) (place_after (length l) at s) t ≡ laid l at (s ++ t)
laid_then l at [] t = refl
laid_then l at (c ∷ s) t =
    ap (λ (n : ℕ). laid (laid (set l at c) (next_place (length l) at) s) (place_after n (next_place (length l) at) s) t) (sym (length-set l at c))
    ∙ laid_then (set l at c) (next_place (length l) at) s t

place-then : (size at : ℕ) (s t : List ℕ) → place_after size (place_after size at s) t ≡ place_after size at (s ++ t)
place-then size at [] t = refl
place-then size at (c ∷ s) t = place-then size (next_place size at) s t

pub stored-length : {w v : Writer} {t : List ℕ} → Stored w t v → length v.out.now ≡ length w.out.now
stored-length {w} {v} {t} p = ap length p.buffer ∙ length-laid w.out.now w.at t

module _ {w : Writer} where
  -- nothing is stored
  pub stored-none : Stored w [] w
  stored-none = record { buffer = refl; place = refl; same = refl }

  -- a text, and another after it
  pub stored-then : {v u : Writer} {s t : List ℕ} → Stored w s v → Stored v t u → Stored w (s ++ t) u
  stored-then {v} {u} {s} {t} p q =
      record {
        buffer = q.buffer ∙ rw (p.buffer, p.place) (laid_then w.out.now w.at s t);
        place = q.place ∙ rw (stored-length p, p.place) (place-then (length w.out.now) w.at s t);
        same = q.same ∙ p.same;
      }

pub each_none : (f : ℕ → List ℕ) → each f 0 ≡ []
unfolding each
each_none f = fold-none (λ k t. t ++ f k) []

pub each_more : (f : ℕ → List ℕ) (k : ℕ) → each f (k + 1) ≡ each f k ++ f k
unfolding each
each_more f k = fold_more (λ k t. t ++ f k) [] k

pub each-ext : (f g : ℕ → List ℕ) (n : ℕ) → ((k : ℕ) → k < n → f k ≡ g k) → each f n ≡ each g n
unfolding each
each-ext f g n h = fold-ext (λ k t. t ++ f k) (λ k t. t ++ g k) [] n (λ k l b. ap (λ (t : List ℕ). b ++ t) (h k l))

module _ (f : ℕ → List ℕ) {w : Writer} where
  pub stored-start : Stored w (each f 0) w
  stored-start = rw (each_none f) stored-none

  -- one turn more of a loop
  pub stored_more : {k : ℕ} {v u : Writer} → Stored w (each f k) v → Stored v (f k) u → Stored w (each f (k + 1)) u
  stored_more {k} p q = rw (each_more f k) (stored-then p q)

-- ---- the whole text

-- past the end nothing is stored
laid-past : (l : List ℕ) (at : ℕ) (t : List ℕ) → length l ≤ at → laid l at t ≡ l
laid-past l at [] h = refl
laid-past l at (c ∷ t) h = rw (set_out l at c h, le-ltb at (length l) h) (laid-past l (length l + 1) t (omega arith))

laid_cons : (x : ℕ) (l : List ℕ) (at : ℕ) (t : List ℕ) → laid (x ∷ l) (suc at) t ≡ x ∷ laid l at t
laid_cons x l at [] = refl
laid_cons x l at (c ∷ t) =
    below_or_not (λ (p : ℕ). laid (x ∷ set l at c) p t ≡ x ∷ laid (set l at c) (next_place (length l) at) t) (suc at) (suc (length l))
    (λ h. let s : suc at + 1 ≡ suc (at + 1) = omega arith in rw (lt-ltb at (length l) (omega arith), s) (laid_cons x (set l at c) (at + 1) t))
    (λ h. let s : suc (length l) + 1 ≡ suc (length l + 1) = omega arith in rw (le-ltb at (length l) (omega arith), s) (laid_cons x (set l at c) (length l + 1) t))

-- the text, cut off at the buffer's end, and what stood beyond
laid-whole : (l t : List ℕ) → laid l 0 t ≡ take (length l) t ++ drop (length t) l
laid-whole [] [] = refl
laid-whole (x ∷ l) [] = refl
laid-whole [] (c ∷ t) = laid-past [] 0 (c ∷ t) (omega arith)
laid-whole (x ∷ l) (c ∷ t) = rw (lt-ltb 0 (suc (length l)) (omega arith)) (laid_cons c l 0 t) ∙ ap (λ (m : List ℕ). c ∷ m) (laid-whole l t)

place-past : (size : ℕ) (t : List ℕ) → place_after size (size + 1) t ≡ size + 1
place-past size [] = refl
place-past size (c ∷ t) = rw (le-ltb (size + 1) size (omega arith)) (place-past size t)

place-within : (size at : ℕ) (t : List ℕ) → at + length t ≤ size → place_after size at t ≡ at + length t
place-within size at [] h = omega arith
place-within size at (c ∷ t) h = rw (lt-ltb at size (omega arith)) (place-within size (at + 1) t (omega arith) ∙ omega arith)

place-beyond : (size at : ℕ) (t : List ℕ) → at ≤ size → size < at + length t → place_after size at t ≡ size + 1
place-beyond size at [] h l = absurd (omega arith)
place-beyond size at (c ∷ t) h l = below_or_not (λ (p : ℕ). place_after size p t ≡ size + 1) at size (λ b. place-beyond size (at + 1) t (omega arith) (omega arith)) (λ b. place-past size t)

same_answer : (size : ℕ) (t : List ℕ) → written_of (place_after size 0 t) size ≡ written_of (length t) size
same_answer size t = elim (dec_le (length t) size) [
  | yes h ↦ rw (place-within size 0 t (omega arith)) (let z : 0 + length t ≡ length t = omega arith in rw z)
  | no h ↦ rw (place-beyond size 0 t (omega arith) (omega arith), lt-leb (size + 1) size (omega arith), lt-leb (length t) size (omega arith))
]

-- what a writer of a lent buffer stored from its start on; `after` is what the lender has then
pub shows : {w v : Writer} {lent : MutBor (List ℕ)} {t after : List ℕ} {r : Result ℕ NoRoom}
    → w ≡ record { out = lent; at = 0 } → Stored w t v → r ≡ written_of v.at (length v.out.now)
    → (lent.ghost_name ≡ v.out.ghost_name → after ≡ v.out.now) → Shows t lent.now after r
shows {w} {v} {lent} {t} {after} {r} e p q back =
    let p' : Stored (record { out = lent; at = 0 }) t v = rw e at p in
    record {
      buffer = back (sym p'.same) ∙ p'.buffer ∙ laid-whole lent.now t;
      answer = q ∙ rw (stored-length p', p'.place) (same_answer (length lent.now) t);
    }

-- a text that is written whole ends within the buffer
pub shown-within : {t before after : List ℕ} {r : Result ℕ NoRoom} {n : ℕ} → Shows t before after r → r ≡ Ok n → n ≤ length before
shown-within {t} {before} {after} {r} {n} h e = go (leb (length t) (length before)) refl (sym h.answer ∙ e)
  where
    go : (b : Bool) → leb (length t) (length before) ≡ b → cond b (Ok (length t)) (Err no_room) ≡ Ok n → n ≤ length before
    go true l q = let z : length t ≡ n = cc in omega (arith, leb-true (length t) (length before) l)
    go false l q = absurd (let z : ◌≡◌ {A = ℕ} 0 1 = cc in omega arith)

-- a text for which there is room is written whole, and stands before its end
module _ {t before after : List ℕ} {r : Result ℕ NoRoom} (h : Shows t before after r) (room : length t ≤ length before) where
  pub shown-whole : r ≡ Ok (length t)
  shown-whole = h.answer ∙ rw (le-leb (length t) (length before) room)

  pub shown-first : take (length t) after ≡ t
  shown-first = rw (h.buffer, take_all (length before) t room) (take-append_seam t (drop (length t) before))

-- ---- how long a text is

pub each-length : (f : ℕ → List ℕ) (c n : ℕ) → ((k : ℕ) → k < n → length (f k) ≤ c) → length (each f n) ≤ c * n
each-length f c zero h = rw (each_none f) (omega arith)
each-length f c (suc n) h =
    rw (← add-one n, each_more f n, length-append (each f n) (f n), add-one n, mul-suc c n)
    (omega (arith, each-length f c n (λ k l. h k (omega arith)), h n (omega arith)))

pub each_long : (f : ℕ → List ℕ) (c n : ℕ) → ((k : ℕ) → k < n → length (f k) ≡ c) → length (each f n) ≡ c * n
each_long f c zero h = rw (each_none f) (omega arith)
each_long f c (suc n) h =
    rw (← add-one n, each_more f n, length-append (each f n) (f n), add-one n, mul-suc c n)
    (omega (arith, each_long f c n (λ k l. h k (omega arith)), h n (omega arith)))

spaces-long : (n : ℕ) → length (spaces n) ≡ 1 * n
unfolding spaces
spaces-long n = each_long (λ k. bytes " ") 1 n (λ k l. refl)

-- a text that is not wider than asked for is made as wide
pub right-length : (width : ℕ) (t : List ℕ) → length t ≤ width → length (right_aligned width t) ≡ width
unfolding right_aligned
right-length width t h = length-append (spaces (width - length t)) t ∙ omega (arith, spaces-long (width - length t))

pub refusal-length : (k : ℕ) → k < 1000 → length (refusal_of k) ≤ 12
unfolding refusal_of
refusal-length k h = simp length-append (omega (arith, decimal-length 2 k (omega arith)))
