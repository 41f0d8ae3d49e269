-- The bytes of fills: how many there are, and where they stand in the buffer. Assumes nothing.
use Rattle.std.proofs.Common.{◌≡◌, ℕ, zero, suc, ◌+◌, ◌-◌, ◌*◌, ◌%◌, ◌^◌, ◌<◌, ◌≤◌, Bool, true, false, cond, not, eqb, List, [], ◌++◌, length, get_or, drop, pos, ◌-ℤ◌, sym, refl, ap, ◌∙◌, arith, length-append, take_all, w32, of_z, le-ltb, lt-ltb}
use Prim.{Dec, yes, no}
use native.Mathlib.Decide.{dec_lt}
use Rattle.folds.specs.Below.{tally}
use Rattle.folds.proofs.Below.{tally-none, tally-more, tally-le}
use Rattle.cells.specs.Points.{bias}
use Rattle.cells.specs.Cell.{Cell}
use Rattle.predict.specs.Predict.{Prediction}
use Rattle.std.specs.Prelude.{None, Some, Result, Ok}
use Rattle.text.specs.Answer.{Shows}
use Rattle.text.specs.Text.{each}
use Rattle.text.specs.declared.NoRoom.{NoRoom}
use Rattle.text.proofs.Stores.{each_none, each_more, shown-whole}
use Rattle.sheet_fills.specs.Bytes.{fill_size, prediction_bytes, fill_bytes, bytes_for, fills_bytes, dropped_count}

-- ---- a cell number as i32

difference_below : (a b : ℕ) → a < b → of_z w32 (pos a -ℤ pos b) ≡ 2 ^ 32 - (b - a)
difference_below a zero h = absurd (omega arith)
difference_below a (suc b) h = let e : suc (suc b - suc a) ≡ suc b - a = omega arith in rw (lt-ltb a (suc b) h, e)

difference-from : (a b : ℕ) → b ≤ a → of_z w32 (pos a -ℤ pos b) ≡ a - b
difference-from a zero h = omega arith
difference-from a (suc b) h = rw (le-ltb a (suc b) h)

pub unbiased : (b r : ℕ) → b < 2 ^ 32 → r < 2 ^ 32 → (r + bias) % 2 ^ 32 ≡ b → r ≡ of_z w32 (pos b -ℤ pos bias)
unbiased b r h l e = go (dec_lt b bias)
  where
    go : Dec (b < bias) → r ≡ of_z w32 (pos b -ℤ pos bias)
    go (yes m) = rw (difference_below b bias m) (omega arith)
    go (no m) = rw (difference-from b bias (omega (arith, m))) (omega (arith, m))

-- ---- how many bytes there are

fill-long : (c : Cell) (x : Prediction) → length (fill_bytes c x) ≡ fill_size
unfolding fill_bytes prediction_bytes
fill-long c None = refl
fill-long c (Some p) = refl

module _ (cell : ℕ → Cell) (marks : List ℕ) (fills : List Prediction) where
  abbrev pub piece : ℕ → List ℕ
  piece k = bytes_for (cell k) (get_or marks k 0) (get_or fills k None)

  piece-long : (k : ℕ) → length (piece k) ≡ cond (not (eqb (get_or marks k 0) 0)) fill_size 0
  piece-long k = go (eqb (get_or marks k 0) 0)
    where
      go : (b : Bool) → length (cond b [] (fill_bytes (cell k) (get_or fills k None))) ≡ cond (not b) fill_size 0
      go true = refl
      go false = fill-long (cell k) (get_or fills k None)

  abbrev dropped : ℕ → Bool
  dropped k = not (eqb (get_or marks k 0) 0)

  one-more : (n : ℕ) (b : Bool) → dropped n ≡ b → length (each piece n) ≡ fill_size * tally dropped n → length (each piece n ++ piece n) ≡ fill_size * cond (dropped n) (tally dropped n + 1) (tally dropped n)
  one-more n true e h = rw e (omega (arith, length-append (each piece n) (piece n), piece-long n ∙ ap (λ (b : Bool). cond b fill_size 0) e, h))
  one-more n false e h = rw e (omega (arith, length-append (each piece n) (piece n), piece-long n ∙ ap (λ (b : Bool). cond b fill_size 0) e, h))

  -- 20 for each dropped rank
  pub bytes-long : (n : ℕ) → length (fills_bytes cell marks fills n) ≡ fill_size * dropped_count marks n
  unfolding fills_bytes dropped_count
  bytes-long zero = ap length (each_none piece) ∙ sym (ap (λ (c : ℕ). fill_size * c) (tally-none dropped))
  bytes-long (suc n) =
      let s : suc n ≡ n + 1 = omega arith in
      ap (λ (m : ℕ). length (each piece m)) s ∙ ap length (each_more piece n) ∙ one-more n (dropped n) refl (bytes-long n)
      ∙ sym (ap (λ (m : ℕ). fill_size * tally dropped m) s ∙ ap (λ (c : ℕ). fill_size * c) (tally-more dropped n))

  pub bytes-few : (n : ℕ) → length (fills_bytes cell marks fills n) ≤ fill_size * n
  unfolding dropped_count
  bytes-few n = omega (arith, bytes-long n, tally-le (λ (k : ℕ). not (eqb (get_or marks k 0) 0)) n)

-- ---- where they stand

-- a text that fits stands whole at the start of the buffer
pub fits_whole : {l t m : List ℕ} {r : Result ℕ NoRoom} → Shows t l m r → length t ≤ length l → (r ≡ Ok (length t)) × (m ≡ t ++ drop (length t) l)
fits_whole {l} {t} s h = (
  shown-whole s h,
  s.buffer ∙ ap (λ (x : List ℕ). x ++ drop (length t) l) (take_all (length l) t h),
)
