-- The limit of points, of the call and of the programs `sheet` and `map`: sheets of zeros at the limit, above it, of the most points that can be framed, and of
-- one more, by laws and not by computing over the bytes; and one whose tag 4 does not fit. Assumes nothing.
use Rattle.std.specs.Prelude.{Err}
use mathlib.Core.Path.{◌≡◌, refl}
use mathlib.Core.List.{List, [], ◌++◌}
use mathlib.Core.Logic.{inl}
use Prim.Native.Nat.{ℕ, ◌+◌, ◌*◌, ◌≤◌, ◌<◌}
use native.Mathlib.Omega.{arith}
use lib.ListN.{length, replicate, length-replicate}
use Rattle.view.specs.View.{max_points}
use Rattle.sheet_file.specs.Bytes.{Bytes}
use Rattle.sheet_file.specs.Grammar.{field, WellFramed, most_records}
use Rattle.ruling.specs.Limit.{point_count, short_sheet, zero_sheet}
use Rattle.ruling.proofs.Limit.{limit, short-framed, zero-bytes, zero-unframed}
use Rattle.ruling.proofs.Weights.{none-empty, bytes-by}
use Rattle.kept.specs.Answer.{answer_of}
use Rattle.promises.specs.Limit.{AllRefuse, NoneRefuses, PassesShown, LimitShown}
use Rattle.promises.proofs.Limit.{limit-shown}
use Rattle.stars.specs.Stars.{rules-compute}
use Rattle.stars.specs.Listed.{file-computes}

-- ---- n points of zeros, by n

module _ (n room : ℕ) where
  framed : n ≤ most_records → (w : WellFramed (zero_sheet n)) × (point_count w ≡ n) × (length w.weights ≡ 0)
  framed l = short-framed (replicate (20 * n) 0) n (length-replicate {A = ℕ} (20 * n) 0) l

  shown : LimitShown (zero_sheet n) room
  shown = limit-shown (zero_sheet n) room (zero-bytes n)

  few-shown : n ≤ max_points → PassesShown (zero_sheet n) room
  few-shown l = let w = framed (omega arith) in shown.passes w.0 (omega (arith, w.1))

  many-shown : max_points < n → n ≤ most_records → AllRefuse (zero_sheet n) room 2
  many-shown l m = let w = framed m in shown.two w.0 (inl w.2) (omega (arith, w.1))

  unframed : most_records < n → WellFramed (zero_sheet n) → ⊥
  unframed l = (limit (zero_sheet n) room (zero-bytes n)).one_only (zero-unframed n room l)

-- "2,304 points pass": none of the three refuses with 1 or with 2
pub limit-passes : (n room : ℕ) → n ≡ 2304 → PassesShown (zero_sheet n) room
limit-passes n room e = few-shown n room (omega arith)

-- "and 2,305 give refusal 2": all three, whatever the buffer
pub above-limit-shown : (n room : ℕ) → n ≡ 2305 → AllRefuse (zero_sheet n) room 2
above-limit-shown n room e = many-shown n room (omega arith) (omega arith)

-- so do the most points that a length field can hold
pub most-shown : (n room : ℕ) → n ≡ 3276 → AllRefuse (zero_sheet n) room 2
most-shown n room e = many-shown n room (omega arith) (omega arith)

-- "on longer lists the program still tells 1 from 2": with one more point the file is not well framed
pub past-most-shown : (n room : ℕ) → n ≡ 3277 → AllRefuse (zero_sheet n) room 1
past-most-shown n room e = (shown n room).one (unframed n room (omega arith))

-- and none of the three says 2: "well framed" is needed
pub past-most-not-two : (n room : ℕ) → n ≡ 3277 → NoneRefuses (zero_sheet n) room 2
past-most-not-two n room e = (shown n room).two-only (λ w o. unframed n room (omega arith) w)

pub framing-needed-shown : ((n room : ℕ) → max_points < n → AllRefuse (zero_sheet n) room 2) → ⊥
framing-needed-shown f = let n = most_records + 1 in (past-most-not-two n 0 (omega arith)).answer (f n 0 (omega arith)).answer

-- the call may still refuse with 3 what passes: one point, and a buffer one byte too short
pub one_passes : PassesShown (zero_sheet 1) 27
one_passes = few-shown 1 27 (omega arith)

pub one-three : answer_of (zero_sheet 1) 27 ≡ Err 3
unfolding answer_of short_sheet file-computes rules-compute
one-three = refl

-- ---- a tag 4 that does not fit: no points, and tag 4 with length 0, which lacks the fraction

abbrev unfit : List ℕ
unfit = short_sheet [] ++ field 4 []

unfit-bytes : Bytes unfit
unfolding short_sheet
unfit-bytes = bytes-by unfit refl

-- all three refuse with 12, whatever the buffer
pub unfit-shown : (room : ℕ) → AllRefuse unfit room 12
unfit-shown room = let w = (limit unfit 0 unfit-bytes).twelve-only none-empty in (limit-shown unfit room unfit-bytes).twelve w.0 w.1

-- so that none of the three refuses a well-framed file with 12 needs that its tag 4 fits
pub fit-needed-shown : ((file : List ℕ) (room : ℕ) → Bytes file → WellFramed file → NoneRefuses file room 12) → ⊥
fit-needed-shown f = (f unfit 0 unfit-bytes ((limit unfit 0 unfit-bytes).twelve-only none-empty).0).answer (unfit-shown 0).answer
