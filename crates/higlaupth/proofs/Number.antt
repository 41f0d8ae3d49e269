-- The returned numbers, for every file and buffer. Assumes nothing.
use Rattle.std.specs.List.{list_any}
use Rattle.std.specs.Prelude.{Ok, Err}
use mathlib.Core.Path.{◌≡◌, refl, ap}
use mathlib.Core.Bool.{Bool, true, false, cond}
use mathlib.Core.List.{List}
use mathlib.Core.Logic.{◌⊎◌, inl, inr}
use Prim.{Dec, yes, no}
use Prim.Native.Nat.{ℕ, ◌+◌, ◌-◌, ◌*◌, ◌/◌, ◌%◌, ◌^◌, ◌≤◌, ◌<◌}
use native.Mathlib.Decide.{dec_lt}
use native.Mathlib.Omega.{arith}
use borrow.Author.Tests.{leb-true, le-leb, lt-leb}
use lib.Dec.{eqb, leb}
use lib.ListN.{length}
use Rattle.refusals.proofs.Laws.{each-listed}
use Rattle.sheet_file.specs.Bytes.{Bytes}
use Rattle.ruling.specs.Ruling.{sheet_numbers}
use Rattle.ruling.proofs.Given.{sheet-number}
use Rattle.runs.specs.Run.{full}
use Rattle.runs.specs.declared.Run.{Run}
use Rattle.kept.specs.Answer.{Answer, answer_of}
use Rattle.kept.specs.declared.Counts.{Counts}
use Rattle.kept.proofs.Bounds.{counts-bounded, refusal-listed}
use Rattle.joined.specs.Joined.{join_numbers}
use Rattle.joined.specs.declared.moves.Move.{Move}
use Rattle.joined.proofs.Given.{join-listed}
use Rattle.kept_joined.specs.Answer.{joined_answer_of}
use Rattle.kept_joined.proofs.Bounds.{refused-join, join-bounded}
use Rattle.kept_in_run.specs.InRun.{answer_in_run}
use Rattle.map_lines.specs.Map.{map_size}
use Rattle.sheet_map.specs.Text.{map_text_of}
use Rattle.sheet_map.proofs.Whole.{text-fits}
use Rattle.sheet_fills.specs.Answer.{FillAnswer, fill_answer_of}
use Rattle.sheet_fills.specs.declared.FillCounts.{FillCounts}
use Rattle.sheet_fills.proofs.Bounds.{fills-bounded, fills-listed}
use Rattle.higlaupth.specs.Number.{number_of, SheetCounts, Countable, Returned, refusal, counts, JoinReturned, join-refusal, join-counts, InRunReturned, run-full, as-sheet, text_number, MapReturned, fill_number_of, FillsOfSheet, FewFills, FillsReturned, no-fills, fill-counts}

-- ---- of higlaupth_keep

few : (file : List ℕ) (room : ℕ) → Bytes file → {c : Counts} → answer_of file room ≡ Ok c → SheetCounts c.points c.components c.rounds
few file room b e = let r = counts-bounded file room b e in record { few-components = r.components; few-rounds = r.rounds; few-points = r.points }

pub returned : (file : List ℕ) (room : ℕ) → Bytes file → Returned (number_of (answer_of file room))
returned file room b = go (answer_of file room) refl
  where
    go : (a : Answer) → answer_of file room ≡ a → Returned (number_of a)
    go (Err k) e = refusal k (refusal-listed file room e)
    go (Ok c) e = counts c.points c.components c.rounds (few file room b e)

pub countable : (file : List ℕ) (room : ℕ) → Bytes file → Countable (answer_of file room)
countable file room b = go (answer_of file room) refl
  where
    go : (a : Answer) → answer_of file room ≡ a → Countable a
    go (Err k) e = tt
    go (Ok c) e = few file room b e

-- taken apart: above the low 32 bits a refusal has 0; the counts have an odd number there, above it 16 bits of rounds, and below it 16 bits of
-- points and 16 bits of components
pub refusal-apart : (number : ℕ) → list_any (eqb number) sheet_numbers ≡ true → number / 2 ^ 32 ≡ 0
refusal-apart k h = omega (arith, (sheet-number k h).high)

pub record Apart (n points components rounds : ℕ) : Type 0 where
  pub accepted : n / 2 ^ 32 % 2 ^ 16 ≡ 1
  pub points-are : n / 2 ^ 16 % 2 ^ 16 ≡ points
  pub components-are : n % 2 ^ 16 ≡ components
  pub rounds-are : n / 2 ^ 48 ≡ rounds

pub counts-apart : (points components rounds : ℕ) → SheetCounts points components rounds → Apart (2 ^ 48 * rounds + 2 ^ 32 + 2 ^ 16 * points + components) points components rounds
counts-apart p c r h = record {
  accepted = omega (arith, h.few-components, h.few-points);
  points-are = omega (arith, h.few-components, h.few-points);
  components-are = omega (arith, h.few-components, h.few-points);
  rounds-are = omega (arith, h.few-components, h.few-points);
}

-- 2,304 points in one patch, of which a chain has lost one a round but for the last
pub full-chain : number_of (Ok (record { points = 2304; components = 1; rounds = 2303 })) ≡ 648236875810603009
full-chain = refl

-- ---- of higlaupth_join

module _ (left right : List ℕ) (m : Move) (room : ℕ) (bl : Bytes left) (br : Bytes right) where
  few-joined : {c : Counts} → joined_answer_of left right m room ≡ Ok c → SheetCounts c.points c.components c.rounds
  few-joined e = let r = join-bounded left right m room bl br e in record { few-components = r.components; few-rounds = r.rounds; few-points = r.points }

  pub countable-join : Countable (joined_answer_of left right m room)
  countable-join = go (joined_answer_of left right m room) refl
    where
      go : (a : Answer) → joined_answer_of left right m room ≡ a → Countable a
      go (Err k) e = tt
      go (Ok c) e = few-joined e

  pub join-returned : JoinReturned (number_of (joined_answer_of left right m room))
  join-returned = go (joined_answer_of left right m room) refl
    where
      go : (a : Answer) → joined_answer_of left right m room ≡ a → JoinReturned (number_of a)
      go (Err k) e = join-refusal k (join-listed left right m room k (refused-join left right m room e))
      go (Ok c) e = join-counts c.points c.components c.rounds (few-joined e)

-- taken apart as a number of higlaupth_keep: a refusal has 0 above the low 32 bits
pub join-refusal-apart : (number : ℕ) → list_any (eqb number) join_numbers ≡ true → number / 2 ^ 32 ≡ 0
join-refusal-apart k h = omega (arith, leb-true k 17 (each-listed (λ (n : ℕ). leb n 17) join_numbers k refl h))

-- ---- of higlaupth_keep_in_run

module _ (r : Run) (file : List ℕ) (room : ℕ) where
  -- a full record refuses with 11; one that is not leaves the call its answer
  in-run : (P : Answer → Type 0) → P (Err 11) → P (answer_of file room) → P (answer_in_run r file room)
  unfolding answer_in_run
  in-run P a b = go (full r)
    where
      go : (f : Bool) → P (cond f (Err 11) (answer_of file room))
      go true = a
      go false = b

  pub countable-in-run : Bytes file → Countable (answer_in_run r file room)
  countable-in-run b = in-run Countable tt (countable file room b)

  pub returned-in-run : Bytes file → InRunReturned (number_of (answer_in_run r file room))
  returned-in-run b = in-run (λ (a : Answer). InRunReturned (number_of a)) run-full (as-sheet (returned file room b))

-- ---- of higlaupth_map

module _ (size room : ℕ) where
  fits : size ≤ room → text_number size room ≡ size
  fits h = ap (λ (b : Bool). cond b size (2 ^ 64 - 1)) (le-leb size room h)

  too-short : room < size → text_number size room ≡ 2 ^ 64 - 1
  too-short h = ap (λ (b : Bool). cond b size (2 ^ 64 - 1)) (lt-leb size room h)

  -- of any text that map_size bytes have room for
  by_size : size ≤ map_size → MapReturned size room
  by_size l = record {
    bounded = bounded (dec_lt room size);
    whole = fits;
    short = too-short;
    short-only = λ e. only e (dec_lt room size);
  }
    where
      bounded : Dec (room < size) → (text_number size room ≤ map_size) ⊎ (text_number size room ≡ 2 ^ 64 - 1)
      bounded (yes h) = inr (too-short h)
      bounded (no f) = inl (omega (arith, l, fits (omega (arith, f))))

      only : text_number size room ≡ 2 ^ 64 - 1 → Dec (room < size) → room < size
      only e (yes h) = h
      only e (no f) = absurd (omega (arith, l, e, fits (omega (arith, f))))

-- a text of 81 bytes, for a buffer of as many and of one less; and no text
pub room-for-line : text_number 81 81 ≡ 81
room-for-line = refl

pub no-room-for-line : text_number 81 80 ≡ 2 ^ 64 - 1
no-room-for-line = refl

pub room-for-none : text_number 0 0 ≡ 0
room-for-none = refl

pub map-returned : (file : List ℕ) (room : ℕ) → Bytes file → MapReturned (length (map_text_of file)) room
map-returned file room b = by_size (length (map_text_of file)) room (text-fits file b)

-- ---- of higlaupth_fills

module _ (file : List ℕ) (room : ℕ) (b : Bytes file) where
  few-fills : {c : FillCounts} → fill_answer_of file room ≡ Ok c → FillsOfSheet c.points c.fills
  few-fills e = let r = fills-bounded file room b e in record { few-fills = r.fills; few-points = r.points }

  pub few-filled : FewFills (fill_answer_of file room)
  few-filled = go (fill_answer_of file room) refl
    where
      go : (a : FillAnswer) → fill_answer_of file room ≡ a → FewFills a
      go (Err k) e = tt
      go (Ok c) e = few-fills e

  pub fills-returned : FillsReturned (fill_number_of (fill_answer_of file room))
  fills-returned = go (fill_answer_of file room) refl
    where
      go : (a : FillAnswer) → fill_answer_of file room ≡ a → FillsReturned (fill_number_of a)
      go (Err k) e = no-fills k (fills-listed file room e)
      go (Ok c) e = fill-counts c.points c.fills (few-fills e)

-- taken apart: above the low 32 bits the counts have 1, and below it 16 bits of points and 16 bits of fills
pub fill-counts-apart : (points fills : ℕ) → FillsOfSheet points fills → let n = 2 ^ 32 + 2 ^ 16 * points + fills in (n / 2 ^ 32 ≡ 1) × (n / 2 ^ 16 % 2 ^ 16 ≡ points) × (n % 2 ^ 16 ≡ fills)
fill-counts-apart p f h = (omega (arith, h.few-fills, h.few-points), omega (arith, h.few-fills, h.few-points), omega (arith, h.few-fills, h.few-points))

-- 2,304 points, all dropped
all-dropped : fill_number_of (Ok (record { points = 2304; fills = 2304 })) ≡ 4445964544
all-dropped = refl
