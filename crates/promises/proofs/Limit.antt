-- The limit of points, of the call and of the programs `sheet` and `map`: a number is ruled exactly where it is answered and printed. Assumes nothing.
use Rattle.std.specs.Prelude.{Err}
use mathlib.Core.Path.{◌≡◌, refl, sym, ap, ◌∙◌}
use mathlib.Core.List.{List}
use Prim.Native.Nat.{ℕ}
use native.Mathlib.Omega.{arith}
use lib.ListN.{length, get_or}
use Rattle.cells.specs.Points.{indices_of}
use Rattle.cells.specs.Cell.{Cell, cells_of}
use Rattle.sheet_file.specs.Bytes.{Bytes}
use Rattle.ruling.specs.Ruling.{Ruling, refused, accepted, ruling_of, rows_size}
use Rattle.ruling.proofs.Limit.{limit}
use Rattle.judged.specs.Judged.{Judged}
use Rattle.predict.specs.Predict.{Prediction}
use Rattle.judging.specs.Judging.{judged_for, fills_for}
use Rattle.text.specs.Text.{refusal_of}
use Rattle.listing.specs.Listing.{listing_of}
use Rattle.map_lines.proofs.Start.{refusal-first}
use Rattle.kept.specs.Answer.{answer_by, answer_of}
use Rattle.kept.proofs.Bounds.{refused-ruling}
use Rattle.sheet_listing.specs.Text.{text_by, text_of}
use Rattle.sheet_listing.proofs.Laws.{text-is}
use Rattle.sheet_map.proofs.Laws.{older-first, number-given}
use Rattle.sheet_map.proofs.Texts.{number-printed, number_read}
use Rattle.promises.specs.Limit.{AllRefuse, NoneRefuses, LimitShownPromise}

-- ---- the call

number-answered : (file : List ℕ) (room k : ℕ) → ruling_of file room ≡ refused k → answer_of file room ≡ Err k
unfolding answer_of
number-answered file room k e = ap answer_by e

-- ---- the listing

number-listed : (file : List ℕ) (k : ℕ) → ruling_of file rows_size ≡ refused k → text_of file ≡ refusal_of k
number-listed file k e = text-is file ∙ ap text_by e

-- a listing begins with the p of `points`, a refusal with the r of `refused`
listing-first : (n : ℕ) (cell : ℕ → Cell) (indices : List ℕ) (j : Judged) (fills : List Prediction) → get_or (listing_of n cell indices j fills) 0 0 ≡ 112
unfolding listing_of
listing-first n cell indices j fills = refl

no-refusal : (n : ℕ) (cell : ℕ → Cell) (indices : List ℕ) (j : Judged) (fills : List Prediction) (k : ℕ) → listing_of n cell indices j fills ≡ refusal_of k → ⊥
no-refusal n cell indices j fills k e =
    let z : ◌≡◌ {A = ℕ} 112 114 = sym (listing-first n cell indices j fills) ∙ ap (λ (t : List ℕ). get_or t 0 0) e ∙ refusal-first k in
    omega arith

-- so a refusal is printed of its own number alone; that two numbers are printed apart is known from the map
pub listing-read : (file : List ℕ) → Bytes file → (k : ℕ) → text_of file ≡ refusal_of k → ruling_of file rows_size ≡ refused k
listing-read file b k e = go (ruling_of file rows_size) refl
  where
    go : (x : Ruling) → ruling_of file rows_size ≡ x → ruling_of file rows_size ≡ refused k
    go (refused j) q =
        let m = older-first file j q in
        q ∙ sym m ∙ number_read file b k (number-printed file j m ∙ sym (number-listed file j q) ∙ e)
    go (accepted s ps) q = absurd (no-refusal (length ps) (cells_of ps) (indices_of ps) (judged_for s ps) (fills_for s ps) k (sym (text-is file ∙ ap text_by q) ∙ e))

-- ---- the three, by the ruling with the buffer and that of the programs

module _ (file : List ℕ) (room k : ℕ) where
  all-refuse : ruling_of file room ≡ refused k → ruling_of file rows_size ≡ refused k → AllRefuse file room k
  all-refuse e f = record { answer = number-answered file room k e; listing = number-listed file k f; map = number-printed file k (older-first file k f) }

  none-refuses : Bytes file → (k ≡ 10 → ⊥) → (ruling_of file room ≡ refused k → ⊥) → (ruling_of file rows_size ≡ refused k → ⊥) → NoneRefuses file room k
  none-refuses b n e f = record {
    answer = λ q. e (refused-ruling file room q);
    listing = λ q. f (listing-read file b k q);
    map = λ q. f (number-given file k (number_read file b k q) n);
  }

pub limit-shown : LimitShownPromise
limit-shown file room b =
    let call = limit file room b in
    let printed = limit file rows_size b in
    let one-not-ten : ◌≡◌ {A = ℕ} 1 10 → ⊥ = λ q. omega arith in
    let twelve-not-ten : ◌≡◌ {A = ℕ} 12 10 → ⊥ = λ q. omega arith in
    let two-not-ten : ◌≡◌ {A = ℕ} 2 10 → ⊥ = λ q. omega arith in
    record {
      one = λ f. all-refuse file room 1 (call.one f) (printed.one f);
      one_only = λ w. none-refuses file room 1 b one-not-ten (λ e. call.one_only e w) (λ e. printed.one_only e w);
      twelve = λ w f. all-refuse file room 12 (call.twelve w f) (printed.twelve w f);
      twelve-only = λ o. none-refuses file room 12 b twelve-not-ten (λ e. let v = call.twelve-only e in v.1 (o v.0)) (λ e. let v = printed.twelve-only e in v.1 (o v.0));
      two = λ w o l. all-refuse file room 2 (call.two w o l) (printed.two w o l);
      two-only = λ f. none-refuses file room 2 b two-not-ten (λ e. let v = call.two-only e in f v.0 v.1) (λ e. let v = printed.two-only e in f v.0 v.1);
      passes = λ w l. record {
        not-one = none-refuses file room 1 b one-not-ten (call.passes w l).not-one (printed.passes w l).not-one;
        not-two = none-refuses file room 2 b two-not-ten (call.passes w l).not-two (printed.passes w l).not-two;
      };
    }
