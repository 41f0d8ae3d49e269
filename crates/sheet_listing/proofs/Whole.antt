-- A buffer of listing_size bytes has room for the text of any bytes. Assumes nothing.
use Rattle.std.proofs.Common.{Result, Ok}
use mathlib.Core.Path.{◌≡◌, refl}
use mathlib.Core.List.{List}
use Prim.{Dec, yes, no}
use Prim.Native.Nat.{ℕ, ◌^◌, ◌≤◌, ◌<◌}
use native.Mathlib.Decide.{dec_lt}
use native.Mathlib.Omega.{arith}
use lib.ListN.{length, get_or, take}
use Rattle.folds.specs.Column.{column}
use Rattle.folds.proofs.Column.{column-at, column-over}
use Rattle.view.specs.View.{max_points}
use Rattle.cells.specs.Points.{Point, nowhere, key_of, keys_of, indices_of}
use Rattle.cells.proofs.Keys.{key-small, cells_are}
use Rattle.grid.specs.Views.{view_of}
use Rattle.sheet_file.specs.Bytes.{Bytes}
use Rattle.sheet_file.specs.declared.Settings.{Settings}
use Rattle.ruling.specs.Ruling.{Ruling, refused, accepted, ruling_of, rows_size}
use Rattle.ruling.proofs.Given.{is-given, sheet-number}
use Rattle.ruling.specs.Accepted.{AcceptedSheet}
use Rattle.ruling.proofs.Accepted.{sound-sheet, of-file}
use Rattle.text.specs.Answer.{Shows}
use Rattle.text.specs.declared.NoRoom.{NoRoom}
use Rattle.text.proofs.Stores.{refusal-length, shown-whole, shown-first}
use Rattle.listing.specs.Listing.{listing_size}
use Rattle.listing.proofs.Size.{listing-fits}
use Rattle.predict.specs.declared.PredictedPosition.{PredictedPosition}
use Rattle.std.specs.Prelude.{None, Some}
use Rattle.predict.proofs.Few.{fills-few}
use Rattle.drop_set.specs.Filters.{sides_of}
use Rattle.judging.specs.Judging.{judged_for, fills_for}
use Rattle.judging.proofs.Laws.{few-components, few-rounds, few-counted}
use Rattle.sheet_listing.specs.Text.{text_by, text_of}
use Rattle.sheet_listing.proofs.Laws.{text-is}

-- what is read of a column is below a bound if its entries are
column-small : (n m : ℕ) (f : ℕ → ℕ) → 0 < m → ((k : ℕ) → k < n → f k < m) → (k : ℕ) → get_or (column max_points 0 n f) k 0 < m
column-small n m f z h k = go (dec_lt k n)
  where
    go : Dec (k < n) → get_or (column max_points 0 n f) k 0 < m
    go (yes l) = rw (column-at max_points 0 n f k l) (h k l)
    go (no l) = rw (column-over max_points 0 n f k (omega (arith, l))) z

module _ (s : Settings) (ps : List Point) (a : AcceptedSheet s ps) where
  keys-small : (k : ℕ) → get_or (keys_of ps) k 0 < 2 ^ 32
  unfolding keys_of
  keys-small = column-small (length ps) (2 ^ 32) (λ (k : ℕ). key_of (get_or ps k nowhere)) (omega arith) (λ k h. omega (arith, key-small (get_or ps k nowhere) ((sound-sheet s ps a).order.inside k h)))

  index-small : (k : ℕ) → k < length ps → (get_or ps k nowhere).index < 2 ^ 32
  index-small k h = ((sound-sheet s ps a).words k h).index

  indices-small : (k : ℕ) → get_or (indices_of ps) k 0 < 2 ^ 32
  unfolding indices_of
  indices-small = column-small (length ps) (2 ^ 32) (λ (k : ℕ). (get_or ps k nowhere).index) (omega arith) index-small

  -- the square lattice has four offsets
  one-digit : (k : ℕ) (p : PredictedPosition) → get_or (fills_for s ps) k None ≡ Some p → p.n_axis_pairs < 10
  unfolding fills_for
  one-digit k p q = omega (arith, fills-few (view_of ps) (sides_of s) (judged_for s ps).marks k p q)

  pub listed-fits : length (text_by (accepted s ps)) ≤ listing_size
  listed-fits =
      let o = (sound-sheet s ps a).order in
      rw (← cells_are ps o.inside)
      (listing-fits (length ps) (keys_of ps) (indices_of ps) (judged_for s ps) (fills_for s ps) o.few (omega (arith, o.few, few-components s ps)) (omega (arith, o.few, few-rounds s ps)) (λ f. omega (arith, o.few, few-counted s ps f)) keys-small indices-small one-digit)

pub text-fits : (file : List ℕ) → Bytes file → length (text_of file) ≤ listing_size
text-fits file b = rw (text-is file) (go (ruling_of file rows_size) refl)
  where
    go : (x : Ruling) → ruling_of file rows_size ≡ x → length (text_by x) ≤ listing_size
    go (refused k) e = omega (arith, refusal-length k (omega (arith, (sheet-number k (is-given file rows_size k e).listed).high)))
    go (accepted s ps) e = listed-fits s ps (of-file file rows_size s ps b e)

-- so list_sheet, lent such a buffer, writes the text whole
pub whole : (s before after : List ℕ) (r : Result ℕ NoRoom) → Bytes s → listing_size ≤ length before → Shows (text_of s) before after r → r ≡ Ok (length (text_of s))
whole s before after r b l h = shown-whole h (omega (arith, text-fits s b))

-- and its first bytes are then the text
pub printed : (s before after : List ℕ) (r : Result ℕ NoRoom) → Bytes s → listing_size ≤ length before → Shows (text_of s) before after r → take (length (text_of s)) after ≡ text_of s
printed s before after r b l h = shown-first h (omega (arith, text-fits s b))
