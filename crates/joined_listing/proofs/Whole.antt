-- A buffer of listing_size bytes has room for the text of any two files and any move. Assumes nothing.
use Rattle.std.proofs.Common.{Result, Ok}
use Rattle.std.specs.List.{list_any}
use mathlib.Core.Path.{◌≡◌, refl}
use mathlib.Core.Bool.{true}
use mathlib.Core.List.{List}
use Prim.Native.Nat.{ℕ, ◌≤◌}
use native.Mathlib.Omega.{arith}
use lib.Dec.{eqb, leb}
use lib.ListN.{length}
use borrow.Author.Tests.{leb-true}
use Rattle.refusals.proofs.Laws.{each-listed}
use Rattle.sheet_file.specs.Bytes.{Bytes}
use Rattle.ruling.specs.Ruling.{Ruling, refused, accepted, rows_size}
use Rattle.joined.specs.Joined.{join_numbers, joined_ruling}
use Rattle.joined.specs.declared.moves.Move.{Move}
use Rattle.joined.proofs.Accepted.{accepted-join}
use Rattle.joined.proofs.Given.{join-listed}
use Rattle.text.specs.Answer.{Shows}
use Rattle.text.specs.declared.NoRoom.{NoRoom}
use Rattle.text.proofs.Stores.{refusal-length, shown-whole}
use Rattle.listing.specs.Listing.{listing_size}
use Rattle.sheet_listing.specs.Text.{text_by}
use Rattle.sheet_listing.proofs.Whole.{listed-fits}
use Rattle.joined_listing.specs.Text.{joined_text_of}
use Rattle.joined_listing.proofs.Cases.{joined-text-is}

-- a number of a join has at most two digits
number-small : (k : ℕ) → list_any (eqb k) join_numbers ≡ true → k ≤ 17
number-small k h = leb-true k 17 (each-listed (λ (n : ℕ). leb n 17) join_numbers k refl h)

pub joined-text-fits : (left right : List ℕ) (m : Move) → Bytes left → Bytes right → length (joined_text_of left right m) ≤ listing_size
joined-text-fits left right m bl br = rw (joined-text-is left right m) (go (joined_ruling left right m rows_size) refl)
  where
    go : (x : Ruling) → joined_ruling left right m rows_size ≡ x → length (text_by x) ≤ listing_size
    go (refused k) e = omega (arith, refusal-length k (omega (arith, number-small k (join-listed left right m rows_size k e))))
    go (accepted s ps) e = listed-fits s ps (accepted-join left right m rows_size s ps bl br e)

-- so list_joined, lent such a buffer, writes the text whole
pub joined-whole : (left right : List ℕ) (m : Move) (before after : List ℕ) (r : Result ℕ NoRoom) → Bytes left → Bytes right → listing_size ≤ length before
    → Shows (joined_text_of left right m) before after r → r ≡ Ok (length (joined_text_of left right m))
joined-whole left right m before after r bl br l h = shown-whole h (omega (arith, joined-text-fits left right m bl br))
