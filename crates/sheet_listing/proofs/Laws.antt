-- What is printed of a long file. Assumes nothing.
use mathlib.Core.Path.{◌≡◌, refl, sym, ◌∙◌}
use mathlib.Core.List.{List}
use Prim.Native.Nat.{ℕ, ◌+◌}
use lib.ListN.{take}
use Rattle.sheet_file.specs.Bytes.{Bytes}
use Rattle.sheet_file.specs.Grammar.{longest}
use Rattle.ruling.proofs.Bounds.{cut-ruling}
use Rattle.ruling.specs.Ruling.{ruling_of, rows_size}
use Rattle.sheet_listing.specs.Text.{text_by, text_of}

-- the text, as one step
pub text-is : (file : List ℕ) → text_of file ≡ text_by (ruling_of file rows_size)
unfolding text_of
text-is file = refl

-- cutting a file one byte after the length of the longest does not change what is printed
pub cut-text : (file : List ℕ) → Bytes file → text_of (take (longest + 1) file) ≡ text_of file
cut-text file b = text-is (take (longest + 1) file) ∙ rw (cut-ruling file b rows_size) (sym (text-is file))
