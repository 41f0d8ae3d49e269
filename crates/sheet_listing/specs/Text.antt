-- "What the program `sheet` prints": the text of any bytes. Assumes nothing.
use Rattle.std.specs.Prelude.{List, ℕ, length}
use Rattle.cells.specs.Points.{indices_of}
use Rattle.cells.specs.Cell.{cells_of}
use Rattle.ruling.specs.Ruling.{Ruling, refused, accepted, ruling_of, rows_size}
use Rattle.judging.specs.Judging.{judged_for, fills_for}
use Rattle.text.specs.Text.{refusal_of}
use Rattle.listing.specs.Listing.{listing_of}

-- "A refusal prints `refused` and the number"; else the listing of the points in cell order, of what is judged of them, and of their fills
abbrev pub text_by : Ruling → List ℕ
text_by (refused k) = refusal_of k
text_by (accepted s ps) = listing_of (length ps) (cells_of ps) (indices_of ps) (judged_for s ps) (fills_for s ps)

-- of a file's bytes
unfoldable pub text_of : List ℕ → List ℕ
unfolding ruling_of judged_for fills_for cells_of indices_of listing_of refusal_of
text_of file = text_by (ruling_of file rows_size)
