-- What the program `join` prints of two files and a move. Assumes nothing.
use Rattle.std.specs.Prelude.{List, ℕ}
use Rattle.ruling.specs.Ruling.{rows_size}
use Rattle.joined.specs.Joined.{joined_ruling}
use Rattle.joined.specs.declared.moves.Move.{Move}
use Rattle.sheet_listing.specs.Text.{text_by}

-- the listing of the joined sheet, or `refused` and the number
unfoldable pub joined_text_of : List ℕ → List ℕ → Move → List ℕ
unfolding joined_ruling
joined_text_of left right m = text_by (joined_ruling left right m rows_size)
