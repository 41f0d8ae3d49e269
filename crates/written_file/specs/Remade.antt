-- The bytes of a file made of another and other points. Assumes nothing.
use Rattle.std.specs.Prelude.{cond, List, [], ◌++◌, ℕ, ◌-◌, take, is_some}
use Rattle.cells.specs.Points.{Point}
use Rattle.sheet_file.specs.Bytes.{le32}
use Rattle.sheet_file.specs.Frame.{layout_of, weights_of}
use Rattle.sheet_file.specs.Grammar.{field}
use Rattle.written_file.specs.File.{points_bytes, weights}

-- "Tags 1 and 2 and the fraction come from the left": the file with tags 1 and 2 of another, which stand before the tag and the length of its
-- tag 3, and with these points; and if that has a tag 4, with its fraction and their strengths
unfoldable pub remade : List ℕ → List Point → List ℕ
remade file ps =
    let f = layout_of file in
    take (f.points - 3) file ++ (field 3 (points_bytes ps) ++ cond (is_some f.weights) (weights (le32 file (weights_of f).at) ps) [])
