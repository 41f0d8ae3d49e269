-- A residual as it is printed, from the points of a sheet, by computation: four neighbours place a corner at (100,100), and it is seen at
-- (103,104). Assumes nothing.
use Rattle.std.specs.Prelude.{◌≡◌, refl, List, [], ◌∷◌}
use Rattle.cells.specs.Points.{Point}
use Rattle.cells.specs.Cell.{cells_of}
use Rattle.grid.specs.Views.{view_of}
use Rattle.local_h.specs.Residual.{residual_at}
use Rattle.text.specs.Text.{bytes}
use Rattle.listing.specs.Listing.{residual_text, distance_text}
use Rattle.stars.specs.Stars.{pt, rules-compute}

-- cells (0,1), (1,0), (1,1), (1,2), (2,1) with indices 10 to 14, in cell order
abbrev pub cross : List Point
cross =
    pt 0 1 10 0 0x42c8_0000
    ∷ pt 1 0 11 0x42c8_0000 0
    ∷ pt 1 1 12 0x42ce_0000 0x42d0_0000
    ∷ pt 1 2 13 0x42c8_0000 0x4348_0000
    ∷ pt 2 1 14 0x4348_0000 0x42c8_0000
    ∷ []

-- "the listing puts `=` directly after a residual whose remainder is 0": this is the root of 3² + 4²
pub middle-exact : residual_text (residual_at (view_of cross) (cells_of cross) 2) ≡ bytes "40A00000="
unfolding distance_text rules-compute
middle-exact = refl
