use Rattle.std.proofs.Common.{◌≡◌, refl, sym, ap, ◌∙◌, ◌&&◌, List, [], ℕ, eqb, ltb, replicate}
use Rattle.folds.proofs.Lists.{past_end}
use Rattle.folds.proofs.Column.{replicate-at}
use Rattle.offsets.specs.Offsets.{places}
use Rattle.view.specs.View.{max_points, view_at}
use Rattle.cells.specs.Cell.{cells_at}
use Rattle.patches.specs.Patches.{labels_of}
use Rattle.patches.proofs.Agreeing.{labels-depend}
use Rattle.patches.specs.Boxes.{boundary_among, boundary_of}
use Rattle.patches.proofs.boxes.boundary.Goals as goal

-- with nothing dropped, every rank survives
all_alike : (n : ℕ) (near : ℕ → ℕ) (sides : List ℕ) → labels_of n near sides (replicate max_points 0) ≡ labels_of n near sides []
all_alike n near sides =
    labels-depend n near near sides sides (replicate max_points 0) [] (λ k h. ap (λ (x : ℕ). ltb k n && eqb x 0) (replicate-at {A = ℕ} max_points 0 k ∙ sym (past_end 0 k))) (λ a b h g. refl)

pub returns : goal.returns
unfolding boundary_of
returns c xs ys =
    let a = c.args in
    let w = view_at a.sheet.now.lattice.count a.sheet.now.lattice.ranks.now xs ys in
    c.boundary_among.ensures xs ys
    ∙ ap (λ (s : List ℕ). boundary_among w s (cells_at a.keys.now)) (c.labels.ensures [] [] ∙ all_alike w.count w.near (places a.sides.now))
