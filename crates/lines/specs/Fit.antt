-- The line fitted to some points by total least squares, and the distance of a point from it: the formulas of `flag_line` in lines.rs,
-- with its operations in its order. The points are given by their ranks; x and y are functions of rank. Assumes nothing.
use Rattle.std.specs.List.{fold}
use Rattle.std.specs.Prelude.{cond, List, ℕ, pos, length, Float}
use Rattle.std.specs.Float.{binary32}
use Rattle.std.specs.Float.Ieee.{of_bits, of_int, add, sub, mul, div, neg, lt, le}
use Rattle.float.specs.Constants.{zero, quarter, half, one, epsilon}
use Rattle.float.specs.Root.{root_of}
use Rattle.float.specs.Scalar.{abs_of, max_of, norm_of}
use Rattle.folds.specs.Arith.{◌⊕◌, ◌⊖◌, ◌⊗◌, ◌⊘◌}
use Rattle.lines.specs.declared.Line.{Line}
use Rattle.lines.specs.declared.Vector.{Vector}

-- the sum of f j over the ranks j of l, in their order, divided by how many they are
unfoldable pub mean_over : (ℕ → Float) → List ℕ → Float
unfolding add div of_int of_bits
mean_over f l = fold (λ (s : Float) (j : ℕ). s ⊕ f j) zero l ⊘ of_int binary32 (pos (length l))

-- the sum of (f j - a) * (g j - b) over the ranks j of l, in their order
unfoldable pub moment_of : (ℕ → Float) → Float → (ℕ → Float) → Float → List ℕ → Float
unfolding add sub mul of_bits
moment_of f a g b l = fold (λ (s : Float) (j : ℕ). s ⊕ (f j ⊖ a) ⊗ (g j ⊖ b)) zero l

-- the larger eigenvalue of the matrix of the moments
unfoldable pub larger_eigenvalue : Float → Float → Float → Float
unfolding add sub mul max_of root_of of_bits
larger_eigenvalue sxx sxy syy =
    let trace = sxx ⊕ syy in
    let det = sxx ⊗ syy ⊖ sxy ⊗ sxy in
    let disc = root_of (max_of (trace ⊗ trace ⊗ quarter ⊖ det) zero) in
    trace ⊗ half ⊕ disc

-- the direction of the largest spread: its eigenvector, or an axis where |sxy| is at most f32::EPSILON
unfoldable pub direction_of : Float → Float → Float → Vector
unfolding lt le abs_of sub larger_eigenvalue of_bits
direction_of sxx sxy syy =
    cond (lt epsilon (abs_of sxy)) (record { x = sxy; y = larger_eigenvalue sxx sxy syy ⊖ sxx })
    (cond (le syy sxx) (record { x = one; y = zero }) (record { x = zero; y = one }))

-- "A line's centre and direction travel together as one record." The direction is divided by its length, or by f32::EPSILON if that is more.
unfoldable pub line_through : Vector → Vector → Line
unfolding max_of norm_of div of_bits
line_through c v =
    let length = max_of (norm_of v.x v.y) epsilon in
    record { cx = c.x; cy = c.y; ux = v.x ⊘ length; uy = v.y ⊘ length }

-- the line through the point c fitted to the points of l
unfoldable pub line_around : (ℕ → Float) → (ℕ → Float) → Vector → List ℕ → Line
unfolding moment_of direction_of line_through
line_around x y c l =
    line_through c (direction_of (moment_of x c.x x c.x l) (moment_of x c.x y c.y l) (moment_of y c.y y c.y l))

-- the centre of the points of l
unfoldable pub centre_of : (ℕ → Float) → (ℕ → Float) → List ℕ → Vector
unfolding mean_over
centre_of x y l = record { x = mean_over x l; y = mean_over y l }

-- the line fitted to the points of l, through their centre
unfoldable pub fit_of : (ℕ → Float) → (ℕ → Float) → List ℕ → Line
unfolding centre_of line_around
fit_of x y l = line_around x y (centre_of x y l) l

-- the distance of the point (x, y) from a line
unfoldable pub distance_of : Line → Float → Float → Float
unfolding add sub mul neg abs_of
distance_of line x y = abs_of ((x ⊖ line.cx) ⊗ neg line.uy ⊕ (y ⊖ line.cy) ⊗ line.ux)
