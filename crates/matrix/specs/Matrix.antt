-- Matrices of three rows of three f32: products, determinants and inverses. Assumes nothing.
use Rattle.std.specs.Prelude.{ℕ, List, [], ◌∷◌, Float}
use Rattle.std.specs.Float.Ieee.{neg}
use Rattle.folds.specs.Arith.{◌⊕◌, ◌⊖◌, ◌⊗◌, ◌⊘◌}
use Rattle.float.specs.Constants.{one}
use Rattle.linear.specs.Rows.{entry}

-- three rows of three
abbrev pub matrix : Float → Float → Float → Float → Float → Float → Float → Float → Float → List (List Float)
matrix a b c d e f g h i = (a ∷ b ∷ c ∷ []) ∷ (d ∷ e ∷ f ∷ []) ∷ (g ∷ h ∷ i ∷ []) ∷ []

-- "Inner sums run left to right."
abbrev pub inner_sum : Float → Float → Float → Float → Float → Float → Float
inner_sum a b c x y z = a ⊗ x ⊕ b ⊗ y ⊕ c ⊗ z

-- row i of m times (x, y, 1)
abbrev pub row_times : List (List Float) → ℕ → Float → Float → Float
row_times m i x y = inner_sum (entry m i 0) (entry m i 1) (entry m i 2) x y one

-- entry j of row i of the product of a and b
abbrev pub product_entry : List (List Float) → List (List Float) → ℕ → ℕ → Float
product_entry a b i j = inner_sum (entry a i 0) (entry a i 1) (entry a i 2) (entry b 0 j) (entry b 1 j) (entry b 2 j)

unfoldable pub product_of : List (List Float) → List (List Float) → List (List Float)
product_of a b =
    matrix
    (product_entry a b 0 0) (product_entry a b 0 1) (product_entry a b 0 2)
    (product_entry a b 1 0) (product_entry a b 1 1) (product_entry a b 1 2)
    (product_entry a b 2 0) (product_entry a b 2 1) (product_entry a b 2 2)

-- a b - c d, the determinant of two rows of two
abbrev pub minor : Float → Float → Float → Float → Float
minor a b c d = a ⊗ b ⊖ c ⊗ d

-- along the first row
unfoldable pub determinant_of : List (List Float) → Float
determinant_of m =
    entry m 0 0 ⊗ minor (entry m 1 1) (entry m 2 2) (entry m 2 1) (entry m 1 2)
    ⊖ entry m 0 1 ⊗ minor (entry m 1 0) (entry m 2 2) (entry m 2 0) (entry m 1 2)
    ⊕ entry m 0 2 ⊗ minor (entry m 1 0) (entry m 2 1) (entry m 2 0) (entry m 1 1)

-- "inverted by cofactors": each over the determinant d
unfoldable pub inverse_of : List (List Float) → Float → List (List Float)
inverse_of m d =
    matrix
    (minor (entry m 1 1) (entry m 2 2) (entry m 2 1) (entry m 1 2) ⊘ d)
    (minor (entry m 0 2) (entry m 2 1) (entry m 2 2) (entry m 0 1) ⊘ d)
    (minor (entry m 0 1) (entry m 1 2) (entry m 1 1) (entry m 0 2) ⊘ d)
    (neg (minor (entry m 1 0) (entry m 2 2) (entry m 2 0) (entry m 1 2)) ⊘ d)
    (minor (entry m 0 0) (entry m 2 2) (entry m 2 0) (entry m 0 2) ⊘ d)
    (minor (entry m 0 2) (entry m 1 0) (entry m 1 2) (entry m 0 0) ⊘ d)
    (minor (entry m 1 0) (entry m 2 1) (entry m 2 0) (entry m 1 1) ⊘ d)
    (minor (entry m 0 1) (entry m 2 0) (entry m 2 1) (entry m 0 0) ⊘ d)
    (minor (entry m 0 0) (entry m 1 1) (entry m 1 0) (entry m 0 1) ⊘ d)
