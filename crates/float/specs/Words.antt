-- The root with its remainder as three words for a caller. Assumes nothing.
use Rattle.std.specs.Prelude.{List, [], ◌∷◌, ℤ, pos, Option, Some, None}
use Rattle.float.specs.declared.ScaledRoot.{ScaledRoot}

-- 1 if there are root and remainder, 0 if there is neither
abbrev pub found_number : Option ScaledRoot → ℤ
found_number None = pos 0
found_number (Some r) = pos 1

-- S, the power and the remainder; the words stay where there is neither
abbrev pub root_words : Option ScaledRoot → List ℤ → List ℤ
root_words None words = words
root_words (Some r) words = pos r.root ∷ r.power ∷ r.remainder ∷ []
