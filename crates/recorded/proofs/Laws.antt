-- When two lists are the same. Assumes nothing.
use mathlib.Core.Path.{◌≡◌, refl, sym}
use mathlib.Core.List.{List}
use mathlib.Core.Bool.{Bool, true, false}
use Prim.Native.Nat.{ℕ}
use Rattle.std.specs.Prelude.{nat_eq}
use Rattle.std.specs.Cmp.Lexicographic.{pointwise, same_text, other_text}
use Rattle.folds.specs.Same.{same_list}
use Rattle.folds.proofs.Same.{told}

-- a test of two lists, entry by entry
pub entries-same : (a b : List ℕ) → pointwise nat_eq a b ≡ same_list a b
entries-same a b = told a b (λ e. same_text a b (sym e)) (go (pointwise nat_eq a b) refl)
  where
    go : (r : Bool) → pointwise nat_eq a b ≡ r → a ≡ b → r ≡ true
    go true q e = refl
    go false q e = absurd (other_text a b (sym q) e)
