-- Small lists merged by their tens, and what becomes of the law where keys do not rise. Assumes nothing.
use Rattle.std.specs.List.{filter}
use Rattle.std.specs.Prelude.{◌≡◌, List, [], ◌∷◌, ◌++◌, ℕ, ◌/◌, ltb}
use Rattle.std.proofs.Common.{refl}
use Rattle.sort.specs.Sorted.{sort}
use Rattle.merged.specs.Merged.{merged, is_fresh}

-- the key: a number's tens
abbrev tens : ℕ → ℕ
tens k = k / 10

-- sorted by them
abbrev in_order : List ℕ → List ℕ
in_order l = sort (λ (p q : ℕ). ltb (tens p) (tens q)) l

-- of 30 and 31 the first list's is taken, and so it is of 50 and 51
pub one-of-two : merged tens (10 ∷ 30 ∷ 50 ∷ []) (21 ∷ 31 ∷ 41 ∷ 51 ∷ 61 ∷ []) ≡ 10 ∷ 21 ∷ 30 ∷ 41 ∷ 50 ∷ 61 ∷ []
unfolding merged
one-of-two = refl

-- of an empty list comes nothing
pub nothing-added : merged tens (10 ∷ 30 ∷ []) [] ≡ 10 ∷ 30 ∷ []
unfolding merged
nothing-added = refl

-- where the keys of the first list do not rise, the merged list is not the sorted one; nor where those of the second do not
pub first-falls : (merged tens (20 ∷ 10 ∷ []) [] ≡ 20 ∷ 10 ∷ []) × (in_order ((20 ∷ 10 ∷ []) ++ filter (is_fresh tens (20 ∷ 10 ∷ [])) []) ≡ 10 ∷ 20 ∷ [])
unfolding merged sort
first-falls = (refl, refl)

pub second-falls : (merged tens [] (20 ∷ 10 ∷ []) ≡ 20 ∷ 10 ∷ []) × (in_order ([] ++ filter (is_fresh tens []) (20 ∷ 10 ∷ [])) ≡ 10 ∷ 20 ∷ [])
unfolding merged sort
second-falls = (refl, refl)

-- of two of the second list with the key of one of the first, the walk leaves out the one and the law both
pub second-repeats : (merged tens (10 ∷ []) (11 ∷ 12 ∷ []) ≡ 10 ∷ 12 ∷ []) × (in_order ((10 ∷ []) ++ filter (is_fresh tens (10 ∷ [])) (11 ∷ 12 ∷ [])) ≡ 10 ∷ [])
unfolding merged sort
second-repeats = (refl, refl)
