-- A system of eight equations with no zero among its entries, solved by the definitions: checked by computing. Assumes nothing.
use mathlib.Core.List.{List, [], ◌∷◌}
use mathlib.Core.Path.{◌≡◌, refl}
use Prim.Native.Nat.{ℕ}
use lib.IntN.{pos}
use lib.Ieee.{Float, binary32, of_int, neg}
use Rattle.std.proofs.Common.{Some}
use Rattle.folds.specs.Arith.{f32}
use Rattle.linear.specs.Linear.{solution_of, solution-computes}

-- whole numbers, above and below 0
abbrev p : ℕ → Float
p n = of_int binary32 (pos n)

abbrev n : ℕ → Float
n k = neg (p k)

abbrev dense : List (List Float)
dense =
    (p 3 ∷ p 1 ∷ n 9 ∷ n 6 ∷ n 9 ∷ n 1 ∷ n 7 ∷ p 2 ∷ [])
    ∷ (n 2 ∷ p 1 ∷ n 4 ∷ n 7 ∷ n 4 ∷ n 9 ∷ n 5 ∷ p 3 ∷ [])
    ∷ (n 5 ∷ n 2 ∷ n 6 ∷ n 9 ∷ n 1 ∷ n 8 ∷ p 6 ∷ p 8 ∷ [])
    ∷ (p 5 ∷ n 3 ∷ n 2 ∷ p 9 ∷ p 6 ∷ p 5 ∷ n 2 ∷ p 3 ∷ [])
    ∷ (p 3 ∷ p 7 ∷ n 2 ∷ p 6 ∷ p 8 ∷ p 2 ∷ n 5 ∷ p 2 ∷ [])
    ∷ (n 5 ∷ p 5 ∷ p 6 ∷ n 8 ∷ p 3 ∷ n 8 ∷ n 4 ∷ p 3 ∷ [])
    ∷ (n 7 ∷ p 8 ∷ n 3 ∷ p 7 ∷ p 3 ∷ p 9 ∷ p 7 ∷ p 7 ∷ [])
    ∷ (n 3 ∷ n 3 ∷ n 4 ∷ n 1 ∷ p 3 ∷ p 5 ∷ n 3 ∷ p 9 ∷ [])
    ∷ []

pub dense-solved : solution_of dense (p 6 ∷ n 9 ∷ n 8 ∷ p 7 ∷ p 7 ∷ n 8 ∷ p 1 ∷ n 2 ∷ [])
    ≡ (Some (f32 0x4012_38CF ∷ f32 0x3F4E_7727 ∷ f32 0x3EC3_3BF8 ∷ f32 0xBF1B_3850 ∷ f32 0xBE32_FE41 ∷ f32 0x3F5F_F3B7 ∷ f32 0x3F0E_B231 ∷ f32 0x3F2B_190F ∷ []))
unfolding solution-computes of_int
dense-solved = refl
