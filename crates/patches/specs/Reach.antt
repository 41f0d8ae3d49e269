-- Reachability along shared edges, survivor to survivor; and what theorems ask of the table of neighbours. Over any test of survival `alive` and
-- any test of a link between two ranks. Assumes nothing.
use Rattle.std.specs.Prelude.{◌≡◌, Bool, true, List, ℕ, ◌+◌, ◌-◌, ◌*◌, ◌≤◌, ◌<◌, eqb, length, get_or}
use Rattle.folds.specs.Below.{some, every}

-- "a survivor with every survivor reached from it by steps over shared edges, survivor to survivor": the survivor a reaches ..
pub data Reach (alive : ℕ → Bool) (link : ℕ → ℕ → Bool) (a : ℕ) : ℕ → Type 0 where
  here : alive a ≡ true → Reach alive link a a
  step : {b c : ℕ} → Reach alive link a b → link b c ≡ true → Reach alive link a c

-- v is the least rank from which k is reached
pub record Labelled (alive : ℕ → Bool) (link : ℕ → ℕ → Bool) (k v : ℕ) : Type 0 where
  pub reached : Reach alive link v k
  pub least : (a : ℕ) → Reach alive link a k → v ≤ a

-- ---- what the theorems ask of the table and of the list of offsets

-- j is at place d of k just where k is at place 24 - d of j, which is that of the opposite offset
pub record Mirrored (n : ℕ) (near : ℕ → ℕ) : Type 0 where
  pub back : (k j d : ℕ) → k < n → j < n → d < 25 → near (25 * k + d) ≡ j → near (25 * j + (24 - d)) ≡ k

-- the list has each offset's opposite, by places
unfoldable pub paired : List ℕ → Bool
unfolding every some
paired sides = every (λ (i : ℕ). some (λ (j : ℕ). eqb (get_or sides j 0) (24 - get_or sides i 0)) (length sides)) (length sides)
