-- Whole patches, and what the kept patch is: what the theorems say. Over any test of survival `alive` and any test of a link between two
-- ranks. Assumes nothing.
use Rattle.std.specs.Prelude.{◌≡◌, ◌⊎◌, Bool, true, false, ℕ, ◌≤◌, ◌<◌}
use Rattle.folds.specs.Below.{tally}
use Rattle.patches.specs.Reach.{Reach}

-- W is a whole patch
pub record WholePatch (alive : ℕ → Bool) (link : ℕ → ℕ → Bool) (W : ℕ → Bool) : Type 0 where
  pub seed : ℕ
  pub survives : alive seed ≡ true
  pub inner : (k : ℕ) → W k ≡ true → Reach alive link seed k
  pub outer : (k : ℕ) → Reach alive link seed k → W k ≡ true

-- "a patch's smallest cell is its first"
pub record Smallest (W : ℕ → Bool) (x : ℕ) : Type 0 where
  pub member : W x ≡ true
  pub first : (k : ℕ) → W k ≡ true → x ≤ k

-- Of the ranks below n, K is what is kept: nothing where nothing survives, else one whole patch; every other whole patch has at most as
-- many points, and any with as many has a later smallest cell.
pub record KeptPatch (alive : ℕ → Bool) (link : ℕ → ℕ → Bool) (n : ℕ) (K : ℕ → Bool) : Type 0 where
  pub none : ((a : ℕ) → alive a ≡ false) → (k : ℕ) → K k ≡ false
  pub whole : (a : ℕ) → alive a ≡ true → WholePatch alive link K
  pub most : (W : ℕ → Bool) → WholePatch alive link W → tally W n ≤ tally K n
  pub tie : (W : ℕ → Bool) → WholePatch alive link W → tally W n ≡ tally K n → ((k : ℕ) → W k ≡ K k) ⊎ ((x y : ℕ) → Smallest W x → Smallest K y → y < x)

-- The ranks below n that `roots` picks stand for the whole patches, one for each: patch s is the one of s, and s its smallest cell. So
-- there are as many whole patches as such ranks.
pub record PatchesCounted (alive : ℕ → Bool) (link : ℕ → ℕ → Bool) (n : ℕ) (roots : ℕ → Bool) (patch : ℕ → ℕ → Bool) : Type 0 where
  pub whole : (s : ℕ) → s < n → roots s ≡ true → WholePatch alive link (patch s)
  pub member : (s : ℕ) → s < n → roots s ≡ true → Smallest (patch s) s
  pub apart : (s t : ℕ) → s < n → t < n → roots s ≡ true → roots t ≡ true → ((k : ℕ) → patch s k ≡ patch t k) → s ≡ t
  pub all : (W : ℕ → Bool) → WholePatch alive link W → (s : ℕ) × (s < n) × (roots s ≡ true) × ((k : ℕ) → W k ≡ patch s k)
