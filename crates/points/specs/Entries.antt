-- How the code goes about it: each point is one number, an entry, of its key and its place in the file; entries are sorted, and pairs are
-- found among neighbours. Assumes nothing.
use Rattle.std.specs.Prelude.{◌≡◌, Bool, true, not, ◌&&◌, List, ℕ, ◌%◌, ◌<◌, eqb, get_or}
use Rattle.sort.specs.Packed.{packed_places}

-- each entry's place is that of a point
abbrev pub Placed : List ℕ → ℕ → Type 0
Placed entries n = (k : ℕ) → k < n → get_or entries k 0 % packed_places < n

module _ {A : Type 0} where
  -- two things have one key, and they are not the same
  abbrev pub clash : (A → ℕ) → (A → A → Bool) → A → A → Bool
  clash key same p q = eqb (key p) (key q) && not (same p q)

  -- what is the same does not depend on the order, and goes on from one to the next
  pub record Likeness (same : A → A → Bool) : Type 0 where
    pub through : (p q r : A) → same p q ≡ true → same q r ≡ true → same p r ≡ true
    pub back : (p q : A) → same p q ≡ same q p
