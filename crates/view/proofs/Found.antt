-- What it says of a rank that it is found, or not, below the count. Assumes nothing.
use Rattle.std.proofs.Common.{◌≡◌, ℕ, refl, sym, Bool, true, false, cond, ltb}
use Rattle.std.specs.Prelude.{Some, None}
use Rattle.std.proofs.lemmas.Option.{cond_some, none-some}
use Rattle.view.specs.Seen.{below}

-- where there is none
pub not-found : (n r : ℕ) → None ≡ below n r → ltb r n ≡ false
not-found n r e = go (ltb r n) e
  where
    go : (b : Bool) → None ≡ cond b (Some r) None → b ≡ false
    go false h = refl
    go true h = absurd (none-some r h)

-- where there is one: the rank, and that it is below the count
pub found : (n r : ℕ) {a : ℕ} → Some a ≡ below n r → r ≡ a
found n r {a} e = (cond_some (ltb r n) r a (sym e)).1

pub found-below : (n r : ℕ) {a : ℕ} → Some a ≡ below n r → ltb r n ≡ true
found-below n r {a} e = (cond_some (ltb r n) r a (sym e)).0
