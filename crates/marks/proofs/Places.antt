-- Each filter stands at its place. Assumes nothing.
use Rattle.std.proofs.Common.{◌≡◌, ℕ, zero, suc, ◌<◌, refl, get_or, arith}
use Rattle.marks.specs.Filters.{filter_count}
use Rattle.marks.specs.Places.{place, all_filters}
use Rattle.marks.specs.declared.filters.Filter.TheVariants.{Validate}

pub place-at : (i : ℕ) → i < filter_count → place (get_or all_filters i Validate) ≡ i
place-at zero h = refl
place-at (suc zero) h = refl
place-at (suc (suc zero)) h = refl
place-at (suc (suc (suc zero))) h = refl
place-at (suc (suc (suc (suc zero)))) h = refl
place-at (suc (suc (suc (suc (suc i))))) h = absurd (omega (arith, h))
