-- What is spread over a blank array. Assumes nothing.
use Rattle.std.proofs.Common.{◌≡◌, ap, ◌∙◌, List, ◌++◌, ℕ, ◌<◌}
use Rattle.std.proofs.lemmas.List.{drop-replicate}
use lib.ListN.{replicate}
use Rattle.folds.specs.Lists.{list_of}
use Rattle.folds.specs.Column.{column, overlaid}
use Rattle.folds.proofs.Column.{column-ext}
use Rattle.view.specs.View.{max_points}

module _ {A : Type 0} where
  pub over-blank : (d : A) (n : ℕ) (f : ℕ → A) → overlaid n f (replicate max_points d) ≡ column max_points d n f
  unfolding overlaid column
  over-blank d n f = ap (λ (l : List A). list_of n f ++ l) (drop-replicate n max_points d)

  -- as a column of what each rank has
  pub spread-column : (d : A) (n : ℕ) (f g : ℕ → A) {l : List A} → l ≡ overlaid n f (replicate max_points d) → ((k : ℕ) → k < n → f k ≡ g k) → l ≡ column max_points d n g
  spread-column d n f g e h = e ∙ over-blank d n f ∙ column-ext max_points d n f g h
