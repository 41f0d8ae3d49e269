-- What a piece of a text leaves in the buffer. Assumes nothing.
use Rattle.std.specs.Prelude.{◌≡◌, cond, List, [], ◌∷◌, ℕ, ◌+◌, ltb, length, set}
use Rattle.text.specs.declared.Writer.{Writer}

-- the place after one byte at `at`, in a buffer of this size; size + 1 says that a byte was left out
abbrev pub next_place : ℕ → ℕ → ℕ
next_place size at = cond (ltb at size) (at + 1) (size + 1)

-- the place after the text t from `at` on
abbrev pub place_after : ℕ → ℕ → List ℕ → ℕ
place_after size at [] = at
place_after size at (c ∷ t) = place_after size (next_place size at) t

-- the buffer l with the bytes of t from `at` on; a byte past its end is left out
abbrev pub laid : List ℕ → ℕ → List ℕ → List ℕ
laid l at [] = l
laid l at (c ∷ t) = laid (set l at c) (next_place (length l) at) t

-- the text t is stored in the same buffer, from the writer's place on
pub record Stored (before : Writer) (t : List ℕ) (after : Writer) : Type 0 where
  pub buffer : after.out.now ≡ laid before.out.now before.at t
  pub place : after.at ≡ place_after (length before.out.now) before.at t
  pub same : after.out.ghost_name ≡ before.out.ghost_name
