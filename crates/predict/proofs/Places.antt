-- An offset and its opposite by their places; the sums over places are those over the offsets at them. Assumes nothing.
use mathlib.Core.Path.{◌≡◌, refl, sym, ap, ◌∙◌}
use mathlib.Core.Bool.{Bool, true, ◌&&◌}
use mathlib.Core.List.{List, [], ◌∷◌}
use Prim.Native.Nat.{ℕ, zero, suc, ◌+◌, ◌-◌, ◌*◌, ◌<◌}
use native.Mathlib.Omega.{arith}
use lib.IntN.{ℤ}
use lib.Dec.{leb}
use lib.ListN.{length, get_or}
use lib.Ieee.{Float}
use Rattle.folds.specs.Arith.{◌⊕◌, ◌⊗◌}
use Rattle.folds.specs.Below.{tally, sum_of}
use Rattle.folds.proofs.Below.{tally-ext, sum-ext}
use Rattle.float.specs.Constants.{half}
use Rattle.offsets.specs.declared.Offset.{Offset}
use Rattle.offsets.specs.Offsets.{offset, own, is_within2, is_near, place_of, offset_of}
use Rattle.offsets.proofs.Places.{each-within-2, within-u, within-v, offset_near, offset-place}
use Rattle.view.specs.View.{View, rank_at}
use Rattle.patches.specs.Patches.{survives}
use Rattle.patches.specs.Search.{NearPlaces}
use Rattle.predict.specs.Predict.{opposite, is_forward, is_pair, midpoint, pair_count, mean_of, prediction}
use Rattle.predict.specs.Fills.{kept_at, value_at, prediction_at}
use Rattle.predict.specs.Sums.{mean_by}
use Rattle.predict.specs.Places.{offsets_of, rank_of, pair_at, midpoint_at, sums_to}

-- ---- one offset

-- a pair of whole numbers from −2 to 2: what holds of each holds of all
both-within-2 : (P : ℤ → ℤ → Type 0) → ((a : ℤ) → is_within2 a ≡ true → (b : ℤ) → is_within2 b ≡ true → P a b) → (o : Offset) → is_near o ≡ true → P o.du o.dv
both-within-2 P f o h = f o.du (within-u o h) o.dv (within-v o h)

-- it is lexicographically positive, or (0, 0), where its place is that of the cell itself or a later one
pub forward-place : (o : Offset) → is_near o ≡ true → is_forward o ≡ leb 12 (place_of o)
forward-place =
    both-within-2 (λ a b. is_forward (offset a b) ≡ leb 12 (place_of (offset a b)))
    (each-within-2 (λ a. (b : ℤ) → is_within2 b ≡ true → is_forward (offset a b) ≡ leb 12 (place_of (offset a b)))
    (each-within-2 _ refl refl refl refl refl) (each-within-2 _ refl refl refl refl refl) (each-within-2 _ refl refl refl refl refl) (each-within-2 _ refl refl refl refl refl) (each-within-2 _ refl refl refl refl refl))

-- its opposite has the place 24 - d
pub opposite-place : (o : Offset) → is_near o ≡ true → place_of (opposite o) ≡ 24 - place_of o
opposite-place =
    both-within-2 (λ a b. place_of (opposite (offset a b)) ≡ 24 - place_of (offset a b))
    (each-within-2 (λ a. (b : ℤ) → is_within2 b ≡ true → place_of (opposite (offset a b)) ≡ 24 - place_of (offset a b))
    (each-within-2 _ refl refl refl refl refl) (each-within-2 _ refl refl refl refl refl) (each-within-2 _ refl refl refl refl refl) (each-within-2 _ refl refl refl refl refl) (each-within-2 _ refl refl refl refl refl))

-- ---- a list of them

pub offsets-long : (l : List ℕ) → length (offsets_of l) ≡ length l
offsets-long [] = refl
offsets-long (d ∷ l) = ap suc (offsets-long l)

pub offsets-at : (l : List ℕ) (i : ℕ) → i < length l → get_or (offsets_of l) i own ≡ offset_of (get_or l i 0)
offsets-at [] i h = absurd (omega arith)
offsets-at (d ∷ l) zero h = refl
offsets-at (d ∷ l) (suc i) h = offsets-at l i (omega arith)

-- ---- the prediction

module _ (w : View) (k : ℕ) (marks sides : List ℕ) (near : NearPlaces sides) where
  abbrev o : ℕ → Offset
  o i = get_or (offsets_of sides) i own

  abbrev d : ℕ → ℕ
  d i = get_or sides i 0

  -- the places of offset i and of its opposite
  at_place : (i : ℕ) → i < length sides → place_of (o i) ≡ d i
  at_place i h = ap place_of (offsets-at sides i h) ∙ offset-place (d i)

  at-opposite : (i : ℕ) → i < length sides → place_of (opposite (o i)) ≡ 24 - d i
  at-opposite i h = ap (λ (o : Offset). place_of (opposite o)) (offsets-at sides i h) ∙ opposite-place (offset_of (d i)) (offset_near (d i) (near i h)) ∙ ap (λ (e : ℕ). 24 - e) (offset-place (d i))

  at_forward : (i : ℕ) → i < length sides → is_forward (o i) ≡ leb 12 (d i)
  at_forward i h = ap is_forward (offsets-at sides i h) ∙ forward-place (offset_of (d i)) (offset_near (d i) (near i h)) ∙ ap (leb 12) (offset-place (d i))

  ahead : (i : ℕ) → i < length sides → rank_at w k (o i) ≡ rank_of w k (d i)
  ahead i h = ap (λ (e : ℕ). w.near (25 * k + e)) (at_place i h)

  behind : (i : ℕ) → i < length sides → rank_at w k (opposite (o i)) ≡ rank_of w k (24 - d i)
  behind i h = ap (λ (e : ℕ). w.near (25 * k + e)) (at-opposite i h)

  abbrev live : ℕ → Bool
  live = survives w.count marks

  same-pair : (i : ℕ) → i < length sides → is_pair (offsets_of sides) (kept_at w marks k) i ≡ pair_at w k marks (d i)
  same-pair i h =
      ap (λ (b : Bool). b && (live (rank_at w k (o i)) && live (rank_at w k (opposite (o i))))) (at_forward i h)
      ∙ ap (λ (j : ℕ). leb 12 (d i) && (live j && live (rank_at w k (opposite (o i))))) (ahead i h)
      ∙ ap (λ (j : ℕ). leb 12 (d i) && (live (rank_of w k (d i)) && live j)) (behind i h)

  same-midpoint : (f : ℕ → Float) (i : ℕ) → i < length sides → midpoint (offsets_of sides) (value_at w f k) i ≡ midpoint_at w k f (d i)
  same-midpoint f i h =
      ap (λ (j : ℕ). half ⊗ (f j ⊕ f (rank_at w k (opposite (o i))))) (ahead i h) ∙ ap (λ (j : ℕ). half ⊗ (f (rank_of w k (d i)) ⊕ f j)) (behind i h)

  same_count : tally (λ (j : ℕ). pair_at w k marks (d j)) (length sides) ≡ pair_count (offsets_of sides) (kept_at w marks k)
  unfolding pair_count
  same_count = sym (ap (tally (is_pair (offsets_of sides) (kept_at w marks k))) (offsets-long sides) ∙ tally-ext (is_pair (offsets_of sides) (kept_at w marks k)) (λ (j : ℕ). pair_at w k marks (d j)) (length sides) same-pair)

  same_sum : (f : ℕ → Float) → sum_of (λ (j : ℕ). pair_at w k marks (d j)) (λ (j : ℕ). midpoint_at w k f (d j)) (length sides) ≡ sum_of (is_pair (offsets_of sides) (kept_at w marks k)) (midpoint (offsets_of sides) (value_at w f k)) (length (offsets_of sides))
  same_sum f =
      sym
      (ap (sum_of (is_pair (offsets_of sides) (kept_at w marks k)) (midpoint (offsets_of sides) (value_at w f k))) (offsets-long sides)
      ∙ sum-ext (is_pair (offsets_of sides) (kept_at w marks k)) (λ (j : ℕ). pair_at w k marks (d j)) (midpoint (offsets_of sides) (value_at w f k)) (λ (j : ℕ). midpoint_at w k f (d j)) (length sides) same-pair (λ i h e. same-midpoint f i h))

  pub by-places : mean_by (sums_to w k marks sides (length sides)) ≡ prediction_at w (offsets_of sides) marks k
  unfolding prediction mean_of
  by-places = rw (same_count, same_sum w.x, same_sum w.y)
