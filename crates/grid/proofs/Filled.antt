-- The table of ranks, filled block by block. Assumes nothing.
use mathlib.Core.Path.{◌≡◌, refl, sym, ap, ◌∙◌}
use mathlib.Core.List.{List}
use Prim.Native.Nat.{ℕ, ◌+◌, ◌*◌, ◌≤◌, ◌<◌}
use Prim.{Dec, yes, no}
use native.Mathlib.Decide.{dec_lt}
use native.Mathlib.Omega.{arith}
use lib.ListN.{length, replicate, length-replicate}
use Rattle.folds.specs.Lists.{list_of}
use Rattle.folds.proofs.Lists.{is-list, list_at, list_over}
use Rattle.folds.proofs.Column.{replicate-at}
use Rattle.view.specs.View.{max_points, ranks_size, rows_at, columns_at, indices_at}
use Rattle.grid.specs.Tables.{entry_in, splice, spliced, blocks}
use Rattle.grid.proofs.Splicing.{splice_at, splice-before, splice-after, splice-ext, length-spliced, spliced-read}

pub spliced-size : (from n : ℕ) (f : ℕ → ℕ) (l : List ℕ) {r : List ℕ} → r ≡ spliced from n f l → length l ≡ ranks_size → length r ≡ ranks_size
spliced-size from n f l e h = ap length e ∙ length-spliced from n f l ∙ h

pub zeros-size : {l : List ℕ} → l ≡ replicate ranks_size 0 → length l ≡ ranks_size
zeros-size e = ap length e ∙ length-replicate {A = ℕ} ranks_size 0

-- one block more
block : (from n : ℕ) (f g : ℕ → ℕ) (l : List ℕ) {r : List ℕ} → from + n ≤ ranks_size → length l ≡ ranks_size → r ≡ spliced from n f l → ((i : ℕ) → entry_in l i ≡ g i) → (i : ℕ) → entry_in r i ≡ splice from n f g i
block from n f g l fit size e h i =
    ap (λ (a : List ℕ). entry_in a i) e ∙ spliced-read from n f l (omega (arith, size)) i ∙ splice-ext from n f f (entry_in l) g (λ k b. refl) h i

pub blocks-filled : (n : ℕ) (near row column index : ℕ → ℕ) (l₀ l₁ l₂ l₃ : List ℕ) {l₄ : List ℕ} → n ≤ max_points → l₀ ≡ replicate ranks_size 0
    → l₁ ≡ spliced 0 (25 * n) near l₀ → l₂ ≡ spliced rows_at n row l₁ → l₃ ≡ spliced columns_at n column l₂ → l₄ ≡ spliced indices_at n index l₃ → l₄ ≡ list_of ranks_size (blocks n near row column index)
blocks-filled n near row column index l₀ l₁ l₂ l₃ {l₄} few z a b c d =
    is-list 0 ranks_size (blocks n near row column index) l₄ (spliced-size indices_at n index l₃ d s₃)
    (λ i h.
    block indices_at n index _ l₃ (omega arith) s₃ d
    (block columns_at n column _ l₂ (omega arith) s₂ c (block rows_at n row _ l₁ (omega arith) s₁ b (block 0 (25 * n) near _ l₀ (omega arith) s₀ a (λ i. ap (λ (l : List ℕ). entry_in l i) z ∙ replicate-at {A = ℕ} ranks_size 0 i)))) i)
  where
    s₀ : length l₀ ≡ ranks_size
    s₀ = zeros-size z

    s₁ : length l₁ ≡ ranks_size
    s₁ = spliced-size 0 (25 * n) near l₀ a s₀

    s₂ : length l₂ ≡ ranks_size
    s₂ = spliced-size rows_at n row l₁ b s₁

    s₃ : length l₃ ≡ ranks_size
    s₃ = spliced-size columns_at n column l₂ c s₂

-- ---- what the blocks hold

-- the table up to a block
abbrev up_to_near : ℕ → (ℕ → ℕ) → ℕ → ℕ
up_to_near n near = splice 0 (25 * n) near (λ (i : ℕ). 0)

abbrev up_to_rows : ℕ → (ℕ → ℕ) → (ℕ → ℕ) → ℕ → ℕ
up_to_rows n near row = splice rows_at n row (up_to_near n near)

abbrev up_to_columns : ℕ → (ℕ → ℕ) → (ℕ → ℕ) → (ℕ → ℕ) → ℕ → ℕ
up_to_columns n near row column = splice columns_at n column (up_to_rows n near row)

pub block-index : (n : ℕ) (near row column index : ℕ → ℕ) (k : ℕ) → k < n → blocks n near row column index (indices_at + k) ≡ index k
block-index n near row column index k h = splice_at indices_at n index (up_to_columns n near row column) k h

module _ (n : ℕ) (near row column index : ℕ → ℕ) (few : n ≤ max_points) where
  pub block_near : (i : ℕ) → i < 25 * n → blocks n near row column index i ≡ near i
  block_near i h =
      splice-before indices_at n index (up_to_columns n near row column) i (omega arith) ∙ splice-before columns_at n column (up_to_rows n near row) i (omega arith) ∙ splice-before rows_at n row (up_to_near n near) i (omega arith)
      ∙ (let z : 0 + i ≡ i = omega arith in rw z at (splice_at 0 (25 * n) near (λ (i : ℕ). 0) i h))

  pub block_row : (k : ℕ) → k < n → blocks n near row column index (rows_at + k) ≡ row k
  block_row k h = splice-before indices_at n index (up_to_columns n near row column) (rows_at + k) (omega arith) ∙ splice-before columns_at n column (up_to_rows n near row) (rows_at + k) (omega arith) ∙ splice_at rows_at n row (up_to_near n near) k h

  pub block-column : (k : ℕ) → k < n → blocks n near row column index (columns_at + k) ≡ column k
  block-column k h = splice-before indices_at n index (up_to_columns n near row column) (columns_at + k) (omega arith) ∙ splice_at columns_at n column (up_to_rows n near row) k h

  -- the list of the table, at every place
  pub blocks-list : (i : ℕ) → entry_in (list_of ranks_size (blocks n near row column index)) i ≡ blocks n near row column index i
  blocks-list i = go (dec_lt i ranks_size)
    where
      go : Dec (i < ranks_size) → entry_in (list_of ranks_size (blocks n near row column index)) i ≡ blocks n near row column index i
      go (yes h) = list_at ranks_size (blocks n near row column index) i 0 h
      go (no x) =
          list_over ranks_size (blocks n near row column index) i 0 (omega (arith, x))
          ∙ sym
          (splice-after indices_at n index (up_to_columns n near row column) i (omega (arith, x))
          ∙ splice-after columns_at n column (up_to_rows n near row) i (omega (arith, x)) ∙ splice-after rows_at n row (up_to_near n near) i (omega (arith, x)) ∙ splice-after 0 (25 * n) near (λ (i : ℕ). 0) i (omega (arith, x)))

-- tables of lists are tables of what the lists are of
pub blocks-of : (n : ℕ) (near row column index : ℕ → ℕ) (i : ℕ)
    → blocks n near row column index i ≡ blocks n (entry_in (list_of (25 * n) near)) (entry_in (list_of n row)) (entry_in (list_of n column)) (entry_in (list_of n index)) i
blocks-of n near row column index i =
    splice-ext indices_at n index (entry_in (list_of n index)) (up_to_columns n near row column) (up_to_columns n (entry_in (list_of (25 * n) near)) (entry_in (list_of n row)) (entry_in (list_of n column))) (of n index)
    (splice-ext columns_at n column (entry_in (list_of n column)) (up_to_rows n near row) (up_to_rows n (entry_in (list_of (25 * n) near)) (entry_in (list_of n row))) (of n column)
    (splice-ext rows_at n row (entry_in (list_of n row)) (up_to_near n near) (up_to_near n (entry_in (list_of (25 * n) near))) (of n row)
    (splice-ext 0 (25 * n) near (entry_in (list_of (25 * n) near)) (λ (j : ℕ). 0) (λ (j : ℕ). 0) (of (25 * n) near) (λ j. refl)))) i
  where
    of : (n : ℕ) (f : ℕ → ℕ) (k : ℕ) → k < n → f k ≡ entry_in (list_of n f) k
    of n f k h = sym (list_at n f k 0 h)
