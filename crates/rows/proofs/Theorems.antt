-- What a reader may expect of rows. Assumes nothing.
use mathlib.Core.Path.{◌≡◌, refl, sym, ap, ◌∙◌}
use mathlib.Core.List.{List, [], ◌∷◌, ◌++◌}
use Rattle.std.specs.Prelude.{Some, None, Option}
use Prim.Native.Nat.{ℕ, zero, suc, ◌+◌, ◌-◌, ◌*◌, ◌/◌, ◌%◌, ◌≤◌, ◌<◌}
use native.Mathlib.Omega.{arith}
use native.Mathlib.Nat.{add-zero}
use lib.ListN.{length, get_or, drop, replicate, length-append, get_or-append}
use lib.Seq.{get_or-append-add, get_or-drop}
use lib.Ieee.{nan, binary32, of_bits, to_bits}
use lib.IntN.{pos}
use Rattle.float.specs.declared.Distance.{Distance}
use Rattle.edge_shape.specs.declared.Reason.TheVariants.{BadContinuation}
use Rattle.edge_shape.specs.Figures.{no_figures}
use Rattle.folds.specs.Lists.{list_of}
use Rattle.folds.proofs.Lists.{length-list, list_at, is-list}
use Rattle.folds.specs.Marked.{bit}
use Rattle.sheet_file.specs.Bytes.{little_endian}
use Rattle.rows.specs.Rows.{bits_of, is_present, residual_float, row_of, row_size, row_byte, rows_over}
use Rattle.judged.specs.Shown.{Shown}
use Rattle.rows.proofs.Laws.{row-length, row-byte}

-- "NaN is 0x7FC00000."
pub nan-bits : bits_of (Some nan) ≡ 0x7fc0_0000
unfolding to_bits
nan-bits = refl

-- the row of a point with two marks, a residual of 1, continuations at cosine 1/2 and ratio 2, and no cell
pub worked-row : row_of
    (record {
      marks = 5;
      residual = Some (record { value = of_bits binary32 0x3f80_0000; remainder = Some (pos 0) });
      figures = record { degree = 4; adjacent = 3; valid = 0; continuation = Some (record { cosine = of_bits binary32 0x3f00_0000; ratio = of_bits binary32 0x4000_0000 }); cells = None; reason = Some BadContinuation };
      boundary = 1;
    })
    ≡ 5 ∷ 2 ∷ 7 ∷ 4 ∷ 1 ∷ 3 ∷ 0 ∷ 0
    ∷ 0 ∷ 0 ∷ 0x80 ∷ 0x3f ∷ 0 ∷ 0 ∷ 0 ∷ 0x3f ∷ 0 ∷ 0 ∷ 0 ∷ 0x40 ∷ 0 ∷ 0 ∷ 0 ∷ 0 ∷ 0 ∷ 0 ∷ 0 ∷ 0 ∷ []
unfolding row_of of_bits
worked-row = refl

-- "Without tag 2, bytes 1, 3 to 7 and all edge floats are zero": of a point without figures
pub blank-row : (marks : ℕ) (residual : Option Distance) → row_of (record { marks = marks; residual = residual; figures = no_figures; boundary = 0 })
    ≡ marks ∷ 0 ∷ bit (is_present (residual_float residual)) ∷ replicate 5 0 ++ little_endian (bits_of (residual_float residual)) ++ replicate 16 0
unfolding row_of
blank-row marks residual = rw (add-zero (bit (is_present (residual_float residual))))

-- ---- the rows, one after the other

-- of ranks at, .., at + n - 1
abbrev rows_from : (ℕ → Shown) → ℕ → ℕ → List ℕ
rows_from shown at zero = []
rows_from shown at (suc n) = row_of (shown at) ++ rows_from shown (suc at) n

module _ (shown : ℕ → Shown) where
  rows-length : (at n : ℕ) → length (rows_from shown at n) ≡ 28 * n
  rows-length at zero = refl
  rows-length at (suc n) = length-append (row_of (shown at)) (rows_from shown (suc at) n) ∙ omega (arith, row-length (shown at), rows-length (suc at) n)

  rows-byte : (at n k j : ℕ) → k < n → j < 28 → get_or (rows_from shown at n) (28 * k + j) 0 ≡ get_or (row_of (shown (at + k))) j 0
  rows-byte at zero k j h l = absurd (omega arith)
  rows-byte at (suc n) zero j h l =
      let z : at + 0 ≡ at = omega arith in
      let w : 28 * 0 + j ≡ j = omega arith in
      ap (λ (i : ℕ). get_or (rows_from shown at (suc n)) i 0) w
      ∙ get_or-append (row_of (shown at)) (rows_from shown (suc at) n) 0 j (omega (arith, row-length (shown at)))
      ∙ ap (λ (m : ℕ). get_or (row_of (shown m)) j 0) (sym z)
  rows-byte at (suc n) (suc k) j h l =
      let z : at + suc k ≡ suc at + k = omega arith in
      let w : 28 * suc k + j ≡ length (row_of (shown at)) + (28 * k + j) = omega (arith, row-length (shown at)) in
      ap (λ (i : ℕ). get_or (rows_from shown at (suc n)) i 0) w
      ∙ get_or-append-add (row_of (shown at)) (rows_from shown (suc at) n) (28 * k + j) 0
      ∙ rows-byte (suc at) n k j (omega arith) l
      ∙ ap (λ (m : ℕ). get_or (row_of (shown m)) j 0) (sym z)

  -- the bytes of the rows are the rows, one after the other
  pub rows-joined : (n : ℕ) → list_of (28 * n) (row_byte shown) ≡ rows_from shown 0 n
  rows-joined n = sym (is-list 0 (28 * n) (row_byte shown) (rows_from shown 0 n) (rows-length 0 n) (λ i h. go i h))
    where
      go : (i : ℕ) → i < 28 * n → get_or (rows_from shown 0 n) i 0 ≡ row_byte shown i
      go i h =
          let e : 28 * (i / 28) + i % 28 ≡ i = omega arith in
          let z : 0 + i / 28 ≡ i / 28 = omega arith in
          rw (← e) (rows-byte 0 n (i / 28) (i % 28) (omega arith) (omega arith) ∙ rw z (sym (row-byte shown (i / 28) (i % 28) (omega arith))))

  -- the buffer: the rows, and what stood beyond
  pub buffer-is : (n : ℕ) (l : List ℕ) → rows_over n shown l ≡ rows_from shown 0 n ++ drop (row_size * n) l
  unfolding rows_over
  buffer-is n l = ap (λ (r : List ℕ). r ++ drop (row_size * n) l) (rows-joined n)

  -- byte j of row k in the buffer
  pub byte-shown : (n : ℕ) (l : List ℕ) (k j : ℕ) → k < n → j < row_size → get_or (rows_over n shown l) (row_size * k + j) 0 ≡ get_or (row_of (shown k)) j 0
  unfolding rows_over
  byte-shown n l k j h m =
      get_or-append (list_of (row_size * n) (row_byte shown)) (drop (row_size * n) l) 0 (row_size * k + j) (omega (arith, length-list (row_size * n) (row_byte shown)))
      ∙ list_at (row_size * n) (row_byte shown) (row_size * k + j) 0 (omega arith) ∙ row-byte shown k j m

  -- each byte after the rows is as it was
  pub byte-beyond : (n : ℕ) (l : List ℕ) (i : ℕ) → row_size * n ≤ i → get_or (rows_over n shown l) i 0 ≡ get_or l i 0
  unfolding rows_over
  byte-beyond n l i h =
      let e : length (list_of (row_size * n) (row_byte shown)) + (i - row_size * n) ≡ i = omega (arith, length-list (row_size * n) (row_byte shown)) in
      let w : row_size * n + (i - row_size * n) ≡ i = omega arith in
      rw e at (get_or-append-add (list_of (row_size * n) (row_byte shown)) (drop (row_size * n) l) (i - row_size * n) 0)
      ∙ get_or-drop (row_size * n) l (i - row_size * n) 0 ∙ ap (λ (m : ℕ). get_or l m 0) w
