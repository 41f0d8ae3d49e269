-- What the code has read and stored, as the definitions have it. Assumes nothing.
use mathlib.Core.Path.{◌≡◌, refl, sym, ap, ◌∙◌}
use mathlib.Core.List.{List, [], ◌∷◌, ◌++◌}
use Prim.Native.Nat.{ℕ, suc, ◌+◌, ◌*◌, ◌/◌, ◌%◌, ◌≤◌, ◌<◌}
use native.Mathlib.Omega.{arith}
use native.Mathlib.Numerals.{add-one}
use lib.ListN.{length, get_or, take, drop}
use Rattle.std.proofs.Common.{subst}
use Rattle.std.proofs.lemmas.List.{append_assoc, drop-drop}
use Rattle.std.proofs.lemmas.List.Edits.{sets-eq}
use lib.Seq.{sets}
use Rattle.folds.specs.Column.{Filling}
use Rattle.folds.proofs.Column.{fill_more}
use Rattle.rows.specs.Rows.{row_of, row_size, row_byte}
use Rattle.judged.specs.Shown.{Shown}

-- a run of stores fills as far as it goes
pub fill-sets : (l₀ : List ℕ) (f : ℕ → ℕ) (i : ℕ) (l s : List ℕ) → i + length s ≤ length l₀ → ((j : ℕ) → j < length s → get_or s j 0 ≡ f (i + j)) → Filling l₀ 0 f i l
    → Filling l₀ 0 f (i + length s) (sets l i s)
fill-sets l₀ f i l [] h e r = let z : i + 0 ≡ i = omega arith in rw z r
fill-sets l₀ f i l (a ∷ s) h e r =
    let z : i + 0 ≡ i = omega arith in
    let w : i + suc (length s) ≡ suc i + length s = omega arith in
    let more : Filling l₀ 0 f (suc i) _ = rw (add-one i) at (fill_more l₀ 0 f a (omega arith) (e 0 (omega arith) ∙ ap f z) r) in
    rw w (fill-sets l₀ f (suc i) _ s (omega arith) (λ j g. let v : i + suc j ≡ suc i + j = omega arith in e (suc j) (omega arith) ∙ ap f v) more)

pub row-length : (s : Shown) → length (row_of s) ≡ row_size
unfolding row_of
row-length s = refl

pub row-byte : (shown : ℕ → Shown) (k j : ℕ) → j < row_size → row_byte shown (row_size * k + j) ≡ get_or (row_of (shown k)) j 0
unfolding row_byte
row-byte shown k j h =
    let d : (row_size * k + j) / row_size ≡ k = omega arith in
    let m : (row_size * k + j) % row_size ≡ j = omega arith in
    rw (d, m)

-- one row more
pub fill-row : (l₀ : List ℕ) (shown : ℕ → Shown) (k : ℕ) {l : List ℕ} → row_size * k + row_size ≤ length l₀ → Filling l₀ 0 (row_byte shown) (row_size * k) l
    → Filling l₀ 0 (row_byte shown) (row_size * (k + 1)) (take (row_size * k) l ++ (row_of (shown k) ++ drop row_size (drop (row_size * k) l)))
fill-row l₀ shown k {l} h r =
    let s = row_of (shown k) in
    let at = row_size * k in
    let n = row-length (shown k) in
    let w : row_size * (k + 1) ≡ at + length s = omega arith in
    let e : sets l at s ≡ take at l ++ (s ++ drop row_size (drop at l)) =
    sets-eq s l at (omega (arith, r.long)) ∙ append_assoc (take at l) s (drop (at + length s) l)
    ∙ ap (λ (rest : List ℕ). take at l ++ (s ++ rest)) (ap (λ (i : ℕ). drop (at + i) l) n ∙ sym (drop-drop row_size at l)) in
    subst (λ (i : ℕ). Filling l₀ 0 (row_byte shown) i (take at l ++ (s ++ drop row_size (drop at l)))) (sym w)
    (subst (Filling l₀ 0 (row_byte shown) (at + length s)) e (fill-sets l₀ (row_byte shown) at l s (omega arith) (λ j g. sym (row-byte shown k j (omega arith))) r))
