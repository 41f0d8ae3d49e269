-- A place below n that is hit: the guard that it is below n tells nothing where m is. Assumes nothing.
use mathlib.Core.Path.{◌≡◌, refl, ap, ◌∙◌}
use mathlib.Core.Bool.{Bool, true, false, cond, ◌&&◌}
use Rattle.std.specs.Prelude.{Some, None}
use mathlib.Core.List.{List}
use Prim.Native.Nat.{ℕ, ◌≤◌, ◌<◌}
use native.Mathlib.Omega.{arith}
use native.Mathlib.Decide.{ℕ_discrete}
use Prim.{yes, no}
use lib.Dec.{eqb, ltb}
use borrow.Author.Tests.{lt-ltb, le-ltb, ne_eqb}
use lib.ListN.{replicate}
use Rattle.folds.specs.Below.{some}
use Rattle.folds.proofs.Below.{some-ext, some-no}
use Rattle.folds.specs.Column.{column}
use Rattle.folds.proofs.Column.{column-ext, column-at}
use Rattle.folds.specs.Marked.{bit, Marked}
use Rattle.folds.proofs.Marked.{bit_is, marked-column}
use Rattle.view.specs.View.{View, max_points, alike, index_has}
use Rattle.view.specs.Seen.{below}
use Rattle.marks.specs.Marks.{is_set, is_at, index_marks}
use Rattle.std.proofs.Math.Bool.{and-false}

pub guard : (a m n : ℕ) → m < n → ltb a n && eqb a m ≡ eqb a m
guard a m n h = elim (ℕ_discrete a m) [ yes e ↦ rw (lt-ltb a n (omega arith)) | no f ↦ rw (ne_eqb a m f) (and-false (ltb a n)) ]

pub past : (a m n : ℕ) → n ≤ m → ltb a n && eqb a m ≡ false
past a m n h = elim (ℕ_discrete a m) [ yes e ↦ rw (le-ltb a n (omega arith)) | no f ↦ rw (ne_eqb a m f) (and-false (ltb a n)) ]

-- marks set in an array of zeros, as a column of a plainer test
pub marked-as-column : (hit test : ℕ → Bool) (size n : ℕ) {b : List ℕ} → n ≤ size → ((m : ℕ) → n ≤ m → hit m ≡ false) → ((m : ℕ) → m < n → hit m ≡ test m)
    → Marked hit (replicate size 0) b → b ≡ column size 0 n (λ (m : ℕ). bit (test m))
marked-as-column hit test size n h none same r =
    marked-column hit size n h none r ∙ column-ext size 0 n (λ (m : ℕ). bit (hit m)) (λ (m : ℕ). bit (test m)) (λ m l. ap bit (same m l))

-- the same, where each k hits some places
pub each-as-column : (hits tests : ℕ → ℕ → Bool) (size n : ℕ) {b : List ℕ} → n ≤ size → ((k m : ℕ) → k < n → n ≤ m → hits k m ≡ false) → ((k m : ℕ) → k < n → m < n → hits k m ≡ tests k m)
    → Marked (λ (m : ℕ). some (λ (k : ℕ). hits k m) n) (replicate size 0) b → b ≡ column size 0 n (λ (m : ℕ). bit (some (λ (k : ℕ). tests k m) n))
each-as-column hits tests size n h none same r =
    marked-as-column (λ (m : ℕ). some (λ (k : ℕ). hits k m) n) (λ (m : ℕ). some (λ (k : ℕ). tests k m) n) size n h
    (λ m l. some-no (λ (k : ℕ). hits k m) n (λ k g. none k m g l))
    (λ m l. some-ext (λ (k : ℕ). hits k m) (λ (k : ℕ). tests k m) n (λ k g. same k m g l)) r

-- a column of marks is read as its test
pub set_is : (size n : ℕ) (t : ℕ → Bool) (mark : List ℕ) → mark ≡ column size 0 n (λ (k : ℕ). bit (t k)) → (k : ℕ) → k < n → is_set mark k ≡ t k
set_is size n t mark e k h = rw (e, column-at size 0 n (λ (k : ℕ). bit (t k)) k h) (bit_is (t k))

-- and the marks of indices that are gathered of it are what the test says of the index
pub index-marks : (w : View) (t : ℕ → Bool) (mark : List ℕ) → mark ≡ column max_points 0 w.count (λ (k : ℕ). bit (t k)) → index_marks w mark ≡ column max_points 0 w.count (λ (k : ℕ). bit (index_has w t k))
unfolding index_marks
index-marks w t mark e =
    column-ext max_points 0 w.count (λ (k : ℕ). bit (index_has w (is_set mark) k)) (λ (k : ℕ). bit (index_has w t k))
    (λ k h. ap bit (some-ext (λ (j : ℕ). is_set mark j && alike w j k) (λ (j : ℕ). t j && alike w j k) w.count (λ j l. rw (set_is max_points w.count t mark e j l))))

-- the place of a rank, or nothing if it is none
pub at-below : (n r m : ℕ) → is_at (below n r) m ≡ ltb r n && eqb r m
at-below n r m = elim (ltb r n) as (λ b. is_at (cond b (Some r) None) m ≡ b && eqb r m) [ true ↦ refl | false ↦ refl ]
