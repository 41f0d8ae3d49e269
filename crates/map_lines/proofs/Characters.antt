-- What the characters of the map mean: of a cell with one point, of a cell with none, and of a point's marks. Assumes nothing.
use mathlib.Core.Path.{◌≡◌, refl, sym, ap, ◌∙◌}
use mathlib.Core.Bool.{Bool, true, false, cond, not, ◌&&◌, true≢false}
use mathlib.Core.List.{List}
use Prim.{Dec, yes, no}
use Prim.Native.Nat.{ℕ, ◌<◌}
use native.Mathlib.Decide.{dec_lt}
use native.Mathlib.Omega.{arith}
use borrow.Author.Tests.{lt-ltb, le-ltb, eqb-true, eq-eqb}
use lib.Dec.{eqb}
use lib.ListN.{length, get_or}
use Rattle.folds.specs.Below.{every}
use Rattle.folds.proofs.Below.{fold-kept, fold-last, fold-keeps, every-at, first-before, first-hit}
use Rattle.cells.specs.Cell.{Cell, coincide}
use Rattle.cells.proofs.Edges.{coincide-same, coincide-true}
use Rattle.marks.specs.Filters.{filter_at, filter_count}
use Rattle.marks.specs.Byte.{has_mark, first_mark}
use Rattle.text.specs.Text.{bytes}
use Rattle.map_lines.specs.Map.{point_character, cell_character}
use Rattle.std.proofs.lemmas.Bool.{and_parts, false_from_ne_true}

-- ---- of a point's marks

-- the first byte is not c
abbrev other : ℕ → List ℕ → Bool
other c t = not (eqb (get_or t 0 0) c)

differs : (c : ℕ) (t : List ℕ) → other c t ≡ true → get_or t 0 0 ≡ c → ⊥
differs c t e q = true≢false (sym e ∙ ap not (eq-eqb (get_or t 0 0) c q))

-- a letter is one byte, and neither "#" (35) nor "." (46) nor a newline (10)
abbrev is_letter : ℕ → Bool
is_letter f =
    let t = bytes (filter_at f).letter in
    eqb (length t) 1 && (other 35 t && (other 46 t && other 10 t))

letters : (f : ℕ) → f < filter_count → is_letter f ≡ true
unfolding every
letters = every-at is_letter filter_count refl

-- what the test says
pub record Letter (t : List ℕ) : Type 0 where
  pub one : length t ≡ 1
  pub not-kept : t ≡ bytes "#" → ⊥
  pub not_none : t ≡ bytes "." → ⊥
  pub not-newline : get_or t 0 0 ≡ 10 → ⊥

pub letter : (f : ℕ) → f < filter_count → Letter (bytes (filter_at f).letter)
letter f l =
    let t = bytes (filter_at f).letter in
    let a = letters f l in
    let b = (and_parts (eqb (length t) 1) (other 35 t && (other 46 t && other 10 t)) a).1 in
    let c = (and_parts (other 35 t) (other 46 t && other 10 t) b).1 in
    record {
      one = eqb-true (length t) 1 (and_parts (eqb (length t) 1) (other 35 t && (other 46 t && other 10 t)) a).0;
      not-kept = λ e. differs 35 t (and_parts (other 35 t) (other 46 t && other 10 t) b).0 (ap (λ (s : List ℕ). get_or s 0 0) e);
      not_none = λ e. differs 46 t (and_parts (other 46 t) (other 10 t) c).0 (ap (λ (s : List ℕ). get_or s 0 0) e);
      not-newline = differs 10 t (and_parts (other 46 t) (other 10 t) c).1;
    }

module _ (m : ℕ) where
  abbrev marked : ℕ → Bool
  marked f = has_mark f m

  -- "else the letter of the first filter"
  pub first-character : (f : ℕ) → f < filter_count → has_mark f m ≡ true → ((g : ℕ) → g < f → has_mark g m ≡ false) → point_character m ≡ bytes (filter_at f).letter
  unfolding first_mark
  first-character f l e h = rw (first-hit marked filter_count f l e h, lt-ltb f filter_count l)

  -- what holds of "#" and of each letter holds of a point's character
  by-letters : (P : List ℕ → Type 0) → P (bytes "#") → ((f : ℕ) → f < filter_count → P (bytes (filter_at f).letter)) → P (point_character m)
  by-letters P kept each = go (dec_lt (first_mark m) filter_count)
    where
      go : Dec (first_mark m < filter_count) → P (point_character m)
      go (yes l) = rw (lt-ltb (first_mark m) filter_count l) (each (first_mark m) l)
      go (no f) = rw (le-ltb (first_mark m) filter_count (omega (arith, f))) kept

  -- it is "#" only where no filter has marked the point
  pub kept-only : point_character m ≡ bytes "#" → (f : ℕ) → f < filter_count → has_mark f m ≡ false
  unfolding first_mark
  kept-only e f l = go (dec_lt (first_mark m) filter_count) e
    where
      go : Dec (first_mark m < filter_count) → point_character m ≡ bytes "#" → has_mark f m ≡ false
      go (yes h) e =
          absurd ((letter (first_mark m) h).not-kept (rw (lt-ltb (first_mark m) filter_count h) at e))
      go (no h) e = first-before marked 0 filter_count f (omega arith) (omega (arith, h))

  pub one-character : length (point_character m) ≡ 1
  one-character = by-letters (λ (t : List ℕ). length t ≡ 1) refl (λ f l. (letter f l).one)

  pub no-newline : get_or (point_character m) 0 0 ≡ 10 → ⊥
  no-newline = by-letters (λ (t : List ℕ). get_or t 0 0 ≡ 10 → ⊥) (λ e. absurd (omega arith)) (λ f l. (letter f l).not-newline)

  pub no-full-stop : point_character m ≡ bytes "." → ⊥
  no-full-stop = by-letters (λ (t : List ℕ). t ≡ bytes "." → ⊥) (λ e. let z : ◌≡◌ {A = ℕ} 35 46 = ap (λ (t : List ℕ). get_or t 0 0) e in omega arith) (λ f l. (letter f l).not_none)

-- ---- of a cell

module _ (n : ℕ) (cell : ℕ → Cell) (marks : List ℕ) (c : Cell) where
  abbrev here : ℕ → Bool
  here k = coincide (cell k) c

  abbrev shown : ℕ → List ℕ
  shown k = point_character (get_or marks k 0)

  not-here : (k : ℕ) → (cell k ≡ c → ⊥) → here k ≡ false
  not-here k f = false_from_ne_true (here k) (λ e. f (coincide-true (cell k) c e))

  -- the cell of one rank alone has the character of that rank's marks
  pub point-shown : (k : ℕ) → k < n → cell k ≡ c → ((j : ℕ) → j < n → cell j ≡ c → j ≡ k) → cell_character n cell marks c ≡ shown k
  unfolding cell_character
  point-shown k l e alone = fold-last here shown (bytes ".") n k l (coincide-same (cell k) c e) (λ j a b. not-here j (λ d. absurd (omega (arith, alone j b d))))

  -- "a full stop is no point"
  pub none-shown : ((k : ℕ) → k < n → cell k ≡ c → ⊥) → cell_character n cell marks c ≡ bytes "."
  unfolding cell_character
  none-shown h = fold-kept here (λ k t. shown k) (bytes ".") n (λ k l. not-here k (h k l))

  -- what holds of a full stop and of every point's character holds of a cell's
  pub by-points : (P : List ℕ → Type 0) → P (bytes ".") → ((m : ℕ) → P (point_character m)) → P (cell_character n cell marks c)
  unfolding cell_character
  by-points P none each = fold-keeps (λ k t. P t) (λ k t. cond (here k) (shown k) t) (bytes ".") n none (λ k l t p. go (here k) t p (each (get_or marks k 0)))
    where
      go : (b : Bool) {s : List ℕ} (t : List ℕ) → P t → P s → P (cond b s t)
      go true t p q = q
      go false t p q = p
