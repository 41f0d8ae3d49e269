-- What is ruled and printed of a sheet that is to be drawn; of a long file; which numbers are given. Assumes nothing.
use mathlib.Core.Path.{◌≡◌, refl, sym, ap, ◌∙◌}
use mathlib.Core.Bool.{Bool, true, false, cond}
use mathlib.Core.List.{List}
use Prim.{Dec, yes, no}
use Prim.Native.Nat.{ℕ, ◌+◌, ◌≤◌}
use native.Mathlib.Decide.{ℕ_discrete}
use native.Mathlib.Omega.{arith}
use lib.ListN.{length, take}
use Rattle.cells.specs.Points.{Point}
use Rattle.cells.specs.Cell.{cells_of}
use Rattle.sheet_file.specs.Bytes.{Bytes}
use Rattle.sheet_file.specs.Grammar.{longest}
use Rattle.sheet_file.specs.declared.Settings.{Settings}
use Rattle.ruling.specs.Ruling.{Ruling, refused, accepted, ruling_of, rows_size}
use Rattle.ruling.proofs.Given.{one-number, not-refused, is-given, sheet-number}
use Rattle.ruling.proofs.Bounds.{cut-ruling, never-three}
use Rattle.map_lines.specs.Map.{too_wide}
use Rattle.sheet_map.specs.Text.{map_refusals, map_ruling, map_ruling_of, map_by, map_text_of}

-- ---- as one step

ruling-is : (file : List ℕ) → map_ruling_of file ≡ map_ruling (ruling_of file rows_size)
unfolding map_ruling_of
ruling-is file = refl

pub text-is : (file : List ℕ) → map_text_of file ≡ map_by (map_ruling_of file)
unfolding map_text_of
text-is file = refl

-- the ruling on accepted points
drawn-is : (s : Settings) (ps : List Point) → map_ruling (accepted s ps) ≡ cond (too_wide (length ps) (cells_of ps)) (refused 10) (accepted s ps)
unfolding map_refusals
drawn-is s ps = refl

-- cutting a file one byte after the length of the longest does not change what is printed
pub cut-text : (file : List ℕ) → Bytes file → map_text_of (take (longest + 1) file) ≡ map_text_of file
cut-text file b =
    let same : map_ruling_of (take (longest + 1) file) ≡ map_ruling_of file = ruling-is (take (longest + 1) file) ∙ ap map_ruling (cut-ruling file b rows_size) ∙ sym (ruling-is file) in
    text-is (take (longest + 1) file) ∙ ap map_by same ∙ sym (text-is file)

-- ---- which number is given

-- "Number 10 is the map's alone": no sheet gives it
pub never-ten : (file : List ℕ) (room : ℕ) → ruling_of file room ≡ refused 10 → ⊥
never-ten file room e = (sheet-number 10 (is-given file room 10 e).listed).not-map refl

-- what the ruling on the map says of the sheet
module _ (file : List ℕ) where
  -- "after all older checks": a number of the sheet is the map's
  pub older-first : (k : ℕ) → ruling_of file rows_size ≡ refused k → map_ruling_of file ≡ refused k
  older-first k e = ruling-is file ∙ ap map_ruling e

  pub drawn-or-ten : (s : Settings) (ps : List Point) → ruling_of file rows_size ≡ accepted s ps → map_ruling_of file ≡ cond (too_wide (length ps) (cells_of ps)) (refused 10) (accepted s ps)
  drawn-or-ten s ps e = ruling-is file ∙ ap map_ruling e ∙ drawn-is s ps

  -- "points that span more than 72 values of u or 60 of v" are refused with 10
  pub ten-given : (s : Settings) (ps : List Point) → ruling_of file rows_size ≡ accepted s ps → too_wide (length ps) (cells_of ps) ≡ true → map_ruling_of file ≡ refused 10
  ten-given s ps e w = drawn-or-ten s ps e ∙ ap (λ (b : Bool). cond b (refused 10) (accepted s ps)) w

  -- others are drawn
  pub none-given : (s : Settings) (ps : List Point) → ruling_of file rows_size ≡ accepted s ps → too_wide (length ps) (cells_of ps) ≡ false → map_ruling_of file ≡ accepted s ps
  none-given s ps e w = drawn-or-ten s ps e ∙ ap (λ (b : Bool). cond b (refused 10) (accepted s ps)) w

  -- a sheet whose map is drawn: accepted, and not too wide
  pub record Narrow (s : Settings) (ps : List Point) : Type 0 where
    pub ruled : ruling_of file rows_size ≡ accepted s ps
    pub narrow : too_wide (length ps) (cells_of ps) ≡ false

  pub is-drawn : (s : Settings) (ps : List Point) → map_ruling_of file ≡ accepted s ps → Narrow s ps
  is-drawn s ps e = go (ruling_of file rows_size) refl
    where
      kept : (t : Settings) (qs : List Point) (b : Bool) → ruling_of file rows_size ≡ accepted t qs → too_wide (length qs) (cells_of qs) ≡ b
          → cond b (refused 10) (accepted t qs) ≡ accepted s ps → Narrow s ps
      kept t qs true f w q = absurd (not-refused q)
      kept t qs false f w q =
          let p : qs ≡ ps = cc in
          record { ruled = f ∙ q; narrow = ap (λ (l : List Point). too_wide (length l) (cells_of l)) (sym p) ∙ w }

      go : (x : Ruling) → ruling_of file rows_size ≡ x → Narrow s ps
      go (refused k) f = absurd (not-refused (sym (older-first k f) ∙ e))
      go (accepted t qs) f = kept t qs (too_wide (length qs) (cells_of qs)) f refl (sym (drawn-or-ten t qs f) ∙ e)

  -- a sheet that is refused with 10: accepted, and too wide
  pub record Wide : Type 0 where
    pub settings : Settings
    pub points : List Point
    pub ruled : ruling_of file rows_size ≡ accepted settings points
    pub wide : too_wide (length points) (cells_of points) ≡ true

  pub is_wide : map_ruling_of file ≡ refused 10 → Wide
  is_wide e = go (ruling_of file rows_size) refl
    where
      kept : (t : Settings) (qs : List Point) (b : Bool) → ruling_of file rows_size ≡ accepted t qs → too_wide (length qs) (cells_of qs) ≡ b → cond b (refused 10) (accepted t qs) ≡ refused 10 → Wide
      kept t qs true f w q = record { settings = t; points = qs; ruled = f; wide = w }
      kept t qs false f w q = absurd (not-refused (sym q))

      go : (x : Ruling) → ruling_of file rows_size ≡ x → Wide
      go (refused k) f = absurd (never-ten file rows_size (f ∙ ap refused (one-number k 10 (sym (older-first k f) ∙ e))))
      go (accepted t qs) f = kept t qs (too_wide (length qs) (cells_of qs)) f refl (sym (drawn-or-ten t qs f) ∙ e)

  -- the points of an accepted sheet that is refused with 10 span too much
  pub ten-wide : (s : Settings) (ps : List Point) → ruling_of file rows_size ≡ accepted s ps → map_ruling_of file ≡ refused 10 → too_wide (length ps) (cells_of ps) ≡ true
  ten-wide s ps e q =
      let w = is_wide q in
      let r : accepted s ps ≡ accepted w.settings w.points = sym e ∙ w.ruled in
      let p : ps ≡ w.points = cc in
      ap (λ (l : List Point). too_wide (length l) (cells_of l)) p ∙ w.wide

  -- a number is the sheet's, or 10
  pub number-given : (k : ℕ) → map_ruling_of file ≡ refused k → (k ≡ 10 → ⊥) → ruling_of file rows_size ≡ refused k
  number-given k e n = go (ruling_of file rows_size) refl
    where
      kept : (t : Settings) (qs : List Point) (b : Bool) → cond b (refused 10) (accepted t qs) ≡ refused k → ⊥
      kept t qs true q = n (sym (one-number 10 k q))
      kept t qs false q = not-refused (sym q)

      go : (x : Ruling) → ruling_of file rows_size ≡ x → ruling_of file rows_size ≡ refused k
      go (refused j) f = f ∙ sym (older-first j f) ∙ e
      go (accepted t qs) f = absurd (kept t qs (too_wide (length qs) (cells_of qs)) (sym (drawn-or-ten t qs f) ∙ e))

  pub number_small : (k : ℕ) → map_ruling_of file ≡ refused k → k ≤ 14
  number_small k e = go (ℕ_discrete k 10)
    where
      go : Dec (k ≡ 10) → k ≤ 14
      go (yes q) = omega arith
      go (no n) = omega (arith, (sheet-number k (is-given file rows_size k (number-given k e n)).listed).high)

  -- number 3 never arises
  pub never-three-drawn : map_ruling_of file ≡ refused 3 → ⊥
  never-three-drawn e = never-three file rows_size (omega arith) (number-given 3 e (λ q. absurd (omega arith)))
