-- Settings, and whether their flags and floats are in order, are read of the first bytes of a file. Assumes nothing.
use Rattle.std.specs.List.{list_any}
use Rattle.std.specs.Prelude.{None, Option, Some}
use mathlib.Core.Path.{◌≡◌, refl, ap, ◌∙◌}
use mathlib.Core.Bool.{Bool, true, false, cond, ◌&&◌, ◌||◌, false≢true}
use mathlib.Core.List.{List, [], ◌∷◌}
use mathlib.Core.Logic.{◌⊎◌, inl, inr}
use Prim.Native.Nat.{ℕ, ◌+◌, ◌≤◌, ◌<◌}
use native.Mathlib.Omega.{arith}
use lib.Ieee.{Float}
use lib.ListN.{length, get_or, length-append}
use borrow.Author.Tests.{eqb-true}
use Rattle.folds.proofs.Below.{and-under}
use Rattle.sheet_file.specs.Bytes.{le16, le32}
use Rattle.sheet_file.specs.Frame.{gate_start}
use Rattle.sheet_file.specs.Limit.{outside}
use Rattle.sheet_file.specs.Refusals.{float_at, defaults_for, settings_in, gate_in, edge_shape_of, fraction_of, settings_of, bad_flag, settings_floats, gate_floats, bad_float}
use Rattle.sheet_file.specs.declared.EdgeShapeParams.{EdgeShapeParams}
use Rattle.sheet_file.specs.declared.Fraction.{Fraction}
use Rattle.sheet_file.specs.declared.Layout.{Layout}
use Rattle.sheet_file.specs.declared.Settings.{Settings}
use Rattle.sheet_file.proofs.Words.{le16-same, le32-same}
use Rattle.written_file.proofs.Framed.{Head, layout_with}
use Rattle.written_file.proofs.Parts.{gate-same}

-- the settings of a file with these fields and this fraction
abbrev pub settings_with : List ℕ → Layout → Fraction → Settings
settings_with file f x = cond f.full (settings_in file (edge_shape_of file f) x) (defaults_for (float_at file 3) (edge_shape_of file f) x)

-- so are those that are read
pub settings-are : (file : List ℕ) (f : Layout) → settings_of file f ≡ settings_with file f (fraction_of file f)
unfolding settings_of
settings-are file f = refl

-- tags 1 and 2 are within these bytes
pub record Within (head : List ℕ) (f : Layout) : Type 0 where
  pub short : 7 ≤ length head
  pub long : f.full ≡ true → 24 ≤ length head
  pub gate : f.gated ≡ true → gate_start f.full + 17 ≤ length head

-- how long they are
pub head-length : {head : List ℕ} (h : Head head) → length head ≡ length h.settings + length h.gate + 3
head-length h = ap length h.head_is ∙ simp length-append (omega arith)

-- tags 1 and 2 are within the first bytes, whatever follows
pub head-within : {head : List ℕ} (h : Head head) (count : ℕ) (weighed : Bool) (k : ℕ) → Within head (layout_with (length h.settings) (length h.gate) count weighed k)
head-within {head} h count weighed k = go (length h.settings) refl h.settings-size
  where
    m : ℕ
    m = length h.gate

    go : (n : ℕ) → length h.settings ≡ n → (n ≡ 21) ⊎ (n ≡ 4) → Within head (layout_with n m count weighed k)
    go n e (inl q) = rw q (record { short = omega (arith, head-length h); long = λ t. omega (arith, head-length h); gate = λ t. omega (arith, head-length h, eqb-true m 20 t) })
    go n e (inr q) = rw q (record { short = omega (arith, head-length h); long = λ t. absurd (false≢true t); gate = λ t. omega (arith, head-length h, eqb-true m 20 t) })

-- a file begins with these bytes
abbrev pub Begins : List ℕ → List ℕ → Type 0
Begins file head = (k : ℕ) → k < length head → get_or file k 0 ≡ get_or head k 0

-- what is read of a file is read of its first bytes, if tags 1 and 2 are within them
module _ (file head : List ℕ) (same : Begins file head) (f : Layout) (b : Within head f) where
  half : (k : ℕ) → k + 2 ≤ length head → le16 file k ≡ le16 head k
  half k h = le16-same head k file k (λ j l. same (k + j) (omega arith))

  word : (k : ℕ) → k + 4 ≤ length head → le32 file k ≡ le32 head k
  word k h = le32-same head k file k (λ j l. same (k + j) (omega arith))

  -- tag 2, if it is there
  gate-read : f.gated ≡ true → (gate_in file (gate_start f.full) ≡ gate_in head (gate_start f.full)) × (gate_floats file (gate_start f.full) ≡ gate_floats head (gate_start f.full))
  gate-read t = gate-same head (gate_start f.full) file (gate_start f.full) (λ j l. same (gate_start f.full + j) (omega (arith, b.gate t)))

  edge-read : edge_shape_of file f ≡ edge_shape_of head f
  unfolding edge_shape_of
  edge-read = go f.gated (λ t. (gate-read t).0)
    where
      go : (t : Bool) → (t ≡ true → gate_in file (gate_start f.full) ≡ gate_in head (gate_start f.full)) → cond t (Some (gate_in file (gate_start f.full))) None ≡ cond t (Some (gate_in head (gate_start f.full))) None
      go true e = ap Some (e refl)
      go false e = refl

  -- of all 21 bytes
  full-read : 24 ≤ length head → (g : Option EdgeShapeParams) (x : Fraction) → settings_in file g x ≡ settings_in head g x
  unfolding settings_in
  full-read l g x =
      rw (
        word 3 (omega arith),
        word 7 (omega arith),
        half 11 (omega arith),
        word 13 (omega arith),
        same 17 (omega arith),
        word 18 (omega arith),
        same 22 (omega arith),
        same 23 (omega arith),
      )

  -- the settings with any fraction
  pub head-settings : (x : Fraction) → settings_with file f x ≡ settings_with head f x
  head-settings x = rw edge-read (go f.full b.long (edge_shape_of head f))
    where
      go : (t : Bool) → (t ≡ true → 24 ≤ length head) → (g : Option EdgeShapeParams) → cond t (settings_in file g x) (defaults_for (float_at file 3) g x) ≡ cond t (settings_in head g x) (defaults_for (float_at head 3) g x)
      go true l g = full-read (l refl) g x
      go false l g = rw (word 3 (omega (arith, b.short)))

  -- the conditions of numbers 4 and 5
  pub head-flags : bad_flag file f ≡ bad_flag head f
  unfolding bad_flag
  head-flags = and-under f.full (λ t. let l = b.long t in rw (same 17 (omega arith), same 22 (omega arith), same 23 (omega arith)))

  floats-in : settings_floats file f.full ≡ settings_floats head f.full
  floats-in = rw (word 3 (omega (arith, b.short))) (go f.full b.long)
    where
      go : (t : Bool) → (t ≡ true → 24 ≤ length head) → float_at head 3 ∷ cond t (float_at file 7 ∷ float_at file 13 ∷ float_at file 18 ∷ []) [] ≡ float_at head 3 ∷ cond t (float_at head 7 ∷ float_at head 13 ∷ float_at head 18 ∷ []) []
      go true e = let l = e refl in rw (word 7 (omega arith), word 13 (omega arith), word 18 (omega arith))
      go false e = refl

  pub head-floats : bad_float file f ≡ bad_float head f
  unfolding bad_float
  head-floats =
      ap (λ (l : List Float). list_any outside l || (f.gated && list_any outside (gate_floats file (gate_start f.full)))) floats-in
      ∙ ap (λ (t : Bool). list_any outside (settings_floats head f.full) || t) (and-under f.gated (λ t. ap (list_any outside) (gate-read t).1))
