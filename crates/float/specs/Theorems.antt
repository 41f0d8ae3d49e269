-- What holds of the root with its remainder, for every f32. Assumes nothing.
use Rattle.std.specs.Prelude.{◌≡◌, ◌↔◌, T, true, false, ℕ, zero, suc, ◌+◌, ◌-◌, ◌*◌, ◌^◌, ◌≤◌, ◌<◌, ℤ, pos, ◌+ℤ◌, ◌-ℤ◌, ◌≤ℤ◌, Float, Some, None}
use Rattle.std.specs.Float.{nan, inf, fin, binary32}
use Rattle.std.specs.Float.Ieee.{up, down, fits}
use Rattle.std.specs.Float.Ieee.Exact.{HasValue}
use Rattle.float.specs.Root.{digits4, scaled, units, root_of}
use Rattle.float.specs.Remainder.{scaled_root, root_of_zero, whole_root_of, remainder_in, is_no_remainder}
use Rattle.float.specs.declared.ScaledRoot.{ScaledRoot}

-- x is finite and above 0, and w is what is found for it: S, the remainder and the power. r is the scaled number R, and h the half of the power.
-- `HasValue x false a c` says that x is a / c, and 2 ^ h is the fraction up h / down h.
pub record WithRemainder (x : Float) (r : ℕ) (h : ℤ) (w : ScaledRoot) : Type 0 where
  -- R is x * 2 ^ power, exactly: x is R / 2 ^ power
  pub scales : HasValue x false (r * down w.power) (up w.power)
  -- the power is even
  pub even : w.power ≡ h +ℤ h
  -- R lies so that its root is from 2 ^ 23 up to below 2 ^ 24
  pub low : 2 ^ 46 ≤ r
  pub high : r < 2 ^ 48
  -- S has 24 bits
  pub root_low : 2 ^ 23 ≤ w.root
  pub root_high : w.root < 2 ^ 24
  -- S is the whole number nearest to that root: S - 1/2 < √R < S + 1/2, doubled and squared. Both are strict, so there is no tie.
  pub above : (2 * w.root - 1) * (2 * w.root - 1) < 4 * r
  pub below : 4 * r < (2 * w.root + 1) * (2 * w.root + 1)
  -- the remainder is R - S²
  pub remains : w.remainder ≡ pos r -ℤ pos (w.root * w.root)
  -- 1 - S ≤ R - S² ≤ S
  pub least : (pos 1 -ℤ pos w.root) ≤ℤ w.remainder
  pub most : w.remainder ≤ℤ pos w.root
  -- the root as f32 is S / 2 ^ h
  pub value : HasValue (root_of x) false (w.root * down h) (up h)
  -- The remainder is 0 exactly when the root is exact: when R is S². Where R is the square of any whole number, that is S.
  pub exact : (w.remainder ≡ pos 0) ↔ (r ≡ w.root * w.root)
  pub whole : (t : ℕ) → r ≡ t * t → w.remainder ≡ pos 0
  -- In the words of f32s: exactly when x is the square of its root as f32. Where x is the square of any fraction, that is its root as f32.
  pub squared : (g c : ℕ) → 0 < c → HasValue (root_of x) false g c → ((w.remainder ≡ pos 0) ↔ HasValue x false (g * g) (c * c))
  pub fraction : (g c : ℕ) → 0 < c → HasValue x false (g * g) (c * c) → w.remainder ≡ pos 0

-- "Zero of either sign has S = 0 and remainder 0. For negatives, infinity and NaN there is neither, and this is said."
abbrev pub FoundFor : Float → Type 0
FoundFor nan = whole_root_of nan ≡ None
FoundFor (inf s) = whole_root_of (inf s) ≡ None
FoundFor (fin s zero e) = whole_root_of (fin s zero e) ≡ Some root_of_zero
FoundFor (fin true (suc m) e) = whole_root_of (fin true (suc m) e) ≡ None
FoundFor (fin false (suc m) e) =
    let n = units (suc m) e in
    (whole_root_of (fin false (suc m) e) ≡ Some (scaled_root n)) × WithRemainder (fin false (suc m) e) (scaled n) (pos 99 -ℤ pos (digits4 n)) (scaled_root n)

-- of every f32
abbrev pub RemainderTheorem : Type 0
RemainderTheorem = (x : Float) → T (fits binary32 x) → FoundFor x

-- "a residual whose remainder is 0": an f32 that is finite and above 0 has the remainder 0 exactly when it is the square of a fraction g / c
abbrev pub ExactTheorem : Type 0
ExactTheorem = (m : ℕ) (e : ℤ) → let x = fin false (suc m) e in
    T (fits binary32 x) → ((is_no_remainder (remainder_in (whole_root_of x)) ≡ true) ↔ ((g : ℕ) × (c : ℕ) × (0 < c) × HasValue x false (g * g) (c * c)))
