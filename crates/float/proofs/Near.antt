-- The nearest whole root: the definition that computes is the nearest one, and its range for a significand. Assumes nothing.
use mathlib.Core.Path.{◌≡◌, sym, ap, ◌∙◌, subst}
use mathlib.Core.Bool.{Bool, true, false, not, cond}
use Prim.Native.Nat.{ℕ, zero, suc, ◌+◌, ◌-◌, ◌*◌, ◌/◌, ◌%◌, ◌^◌, ◌≤◌, ◌<◌}
use native.Mathlib.Nat.{le_antisymm, le_of_suc-le-suc, lt_of_not-le, le_dest, mul_comm, mul-add, add-mul, mul-le-mul_right, pow-succ'}
use native.Mathlib.Omega.{arith}
use lib.Dec.{T, leb, ltb, leb→le, nleb→lt, ltb→lt, nltb→le}
use Rattle.float.specs.Root.{floor_root, near_root}
use Rattle.float.specs.Constants.{hidden_bit}
use Rattle.float.proofs.Squares.{next-square, odd-square, double-square, square_le}

-- r is the root of n, rounded down
abbrev Floor : ℕ → ℕ → Type 0
Floor n r = (r * r ≤ n) × (n < (r + 1) * (r + 1))

-- s is the whole number nearest to the root of n: s - 1/2 < √n < s + 1/2, doubled and squared. Both are strict, so there is no tie.
pub record NearRoot (n s : ℕ) : Type 0 where
  pub above : (2 * s - 1) * (2 * s - 1) < 4 * n
  pub below : 4 * n < (2 * s + 1) * (2 * s + 1)

-- the remainder n - s * s lies from 1 - s to s
abbrev pub Remainder : ℕ → ℕ → Type 0
Remainder n s = (s * s + 1 ≤ n + s) × (n ≤ s * s + s)

digit : (n q : ℕ) → Floor (n / 4) q → Floor n (cond (leb ((2 * q + 1) * (2 * q + 1)) n) (2 * q + 1) (2 * q))
digit n q h = go (leb ((2 * q + 1) * (2 * q + 1)) n) (leb→le ((2 * q + 1) * (2 * q + 1)) n) (nleb→lt ((2 * q + 1) * (2 * q + 1)) n)
  where
    go : (b : Bool) → (T b → (2 * q + 1) * (2 * q + 1) ≤ n) → (T (not b) → n < (2 * q + 1) * (2 * q + 1)) → Floor n (cond b (2 * q + 1) (2 * q))
    go true l g = (l tt, omega (arith, h.1, next-square q, odd-square q, next-square (2 * q + 1)))
    go false l g = (omega (arith, h.0, double-square q), g tt)

floor_root-is : (k n : ℕ) → n < 4 ^ k → Floor n (floor_root k n)
unfolding floor_root
floor_root-is zero n h = omega arith
floor_root-is (suc k) n h = digit n (floor_root k (n / 4)) (floor_root-is k (n / 4) (omega (arith, subst (λ (x : ℕ). n < x) (pow-succ' 4 k) h)))

pub remainder : (n : ℕ) → 0 < n → n < 4 ^ 24 → Remainder n (near_root n)
unfolding near_root
remainder n N h = go (floor_root 24 n) (floor_root-is 24 n h)
  where
    at : (r : ℕ) → Floor n r → 0 < r → (b : Bool) → (T b → r * r + r < n) → (T (not b) → n ≤ r * r + r) → Remainder n (cond b (r + 1) r)
    at r f R true l g = omega (arith, l tt, f.1, next-square r)
    at r f R false l g = omega (arith, f.0, g tt)

    some : (r : ℕ) → n < (r + 1) * (r + 1) → 0 < r
    some r f = lt_of_not-le (λ (g : r ≤ 0). omega (arith, next-square r, square_le g))

    go : (r : ℕ) → Floor n r → Remainder n (cond (ltb (r * r + r) n) (r + 1) r)
    go r f = at r f (some r f.1) (ltb (r * r + r) n) (ltb→lt (r * r + r) n) (nltb→le (r * r + r) n)

-- there is only one with such a remainder
not-past : (n s t : ℕ) → Remainder n s → Remainder n t → s ≤ t
not-past n s t h k = le_of_suc-le-suc (omega (arith, lt_of_not-le (λ (g : t + 1 ≤ s). past (le_dest g).0 (le_dest g).1)))
  where
    past : (d : ℕ) → t + 1 + d ≡ s → ⊥
    past d e = omega (arith, subst (λ (x : ℕ). x * x + 1 ≤ n + x) (sym e) h.0, k.1, expand)
      where
        expand : (t + 1 + d) * (t + 1 + d) ≡ t * t + 2 * t + 1 + 2 * (t * d) + 2 * d + d * d
        expand = simp (mul-add, add-mul) (omega (arith, mul_comm d t))

pub near-only : (n s : ℕ) → 0 < n → n < 4 ^ 24 → Remainder n s → s ≡ near_root n
near-only n s N h k = let r = remainder n N h in le_antisymm (not-past n s (near_root n) k r) (not-past n (near_root n) s r k)

-- and it is 2 ^ 24 at most
pub record Rounded (n s : ℕ) : Type 0 where
  pub small : s ≤ 2 ^ 24
  pub square : s * s ≤ 2 ^ 48
  pub above : s * s + 1 ≤ n + s
  pub below : n ≤ s * s + s

pub rounded : (n s : ℕ) → 0 < n → n < 4 ^ 24 → s ≡ near_root n → Rounded n s
rounded n s N h e =
    let r = rw (← e) at (remainder n N h) in
    let m : s < 2 ^ 24 + 1 = lt_of_not-le (λ (g : 2 ^ 24 + 1 ≤ s). omega (arith, r.0, mul-le-mul_right s g)) in
    record { small = omega arith; square = square_le {a = s} {b = 2 ^ 24} (omega arith); above = r.0; below = r.1 }

-- and so the whole number s is the nearest
pub near-of-remainder : (n s : ℕ) → Remainder n s → NearRoot n s
near-of-remainder n zero h = absurd (omega arith)
near-of-remainder n (suc k) h =
    let e : 2 * suc k - 1 ≡ 2 * k + 1 = omega arith in
    record { above = subst (λ (x : ℕ). x * x < 4 * n) (sym e) (omega (arith, odd-square k, square)); below = omega (arith, odd-square (suc k)) }
  where
    square : suc k * suc k ≡ k * k + 2 * k + 1
    square = ap (λ (x : ℕ). x * x) (omega arith) ∙ next-square k

-- the nearest root of a significand, of 24 bits, that is shifted up by 23 or 24 places has 24 bits
range : (n s : ℕ) → 2 ^ 46 ≤ n → n ≤ 2 ^ 48 - 2 ^ 24 → Remainder n s → (2 ^ 23 ≤ s) × (s < 2 ^ 24)
range n s l h p = (le_of_suc-le-suc (omega (arith, lt_of_not-le low)), lt_of_not-le (λ (g : 2 ^ 24 ≤ s). far (le_dest g).0 (le_dest g).1))
  where
    low : s + 1 ≤ hidden_bit → ⊥
    low g = omega (arith, square_le {a = s} {b = 8388607} (omega arith), p.1)

    far : (d : ℕ) → 2 ^ 24 + d ≡ s → ⊥
    far d e = omega (arith, subst (λ (x : ℕ). x * x + 1 ≤ n + x) (sym e) p.0, expand)
      where
        expand : (2 ^ 24 + d) * (2 ^ 24 + d) ≡ 2 ^ 48 + 2 ^ 25 * d + d * d
        expand = simp (mul-add, add-mul) (omega (arith, mul_comm d (2 ^ 24)))

-- a significand of 24 bits that is shifted up by 23 or 24 places, as the machine has it, cut to 64 bits
pub shifted : (m p : ℕ) → 2 ^ 23 ≤ m → m < 2 ^ 24 → p < 2 → (m * 2 ^ (23 + p) % 2 ^ 64 ≡ m * 2 ^ (23 + p)) × (2 ^ 46 ≤ m * 2 ^ (23 + p)) × (m * 2 ^ (23 + p) ≤ 2 ^ 48 - 2 ^ 24)
shifted m zero l h q = omega arith
shifted m (suc zero) l h q = omega arith
shifted m (suc (suc p)) l h q = omega arith

-- the significand of a root has 24 bits
pub significand : (m p : ℕ) → 2 ^ 23 ≤ m → m < 2 ^ 24 → p < 2 → (2 ^ 23 ≤ near_root (m * 2 ^ (23 + p))) × (near_root (m * 2 ^ (23 + p)) < 2 ^ 24)
significand m p l h q =
    let t = shifted m p l h q in
    let n = m * 2 ^ (23 + p) in
    range n (near_root n) t.1 t.2 (remainder n (omega (arith, t.1)) (omega (arith, t.2)))
