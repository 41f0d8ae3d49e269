-- The least and the largest of two f32 numbers of any sign: one of them is under a limit just where the least is, and one is over it just where
-- the largest is. Assumes nothing.
use mathlib.Core.Path.{◌≡◌, refl, sym, ap, ◌∙◌}
use mathlib.Core.Bool.{Bool, true, false, cond, ◌||◌, true≢false}
use Prim.Native.Nat.{ℕ, ◌+◌, ◌-◌, ◌*◌, ◌≤◌, ◌<◌}
use native.Mathlib.Nat.{le_of_lt, mul_assoc, mul_comm, mul-pos, add-mul, zero-mul, mul-le-mul_right, mul-lt-mul_of_pos_right}
use native.Mathlib.Omega.{arith}
use lib.Dec.{ltb}
use lib.IntN.{ℤ}
use borrow.Author.Tests.{lt-ltb, le-ltb, ltb-true, ltb-false}
use lib.Ieee.{Float, nan, inf, fin, up, down, below, is_nan, lt}
use lib.Ieee.Positive.{num, den, den_pos}
use Rattle.float.specs.Scalar.{max_of}
use Rattle.float.proofs.Nan.{only_nan}
use Rattle.std.proofs.Math.Bool.{or-false}
use Rattle.folds.proofs.Scattered.{or_same, or-next}

-- ---- a NaN is under nothing and over nothing

nan-over : (x : Float) → lt x nan ≡ false
unfolding lt
nan-over nan = refl
nan-over (inf s) = refl
nan-over (fin s m e) = refl

nan-under : (x : Float) → lt nan x ≡ false
unfolding lt
nan-under x = refl

-- ---- numbers as places on a line

-- where x stands if its magnitude is a, in a unit of its own, and 0 stands at o
place : ℕ → ℕ → Float → ℕ
place o a nan = 0
place o a (inf s) = cond s 0 (o + o)
place o a (fin s m e) = cond s (o - a) (o + a)

decided : (t : Bool) (p q : ℕ) → (t ≡ true → p < q) → (t ≡ false → q ≤ p) → t ≡ ltb p q
decided true p q f g = sym (lt-ltb p q (f refl))
decided false p q f g = sym (le-ltb p q (g refl))

module _ (o k : ℕ) (K : 0 < k) where
  finite-place : (s : Bool) (m : ℕ) (e : ℤ) (t : Bool) (n : ℕ) (d : ℤ) (a b : ℕ) → a ≡ m * up e * down d * k → b ≡ n * up d * down e * k → a < o → b < o
      → lt (fin s m e) (fin t n d) ≡ ltb (place o a (fin s m e)) (place o b (fin t n d))
  unfolding lt place
  finite-place s m e t n d a b p q l r = go s t (m * up e * down d) (n * up d * down e) p q
    where
      go : (s t : Bool) (x y : ℕ) → a ≡ x * k → b ≡ y * k → below s x t y ≡ ltb (cond s (o - a) (o + a)) (cond t (o - b) (o + b))
      go false false x y p q = decided (ltb x y) (o + a) (o + b) (λ h. omega (arith, mul-lt-mul_of_pos_right (ltb-true x y h) K)) (λ h. omega (arith, mul-le-mul_right k (ltb-false x y h)))
      go false true x y p q = sym (le-ltb (o + a) (o - b) (omega arith))
      go true false x y p q =
          decided (ltb 0 (x + y)) (o - a) (o + b) (λ h. omega (arith, mul-pos (ltb-true 0 (x + y) h) K, add-mul x y k))
          (λ h. omega (arith, mul-le-mul_right k (ltb-false 0 (x + y) h), add-mul x y k, zero-mul k))
      go true true x y p q = decided (ltb y x) (o - a) (o - b) (λ h. omega (arith, mul-lt-mul_of_pos_right (ltb-true y x h) K)) (λ h. omega (arith, mul-le-mul_right k (ltb-false y x h)))

  lt-place : (x y : Float) (a b : ℕ) → is_nan x ≡ false → is_nan y ≡ false → a ≡ num x * den y * k → b ≡ num y * den x * k → a < o → b < o → lt x y ≡ ltb (place o a x) (place o b y)
  unfolding lt place is_nan
  lt-place nan y a b f g p q l r = absurd (true≢false f)
  lt-place (inf s) nan a b f g p q l r = absurd (true≢false g)
  lt-place (fin s m e) nan a b f g p q l r = absurd (true≢false g)
  lt-place (inf true) (inf true) a b f g p q l r = sym (le-ltb 0 0 (omega arith))
  lt-place (inf true) (inf false) a b f g p q l r = sym (lt-ltb 0 (o + o) (omega arith))
  lt-place (inf false) (inf true) a b f g p q l r = sym (le-ltb (o + o) 0 (omega arith))
  lt-place (inf false) (inf false) a b f g p q l r = sym (le-ltb (o + o) (o + o) (omega arith))
  lt-place (inf true) (fin true n d) a b f g p q l r = sym (lt-ltb 0 (o - b) (omega arith))
  lt-place (inf true) (fin false n d) a b f g p q l r = sym (lt-ltb 0 (o + b) (omega arith))
  lt-place (inf false) (fin true n d) a b f g p q l r = sym (le-ltb (o + o) (o - b) (omega arith))
  lt-place (inf false) (fin false n d) a b f g p q l r = sym (le-ltb (o + o) (o + b) (omega arith))
  lt-place (fin true m e) (inf true) a b f g p q l r = sym (le-ltb (o - a) 0 (omega arith))
  lt-place (fin true m e) (inf false) a b f g p q l r = sym (lt-ltb (o - a) (o + o) (omega arith))
  lt-place (fin false m e) (inf true) a b f g p q l r = sym (le-ltb (o + a) 0 (omega arith))
  lt-place (fin false m e) (inf false) a b f g p q l r = sym (lt-ltb (o + a) (o + o) (omega arith))
  lt-place (fin s m e) (fin t n d) a b f g p q l r = finite-place s m e t n d a b p q l r

-- three numbers have places p, q and r in one unit
record Placed (x y z : Float) : Type 0 where
  pub p : ℕ
  pub q : ℕ
  pub r : ℕ
  pub xy : lt x y ≡ ltb p q
  pub xz : lt x z ≡ ltb p r
  pub yz : lt y z ≡ ltb q r
  pub zx : lt z x ≡ ltb r p
  pub zy : lt z y ≡ ltb r q

placed : (x y z : Float) → is_nan x ≡ false → is_nan y ≡ false → is_nan z ≡ false → Placed x y z
placed x y z f g h =
    let a = num x * (den y * den z) in
    let b = num y * (den x * den z) in
    let c = num z * (den x * den y) in
    let o = a + b + c + 1 in
    let s : (i j k : ℕ) → i * (j * k) ≡ i * j * k = λ i j k. sym (mul_assoc i j k) in
    let t : (i j k : ℕ) → i * (j * k) ≡ i * k * j = λ i j k. ap (λ (w : ℕ). i * w) (mul_comm j k) ∙ sym (mul_assoc i k j) in
    record {
      p = place o a x;
      q = place o b y;
      r = place o c z;
      xy = lt-place o (den z) (den_pos z) x y a b f g (s (num x) (den y) (den z)) (s (num y) (den x) (den z)) (omega arith) (omega arith);
      xz = lt-place o (den y) (den_pos y) x z a c f h (t (num x) (den y) (den z)) (s (num z) (den x) (den y)) (omega arith) (omega arith);
      yz = lt-place o (den x) (den_pos x) y z b c g h (t (num y) (den x) (den z)) (t (num z) (den x) (den y)) (omega arith) (omega arith);
      zx = lt-place o (den y) (den_pos y) z x c a h f (s (num z) (den x) (den y)) (t (num x) (den y) (den z)) (omega arith) (omega arith);
      zy = lt-place o (den x) (den_pos x) z y c b h g (t (num z) (den x) (den y)) (t (num y) (den x) (den z)) (omega arith) (omega arith);
    }

-- ---- the theorems

before : {p q : ℕ} (r : ℕ) → p ≤ q → ltb q r ≡ true → ltb p r ≡ true
before {p} {q} r l h = lt-ltb p r (omega (arith, ltb-true q r h))

after : {p q : ℕ} (r : ℕ) → p ≤ q → ltb r p ≡ true → ltb r q ≡ true
after {p} {q} r l h = lt-ltb r q (omega (arith, ltb-true r p h))

-- one of two numbers is under l just where the least is
pub under-least : (b c l : Float) → is_nan b ≡ false → is_nan c ≡ false → lt (cond (lt c b) c b) l ≡ lt b l || lt c l
under-least b c l f g = go (is_nan l) refl
  where
    of_places : Placed c b l → (t : Bool) → lt c b ≡ t → lt (cond t c b) l ≡ lt b l || lt c l
    of_places w true h = rw (w.xz, w.yz) (or-next (ltb w.q w.r) (ltb w.p w.r) (before w.r (le_of_lt (ltb-true w.p w.q (sym w.xy ∙ h)))))
    of_places w false h = rw (w.xz, w.yz) (or_same (ltb w.q w.r) (ltb w.p w.r) (before w.r (ltb-false w.p w.q (sym w.xy ∙ h))))

    go : (t : Bool) → is_nan l ≡ t → lt (cond (lt c b) c b) l ≡ lt b l || lt c l
    go true e = rw (only_nan l e, nan-over (cond (lt c b) c b), nan-over b, nan-over c)
    go false e = of_places (placed c b l g f e) (lt c b) refl

-- one of two is over l just where the largest is, and a NaN is over nothing
pub over-largest : (l q r : Float) → lt l (max_of q r) ≡ lt l q || lt l r
unfolding max_of
over-largest l q r = go (is_nan q) (is_nan r) (is_nan l) refl refl refl
  where
    of_places : Placed q r l → (t : Bool) → lt q r ≡ t → lt l (cond t r q) ≡ lt l q || lt l r
    of_places w true h = rw (w.zx, w.zy) (or-next (ltb w.r w.p) (ltb w.r w.q) (after w.r (le_of_lt (ltb-true w.p w.q (sym w.xy ∙ h)))))
    of_places w false h = rw (w.zx, w.zy) (or_same (ltb w.r w.p) (ltb w.r w.q) (after w.r (ltb-false w.p w.q (sym w.xy ∙ h))))

    go : (a b c : Bool) → is_nan q ≡ a → is_nan r ≡ b → is_nan l ≡ c → lt l (cond a r (cond (lt q r) r q)) ≡ lt l q || lt l r
    go true b c f g h = rw (only_nan q f, nan-over l)
    go false true c f g h = rw (only_nan r g, nan-over q, nan-over l) (sym (or-false (lt l q)))
    go false false true f g h = rw (only_nan l h, nan-under (cond (lt q r) r q), nan-under q, nan-under r)
    go false false false f g h = of_places (placed q r l f g h) (lt q r) refl
