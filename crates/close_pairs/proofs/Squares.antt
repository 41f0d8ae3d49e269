-- The rounded squares of differences, along the order of the places. Assumes nothing.
use mathlib.Core.Path.{◌≡◌, refl, sym, ap, ◌∙◌, subst}
use mathlib.Core.Bool.{Bool, true, false, beq, cond, not, ◌&&◌, true≢false, false≢true}
use Prim.Native.Nat.{ℕ, zero, suc, ◌+◌, ◌-◌, ◌*◌, ◌^◌, ◌≤◌, ◌<◌}
use native.Mathlib.Nat.{add_comm, mul_assoc, mul_comm, mul_left_comm, mul_right_comm, mul-pos, mul-le-mul, zero-mul, le_refl, mul-le-mul_right, mul-lt-mul_of_pos_right, lt_of_mul-lt-mul_right, eq_of_mul-eq-mul_right}
use native.Mathlib.Omega.{arith}
use lib.Dec.{T, ltb}
use borrow.Author.Tests.{ltb-true, ltb-false}
use lib.Ieee.Scale.{finite}
use lib.IntN.{ℤ}
use lib.Pow.{pow_pos}
use lib.Ieee.{Float, Format, nan, inf, fin, binary32, up, down, low, prec, emax, fits, lt, le, eq, neg, add, sub, mul, sum, round, units, odd, of_bits}
use lib.Ieee.Exact.{HasValue, round_exact}
use lib.Ieee.Fits.{round_is, down_pos, mul-fits}
use lib.Ieee.Order.{round_mono, le_of_values}
use Rattle.folds.specs.Arith.{◌⊕◌, ◌⊖◌, ◌⊗◌, zero_f}
use Rattle.float.specs.Scalar.{abs_of}
use Rattle.float.proofs.Digits.{digits, exponent}
use Rattle.float.proofs.Order.{plain, plain-cases, plain-pair, plain-round, plain-le-inf, plain-number, square-plain, sum-plain, lt-after, lt-or-eq, nothing-over, under}
use Rattle.close_pairs.specs.Close.{square_of}
use Rattle.median.specs.Keys.{Number}
use Rattle.close_pairs.specs.Sweep.{OverSide}
use Rattle.close_pairs.proofs.Places.{place, apart, sub_is}
use Rattle.std.proofs.lemmas.Bool.{false_from_ne_true}

-- ---- the square does not see the sign

neg-units : (f : Format) (q k : ℕ) → units f true q k ≡ neg (units f false q k)
unfolding units odd neg
neg-units f zero k = go (ltb (0 * 2 ^ k) (2 ^ (low f + suc (emax f))))
  where
    go : (b : Bool) → cond b (odd (suc (prec f)) true 0 k (low f)) (inf true) ≡ neg (cond b (odd (suc (prec f)) false 0 k (low f)) (inf false))
    go true = refl
    go false = refl
neg-units f (suc q) k = go (ltb (suc q * 2 ^ k) (2 ^ (low f + suc (emax f))))
  where
    go : (b : Bool) → cond b (odd (suc (prec f)) true (suc q) k (low f)) (inf true) ≡ neg (cond b (odd (suc (prec f)) false (suc q) k (low f)) (inf false))
    go true = refl
    go false = refl

neg-round : (f : Format) (n d : ℕ) → round f true n d ≡ neg (round f false n d)
neg-round f n d = round_is f true n d ∙ neg-units f _ _ ∙ ap neg (sym (round_is f false n d))

square-neg : (x : Float) → neg x ⊗ neg x ≡ x ⊗ x
unfolding neg mul
square-neg nan = refl
square-neg (inf true) = refl
square-neg (inf false) = refl
square-neg (fin true m e) = refl
square-neg (fin false m e) = refl

square-sign : (s : Bool) (n c : ℕ) → round binary32 s n c ⊗ round binary32 s n c ≡ round binary32 false n c ⊗ round binary32 false n c
square-sign true n c = rw (neg-round binary32 n c) (square-neg (round binary32 false n c))
square-sign false n c = refl

-- n of 2 ^ -149, rounded
abbrev near : ℕ → Float
near n = round binary32 false n (2 ^ 149)

square-sub : (x y : Float) → Number x → Number y → (x ⊖ y) ⊗ (x ⊖ y) ≡ near (apart (place x) (place y)) ⊗ near (apart (place x) (place y))
square-sub x y p q = let r = sub_is x y p q in rw r.is (square-sign r.sign (apart (place x) (place y)) (2 ^ 149))

-- ---- nor which way round the difference is

-- the size of ±a - ±b
abbrev gap : Bool → ℕ → Bool → ℕ → ℕ
gap s a t b = cond (beq s (not t)) (a + b) (apart a b)

differ : (s u : Bool) (a b c : ℕ) → cond (ltb a b) (round binary32 u (b - a) c) (round binary32 (s && ltb b a) (a - b) c) ⊗ cond (ltb a b) (round binary32 u (b - a) c) (round binary32 (s && ltb b a) (a - b) c) ≡ round binary32 false (apart a b) c ⊗ round binary32 false (apart a b) c
differ s u a b c = go (ltb a b) refl
  where
    go : (v : Bool) → ltb a b ≡ v → cond v (round binary32 u (b - a) c) (round binary32 (s && ltb b a) (a - b) c) ⊗ cond v (round binary32 u (b - a) c) (round binary32 (s && ltb b a) (a - b) c) ≡ round binary32 false (apart a b) c ⊗ round binary32 false (apart a b) c
    go true h = let e : apart a b ≡ b - a = omega (arith, ltb-true a b h) in rw e (square-sign u (b - a) c)
    go false h = let e : apart a b ≡ a - b = omega (arith, ltb-false a b h) in rw e (square-sign (s && ltb b a) (a - b) c)

square-sum : (s t : Bool) (a b c : ℕ) → sum binary32 s a (not t) b c ⊗ sum binary32 s a (not t) b c ≡ round binary32 false (gap s a t b) c ⊗ round binary32 false (gap s a t b) c
unfolding sum
square-sum true false a b c = square-sign true (a + b) c
square-sum false true a b c = refl
square-sum true true a b c = differ true false a b c
square-sum false false a b c = differ false true a b c

gap-turned : (s t : Bool) (a b : ℕ) → gap s a t b ≡ gap t b s a
gap-turned true true a b = omega arith
gap-turned true false a b = omega arith
gap-turned false true a b = omega arith
gap-turned false false a b = omega arith

-- the square of a difference is that of the difference the other way round
pub square-turned : (x y : Float) → T (finite x) → T (finite y) → (x ⊖ y) ⊗ (x ⊖ y) ≡ (y ⊖ x) ⊗ (y ⊖ x)
unfolding sub add neg
square-turned nan y p q = absurd p
square-turned (inf s) y p q = absurd p
square-turned (fin s m e) nan p q = absurd q
square-turned (fin s m e) (inf t) p q = absurd q
square-turned (fin s m e) (fin t n d) p q =
    square-sum s t (m * up e * down d) (n * up d * down e) (down e * down d)
    ∙ rw (gap-turned s t (m * up e * down d) (n * up d * down e), mul_comm (down e) (down d)) (sym (square-sum t s (n * up d * down e) (m * up e * down d) (down d * down e)))

-- ---- and it grows with the distance

times-plain : (x : Float) → T (plain x) → T (plain (x ⊗ x))
times-plain x p = square-plain x (plain-number x p)

cross : (m n : ℕ) (e d : ℤ) → T (le (fin false m e) (fin false n d)) → m * up e * down d ≤ n * up d * down e
unfolding le lt eq
cross m n e d h = lt-or-eq (m * up e * down d) (n * up d * down e) h

squares : (m n : ℕ) (e d : ℤ) → m * up e * down d ≤ n * up d * down e → m * up e * (m * up e) * (down d * down d) ≤ n * up d * (n * up d) * (down e * down e)
squares m n e d h =
    let turn : (a b : ℕ) → a * a * (b * b) ≡ a * b * (a * b) = λ a b. simp (mul_assoc, mul_comm, mul_left_comm) in
    subst (λ (z : ℕ). z ≤ n * up d * (n * up d) * (down e * down e)) (sym (turn (m * up e) (down d)))
    (subst (λ (z : ℕ). m * up e * down d * (m * up e * down d) ≤ z) (sym (turn (n * up d) (down e))) (mul-le-mul h h))

square-mono : (x y : Float) → T (plain x) → T (plain y) → T (le x y) → T (le (x ⊗ x) (y ⊗ y))
unfolding mul
square-mono nan y p q h = absurd p
square-mono (inf true) y p q h = absurd p
square-mono (fin true m e) y p q h = absurd p
square-mono (inf false) nan p q h = absurd q
square-mono (fin false m e) nan p q h = absurd q
square-mono (inf false) (inf true) p q h = absurd q
square-mono (fin false m e) (inf true) p q h = absurd q
square-mono (inf false) (fin true n d) p q h = absurd q
square-mono (fin false m e) (fin true n d) p q h = absurd q
square-mono (inf false) (inf false) p q h = unfold le in tt
square-mono (inf false) (fin false n d) p q h = absurd (unfold le in h)
square-mono (fin false m e) (inf false) p q h = plain-le-inf (fin false m e ⊗ fin false m e) (times-plain (fin false m e) p)
square-mono (fin false m e) (fin false n d) p q h =
    round_mono binary32 (m * up e * (m * up e)) (down e * down e) (n * up d * (n * up d)) (down d * down d) (mul-pos (down_pos e) (down_pos e)) (mul-pos (down_pos d) (down_pos d)) (squares m n e d (cross m n e d h))

near-plain : (n : ℕ) → T (plain (near n))
near-plain n = plain-round binary32 n (2 ^ 149)

near-mono : (n k : ℕ) → n ≤ k → T (le (near n) (near k))
near-mono n k h = round_mono binary32 n (2 ^ 149) k (2 ^ 149) (pow_pos 149) (pow_pos 149) (mul-le-mul_right (2 ^ 149) h)

-- ---- a sum of what is not negative is no less than its first part

scaled : (a c m u d t k : ℕ) → 0 < d → m * u * c ≡ a * d → u * k ≡ t * d → a * k ≡ m * t * c
scaled a c m u d t k h q e =
    let l : m * u * c * k ≡ m * c * (u * k) = simp (mul_assoc, mul_comm, mul_left_comm) in
    let r : m * c * (t * d) ≡ m * t * c * d = simp (mul_assoc, mul_comm, mul_left_comm) in
    eq_of_mul-eq-mul_right d h (a * k) (m * t * c) (mul_right_comm a k d ∙ ap (λ (z : ℕ). z * k) (sym q) ∙ l ∙ ap (λ (z : ℕ). m * c * z) e ∙ r)

limited : (m u d t k l : ℕ) → 0 < k → u * k ≡ t * d → m * u < l * d → m * t < l * k
limited m u d t k l h e g =
    lt_of_mul-lt-mul_right d
    (subst (λ (z : ℕ). z < l * k * d) (mul_assoc m u k ∙ ap (λ (z : ℕ). m * z) e ∙ sym (mul_assoc m t d))
    (subst (λ (z : ℕ). m * u * k < z) (mul_right_comm l d k) (mul-lt-mul_of_pos_right g h)))

-- a number of the format is its own rounding
own-round : (m c : ℕ) (e : ℤ) → 0 < c → T (fits binary32 (fin false m e)) → (a : ℕ) → m * up e * c ≡ a * down e → HasValue (round binary32 false a c) false a c
own-round zero c e h f a q =
    let z : a ≡ 0 = sym (eq_of_mul-eq-mul_right (down e) (down_pos e) 0 a (simp zero-mul (simp zero-mul at q))) in
    round_exact binary32 false a c 0 0 h (pow_pos 24) (pow_pos 277) (rw z (nothing (2 ^ 149) c))
  where
    nothing : (k c : ℕ) → 0 * k ≡ 0 * 2 ^ 0 * c
    nothing k c = simp zero-mul
own-round (suc m) c e h f a q =
    let g = digits false m e f in
    let x = exponent e g.fine in
    round_exact binary32 false a c (suc m) x.0 h g.few (limited (suc m) (up e) (down e) (2 ^ x.0) (2 ^ 149) (2 ^ 128) (pow_pos 149) x.1 g.small) (scaled a c (suc m) (up e) (down e) (2 ^ x.0) (2 ^ 149) (down_pos e) q x.1)

-- what is under z with y added is under z
under-sum : (x y z : Float) → T (plain x) → T (plain y) → T (fits binary32 x) → lt (x ⊕ y) z ≡ true → lt x z ≡ true
unfolding add sum
under-sum nan y z p q f h = absurd p
under-sum (inf true) y z p q f h = absurd p
under-sum (fin true m e) y z p q f h = absurd p
under-sum (inf false) nan z p q f h = absurd q
under-sum (fin false m e) nan z p q f h = absurd q
under-sum (inf false) (inf true) z p q f h = absurd q
under-sum (fin false m e) (inf true) z p q f h = absurd q
under-sum (inf false) (fin true n d) z p q f h = absurd q
under-sum (fin false m e) (fin true n d) z p q f h = absurd q
under-sum (inf false) (inf false) z p q f h = h
under-sum (inf false) (fin false n d) z p q f h = h
under-sum (fin false m e) (inf false) z p q f h = absurd (nothing-over z h)
under-sum (fin false m e) (fin false n d) z p q f h =
    let A = m * up e * down d in
    let B = n * up d * down e in
    let C = down e * down d in
    let c : 0 < C = mul-pos (down_pos e) (down_pos d) in
    let here : m * up e * C ≡ A * down e = simp (mul_assoc, mul_comm, mul_left_comm) in
    let own : HasValue (round binary32 false A C) false A C = own-round m C e c f A here in
    lt-after (fin false m e) (round binary32 false A C) z tt (plain-round binary32 A C)
    (le_of_values (fin false m e) (round binary32 false A C) A C A C c c (refl, here) own (le_refl (A * C)))
    (lt-after (round binary32 false A C) (round binary32 false (A + B) C) z (plain-round binary32 A C) (plain-round binary32 (A + B) C)
    (round_mono binary32 A C (A + B) C c c (mul-le-mul_right C (more A B))) h)
  where
    more : (a b : ℕ) → a ≤ a + b
    more a b = omega arith

-- ---- the stop of the sweep

square-fine : (x y : Float) → T (finite x) → T (finite y) → T (plain ((x ⊖ y) ⊗ (x ⊖ y)))
unfolding sub add neg
square-fine nan y p q = absurd p
square-fine (inf s) y p q = absurd p
square-fine (fin s m e) nan p q = absurd q
square-fine (fin s m e) (inf t) p q = absurd q
square-fine (fin s m e) (fin t n d) p q =
    let a = m * up e * down d in
    let b = n * up d * down e in
    rw (square-sum s t a b (down e * down d)) (times-plain (round binary32 false (gap s a t b) (down e * down d)) (plain-round binary32 (gap s a t b) (down e * down d)))

-- Once the square of the difference alone is not under the limit, no later point's distance is: places a, b and c rise.
pub far : (a b c d e z : Float) → Number a → Number b → Number c → T (finite d) → T (finite e) → place a ≤ place b → place b ≤ place c
    → lt ((b ⊖ a) ⊗ (b ⊖ a)) z ≡ false → lt ((c ⊖ a) ⊗ (c ⊖ a) ⊕ (d ⊖ e) ⊗ (d ⊖ e)) z ≡ false
far a b c d e z na nb nc nd ne ab bc h =
    false_from_ne_true (lt ((c ⊖ a) ⊗ (c ⊖ a) ⊕ (d ⊖ e) ⊗ (d ⊖ e)) z)
    (λ u. true≢false (sym (close (under-sum ((c ⊖ a) ⊗ (c ⊖ a)) ((d ⊖ e) ⊗ (d ⊖ e)) z (square-fine c a nc.is_finite na.is_finite) (square-fine d e nd ne) (mul-fits binary32 (c ⊖ a) (c ⊖ a)) u)) ∙ h))
  where
    close : lt ((c ⊖ a) ⊗ (c ⊖ a)) z ≡ true → lt ((b ⊖ a) ⊗ (b ⊖ a)) z ≡ true
    close u =
        rw (square-sub b a nb na)
        (lt-after (near (apart (place b) (place a)) ⊗ near (apart (place b) (place a))) (near (apart (place c) (place a)) ⊗ near (apart (place c) (place a))) z
        (times-plain (near (apart (place b) (place a))) (near-plain (apart (place b) (place a))))
        (times-plain (near (apart (place c) (place a))) (near-plain (apart (place c) (place a))))
        (square-mono (near (apart (place b) (place a))) (near (apart (place c) (place a))) (near-plain (apart (place b) (place a))) (near-plain (apart (place c) (place a))) (near-mono (apart (place b) (place a)) (apart (place c) (place a)) (omega arith)))
        (rw (square-sub c a nc na) at u))

-- ---- a difference over the side

after-plain : (u v : Float) → T (plain u) → lt u v ≡ true → T (plain v)
unfolding lt
after-plain u nan p = plain-cases (λ (a : Float). lt a nan ≡ true → T (plain nan)) (λ h. absurd (false≢true h)) (λ m e h. absurd (false≢true h)) u p
after-plain u (inf true) p = plain-cases (λ (a : Float). lt a (inf true) ≡ true → T (plain (inf true))) (λ h. absurd (false≢true h)) (λ m e h. absurd (false≢true h)) u p
after-plain u (inf false) p = λ h. tt
after-plain u (fin true n d) p = plain-cases (λ (a : Float). lt a (fin true n d) ≡ true → T (plain (fin true n d))) (λ h. absurd (false≢true h)) (λ m e h. absurd (false≢true h)) u p
after-plain u (fin false n d) p = λ h. tt

not-under-itself : (u : Float) → T (plain u) → lt u u ≡ true → ⊥
unfolding lt
not-under-itself u p = plain-cases (λ (a : Float). lt a a ≡ true → ⊥) (λ h. false≢true h) (λ m e h. omega (arith, ltb-true (m * up e * down e) (m * up e * down e) h)) u p

-- the side's own square is such a limit
pub reaches : (side : Float) → T (plain side) → OverSide side (side ⊗ side)
reaches side p d h =
    let q = after-plain side d p h in
    false_from_ne_true (lt (d ⊗ d) (side ⊗ side))
    (λ u. not-under-itself (side ⊗ side) (times-plain side p)
    (lt-after (side ⊗ side) (d ⊗ d) (side ⊗ side) (times-plain side p) (times-plain d q) (square-mono side d p q (under d side h)) u))

plus-turned : (x y : Float) → T (plain x) → T (plain y) → x ⊕ y ≡ y ⊕ x
unfolding add sum
plus-turned x y p q =
    plain-pair (λ (a b : Float). a ⊕ b ≡ b ⊕ a) refl (λ n d. refl) (λ m e. refl)
    (λ m e n d. rw (add_comm (m * up e * down d) (n * up d * down e), mul_comm (down e) (down d))) x y p q

no-sum : (u z : Float) → T (plain u) → lt (u ⊕ nan) z ≡ true → ⊥
unfolding add lt
no-sum u z p = plain-cases (λ (a : Float). lt (a ⊕ nan) z ≡ true → ⊥) (λ h. false≢true h) (λ m e h. false≢true h) u p

-- where the square of x is part of a sum under z, x is no NaN, and so its square is plain
first_plain : (x u z : Float) → lt (x ⊗ x ⊕ u) z ≡ true → T (plain (x ⊗ x))
unfolding mul add lt
first_plain nan u z h = absurd (false≢true h)
first_plain (inf true) u z h = tt
first_plain (inf false) u z h = tt
first_plain (fin true m e) u z h = plain-round binary32 (m * up e * (m * up e)) (down e * down e)
first_plain (fin false m e) u z h = plain-round binary32 (m * up e * (m * up e)) (down e * down e)

second_plain : (u y z : Float) → T (plain u) → lt (u ⊕ y ⊗ y) z ≡ true → T (plain (y ⊗ y))
unfolding mul
second_plain u nan z p h = absurd (no-sum u z p h)
second_plain u (inf true) z p h = tt
second_plain u (inf false) z p h = tt
second_plain u (fin true m e) z p h = plain-round binary32 (m * up e * (m * up e)) (down e * down e)
second_plain u (fin false m e) z p h = plain-round binary32 (m * up e * (m * up e)) (down e * down e)

-- of a sum of squares that is under z, the second is
under-second : (x y z : Float) → lt (x ⊗ x ⊕ y ⊗ y) z ≡ true → lt (y ⊗ y) z ≡ true
under-second x y z h =
    let p = first_plain x (y ⊗ y) z h in
    let q = second_plain (x ⊗ x) y z p h in
    under-sum (y ⊗ y) (x ⊗ x) z q p (mul-fits binary32 y y) (rw (plus-turned (x ⊗ x) (y ⊗ y) p q) at h)

square-abs : (x : Float) → abs_of x ⊗ abs_of x ≡ x ⊗ x
unfolding abs_of mul
square-abs nan = refl
square-abs (inf true) = refl
square-abs (inf false) = refl
square-abs (fin true m e) = refl
square-abs (fin false m e) = refl

-- over the side in y: not close
pub apart-in-y : (side limit dx dy : Float) → OverSide side limit → lt side (abs_of dy) ≡ true → lt (square_of dx dy) limit ≡ false
unfolding square_of
apart-in-y side limit dx dy r h =
    false_from_ne_true (lt (dx ⊗ dx ⊕ dy ⊗ dy) limit) (λ u. true≢false (sym (under-second dx dy limit u) ∙ rw (← square-abs dy) (r (abs_of dy) h)))

-- ---- nothing is under a limit of 0

zero-least : (u : Float) → T (plain u) → T (le zero_f u)
unfolding of_bits
zero-least u p =
    plain-cases (λ (a : Float). T (le zero_f a)) (unfold le in tt)
    (λ m e. le_of_values zero_f (fin false m e) 0 1 (m * up e) (down e) (omega arith) (down_pos e) (refl, refl) (refl, refl) (rw (zero-mul (down e)) (omega arith))) u p

pub none-close : (dx dy limit : Float) → lt zero_f limit ≡ false → lt (square_of dx dy) limit ≡ false
unfolding square_of of_bits
none-close dx dy limit h =
    false_from_ne_true (lt (dx ⊗ dx ⊕ dy ⊗ dy) limit)
    (λ u.
    let p = first_plain dx (dy ⊗ dy) limit u in
    let s = sum-plain (dx ⊗ dx) (dy ⊗ dy) p (second_plain (dx ⊗ dx) dy limit p u) in
    true≢false (sym (lt-after zero_f (dx ⊗ dx ⊕ dy ⊗ dy) limit tt s (zero-least (dx ⊗ dx ⊕ dy ⊗ dy) s) u) ∙ h))
