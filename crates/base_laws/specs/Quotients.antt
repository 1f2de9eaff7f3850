-- Quotients by a finite divisor above zero keep the order, whatever the sign of the dividend: a finite quotient rounds the dividend's fraction over the divisor's, and an infinite dividend stays.
-- A quotient is finite where the exponents of the dividend's bound and of the divisor's leave room below 2 ^ emax.
use Rattle.std.specs.Prelude.{◌≡◌, ℕ, suc, ◌+◌, ◌*◌, ◌^◌, ◌≤◌, ◌<◌, Bool, true, false, not, ℤ, pos, negsuc, T, Float}
use Rattle.std.proofs.Common.{subst, le_trans, le_of_eq, mul-pos, mul_assoc, mul_comm, mul_left_comm, one-mul, mul-le-mul, mul-le-mul_right, arith, ltb→lt, pow_pos, pow-add, pow_mono, ne_eqb}
use Rattle.std.specs.Float.{nan, inf, fin, Format}
use Rattle.std.specs.Float.Ieee.{emax, up, down, round, div, le, is_nan}
use Rattle.std.specs.Float.Ieee.Fits.{up_pos, down_pos}
use Rattle.std.specs.Float.Ieee.Exact.{HasValue}
use Rattle.std.specs.Float.Ieee.Scale.{finite}
use Rattle.std.specs.Float.Ieee.Positive.{positive}
use Rattle.base_laws.specs.Signed.{Under, under_scale}
use Rattle.base_laws.specs.Compare.{Le, le→Le, Le→le, low_end, high_end}
use Rattle.base_laws.specs.Rounding.{round_number, round-le, round_zero, round-within}
use Rattle.base_laws.specs.Order.{float_le_refl, float_le_trans, float_le_numbers}
use Rattle.base_terms.specs.Floats.{nought, nonneg, abs_of}
use Rattle.base_laws.specs.Nonneg.{nought_value}

-- ---- steps: a quotient as one signed fraction

by : (f : Format) (s : Bool) (m : ℕ) (e : ℤ) (n : ℕ) (d : ℤ) → 0 < n
    → div f (fin s m e) (fin false n d) ≡ round f s (m * up e * down d) (n * up d * down e)
unfolding div
by f true m e n d N = rw (ne_eqb n 0 (λ z. omega arith))
by f false m e n d N = rw (ne_eqb n 0 (λ z. omega arith))

quotient : (f : Format) (s : Bool) (a p : ℕ) (t : Bool) (c r b q : ℕ) → 0 < p → 0 < r → 0 < b → Under s (a * r) t (c * p)
    → Le (round f s (a * q) (b * p)) (round f t (c * q) (b * r))
quotient f s a p t c r b q P R B h =
    let l : a * r * (q * b) ≡ a * q * (b * r) = simp (mul_assoc, mul_comm, mul_left_comm) in
    let m : c * p * (q * b) ≡ c * q * (b * p) = simp (mul_assoc, mul_comm, mul_left_comm) in
    round-le f s (a * q) (b * p) t (c * q) (b * r) (mul-pos B P) (mul-pos B R) (rw (← l, ← m) (under_scale s (a * r) t (c * p) (q * b) h))

div-le : (f : Format) (x x' y : Float) → T (positive y) → Le x x' → Le (div f x y) (div f x' y)
div-le f x x' nan q h = absurd q
div-le f x x' (inf t) q h = absurd q
div-le f x x' (fin true n d) q h = absurd q
div-le f nan x' (fin false n d) q h = absurd h
div-le f (inf s) nan (fin false n d) q h = absurd h
div-le f (inf true) (inf true) (fin false n d) q h = unfold div in tt
div-le f (inf true) (inf false) (fin false n d) q h = unfold div in tt
div-le f (inf false) (inf true) (fin false n d) q h = absurd h
div-le f (inf false) (inf false) (fin false n d) q h = unfold div in tt
div-le f (inf true) (fin t o g) (fin false n d) q h =
    rw (by f t o g n d (ltb→lt 0 n q))
    (unfold div in low_end (round f t (o * up g * down d) (n * up d * down g)) (round_number f t (o * up g * down d) (n * up d * down g)))
div-le f (inf false) (fin t o g) (fin false n d) q h = absurd h
div-le f (fin s m e) nan (fin false n d) q h = absurd h
div-le f (fin s m e) (inf true) (fin false n d) q h = absurd h
div-le f (fin s m e) (inf false) (fin false n d) q h =
    rw (by f s m e n d (ltb→lt 0 n q))
    (unfold div in high_end (round f s (m * up e * down d) (n * up d * down e)) (round_number f s (m * up e * down d) (n * up d * down e)))
div-le f (fin s m e) (fin t o g) (fin false n d) q h =
    let N : 0 < n = ltb→lt 0 n q in
    rw (by f s m e n d N, by f t o g n d N)
    (quotient f s (m * up e) (down e) t (o * up g) (down g) (n * up d) (down d) (down_pos e) (down_pos g) (mul-pos N (up_pos d)) h)

div-nought : (f : Format) (y : Float) → T (positive y) → HasValue (div f nought y) false 0 1
div-nought f nan q = absurd q
div-nought f (inf t) q = absurd q
div-nought f (fin true n d) q = absurd q
div-nought f (fin false n d) q =
    let N : 0 < n = ltb→lt 0 n q in
    rw (by f false 0 (pos 0) n d N) (round_zero f false (0 * 1 * down d) (n * up d * 1) (mul-pos (mul-pos N (up_pos d)) (pow_pos 0)) (omega arith))

-- ---- order and sign

-- a quotient by a positive divisor grows with the dividend, of any sign
pub float_div_mono : (f : Format) (x x' y : Float) → T (positive y) → T (le x x') → T (le (div f x y) (div f x' y))
float_div_mono f x x' y q h = Le→le (div f x y) (div f x' y) (div-le f x x' y q (le→Le x x' h))

-- so it is a number where the dividend is
pub float_div-number : (f : Format) (x y : Float) → T (positive y) → T (not (is_nan x)) → T (not (is_nan (div f x y)))
float_div-number f x y q p = (float_le_numbers (div f x y) (div f x y) (float_div_mono f x x y q (float_le_refl x p))).0

-- not negative where the dividend is not
pub float_div-nonneg : (f : Format) (x y : Float) → T (positive y) → T (nonneg x) → T (nonneg (div f x y))
float_div-nonneg f x y q h =
    float_le_trans nought (div f nought y) (div f x y) (nought_value (div f nought y) (div-nought f y q)).0 (float_div_mono f nought x y q h)

-- and not above zero where the dividend is not
pub float_div_nonpos : (f : Format) (x y : Float) → T (positive y) → T (le x nought) → T (le (div f x y) nought)
float_div_nonpos f x y q h =
    float_le_trans (div f x y) (div f nought y) nought (float_div_mono f x nought y q h) (nought_value (div f nought y) (div-nought f y q)).1

-- ---- finite quotients

-- a dividend of a size up to 2 ^ a by a divisor of 2 ^ -(b + 1) at least
pub float_div_finite : (f : Format) (x y : Float) (a b : ℕ) → a + suc b ≤ emax f → T (le (abs_of x) (fin false 1 (pos a))) → T (positive y)
    → T (le (fin false 1 (negsuc b)) y) → T (finite (div f x y))
float_div_finite f x y a b h k q l = go x y (le→Le (abs_of x) (fin false 1 (pos a)) k) q (le→Le (fin false 1 (negsuc b)) y l)
  where
    room : (M D N G : ℕ) → M * 1 + 0 ≤ 1 * 2 ^ a * D + 0 → 1 * 1 * G + 0 ≤ N * 2 ^ suc b + 0 → M * G ≤ 2 ^ emax f * (N * D)
    room M D N G i j =
        let u : M ≤ 2 ^ a * D = subst (λ (n : ℕ). M ≤ n * D) (one-mul (2 ^ a)) (omega arith) in
        let v : G ≤ N * 2 ^ suc b = omega arith in
        let w : 2 ^ a * D * (N * 2 ^ suc b) ≡ 2 ^ (a + suc b) * (N * D) = rw (pow-add 2 a (suc b)) (simp (mul_assoc, mul_comm, mul_left_comm)) in
        le_trans (mul-le-mul u v) (le_trans (le_of_eq w) (mul-le-mul_right (N * D) (pow_mono h)))

    go : (x y : Float) → Le (abs_of x) (fin false 1 (pos a)) → T (positive y) → Le (fin false 1 (negsuc b)) y → T (finite (div f x y))
    go x nan i q j = absurd q
    go x (inf t) i q j = absurd q
    go x (fin true n d) i q j = absurd q
    go nan (fin false n d) i q j = absurd i
    go (inf s) (fin false n d) i q j = absurd i
    go (fin s m e) (fin false n d) i q j =
        let N : 0 < n = ltb→lt 0 n q in
        rw (by f s m e n d N) (round-within f s (m * up e * down d) (n * up d * down e) (mul-pos (mul-pos N (up_pos d)) (down_pos e))
        (room (m * up e) (down e) (n * up d) (down d) i j))
