-- Whole numbers as floats, `of_int f (pos n)`, which is a program's `n as f64`: in order, not negative, finite up to 2 ^ emax and exact up to 2 ^ prec.
-- Each is a law of `round` at a fraction over 1.
use Rattle.std.specs.Prelude.{ℕ, suc, ◌+◌, ◌*◌, ◌^◌, ◌≤◌, ◌<◌, refl, false, ◌&&◌, pos, T, leb, ltb}
use Rattle.std.proofs.Common.{le_refl, le_trans, le_of_eq, mul-one, one-mul, mul-le-mul_right, arith, sym, ap, le→leb, lt→ltb, pow_pos}
use Rattle.std.proofs.Math.Pow.{pow-lt}
use Rattle.std.specs.Float.{fin, Format}
use Rattle.std.specs.Float.Ieee.{prec, emax, low, round, of_int, le, fits}
use Rattle.std.specs.Float.Ieee.Fits.{two, two-le_pos, and_i}
use Rattle.std.specs.Float.Ieee.Exact.{HasValue}
use Rattle.std.specs.Float.Ieee.Back.{round_whole}
use Rattle.std.specs.Float.Ieee.Order.{round_mono}
use Rattle.std.specs.Float.Ieee.Scale.{finite}
use Rattle.base_laws.specs.Compare.{Le→le}
use Rattle.base_laws.specs.Rounding.{Le-of_values, sign_nonneg, round_has, round_power, round-within}
use Rattle.base_laws.specs.Order.{float_le_trans}
use Rattle.base_terms.specs.Floats.{nonneg}

-- a larger whole number is no smaller as a float
pub whole_mono : (f : Format) (n m : ℕ) → n ≤ m → T (le (of_int f (pos n)) (of_int f (pos m)))
unfolding of_int
whole_mono f n m h = round_mono f n 1 m 1 (pow_pos 0) (pow_pos 0) (mul-le-mul_right 1 h)

-- it is not negative
pub whole-nonneg : (f : Format) (n : ℕ) → T (nonneg (of_int f (pos n)))
unfolding of_int
whole-nonneg f n = sign_nonneg (round f false n 1) (round_has f false n 1)

-- finite up to 2 ^ emax
pub whole_finite : (f : Format) (n : ℕ) → n ≤ 2 ^ emax f → T (finite (of_int f (pos n)))
unfolding of_int
whole_finite f n h = round-within f false n 1 (pow_pos 0) (le_trans h (le_of_eq (sym (mul-one (2 ^ emax f)))))

-- at most 2 ^ k where the number is, for a k up to emax
pub whole-within : (f : Format) (n k : ℕ) → n ≤ 2 ^ k → k ≤ emax f → T (le (of_int f (pos n)) (fin false 1 (pos k)))
unfolding of_int
whole-within f n k h g =
    float_le_trans (round f false n 1) (round f false (2 ^ k) 1) (fin false 1 (pos k))
    (round_mono f n 1 (2 ^ k) 1 (pow_pos 0) (pow_pos 0) (mul-le-mul_right 1 h))
    (Le→le (round f false (2 ^ k) 1) (fin false 1 (pos k))
    (Le-of_values (round f false (2 ^ k) 1) false (2 ^ k) 1 (fin false 1 (pos k)) false (2 ^ k) 1 (pow_pos 0) (pow_pos 0) (round_power f k g)
    (refl, ap (λ (x : ℕ). x * 1) (one-mul (2 ^ k))) (le_refl (2 ^ k * 1 + 0))))

-- 2 ^ k is a value of the format up to 2 ^ emax
pub power_fits : (f : Format) (k : ℕ) → k ≤ emax f → T (fits f (fin false 1 (pos k)))
unfolding fits
power_fits f k h =
    let a = ltb 1 (2 ^ prec f) in
    let b = leb 1 (2 ^ low f) in
    and_i (a && b) (ltb (1 * 2 ^ k) (2 ^ suc (emax f) * 1))
    (and_i a b (lt→ltb 1 (2 ^ prec f) (pow-lt (two-le_pos (prec f) (two f)))) (le→leb 1 (2 ^ low f) (pow_pos (low f))))
    (lt→ltb (1 * 2 ^ k) (2 ^ suc (emax f) * 1) (let l : 2 ^ k < 2 ^ suc (emax f) = pow-lt (omega arith) in omega arith))

-- the number itself up to 2 ^ prec
pub whole_exact : (f : Format) (n : ℕ) → n ≤ 2 ^ prec f → HasValue (of_int f (pos n)) false n 1
unfolding of_int
whole_exact f n h = round_whole f false n h
