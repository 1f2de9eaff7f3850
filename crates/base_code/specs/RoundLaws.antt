-- Rounding by a double: twice a value is exact, its whole part plus one, halved, is the value rounded half away from zero.
use Rattle.std.specs.Prelude.{◌≡◌, ℕ, ◌+◌, ◌-◌, ◌*◌, ◌/◌, ◌^◌, ◌<◌, ◌≤◌, Bool, true, false, T, ℤ, pos, ◌==◌, Float}
use Rattle.std.proofs.Common.{sym, ap, subst, ◌∙◌, le_trans, le_of_lt, lt_of_lt_of_le, mul_assoc, mul_comm, mul-one, one-mul, zero-mul, two-mul, mul-pos, mul_left_comm, mul-le-mul_right, div-lt_iff_lt-mul, arith, ltb→lt, eqb→eq, lit≤}
use Rattle.std.proofs.Math.Nat.{min-eq_left, div-div-eq-div-mul, add-div_right, div-eq_of_lt}
use Rattle.std.specs.Float.{nan, inf, fin, binary64}
use Rattle.std.specs.Float.Ieee.{up, down, round, sum, add, lt, eq, le, fits, to_unsigned}
use Rattle.std.specs.Float.Ieee.Fits.{down_pos, and_l}
use Rattle.std.specs.Float.Ieee.Exact.{HasValue}
use Rattle.std.specs.Float.Ieee.Scale.{round_same}
use Rattle.std.specs.Float.Ieee.Nearest.{div_same}
use Rattle.base_laws.specs.Rounding.{round-double, round_has, Sign}
use Rattle.base_terms.specs.Round.{half_away}

-- a value below 2^52 has a numerator below 2^52 times its denominator
below_cross : (m : ℕ) (e : ℤ) → T (lt (fin false m e) (fin false 1 (pos 52))) → m * up e < 2 ^ 52 * down e
unfolding lt
below_cross m e t = subst (λ (n : ℕ). n < 2 ^ 52 * down e) (mul-one (m * up e)) (subst (λ (n : ℕ). m * up e * 1 < n * down e) (one-mul (2 ^ 52)) (ltb→lt (m * up e * 1) (1 * 2 ^ 52 * down e) t))

twice : (a b : ℕ) → (a * b + a * b) * b ≡ a * 2 * (b * b)
twice a b =
    let sorted : (a b : ℕ) → 2 * (a * b) * b ≡ a * 2 * (b * b) = λ a b. simp (mul_assoc, mul_comm, mul_left_comm) in
    ap (λ (n : ℕ). n * b) (sym (two-mul (a * b))) ∙ sorted a b

-- a value plus itself is the fraction's double
double_is : (s : Bool) (m : ℕ) (e : ℤ) → add binary64 (fin s m e) (fin s m e) ≡ round binary64 s (m * up e * 2) (down e)
unfolding add sum
double_is true m e =
    round_same binary64 true (m * up e * down e + m * up e * down e) (down e * down e) (m * up e * 2) (down e) (mul-pos (down_pos e) (down_pos e)) (down_pos e) (twice (m * up e) (down e))
double_is false m e =
    round_same binary64 false (m * up e * down e + m * up e * down e) (down e * down e) (m * up e * 2) (down e) (mul-pos (down_pos e) (down_pos e)) (down_pos e) (twice (m * up e) (down e))

-- the whole part of a value that is the fraction n / d
whole_part : (y : Float) (n d : ℕ) → 0 < d → HasValue y false n d → n / d ≤ 2 ^ 64 - 1 → to_unsigned 64 y ≡ n / d
unfolding to_unsigned
whole_part nan n d D h l = absurd h
whole_part (inf s) n d D h l = absurd h
whole_part (fin s m e) n d D h l =
    let q : m * up e / down e ≡ n / d = div_same (m * up e) (down e) n d (down_pos e) D h.1 in
    rw (h.0, q) (min-eq_left l)

-- floor((floor(2 a / b) + 1) / 2) = floor((2 a + b) / (2 b))
half_up : (a b : ℕ) → 0 < b → (a * 2 / b + 1) / 2 ≡ (a * 2 + b) / (b * 2)
half_up a b B = ap (λ (n : ℕ). n / 2) (sym (add-div_right (a * 2) B)) ∙ div-div-eq-div-mul (a * 2 + b) b 2

small : (a b : ℕ) → a < 2 ^ 52 * b → a * 2 < 2 ^ 53 * b
small a b h = omega arith

-- the two facts that the code needs of x + x
pub record Doubled (x : Float) : Type 0 where
  pub within : to_unsigned 64 (add binary64 x x) < 2 ^ 53
  pub rounds : (to_unsigned 64 (add binary64 x x) + 1) / 2 ≡ half_away x

positive_doubled : (m : ℕ) (e : ℤ) → T (fits binary64 (fin false m e)) → T (lt (fin false m e) (fin false 1 (pos 52))) → Doubled (fin false m e)
unfolding half_away
positive_doubled m e f t =
    let a = m * up e in
    let b = down e in
    let l : a * 2 < 2 ^ 53 * b = small a b (below_cross m e t) in
    let v : HasValue (add binary64 (fin false m e) (fin false m e)) false (a * 2) b =
    subst (λ (y : Float). HasValue y false (a * 2) b) (sym (double_is false m e)) (round-double binary64 false false m e f (lt_of_lt_of_le l (mul-le-mul_right b (lit≤ tt)))) in
    let q : a * 2 / b < 2 ^ 53 = (div-lt_iff_lt-mul (down_pos e)).1 l in
    let w : to_unsigned 64 (add binary64 (fin false m e) (fin false m e)) ≡ a * 2 / b = whole_part (add binary64 (fin false m e) (fin false m e)) (a * 2) b (down_pos e) v (le_trans (le_of_lt q) (lit≤ tt)) in
    record { within = rw w q; rounds = rw w (half_up a b (down_pos e)) }

-- the whole part of a negative value is 0
no_part : (y : Float) → Sign true y → to_unsigned 64 y ≡ 0
unfolding to_unsigned
no_part nan h = absurd h
no_part (inf s) h = rw h
no_part (fin s m e) h = rw h

-- a negative zero
zero_doubled : (m : ℕ) (e : ℤ) → m * up e ≡ 0 → Doubled (fin true m e)
unfolding half_away
zero_doubled m e z =
    let w : to_unsigned 64 (add binary64 (fin true m e) (fin true m e)) ≡ 0 = no_part (add binary64 (fin true m e) (fin true m e)) (rw (double_is true m e) (round_has binary64 true (m * up e * 2) (down e))) in
    record { within = rw w (lit≤ tt); rounds = rw (w, z) (sym (div-eq_of_lt (omega (arith, down_pos e)))) }

-- both facts hold of a value of the format that is zero or more and below 2^52
pub doubled : (x : Float) → T (fits binary64 x) → T (le (fin false 0 (pos 0)) x) → T (lt x (fin false 1 (pos 52))) → Doubled x
unfolding le lt eq
doubled nan f n t = absurd n
doubled (inf true) f n t = absurd n
doubled (inf false) f n t = absurd t
doubled (fin false m e) f n t = positive_doubled m e f t
doubled (fin true m e) f n t = zero_doubled m e (sym (eqb→eq (0 * 1 * down e) (m * up e * 1) (and_l (0 * 1 * down e == m * up e * 1) (0 * 1 * down e == 0) n) ∙ mul-one (m * up e)) ∙ zero-mul (down e))
