-- `round` takes the nearest value: what lies less than half a unit in the last place above a multiple of that unit rounds to the multiple at most.
-- The unit is known from the size of the fraction alone, so a bound of a rounded result is a matter of whole numbers.
use Rattle.std.specs.Prelude.{◌≡◌, true, false, not, pos, T, Float}
use Rattle.std.proofs.Common.{sym, ap, ap₂, subst, ◌∙◌, le_trans, le_of_eq, le_of_lt, lt_of_lt_of_le, lt_of_le_of_lt, lt_of_not-le, not-le_of_lt, le_of_suc-le-suc, mul-one, one-mul, mul_comm, mul_assoc, mul_left_comm, mul_right_comm, mul-pos, add-zero, add-mul, suc-mul, mul-le-mul_right, mul-lt-mul_of_pos_right, lt_of_mul-lt-mul_right, div-add-mod', le-div_iff_mul-le, div-lt_iff_lt-mul, arith, eqb→eq, ltb→lt, pow-add, pow_pos, pow_mono, ne_eqb}
use Prim.Native.Nat.{ℕ, suc, ◌+◌, ◌-◌, ◌*◌, ◌/◌, ◌%◌, ◌^◌, ◌≤◌, ◌<◌, zero-le, compare, Ordering}
use Rattle.std.proofs.Math.Nat.{mul-mul-mul_comm}
use Rattle.std.proofs.Math.Dec.{is_le, compare_is_eq, nleb→lt}
use Rattle.std.specs.Float.{nan, inf, fin, Format}
use Rattle.std.specs.Float.Ieee.{prec, emax, low, up, down, size, nearest, round, mul, div, of_int, le}
use Rattle.std.specs.Float.Ieee.Digits.{size-lt, size-le}
use Rattle.std.specs.Float.Ieee.Fits.{up_pos, down_pos, nearest-le, reach}
use Rattle.std.specs.Float.Ieee.Exact.{HasValue}
use Rattle.std.specs.Float.Ieee.Nearest.{closest}
use Rattle.std.specs.Float.Ieee.Order.{drop, round_mono, le_of_values}
use Rattle.std.specs.Float.Ieee.Scale.{grid, overflow, round_val, round_same}
use Rattle.std.specs.Float.Ieee.Positive.{positive_of_value}
use Rattle.base_laws.specs.Tests.{holds}
use Rattle.base_laws.specs.Whole.{whole_exact}

-- ---- a fraction to the nearest whole number

-- the result is at most half above the fraction
pub closest_within : (a b : ℕ) → 2 * (closest a b * b) ≤ 2 * a + b
closest_within a b = go (a / b) (a % b) (div-add-mod' a b) (compare (a % b * 2) b) (nleb→lt (a % b * 2) b) (eqb→eq (a % b * 2) b)
  where
    go : (w r : ℕ) → w * b + r ≡ a → (o : Ordering) → (T (not (is_le o)) → b < r * 2) → (T (compare_is_eq o) → r * 2 ≡ b) → 2 * (nearest w o * b) ≤ 2 * a + b
    go w r e Ordering.lt h k = omega arith
    go w r e Ordering.eq h k =
        let g : r * 2 ≡ b = k tt in
        let up : (w + w % 2) * b ≤ w * b + b = le_trans (mul-le-mul_right b (nearest-le w Ordering.eq)) (le_of_eq (suc-mul w b)) in
        omega arith
    go w r e Ordering.gt h k =
        let g : b < r * 2 = h tt in
        let up : suc w * b ≡ w * b + b = suc-mul w b in
        omega arith

-- so a fraction less than half above m gives m at most
pub closest_near : (a b m : ℕ) → 2 * a < (2 * m + 1) * b → closest a b ≤ m
closest_near a b m h =
    let within : 2 * (closest a b * b) ≤ 2 * a + b = closest_within a b in
    let apart : (2 * m + 1) * b ≡ 2 * (m * b) + b =
    add-mul (2 * m) 1 b ∙ ap (λ (x : ℕ). x + 1 * b) (mul_assoc 2 m b) ∙ ap (λ (x : ℕ). 2 * (m * b) + x) (one-mul b) in
    let next : suc m * b ≡ m * b + b = suc-mul m b in
    le_of_suc-le-suc (lt_of_mul-lt-mul_right b (below (closest a b * b) (m * b) (suc m * b) b a next (subst (λ (x : ℕ). 2 * a < x) apart h) within))
  where
    below : (q m s b a : ℕ) → s ≡ m + b → 2 * a < 2 * m + b → 2 * q ≤ 2 * a + b → q < s
    below q m s b a e h k = omega arith

-- ---- the unit in the last place of a rounded fraction

-- what the last digit kept of a / c is worth, in units of the format's smallest value
abbrev pub last_place : Format → ℕ → ℕ → ℕ
last_place f a c = 2 ^ drop (prec f) (a * 2 ^ low f) c

-- a fraction less than half a last place above m of them is rounded to m of them at most
grid_places : (f : Format) (a c m : ℕ) → 2 * (a * 2 ^ low f) < (2 * m + 1) * (c * last_place f a c) → grid f a c ≤ m * last_place f a c
grid_places f a c m h = mul-le-mul_right (last_place f a c) (closest_near (a * 2 ^ low f) (c * last_place f a c) m h)

-- of a fraction below 2 ^ (prec + j) no more than low + j digits are dropped
drop_most : (f : Format) (a c j : ℕ) → 0 < c → a < 2 ^ (prec f + j) * c → drop (prec f) (a * 2 ^ low f) c ≤ low f + j
drop_most f a c j C h =
    spare (size (a * 2 ^ low f / c)) (prec f) (low f) j
    (size-le (a * 2 ^ low f / c) (prec f + j + low f)
    ((div-lt_iff_lt-mul C).1
    (subst (λ (x : ℕ). a * 2 ^ low f < x) (mul_right_comm (2 ^ (prec f + j)) c (2 ^ low f) ∙ ap (λ (x : ℕ). x * c) (sym (pow-add 2 (prec f + j) (low f))))
    (mul-lt-mul_of_pos_right h (pow_pos (low f))))))
  where
    spare : (z p l i : ℕ) → z ≤ p + i + l → z - p ≤ l + i
    spare z p l i g = omega arith

-- from 2 ^ j on, the digits dropped and the digits kept are more than low + j
drop_least : (f : Format) (a c j : ℕ) → 0 < c → 2 ^ j * c ≤ a → low f + j < drop (prec f) (a * 2 ^ low f) c + prec f
drop_least f a c j C h =
    let w = a * 2 ^ low f / c in
    let reached : 2 ^ (j + low f) ≤ w =
    (le-div_iff_mul-le C).1
    (le_trans (le_of_eq (ap (λ (x : ℕ). x * c) (pow-add 2 j (low f)) ∙ mul_right_comm (2 ^ j) (2 ^ low f) c)) (mul-le-mul_right (2 ^ low f) h)) in
    digits (size w) (prec f) (low f) j (lt_of_not-le (λ (g : size w ≤ j + low f). not-le_of_lt (lt_of_lt_of_le (size-lt w) (pow_mono g)) reached))
  where
    digits : (z p l i : ℕ) → i + l < z → l + i < z - p + p
    digits z p l i g = omega arith

-- so from 2 ^ j on the last place is worth 2 ^ (j + 1 - prec) at least
pub last_place_least : (f : Format) (a c j : ℕ) → 0 < c → 2 ^ j * c ≤ a → 2 ^ low f * 2 ^ suc j ≤ last_place f a c * 2 ^ prec f
last_place_least f a c j C h =
    let k = drop (prec f) (a * 2 ^ low f) c in
    let reached : low f + suc j ≤ k + prec f = next (low f) j (k + prec f) (drop_least f a c j C h) in
    le_trans (le_of_eq (sym (pow-add 2 (low f) (suc j)))) (le_trans (pow_mono reached) (le_of_eq (pow-add 2 k (prec f))))
  where
    next : (l i z : ℕ) → l + i < z → l + suc i ≤ z
    next l i z g = omega arith

-- m * 2 ^ i is a multiple of the last place where no more than i digits are dropped
steps : (m i k : ℕ) → k ≤ i → m * 2 ^ (i - k) * 2 ^ k ≡ m * 2 ^ i
steps m i k h = mul_assoc m (2 ^ (i - k)) (2 ^ k) ∙ ap (λ (x : ℕ). m * x) (sym (pow-add 2 (i - k) k) ∙ ap (λ (x : ℕ). 2 ^ x) (together i k h))
  where
    together : (i k : ℕ) → k ≤ i → i - k + k ≡ i
    together i k h = omega arith

-- so a fraction less than half a last place above it is rounded to it at most
grid-near : (f : Format) (a c m i : ℕ) → drop (prec f) (a * 2 ^ low f) c ≤ i
    → 2 * (a * 2 ^ low f) < 2 * (m * 2 ^ i * c) + c * last_place f a c → grid f a c ≤ m * 2 ^ i
grid-near f a c m i h g =
    let k = drop (prec f) (a * 2 ^ low f) c in
    let b = m * 2 ^ (i - k) in
    let e : b * 2 ^ k ≡ m * 2 ^ i = steps m i k h in
    subst (λ (x : ℕ). grid f a c ≤ x) e
    (grid_places f a c b (lt_of_lt_of_le g (le_of_eq (ap (λ (x : ℕ). 2 * (x * c) + c * 2 ^ k) (sym e) ∙ apart b (2 ^ k) c))))
  where
    apart : (b u c : ℕ) → 2 * (b * u * c) + c * u ≡ (2 * b + 1) * (c * u)
    apart b u c =
        let p : (2 * b + 1) * (c * u) ≡ 2 * b * (c * u) + 1 * (c * u) = add-mul (2 * b) 1 (c * u) in
        let q : 2 * b * (c * u) ≡ 2 * (b * u * c) = simp (mul_assoc, mul_comm) in
        omega arith

-- ---- whole numbers

-- a number of prec + j digits at most is not rounded above a multiple of 2 ^ j that it does not exceed
pub whole-under : (f : Format) (n m j : ℕ) → n < 2 ^ (prec f + j) → n ≤ m * 2 ^ j → grid f n 1 ≤ m * 2 ^ j * 2 ^ low f
whole-under f n m j h g =
    let e : m * 2 ^ (low f + j) ≡ m * 2 ^ j * 2 ^ low f =
    ap (λ (x : ℕ). m * x) (pow-add 2 (low f) j ∙ mul_comm (2 ^ low f) (2 ^ j)) ∙ sym (mul_assoc m (2 ^ j) (2 ^ low f)) in
    subst (λ (x : ℕ). grid f n 1 ≤ x) e
    (grid-near f n 1 m (low f + j) (drop_most f n 1 j (pow_pos 0) (lt_of_lt_of_le h (le_of_eq (sym (mul-one (2 ^ (prec f + j)))))))
    (over (n * 2 ^ low f) (m * 2 ^ (low f + j)) (last_place f n 1) (pow_pos (drop (prec f) (n * 2 ^ low f) 1)) (le_trans (mul-le-mul_right (2 ^ low f) g) (le_of_eq (sym e)))))
  where
    over : (x y u : ℕ) → 0 < u → x ≤ y → 2 * x < 2 * (y * 1) + 1 * u
    over x y u U g = omega arith

-- a number of prec + j digits that is less than 2 ^ j / 2 above a multiple of 2 ^ j is rounded to that at most
pub whole-near : (f : Format) (n m i j : ℕ) → suc i ≡ prec f + j → 2 ^ i ≤ n → n < 2 ^ suc i → 2 * n < (2 * m + 1) * 2 ^ j
    → grid f n 1 ≤ m * 2 ^ j * 2 ^ low f
whole-near f n m i j d h g l =
    let k = drop (prec f) (n * 2 ^ low f) 1 in
    let most : k ≤ low f + j = drop_most f n 1 j (pow_pos 0) (lt_of_lt_of_le g (le_of_eq (ap (λ (x : ℕ). 2 ^ x) d ∙ sym (mul-one (2 ^ (prec f + j)))))) in
    let least : low f + i < k + prec f = drop_least f n 1 i (pow_pos 0) (le_trans (le_of_eq (mul-one (2 ^ i))) h) in
    let exact : k ≡ low f + j = meet k (low f) i j (prec f) d most least in
    let unit : 2 ^ k ≡ 2 ^ j * 2 ^ low f = ap (λ (x : ℕ). 2 ^ x) exact ∙ pow-add 2 (low f) j ∙ mul_comm (2 ^ low f) (2 ^ j) in
    let e : m * 2 ^ k ≡ m * 2 ^ j * 2 ^ low f = ap (λ (x : ℕ). m * x) unit ∙ sym (mul_assoc m (2 ^ j) (2 ^ low f)) in
    subst (λ (x : ℕ). grid f n 1 ≤ x) e
    (grid_places f n 1 m
    (subst (λ (x : ℕ). 2 * (n * 2 ^ low f) < (2 * m + 1) * x) (sym (one-mul (2 ^ k) ∙ unit)) (scaled n (2 * m + 1) (2 ^ j) (2 ^ low f) (pow_pos (low f)) l)))
  where
    meet : (k l i j p : ℕ) → suc i ≡ p + j → k ≤ l + j → l + i < k + p → k ≡ l + j
    meet k l i j p d a b = omega arith

    scaled : (n o j z : ℕ) → 0 < z → 2 * n < o * j → 2 * (n * z) < o * (j * z)
    scaled n o j z Z l = subst (λ (x : ℕ). x < o * (j * z)) (mul_assoc 2 n z) (lt_of_lt_of_le (mul-lt-mul_of_pos_right l Z) (le_of_eq (mul_assoc o j z)))

-- ---- rounded fractions and quotients under a whole number

-- what is below 2 ^ (emax + 1) does not overflow
no_overflow : (f : Format) (v : ℕ) → v < 2 ^ suc (emax f) → v * 2 ^ low f < overflow f
no_overflow f v h =
    lt_of_lt_of_le (mul-lt-mul_of_pos_right h (pow_pos (low f)))
    (le_of_eq (mul_comm (2 ^ suc (emax f)) (2 ^ low f) ∙ sym (pow-add 2 (low f) (suc (emax f)))))

-- m and a part t / c that is less than half a last place round to m at most
pub round-near : (f : Format) (m c t : ℕ) → m < 2 ^ prec f → t < c → 2 * (t * 2 ^ low f) < c * last_place f (m * c + t) c
    → T (le (round f false (m * c + t) c) (of_int f (pos m)))
round-near f m c t h g l =
    let a = m * c + t in
    let z = 2 ^ low f in
    let C : 0 < c = lt_of_le_of_lt zero-le g in
    let small : a < 2 ^ prec f * c = lt_of_lt_of_le (carried (m * c) t c (suc m * c) (suc-mul m c) g) (mul-le-mul_right c h) in
    let split : a * z ≡ m * z * c + t * z = add-mul (m * c) t z ∙ ap (λ (x : ℕ). x + t * z) (mul_right_comm m c z) in
    let whole : drop (prec f) (a * z) c ≤ low f = rw add-zero at (drop_most f a c 0 C (rw add-zero small)) in
    let near : grid f a c ≤ m * z = grid-near f a c m (low f) whole (halved (a * z) (m * z * c) (t * z) (c * last_place f a c) split l) in
    let fine : m * z < overflow f = no_overflow f m (lt_of_lt_of_le h (pow_mono (reach f))) in
    le_of_values (round f false a c) (of_int f (pos m)) (grid f a c) z m 1 (pow_pos (low f)) (pow_pos 0)
    (round_val f a c (lt_of_le_of_lt near fine)) (whole_exact f m (le_of_lt h)) (le_trans (le_of_eq (mul-one (grid f a c))) near)
  where
    carried : (x t c y : ℕ) → y ≡ x + c → t < c → x + t < y
    carried x t c y e g = omega arith

    halved : (a x t u : ℕ) → a ≡ x + t → 2 * t < u → 2 * a < 2 * x + u
    halved a x t u e l = omega arith

-- ---- products and quotients of two values

-- a product of two values is that of their fractions, rounded once
pub float_mul_is : (f : Format) (x y : Float) (a c b d : ℕ) → 0 < c → 0 < d → HasValue x false a c → HasValue y false b d
    → mul f x y ≡ round f false (a * b) (c * d)
unfolding mul
float_mul_is f nan y a c b d C D p q = absurd p
float_mul_is f (inf s) y a c b d C D p q = absurd p
float_mul_is f (fin true m e) y a c b d C D p q = absurd (holds (sym p.0))
float_mul_is f (fin false m e) nan a c b d C D p q = absurd q
float_mul_is f (fin false m e) (inf t) a c b d C D p q = absurd q
float_mul_is f (fin false m e) (fin true n g) a c b d C D p q = absurd (holds (sym q.0))
float_mul_is f (fin false m e) (fin false n g) a c b d C D p q =
    round_same f false (m * up e * (n * up g)) (down e * down g) (a * b) (c * d) (mul-pos (down_pos e) (down_pos g)) (mul-pos C D)
    (mul-mul-mul_comm (m * up e) (n * up g) c d ∙ ap₂ (λ (v w : ℕ). v * w) p.1 q.1 ∙ mul-mul-mul_comm a (down e) b (down g))

-- whole numbers that the format holds multiply to their whole product, rounded once
pub whole-product : (f : Format) (n m : ℕ) → n ≤ 2 ^ prec f → m ≤ 2 ^ prec f → mul f (of_int f (pos n)) (of_int f (pos m)) ≡ of_int f (pos (n * m))
unfolding of_int
whole-product f n m h k = float_mul_is f (round f false n 1) (round f false m 1) n 1 m 1 (pow_pos 0) (pow_pos 0) (whole_exact f n h) (whole_exact f m k)

-- a quotient of two values is their fraction, rounded once
pub float_div_is : (f : Format) (x y : Float) (a c b d : ℕ) → 0 < c → 0 < d → 0 < b → HasValue x false a c → HasValue y false b d
    → div f x y ≡ round f false (a * d) (b * c)
unfolding div
float_div_is f nan y a c b d C D B p q = absurd p
float_div_is f (inf s) y a c b d C D B p q = absurd p
float_div_is f (fin true m e) y a c b d C D B p q = absurd (holds (sym p.0))
float_div_is f (fin false m e) nan a c b d C D B p q = absurd q
float_div_is f (fin false m e) (inf t) a c b d C D B p q = absurd q
float_div_is f (fin false m e) (fin true n g) a c b d C D B p q = absurd (holds (sym q.0))
float_div_is f (fin false m e) (fin false n g) a c b d C D B p q =
    let N : 0 < n = ltb→lt 0 n (positive_of_value (fin false n g) b d q B) in
    rw (ne_eqb n 0 (apart n N))
    (round_same f false (m * up e * down g) (n * up g * down e) (a * d) (b * c) (mul-pos (mul-pos N (up_pos g)) (down_pos e)) (mul-pos B C)
    (crossed (m * up e) (down e) (n * up g) (down g) p.1 q.1))
  where
    apart : (i : ℕ) → 0 < i → i ≡ 0 → ⊥
    apart i l e = omega arith

    crossed : (M E N G : ℕ) → M * c ≡ a * E → N * d ≡ b * G → M * G * (b * c) ≡ a * d * (N * E)
    crossed M E N G h k =
        let x : M * G * (b * c) ≡ M * c * (b * G) = simp (mul_assoc, mul_comm, mul_left_comm) in
        let y : a * E * (N * d) ≡ a * d * (N * E) = simp (mul_assoc, mul_comm, mul_left_comm) in
        x ∙ ap (λ (i : ℕ). i * (b * G)) h ∙ ap (λ (i : ℕ). a * E * i) (sym k) ∙ y

-- a whole number that is rounded to v at most, over another, is at most v over that
pub float_div-under : (f : Format) (n c v : ℕ) → 0 < c → c ≤ 2 ^ prec f → grid f n 1 ≤ v * 2 ^ low f → v < 2 ^ suc (emax f)
    → T (le (div f (of_int f (pos n)) (of_int f (pos c))) (round f false v c))
unfolding of_int
float_div-under f n c v C h g l =
    let z = 2 ^ low f in
    let dividend : HasValue (round f false n 1) false (grid f n 1) z = round_val f n 1 (lt_of_le_of_lt g (no_overflow f v l)) in
    rw (float_div_is f (round f false n 1) (round f false c 1) (grid f n 1) z c 1 (pow_pos (low f)) (pow_pos 0) C dividend (whole_exact f c h))
    (round_mono f (grid f n 1 * 1) (c * z) v c (mul-pos C (pow_pos (low f))) C (crossed (grid f n 1) c v z g))
  where
    crossed : (q c v z : ℕ) → q ≤ v * z → q * 1 * c ≤ v * (c * z)
    crossed q c v z g =
        le_trans (le_of_eq (ap (λ (x : ℕ). x * c) (mul-one q)))
        (le_trans (mul-le-mul_right c g) (le_of_eq (mul_assoc v z c ∙ ap (λ (x : ℕ). v * x) (mul_comm z c))))
