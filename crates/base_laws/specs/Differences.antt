-- Sums and differences that are no NaN: a number and a finite value. Only two infinities can cancel out.
-- Differences of finite values: they grow with the first and fall with the second, as the sums that they are; x - x is zero, so the order of x and y shows in the sign of x - y.
-- The difference of two values that are not negative is no larger than the larger of them, so it is finite where that is a value of the format.
-- A value of f64 less one of f32 does not overflow: the largest f64 and 2 ^ 128 together still round to a finite value.
use Rattle.std.specs.Prelude.{ℕ, ◌*◌, ◌+◌, ◌-◌, ◌≤◌, ◌<◌, suc, ◌^◌, Bool, true, not, cond, T, ltb, Float, ◌≡◌, refl, ◌⊎◌, ℤ, pos, negsuc}
use Rattle.std.proofs.Math.Bool.{false}
use Rattle.std.proofs.Common.{true≢false, lit≤, ap, ◌∙◌, sym, subst, inl, inr, le_refl, mul-pos, mul_assoc, mul_comm, mul_right_comm, mul-le-mul_right, le_trans, le_of_eq, le_of_lt, add-le-add, mul-le-mul, mul-one, add-mul, lt_of_mul-lt-mul_right, le-mul_of_pos_right, arith, le-ltb, pow_pos, pow-add, pow_mono}
use Rattle.std.specs.Bool.{beq}
use Rattle.std.specs.Float.{nan, inf, fin, Format}
use Rattle.std.specs.Float.Ieee.{up, down, neg, add, sub, is_nan, round, sum, le, fits, binary32, binary64}
use Rattle.std.specs.Float.Ieee.Scale.{finite}
use Rattle.std.specs.Float.Ieee.Fits.{down_pos}
use Rattle.std.specs.Float.Ieee.Exact.{HasValue}
use Rattle.std.specs.Float.Ieee.Order.{round_mono}
use Rattle.base_laws.specs.Rounding.{neg_finite, Le-of_values, Sign, round_has, round_neg, round_zero, round-le, round-own, neg_flip, either_sign, sign_nonneg, fits_digits}
use Rattle.base_laws.specs.Sums.{sum_number, sgn, size_of, sum_is, add-le}
use Rattle.base_laws.specs.Signed.{nega, nega_scale, Under, times_zero}
use Rattle.base_laws.specs.Compare.{Le, le→Le, Le→le, Le-trans, nega_of}
use Rattle.base_laws.specs.Order.{float_le_refl, float_le_trans}
use Rattle.base_terms.specs.Floats.{nought, nonneg, abs_of}
use Rattle.base_laws.specs.Nonneg.{nought_value, finite_number, abs_neg, abs_rises, finite_between}
use Rattle.base_laws.specs.Tests.{lt_or_le, tested}

-- a number and a finite value have a number as their sum
pub float_add_finite : (f : Format) (x y : Float) → T (not (is_nan x)) → T (finite y) → T (not (is_nan (add f x y)))
unfolding add is_nan
float_add_finite f nan y h k = absurd h
float_add_finite f (inf s) nan h k = absurd k
float_add_finite f (inf s) (inf t) h k = absurd k
float_add_finite f (inf s) (fin t n d) h k = tt
float_add_finite f (fin s m e) nan h k = absurd k
float_add_finite f (fin s m e) (inf t) h k = absurd k
float_add_finite f (fin s m e) (fin t n d) h k = sum_number f s (m * up e * down d) t (n * up d * down e) (down e * down d)

-- and a number as their difference
pub float_sub_finite_number : (f : Format) (x y : Float) → T (not (is_nan x)) → T (finite y) → T (not (is_nan (sub f x y)))
unfolding sub
float_sub_finite_number f x y h k = float_add_finite f x (neg y) h (neg_finite y k)

-- ---- order

-- a difference of finite values is a number
pub float_sub-number : (f : Format) (x y : Float) → T (finite x) → T (finite y) → T (not (is_nan (sub f x y)))
float_sub-number f x y h k = float_sub_finite_number f x y (finite_number x h) k

-- it grows with the first and falls with the second
pub float_sub_mono : (f : Format) (x x' y y' : Float) → T (finite x) → T (finite x') → T (finite y) → T (finite y') → T (le x x') → T (le y' y)
    → T (le (sub f x y) (sub f x' y'))
float_sub_mono f x x' y y' p p' q q' h k =
    let n : T (not (is_nan (sub f x y))) = float_sub-number f x y p q in
    let n' : T (not (is_nan (sub f x' y'))) = float_sub-number f x' y' p' q' in
    Le→le (sub f x y) (sub f x' y') (unfold sub in add-le f x x' (neg y) (neg y') (le→Le x x' h) (neg_flip y' y (le→Le y' y k)) n n')

-- ---- sign

-- x - x is +0
pub float_sub_self : (f : Format) (x : Float) → T (finite x) → HasValue (sub f x x) false 0 1
unfolding sub add neg
float_sub_self f nan h = absurd h
float_sub_self f (inf s) h = absurd h
float_sub_self f (fin s m e) h =
    let a = m * up e * down e in
    let c = down e * down e in
    rw (sum_is f s a (not s) a c, same_sgn s a) (round_zero f false (size_of s a (not s) a) c (mul-pos (down_pos e) (down_pos e)) (same_size s a))
  where
    same_sgn : (s : Bool) (a : ℕ) → sgn s a (not s) a ≡ false
    same_sgn true a = rw (le-ltb a a (le_refl a))
    same_sgn false a = rw (le-ltb a a (le_refl a))

    same_size : (s : Bool) (a : ℕ) → size_of s a (not s) a ≡ 0
    same_size true a = rw (le-ltb a a (le_refl a)) (omega arith)
    same_size false a = rw (le-ltb a a (le_refl a)) (omega arith)

-- x - y is not negative where y ≤ x
pub float_sub-nonneg : (f : Format) (x y : Float) → T (finite x) → T (finite y) → T (le y x) → T (nonneg (sub f x y))
float_sub-nonneg f x y p q h =
    float_le_trans nought (sub f y y) (sub f x y) (nought_value (sub f y y) (float_sub_self f y q)).0
    (float_sub_mono f y x y y q p q q h (float_le_refl y (finite_number y q)))

-- and not above zero where x ≤ y
pub float_sub_nonpos : (f : Format) (x y : Float) → T (finite x) → T (finite y) → T (le x y) → T (le (sub f x y) nought)
float_sub_nonpos f x y p q h =
    float_le_trans (sub f x y) (sub f y y) nought (float_sub_mono f x y y y p q q q h (float_le_refl y (finite_number y q)))
    (nought_value (sub f y y) (float_sub_self f y q)).1

-- ---- size

abs_same : (x : Float) → Sign false x → abs_of x ≡ x
abs_same nan h = refl
abs_same (inf true) h = absurd (true≢false h)
abs_same (inf false) h = refl
abs_same (fin true m e) h = absurd (true≢false h)
abs_same (fin false m e) h = refl

abs_round : (f : Format) (s : Bool) (a c : ℕ) → abs_of (round f s a c) ≡ round f false a c
abs_round f false a c = abs_same (round f false a c) (round_has f false a c)
abs_round f true a c = ap abs_of (round_neg f a c) ∙ abs_neg (round f false a c) ∙ abs_same (round f false a c) (round_has f false a c)

-- with the signs of numbers that are not negative, one of a and b bounds the difference
either : (a b : ℕ) (x : Bool) → (cond x (b - a) (a - b) ≤ a) ⊎ (cond x (b - a) (a - b) ≤ b)
either a b true = inr (omega arith)
either a b false = inl (omega arith)

apart : (s : Bool) (a : ℕ) (t : Bool) (b : ℕ) → nega s a ≡ 0 → nega t b ≡ 0 → (size_of s a (not t) b ≤ a) ⊎ (size_of s a (not t) b ≤ b)
apart false a false b z y = either a b (ltb a b)
apart false a true b z y = inl (omega arith)
apart true a false b z y = inr (omega arith)
apart true a true b z y = either a b (ltb a b)

over : (w a q k p g : ℕ) → w ≤ a * q → a * g ≤ k * p → w * g ≤ k * (p * q)
over w a q k p g i h =
    let l : w * g ≤ a * g * q = rw (mul_right_comm a g q) (mul-le-mul_right g i) in
    let n : a * g * q ≤ k * (p * q) = rw (mul_assoc k p q) at (mul-le-mul_right q h) in
    omega arith

-- a / p and b / q are at most k / g, so their difference w / (p * q) is
within : (f : Format) (s : Bool) (a p : ℕ) (t : Bool) (b q k g : ℕ) → 0 < p → 0 < q → 0 < g → nega s a ≡ 0 → nega t b ≡ 0
    → Under false (a * g) false (k * p) → Under false (b * g) false (k * q)
    → Le (abs_of (sum f s (a * q) (not t) (b * p) (p * q))) (round f false k g)
within f s a p t b q k g P Q G z y h j =
    let w = size_of s (a * q) (not t) (b * p) in
    let z' : nega s (a * q) ≡ 0 = nega_scale s a q ∙ times_zero (nega s a) q z in
    let y' : nega t (b * p) ≡ 0 = nega_scale t b p ∙ times_zero (nega t b) p y in
    let u : Under false (w * g) false (k * (p * q)) = elim (apart s (a * q) t (b * p) z' y') [
      | inl i ↦ omega (arith, over w a q k p g i (omega arith))
      | inr i ↦ rw (mul_comm p q) (omega (arith, over w b p k q g i (omega arith)))
    ] in
    rw (sum_is f s (a * q) (not t) (b * p) (p * q), abs_round) (round-le f false w (p * q) false k g (mul-pos P Q) G u)

-- the difference of two values between zero and a value of the format is no larger than that
pub float_sub-within : (f : Format) (x y top : Float) → T (nonneg x) → T (nonneg y) → T (le x top) → T (le y top) → T (finite top) → T (fits f top)
    → T (le (abs_of (sub f x y)) top)
float_sub-within f x y top p q h k g v =
    Le→le (abs_of (sub f x y)) top (go x y top (le→Le nought x p) (le→Le nought y q) (le→Le nought top (float_le_trans nought x top p h))
    (le→Le (abs_of x) (abs_of top) (abs_rises x top p h)) (le→Le (abs_of y) (abs_of top) (abs_rises y top q k)) g v)
  where
    same : (s : Bool) (a c : ℕ) → nega s a ≡ 0 → Under false (a * c) s (a * c)
    same false a c z = le_refl (a * c + 0)
    same true a c z = let y : a * c ≡ 0 = times_zero a c z in omega arith

    go : (x y z : Float) → Le nought x → Le nought y → Le nought z → Le (abs_of x) (abs_of z) → Le (abs_of y) (abs_of z) → T (finite z) → T (fits f z)
        → Le (abs_of (sub f x y)) z
    go x y nan X Y Z h k g v = absurd g
    go x y (inf u) X Y Z h k g v = absurd g
    go nan y (fin u i j) X Y Z h k g v = absurd X
    go (inf s) y (fin u i j) X Y Z h k g v = absurd h
    go (fin s m e) nan (fin u i j) X Y Z h k g v = absurd Y
    go (fin s m e) (inf t) (fin u i j) X Y Z h k g v = absurd k
    go (fin s m e) (fin t n d) (fin u i j) X Y Z h k g v =
        Le-trans (abs_of (sub f (fin s m e) (fin t n d))) (round f false (i * up j) (down j)) (fin u i j)
        (unfold sub add neg in within f s (m * up e) (down e) t (n * up d) (down d) (i * up j) (down j) (down_pos e) (down_pos d) (down_pos j)
        (nega_of s m e X) (nega_of t n d Y) h k)
        (Le-of_values (round f false (i * up j) (down j)) false (i * up j) (down j) (fin u i j) u (i * up j) (down j) (down_pos j) (down_pos j)
        (round-own f u false i j v) (refl, refl) (same u (i * up j) (down j) (nega_of u i j Z)))

-- the largest f64, and what an f32 is below
abbrev largest : ℕ
largest = (2 ^ 53 - 1) * 2 ^ 971

abbrev widest : ℕ
widest = 2 ^ 128

-- they round to a finite value together
room : T (finite (round binary64 false (largest + widest) 1))
unfolding round
room = tt

-- ---- sizes

-- an f64 is no larger than the largest
below_largest : (s : Bool) (m : ℕ) (e : ℤ) → T (fits binary64 (fin s m e)) → m * up e ≤ largest * down e
below_largest s m (negsuc k) h =
    let p = fits_digits binary64 s m (negsuc k) h in
    le_trans (le_of_eq (mul-one m)) (le_trans (le_trans (le_of_lt p.0) (lit≤ tt)) (le-mul_of_pos_right largest (pow_pos (suc k))))
below_largest s m (pos k) h =
    let before : (a : ℕ) → a < 2 ^ 53 → a ≤ 2 ^ 53 - 1 = λ a l. omega arith in
    let split : (j : ℕ) → 971 < j → 2 ^ j ≡ 2 ^ (j - 971) * 2 ^ 971 = λ j l. let e : j ≡ j - 971 + 971 = omega arith in ap (λ (n : ℕ). 2 ^ n) e ∙ pow-add 2 (j - 971) 971 in
    let above : (a b c : ℕ) → c ≡ b * 2 ^ 971 → a * c < 2 ^ 1024 * 1 → a * c ≤ largest =
    λ a b c e l.
    let f : a * c ≡ a * b * 2 ^ 971 = ap (λ (n : ℕ). a * n) e ∙ sym (mul_assoc a b (2 ^ 971)) in
    let g : a * b * 2 ^ 971 < 2 ^ 53 * 2 ^ 971 = subst (λ (n : ℕ). n < 2 ^ 1024) f l in
    le_trans (le_of_eq f) (mul-le-mul_right (2 ^ 971) (before (a * b) (lt_of_mul-lt-mul_right (2 ^ 971) g))) in
    let p = fits_digits binary64 s m (pos k) h in
    le_trans (elim (lt_or_le 971 k) [
      | inl l ↦ above m (2 ^ (k - 971)) (2 ^ k) (split k l) p.2
      | inr l ↦ mul-le-mul (before m p.0) (pow_mono {i = k} {j = 971} l)
    ]) (le_of_eq (sym (mul-one largest)))

-- the size of a sum is at most that of its parts
size_most : (s : Bool) (a : ℕ) (t : Bool) (b : ℕ) → size_of s a t b ≤ a + b
size_most s a t b = elim (tested (beq s t)) [
  | inl e ↦ rw e (omega arith)
  | inr e ↦ rw e (elim (tested (ltb a b)) [ inl f ↦ rw f (omega arith) | inr f ↦ rw f (omega arith) ])
]

together : (A B E D X R : ℕ) → A ≤ X * E → B ≤ R * D → A * D + B * E ≤ (X + R) * (E * D)
together A B E D X R h k =
    le_trans (add-le-add (mul-le-mul_right D h) (mul-le-mul_right E k))
    (le_of_eq (ap (λ (n : ℕ). n + R * D * E) (mul_assoc X E D) ∙ ap (λ (n : ℕ). X * (E * D) + n) (mul_assoc R D E ∙ ap (λ (n : ℕ). R * n) (mul_comm D E))
    ∙ sym (add-mul X R (E * D))))

-- a fraction up to the two together rounds to a finite value
fits_in : (s : Bool) (a c : ℕ) → 0 < c → a ≤ (largest + widest) * c → T (finite (round binary64 s a c))
fits_in s a c C h =
    either_sign binary64 s a c
    (finite_between nought (round binary64 false a c) (round binary64 false (largest + widest) 1) tt room
    (sign_nonneg (round binary64 false a c) (round_has binary64 false a c))
    (round_mono binary64 a c (largest + widest) 1 C (pow_pos 0) (le_trans (le_of_eq (mul-one a)) h)))

-- an f64 less an f32, both finite, is finite
pub difference_finite : (x y : Float) → T (finite x) → T (finite y) → T (fits binary64 x) → T (fits binary32 y) → T (finite (sub binary64 x y))
difference_finite nan y p q f g = absurd p
difference_finite (inf s) y p q f g = absurd p
difference_finite (fin s m e) nan p q f g = absurd q
difference_finite (fin s m e) (inf t) p q f g = absurd q
difference_finite (fin s m e) (fin t n d) p q f g =
    let a = m * up e * down d in
    let b = n * up d * down e in
    unfold sub add neg in
    (rw (sum_is binary64 s a (not t) b (down e * down d))
    (fits_in (sgn s a (not t) b) (size_of s a (not t) b) (down e * down d) (mul-pos (down_pos e) (down_pos d))
    (le_trans (size_most s a (not t) b)
    (together (m * up e) (n * up d) (down e) (down d) largest widest (below_largest s m e f) (le_of_lt (fits_digits binary32 t n d g).2)))))
