-- Products of values that are not negative grow with each factor, infinities and overflow included, wherever neither product is NaN (0 * inf is).
-- Two finite values multiply as fractions, and on this domain a sign matters only at zero.
use Rattle.std.specs.Prelude.{◌≡◌, refl, ℕ, ◌*◌, ◌≤◌, ◌<◌, Bool, true, not, cond, T, eqb, Float}
use Rattle.std.proofs.Common.{ap, ◌∙◌, inl, inr, le_trans, le_of_eq, mul-pos, mul-zero, mul-le-mul, arith, eq-eqb}
use Rattle.std.proofs.Math.Nat.{mul-mul-mul_comm}
use Rattle.std.proofs.Math.Bool.{false}
use Rattle.std.specs.Float.{nan, inf, fin, Format}
use Rattle.std.specs.Float.Ieee.{up, down, unlike, round, mul, le, is_nan}
use Rattle.std.specs.Float.Ieee.Fits.{up_pos, down_pos}
use Rattle.std.specs.Float.Ieee.Scale.{finite}
use Rattle.base_laws.specs.Tests.{tested}
use Rattle.base_laws.specs.Signed.{nega, nega_scale, Under, times_zero, zero_of}
use Rattle.base_laws.specs.Compare.{Le, le→Le, Le→le, high_end, nega_of}
use Rattle.base_laws.specs.Rounding.{sign_nonneg, round_has, round_number, round-le}
use Rattle.base_laws.specs.Order.{float_le_trans}
use Rattle.base_terms.specs.Floats.{nought, nonneg}
use Rattle.base_laws.specs.Nonneg.{nought-nonneg}

-- ---- steps: two fractions that are not negative

nega-more : (s : Bool) (a k : ℕ) → nega s a ≡ 0 → nega s (a * k) ≡ 0
nega-more s a k z = nega_scale s a k ∙ times_zero (nega s a) k z

nega_times : (s : Bool) (a : ℕ) (t : Bool) (b : ℕ) → nega s a ≡ 0 → nega t b ≡ 0 → nega (unlike s t) (a * b) ≡ 0
nega_times false a false b z y = refl
nega_times false a true b z y = ap (λ (k : ℕ). a * k) y ∙ mul-zero a
nega_times true a false b z y = times_zero a b z
nega_times true a true b z y = refl

under→le : (s : Bool) (a : ℕ) (t : Bool) (b : ℕ) → nega s a ≡ 0 → Under s a t b → a ≤ b
under→le false a false b z h = omega arith
under→le false a true b z h = omega arith
under→le true a t b z h = omega arith

le→under : (s : Bool) (a : ℕ) (t : Bool) (b : ℕ) → nega s a ≡ 0 → nega t b ≡ 0 → a ≤ b → Under s a t b
le→under false a false b z y h = omega arith
le→under false a true b z y h = omega arith
le→under true a false b z y h = omega arith
le→under true a true b z y h = omega arith

product : (f : Format) (s : Bool) (a p : ℕ) (t : Bool) (b q : ℕ) (s' : Bool) (a' p' : ℕ) (t' : Bool) (b' q' : ℕ) → 0 < p → 0 < q → 0 < p' → 0 < q'
    → nega s a ≡ 0 → nega t b ≡ 0 → nega s' a' ≡ 0 → nega t' b' ≡ 0
    → Under s (a * p') s' (a' * p) → Under t (b * q') t' (b' * q)
    → Le (round f (unlike s t) (a * b) (p * q)) (round f (unlike s' t') (a' * b') (p' * q'))
product f s a p t b q s' a' p' t' b' q' P Q P' Q' z y z' y' h k =
    round-le f (unlike s t) (a * b) (p * q) (unlike s' t') (a' * b') (p' * q') (mul-pos P Q) (mul-pos P' Q')
    (le→under (unlike s t) (a * b * (p' * q')) (unlike s' t') (a' * b' * (p * q)) (nega-more (unlike s t) (a * b) (p' * q') (nega_times s a t b z y))
    (nega-more (unlike s' t') (a' * b') (p * q) (nega_times s' a' t' b' z' y'))
    (le_trans (le_of_eq (mul-mul-mul_comm a b p' q'))
    (le_trans (mul-le-mul (under→le s (a * p') s' (a' * p) (nega-more s a p' z) h) (under→le t (b * q') t' (b' * q) (nega-more t b q' y) k))
    (le_of_eq (mul-mul-mul_comm a' p b' q)))))

-- ---- steps: a product with +inf that is no NaN is +inf

ends : (n : ℕ) (s : Bool) → T (not (is_nan (cond (eqb n 0) nan (inf s)))) → cond (eqb n 0) nan (inf s) ≡ inf s
unfolding is_nan
ends n s h = elim (tested (eqb n 0)) [ inl e ↦ absurd (rw e at h) | inr e ↦ rw e ]

no_end : (n : ℕ) (s : Bool) → n ≡ 0 → T (not (is_nan (cond (eqb n 0) nan (inf s)))) → ⊥
unfolding is_nan
no_end n s z h = rw (eq-eqb n 0 z) at h

mul_inf_l : (f : Format) (y : Float) → Le nought y → T (not (is_nan (mul f (inf false) y))) → mul f (inf false) y ≡ inf false
unfolding mul
mul_inf_l f nan h p = absurd h
mul_inf_l f (inf true) h p = absurd h
mul_inf_l f (inf false) h p = refl
mul_inf_l f (fin false n d) h p = ends n false p
mul_inf_l f (fin true n d) h p = absurd (no_end n true (zero_of n (up d) (up_pos d) (le_of_eq (nega_of true n d h))) p)

mul_inf_r : (f : Format) (x : Float) → Le nought x → T (not (is_nan (mul f x (inf false)))) → mul f x (inf false) ≡ inf false
unfolding mul
mul_inf_r f nan h p = absurd h
mul_inf_r f (inf true) h p = absurd h
mul_inf_r f (inf false) h p = refl
mul_inf_r f (fin false n d) h p = ends n false p
mul_inf_r f (fin true n d) h p = absurd (no_end n true (zero_of n (up d) (up_pos d) (le_of_eq (nega_of true n d h))) p)

mul-le : (f : Format) (x x' y y' : Float) → Le nought x → Le nought y → Le nought x' → Le nought y' → Le x x' → Le y y'
    → T (not (is_nan (mul f x y))) → T (not (is_nan (mul f x' y'))) → Le (mul f x y) (mul f x' y')
mul-le f x nan y y' a b c d h k p q = absurd c
mul-le f x (inf true) y y' a b c d h k p q = absurd c
mul-le f x (inf false) y y' a b c d h k p q = rw (mul_inf_l f y' d q) (high_end (mul f x y) p)
mul-le f x (fin s' m' e') y nan a b c d h k p q = absurd d
mul-le f x (fin s' m' e') y (inf true) a b c d h k p q = absurd d
mul-le f x (fin s' m' e') y (inf false) a b c d h k p q = rw (mul_inf_r f (fin s' m' e') c q) (high_end (mul f x y) p)
mul-le f nan (fin s' m' e') y (fin t' n' d') a b c d h k p q = absurd a
mul-le f (inf true) (fin s' m' e') y (fin t' n' d') a b c d h k p q = absurd a
mul-le f (inf false) (fin s' m' e') y (fin t' n' d') a b c d h k p q = absurd h
mul-le f (fin s m e) (fin s' m' e') nan (fin t' n' d') a b c d h k p q = absurd b
mul-le f (fin s m e) (fin s' m' e') (inf true) (fin t' n' d') a b c d h k p q = absurd b
mul-le f (fin s m e) (fin s' m' e') (inf false) (fin t' n' d') a b c d h k p q = absurd k
mul-le f (fin s m e) (fin s' m' e') (fin t n g) (fin t' n' g') a b c d h k p q =
    unfold mul in
    product f s (m * up e) (down e) t (n * up g) (down g) s' (m' * up e') (down e') t' (n' * up g') (down g') (down_pos e)
    (down_pos g) (down_pos e') (down_pos g') (nega_of s m e a) (nega_of t n g b) (nega_of s' m' e' c) (nega_of t' n' g' d) h k

-- ---- the laws

-- a product of finite values is a number
pub float_mul-number : (f : Format) (x y : Float) → T (finite x) → T (finite y) → T (not (is_nan (mul f x y)))
unfolding mul
float_mul-number f nan y h k = absurd h
float_mul-number f (inf s) y h k = absurd h
float_mul-number f (fin s m e) nan h k = absurd k
float_mul-number f (fin s m e) (inf t) h k = absurd k
float_mul-number f (fin s m e) (fin t n d) h k = round_number f (unlike s t) (m * up e * (n * up d)) (down e * down d)

-- a product of values that are not negative grows with each factor, where neither product is NaN
pub float_mul_mono : (f : Format) (x x' y y' : Float) → T (nonneg x) → T (nonneg y) → T (le x x') → T (le y y')
    → T (not (is_nan (mul f x y))) → T (not (is_nan (mul f x' y'))) → T (le (mul f x y) (mul f x' y'))
float_mul_mono f x x' y y' p q h k n n' =
    Le→le (mul f x y) (mul f x' y')
    (mul-le f x x' y y' (le→Le nought x p) (le→Le nought y q) (le→Le nought x' (float_le_trans nought x x' p h))
    (le→Le nought y' (float_le_trans nought y y' q k)) (le→Le x x' h) (le→Le y y' k) n n')

-- and is not negative, where it is no NaN
pub float_mul-nonneg : (f : Format) (x y : Float) → T (nonneg x) → T (nonneg y) → T (not (is_nan (mul f x y))) → T (nonneg (mul f x y))
float_mul-nonneg f x y p q n =
    float_le_trans nought (mul f nought nought) (mul f x y) (unfold mul in sign_nonneg (round f false 0 1) (round_has f false 0 1))
    (float_mul_mono f nought x nought y nought-nonneg nought-nonneg p q (float_mul-number f nought nought tt tt) n)
