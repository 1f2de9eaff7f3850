-- The domain of the costs: the values that are not NaN and not below zero (-0 and +inf included), which is what the test `x >= 0.0` shows; and the size of a value, `abs_of`.
-- All of it is read off the order by cases: a value of the domain with the sign set is -0.
use Rattle.std.specs.Prelude.{◌≡◌, refl, ℕ, ◌*◌, Bool, true, false, not, T}
use Rattle.std.proofs.Common.{◌∙◌, inl, inr, le_refl, arith, lt→ltb, pow_pos}
use lib.Ieee.{Float, nan, inf, fin, Format, binary32, binary64, up, down, neg, lt, le, is_nan, of_bits}
use Rattle.std.specs.Float.Ieee.Exact.{HasValue}
use Rattle.std.specs.Float.Ieee.Scale.{finite}
use Rattle.std.specs.Float.Ieee.Positive.{positive}
use Rattle.base_terms.specs.Floats.{nought, nonneg, abs_of}
use Rattle.base_laws.specs.Tests.{lt_or_le}
use Rattle.base_laws.specs.Signed.{nega, nega_scale, Under, times_zero}
use Rattle.base_laws.specs.Compare.{Le, le→Le, Le→le, Le-trans, lt_excludes, nega_of}
use Rattle.base_laws.specs.Rounding.{Le-of_values, sign_nonneg, neg_flip}
use Rattle.base_laws.specs.Order.{float_le_numbers}

-- ---- zero, and not below it

-- a program's `0.0`, in either format
pub nought_is : (f : Format) → of_bits f 0 ≡ nought
unfolding of_bits
nought_is binary32 = refl
nought_is binary64 = refl

-- zero is of the domain
pub nought-nonneg : T (nonneg nought)
nought-nonneg = sign_nonneg nought refl

-- what has the value zero is equal to it
pub nought_value : (x : Float) → HasValue x false 0 1 → T (le nought x) × T (le x nought)
nought_value x h = (
  Le→le nought x (Le-of_values nought false 0 1 x false 0 1 (pow_pos 0) (pow_pos 0) (refl, refl) h (le_refl 0)),
  Le→le x nought (Le-of_values x false 0 1 nought false 0 1 (pow_pos 0) (pow_pos 0) h (refl, refl) (le_refl 0)),
)

-- a value of the domain is a number
pub nonneg-number : (x : Float) → T (nonneg x) → T (not (is_nan x))
nonneg-number x h = (float_le_numbers nought x h).1

-- ---- finite values

-- a finite value is a number
pub finite_number : (x : Float) → T (finite x) → T (not (is_nan x))
unfolding is_nan
finite_number nan h = h
finite_number (inf s) h = tt
finite_number (fin s m e) h = tt

-- what lies between two finite values is finite
pub finite_between : (lo x hi : Float) → T (finite lo) → T (finite hi) → T (le lo x) → T (le x hi) → T (finite x)
finite_between lo x hi p q h k = go lo x hi p q (le→Le lo x h) (le→Le x hi k)
  where
    go : (u v w : Float) → T (finite u) → T (finite w) → Le u v → Le v w → T (finite v)
    go nan v w p q h k = absurd p
    go (inf s) v w p q h k = absurd p
    go (fin s m e) nan w p q h k = h
    go (fin s m e) (inf true) w p q h k = h
    go (fin s m e) (inf false) nan p q h k = q
    go (fin s m e) (inf false) (inf u) p q h k = q
    go (fin s m e) (inf false) (fin u o g) p q h k = k
    go (fin s m e) (fin t n d) w p q h k = tt

-- ---- finite and above zero: `positive` of lib.Ieee.Positive

-- a positive value is of the domain
pub positive_nonneg : (x : Float) → T (positive x) → T (nonneg x)
positive_nonneg nan h = absurd h
positive_nonneg (inf s) h = absurd h
positive_nonneg (fin true m e) h = absurd h
positive_nonneg (fin false m e) h = sign_nonneg (fin false m e) refl

-- a finite value above one of the domain is positive
pub positive_above : (x y : Float) → T (nonneg x) → T (lt x y) → T (finite y) → T (positive y)
positive_above x nan h k p = absurd p
positive_above x (inf t) h k p = absurd p
positive_above x (fin true n d) h k p = absurd (lt_excludes x (fin true n d) k (Le-trans (fin true n d) nought x (omega arith) (le→Le nought x h)))
positive_above x (fin false n d) h k p = elim (lt_or_le 0 n) [
  | inl l ↦ lt→ltb 0 n l
  | inr g ↦ let z : n * up d ≡ 0 = times_zero n (up d) (omega arith) in absurd
      (lt_excludes x (fin false n d) k (Le-trans (fin false n d) nought x (omega arith) (le→Le nought x h)))
]

-- ---- the size of a value

-- it is finite where the value is
pub abs_finite : (x : Float) → finite (abs_of x) ≡ finite x
abs_finite nan = refl
abs_finite (inf s) = refl
abs_finite (fin s m e) = refl

-- it is not negative
pub abs_nonneg : (x : Float) → T (not (is_nan x)) → T (nonneg (abs_of x))
unfolding is_nan
abs_nonneg nan h = absurd h
abs_nonneg (inf s) h = sign_nonneg (inf false) refl
abs_nonneg (fin s m e) h = sign_nonneg (fin false m e) refl

-- a value and its negative have one size
pub abs_neg : (x : Float) → abs_of (neg x) ≡ abs_of x
unfolding neg
abs_neg nan = refl
abs_neg (inf s) = refl
abs_neg (fin s m e) = refl

-- a value whose size is at most a finite value is finite
pub finite_within : (x top : Float) → T (finite top) → T (le (abs_of x) top) → T (finite x)
finite_within x top g h = go x top g (le→Le (abs_of x) top h)
  where
    go : (u v : Float) → T (finite v) → Le (abs_of u) v → T (finite u)
    go nan v g k = k
    go (inf s) nan g k = k
    go (inf s) (inf t) g k = g
    go (inf s) (fin t n d) g k = k
    go (fin s m e) v g k = tt

-- from zero up, a larger value has the larger size
pub abs_rises : (x y : Float) → T (nonneg x) → T (le x y) → T (le (abs_of x) (abs_of y))
abs_rises x y h k = Le→le (abs_of x) (abs_of y) (go x y (le→Le nought x h) (le→Le x y k))
  where
    plain : (s : Bool) (a : ℕ) (t : Bool) (b : ℕ) → nega s a ≡ 0 → Under s a t b → Under false a false b
    plain false a false b z h = h
    plain false a true b z h = omega arith
    plain true a false b z h = omega arith
    plain true a true b z h = omega arith

    go : (u v : Float) → Le nought u → Le u v → Le (abs_of u) (abs_of v)
    go nan v p q = q
    go (inf true) v p q = absurd p
    go (inf false) nan p q = q
    go (inf false) (inf t) p q = tt
    go (inf false) (fin t n d) p q = absurd q
    go (fin s m e) nan p q = q
    go (fin s m e) (inf t) p q = tt
    go (fin s m e) (fin t n d) p q =
        plain s (m * up e * down d) t (n * up d * down e)
        (nega_scale s (m * up e) (down d) ∙ times_zero (nega s (m * up e)) (down d) (nega_of s m e p)) q

-- from zero down, a smaller value has the larger size
pub abs_falls : (x y : Float) → T (le x nought) → T (le y x) → T (le (abs_of x) (abs_of y))
unfolding neg
abs_falls x y h k =
    let p : Le nought (neg x) = Le-trans nought (neg nought) (neg x) (omega arith) (neg_flip x nought (le→Le x nought h)) in
    rw (← abs_neg x, ← abs_neg y) (abs_rises (neg x) (neg y) (Le→le nought (neg x) p) (Le→le (neg x) (neg y) (neg_flip y x (le→Le y x k))))
