-- `le`, `lt` and `eq` of floats off NaN: `le` is a total preorder, `lt` is its strict part, and `eq` is `le` both ways (so -0 equals +0).
-- Each law is one of the order by cases, `Le` of Compare.antt, which the three test.
use Rattle.std.specs.Prelude.{◌≡◌, ◌⊎◌, not, ◌&&◌, T, Float}
use Rattle.std.proofs.Common.{inl, inr, T_not}
use Rattle.std.proofs.Math.Dec.{not_T}
use Rattle.std.specs.Float.{nan, inf, fin}
use Rattle.std.specs.Float.Ieee.{lt, eq, le, is_nan}
use Rattle.std.specs.Float.Ieee.Fits.{and_l, and_r, and_i}
use Rattle.base_laws.specs.Tests.{same_test, or_l, passes}
use Rattle.base_laws.specs.Compare.{Le, le→Le, Le→le, Le-refl, Le-total, Le-trans, lt_excludes, lt_otherwise, eq→both, both→eq}

-- ---- a total preorder

-- a number is at most itself
pub float_le_refl : (x : Float) → T (not (is_nan x)) → T (le x x)
float_le_refl x p = Le→le x x (Le-refl x p)

-- of two numbers one is at most the other
pub float_le-total : (x y : Float) → T (not (is_nan x)) → T (not (is_nan y)) → T (le x y) ⊎ T (le y x)
float_le-total x y p q = elim (Le-total x y p q) [ inl h ↦ inl (Le→le x y h) | inr h ↦ inr (Le→le y x h) ]

-- at most chains
pub float_le_trans : (x y z : Float) → T (le x y) → T (le y z) → T (le x z)
float_le_trans x y z h k = Le→le x z (Le-trans x y z (le→Le x y h) (le→Le y z k))

-- nothing is at most a NaN, and a NaN is at most nothing: what `le` compares are two numbers
pub float_le_numbers : (x y : Float) → T (le x y) → T (not (is_nan x)) × T (not (is_nan y))
unfolding is_nan
float_le_numbers x y h = go x y (le→Le x y h)
  where
    go : (u v : Float) → Le u v → T (not (is_nan u)) × T (not (is_nan v))
    go nan v k = absurd k
    go (inf s) nan k = absurd k
    go (inf s) (inf t) k = (tt, tt)
    go (inf s) (fin t n d) k = (tt, tt)
    go (fin s m e) nan k = absurd k
    go (fin s m e) (inf t) k = (tt, tt)
    go (fin s m e) (fin t n d) k = (tt, tt)

-- ---- its strict part, and both ways

-- below is not at least
pub float_lt_is : (x y : Float) → T (not (is_nan x)) → T (not (is_nan y)) → lt x y ≡ not (le y x)
float_lt_is x y p q =
    same_test (lt x y) (not (le y x)) (λ (t : T (lt x y)). not_T (le y x) (λ (u : T (le y x)). lt_excludes x y t (le→Le y x u)))
    (λ (t : T (not (le y x))). lt_otherwise x y p q (λ (k : Le y x). T_not (le y x) t (Le→le y x k)))

-- equal is at most both ways, a NaN or not
pub float_eq_is : (x y : Float) → eq x y ≡ (le x y && le y x)
float_eq_is x y =
    same_test (eq x y) (le x y && le y x) (λ (t : T (eq x y)). and_i (le x y) (le y x) (Le→le x y (eq→both x y t).0) (Le→le y x (eq→both x y t).1))
    (λ (t : T (le x y && le y x)). both→eq x y (le→Le x y (and_l (le x y) (le y x) t)) (le→Le y x (and_r (le x y) (le y x) t)))

-- below is at most, a NaN or not
pub float_lt-le : (x y : Float) → T (lt x y) → T (le x y)
unfolding le
float_lt-le x y h = or_l (lt x y) (eq x y) h

-- not below is at least
pub float_not_lt : (x y : Float) → T (not (is_nan x)) → T (not (is_nan y)) → T (not (lt x y)) → T (le y x)
float_not_lt x y p q h = elim (passes (le y x)) [ inl k ↦ k | inr k ↦ absurd (T_not (lt x y) h (rw (float_lt_is x y) k)) ]

-- at least is not below
pub float_le_not_lt : (x y : Float) → T (le y x) → T (not (lt x y))
float_le_not_lt x y h = not_T (lt x y) (λ (t : T (lt x y)). lt_excludes x y t (le→Le y x h))

-- below and then at most is below
pub float_lt-le_trans : (x y z : Float) → T (lt x y) → T (le y z) → T (lt x z)
float_lt-le_trans x y z h k =
    lt_otherwise x z (float_le_numbers x y (float_lt-le x y h)).0 (float_le_numbers y z k).1
    (λ (g : Le z x). lt_excludes x y h (Le-trans y z x (le→Le y z k) g))

-- at most and then below is below
pub float_le-lt_trans : (x y z : Float) → T (le x y) → T (lt y z) → T (lt x z)
float_le-lt_trans x y z h k =
    lt_otherwise x z (float_le_numbers x y h).0 (float_le_numbers y z (float_lt-le y z k)).1
    (λ (g : Le z x). lt_excludes y z k (Le-trans z x y g (le→Le x y h)))
