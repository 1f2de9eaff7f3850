-- The least and the greatest of two floats and a float brought into a range, as Rust's f64::min, f64::max and f64::clamp have them.
-- Off NaN each is one of its arguments, chosen by the order, so its laws are the order's.
use Rattle.std.specs.Prelude.{◌≡◌, ◌⊎◌, Bool, true, false, not, ◌||◌, cond, T, Float}
use Rattle.std.proofs.Common.{inl, inr, T_not}
use Rattle.std.specs.Float.Ieee.Bits.{is_true, is_false}
use Rattle.std.specs.Float.Ieee.{lt, le, is_nan}
use Rattle.base_terms.specs.Floats.{min_of, max_of, clamp_of}
use Rattle.base_laws.specs.Tests.{passes, tested}
use Rattle.base_laws.specs.Order.{float_le_refl, float_le-total, float_le_trans, float_le_numbers, float_lt-le, float_not_lt, float_le_not_lt}

-- ---- the least and the greatest

-- the least is one of the two
pub min-one : (x y : Float) → (min_of x y ≡ x) ⊎ (min_of x y ≡ y)
unfolding min_of
min-one x y = elim (tested (le x y || is_nan y)) [ inl t ↦ inl (rw t) | inr t ↦ inr (rw t) ]

-- the greatest is one of the two
pub max-one : (x y : Float) → (max_of x y ≡ x) ⊎ (max_of x y ≡ y)
unfolding max_of
max-one x y = elim (tested (le y x || is_nan y)) [ inl t ↦ inl (rw t) | inr t ↦ inr (rw t) ]

-- a choice between x and y by whether `good` passes, where y is no NaN
choose : (good : Bool) (x y : Float) (P : Float → Type 0) → T (not (is_nan y)) → (T good → P x) → (T (not good) → P y) → P (cond (good || is_nan y) x y)
choose true x y P n f g = f tt
choose false x y P n f g = rw (is_false (is_nan y) n) (g tt)

not_le : (x y : Float) → T (not (is_nan x)) → T (not (is_nan y)) → T (not (le x y)) → T (le y x)
not_le x y p q h = elim (float_le-total y x q p) [ inl k ↦ k | inr k ↦ absurd (T_not (le x y) h k) ]

-- the least is at most both
pub min_below : (x y : Float) → T (not (is_nan x)) → T (not (is_nan y)) → T (le (min_of x y) x) × T (le (min_of x y) y)
unfolding min_of
min_below x y p q =
    choose (le x y) x y (λ (z : Float). T (le z x) × T (le z y)) q (λ (h : T (le x y)). (float_le_refl x p, h))
    (λ (h : T (not (le x y))). (not_le x y p q h, float_le_refl y q))

-- the greatest is at least both
pub max_above : (x y : Float) → T (not (is_nan x)) → T (not (is_nan y)) → T (le x (max_of x y)) × T (le y (max_of x y))
unfolding max_of
max_above x y p q =
    choose (le y x) x y (λ (z : Float). T (le x z) × T (le y z)) q (λ (h : T (le y x)). (float_le_refl x p, h))
    (λ (h : T (not (le y x))). (not_le y x q p h, float_le_refl y q))

-- ---- into a range

-- a value in the range stays
pub clamp_inside : (x lo hi : Float) → T (le lo x) → T (le x hi) → clamp_of x lo hi ≡ x
unfolding clamp_of
clamp_inside x lo hi h k = rw (is_false (lt x lo) (float_le_not_lt x lo h), is_false (lt hi x) (float_le_not_lt hi x k))

-- a value below it becomes its low end
pub clamp_below : (x lo hi : Float) → T (lt x lo) → T (le lo hi) → clamp_of x lo hi ≡ lo
unfolding clamp_of
clamp_below x lo hi h k = rw (is_true (lt x lo) h, is_false (lt hi lo) (float_le_not_lt hi lo k))

-- a value above it becomes its high end
pub clamp_above : (x lo hi : Float) → T (lt hi x) → T (le lo hi) → clamp_of x lo hi ≡ hi
unfolding clamp_of
clamp_above x lo hi h k = rw (is_false (lt x lo) (float_le_not_lt x lo (float_le_trans lo hi x k (float_lt-le hi x h))), is_true (lt hi x) h)

-- so the three cases cover it
by_place : (x lo hi : Float) (P : Float → Type 0) → T (not (is_nan x)) → T (le lo hi) → (T (lt x lo) → P lo) → (T (lt hi x) → P hi)
    → (T (le lo x) → T (le x hi) → P x) → P (clamp_of x lo hi)
by_place x lo hi P n r below above inside =
    elim (passes (lt x lo)) [
      | inl a ↦ rw (clamp_below x lo hi a r) (below a)
      | inr a ↦ elim (passes (lt hi x)) [
        | inl b ↦ rw (clamp_above x lo hi b r) (above b)
        | inr b ↦
            let l : T (le lo x) = float_not_lt x lo n (float_le_numbers lo hi r).0 a in
            let h : T (le x hi) = float_not_lt hi x (float_le_numbers lo hi r).1 n b in
            rw (clamp_inside x lo hi l h) (inside l h)
      ]
    ]

-- the result lies in the range
pub clamp_range : (x lo hi : Float) → T (not (is_nan x)) → T (le lo hi) → T (le lo (clamp_of x lo hi)) × T (le (clamp_of x lo hi) hi)
clamp_range x lo hi n r =
    by_place x lo hi (λ (c : Float). T (le lo c) × T (le c hi)) n r (λ (a : T (lt x lo)). (float_le_refl lo (float_le_numbers lo hi r).0, r))
    (λ (b : T (lt hi x)). (r, float_le_refl hi (float_le_numbers lo hi r).1))
    (λ (l : T (le lo x)) (h : T (le x hi)). (l, h))

-- it lies between the value and whatever else is in the range: nothing there is closer
pub clamp_between : (t lo x hi : Float) → T (not (is_nan t)) → T (le lo x) → T (le x hi)
    → (T (le t (clamp_of t lo hi)) × T (le (clamp_of t lo hi) x)) ⊎ (T (le x (clamp_of t lo hi)) × T (le (clamp_of t lo hi) t))
clamp_between t lo x hi n h k =
    by_place t lo hi (λ (c : Float). (T (le t c) × T (le c x)) ⊎ (T (le x c) × T (le c t))) n (float_le_trans lo x hi h k)
    (λ (a : T (lt t lo)). inl (float_lt-le t lo a, h)) (λ (b : T (lt hi t)). inr (k, float_lt-le hi t b))
    (λ (l : T (le lo t)) (g : T (le t hi)).
    elim (float_le-total t x n (float_le_numbers lo x h).1) [ inl i ↦ inl (float_le_refl t n, i) | inr i ↦ inr (i, float_le_refl t n) ])
