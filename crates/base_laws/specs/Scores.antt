-- A path's score: the number of its pieces over the maximum first, then its cost. Rust's derived order of `Score`: a total preorder off NaN.
-- One more piece or cut, at a cost that is not negative, keeps the order of two scores, since sums grow with each part.
use Rattle.std.specs.Prelude.{◌≡◌, refl, ◌⊎◌, ℕ, ◌+◌, ◌≤◌, ◌<◌, Bool, not, ◌&&◌, ◌||◌, T, ltb, eqb, Float}
use Rattle.std.proofs.Common.{sym, subst, ◌∙◌, inl, inr, le_refl, le_antisymm, le_of_eq, le_of_lt, arith, eqb→eq, ltb→lt, lt→ltb, T_not}
use Rattle.std.proofs.Math.Dec.{not_T}
use Rattle.std.specs.Float.{Format}
use Rattle.std.specs.Float.Ieee.{add, lt, eq, le, is_nan}
use Rattle.std.specs.Float.Ieee.Fits.{and_l, and_r, and_i, eq→eqb}
use Rattle.base_terms.specs.Scores.{score_le, score_lt, score_eq}
use Rattle.base_laws.specs.Tests.{or_l, or_r, or_split, same_test, lt_or_le}
use Rattle.base_laws.specs.Order.{float_le_refl, float_le-total, float_le_trans, float_lt_is, float_eq_is, float_lt-le, float_lt-le_trans, float_le-lt_trans}
use Rattle.base_terms.specs.Floats.{nonneg}
use Rattle.base_laws.specs.Nonneg.{nonneg-number}
use Rattle.base_laws.specs.Sums.{add_mono, float_add-nonneg}

-- ---- steps: fewer, or as many and a test of the costs

split : (a b : ℕ) (z : Bool) → T (ltb a b || (eqb a b && z)) → (a < b) ⊎ ((a ≡ b) × T z)
split a b z t =
    elim (or_split (ltb a b) (eqb a b && z) t) [ inl u ↦ inl (ltb→lt a b u) | inr u ↦ inr (eqb→eq a b (and_l (eqb a b) z u), and_r (eqb a b) z u) ]

fewer : (a b : ℕ) (z : Bool) → a < b → T (ltb a b || (eqb a b && z))
fewer a b z h = or_l (ltb a b) (eqb a b && z) (lt→ltb a b h)

as_many : (a b : ℕ) (z : Bool) → a ≡ b → T z → T (ltb a b || (eqb a b && z))
as_many a b z e h = or_r (ltb a b) (eqb a b && z) (and_i (eqb a b) z (eq→eqb e) h)

-- the two tests chain as the tests of the costs do
chain : (a b c : ℕ) (u v w : Bool) → (T u → T v → T w) → T (ltb a b || (eqb a b && u)) → T (ltb b c || (eqb b c && v)) → T (ltb a c || (eqb a c && w))
chain a b c u v w f h k = elim (split a b u h) [
  | inl l ↦ elim (split b c v k) [ inl m ↦ fewer a c w (omega arith) | inr m ↦ let e = m.0 in fewer a c w (omega arith) ]
  | inr l ↦ elim (split b c v k) [ inl m ↦ let e = l.0 in fewer a c w (omega arith) | inr m ↦ as_many a c w (l.0 ∙ m.0) (f l.1 m.1) ]
]

-- ---- a total preorder

-- a score is at most itself
pub score_refl : (a : ℕ) (x : Float) → T (not (is_nan x)) → T (score_le a x a x)
score_refl a x p = as_many a a (le x x) refl (float_le_refl x p)

-- of two scores one is at most the other
pub score-total : (a : ℕ) (x : Float) (b : ℕ) (y : Float) → T (not (is_nan x)) → T (not (is_nan y)) → T (score_le a x b y) ⊎ T (score_le b y a x)
score-total a x b y p q = elim (lt_or_le a b) [
  | inl l ↦ inl (fewer a b (le x y) l)
  | inr g ↦ elim (lt_or_le b a) [
    | inl l ↦ inr (fewer b a (le y x) l)
    | inr h ↦ elim (float_le-total x y p q) [
      | inl u ↦ inl (as_many a b (le x y) (le_antisymm h g) u)
      | inr u ↦ inr
          (as_many b a (le y x) (le_antisymm g h) u)
    ]
  ]
]

-- at most chains
pub score_trans : (a : ℕ) (x : Float) (b : ℕ) (y : Float) (c : ℕ) (z : Float) → T (score_le a x b y) → T (score_le b y c z) → T (score_le a x c z)
score_trans a x b y c z = chain a b c (le x y) (le y z) (le x z) (float_le_trans x y z)

-- a score that is at most another has no more pieces over the maximum
pub score-over : (a : ℕ) (x : Float) (b : ℕ) (y : Float) → T (score_le a x b y) → a ≤ b
score-over a x b y h = elim (split a b (le x y) h) [ inl l ↦ le_of_lt l | inr e ↦ le_of_eq e.0 ]

-- ---- its strict part, and both ways

-- below is not at least
pub score_lt_is : (a : ℕ) (x : Float) (b : ℕ) (y : Float) → T (not (is_nan x)) → T (not (is_nan y)) → score_lt a x b y ≡ not (score_le b y a x)
score_lt_is a x b y p q = same_test (score_lt a x b y) (not (score_le b y a x)) there back
  where
    there : T (score_lt a x b y) → T (not (score_le b y a x))
    there t = not_T (score_le b y a x) (λ (u : T (score_le b y a x)). elim (split a b (lt x y) t) [
      | inl l ↦ elim (split b a (le y x) u) [ inl m ↦ omega arith | inr m ↦ let e = m.0 in omega arith ]
      | inr l ↦ elim (split b a (le y x) u) [
        | inl m ↦ let e = l.0 in omega arith
        | inr m ↦ T_not (le y x) (subst T (float_lt_is x y p q) l.1)
            m.1
      ]
    ])

    back : T (not (score_le b y a x)) → T (score_lt a x b y)
    back t = elim (lt_or_le a b) [
      | inl l ↦ fewer a b (lt x y) l
      | inr g ↦ elim (lt_or_le b a) [
        | inl l ↦ absurd (T_not (score_le b y a x) t (fewer b a (le y x) l))
        | inr h ↦ as_many a b (lt x y) (le_antisymm h g)
            (rw (float_lt_is x y p q) (not_T (le y x) (λ (u : T (le y x)). T_not (score_le b y a x) t (as_many b a (le y x) (le_antisymm g h) u))))
      ]
    ]

-- equal is at most both ways
pub score_eq_is : (a : ℕ) (x : Float) (b : ℕ) (y : Float) → score_eq a x b y ≡ (score_le a x b y && score_le b y a x)
score_eq_is a x b y = same_test (score_eq a x b y) (score_le a x b y && score_le b y a x) there back
  where
    there : T (score_eq a x b y) → T (score_le a x b y && score_le b y a x)
    there t =
        let e : a ≡ b = eqb→eq a b (and_l (eqb a b) (eq x y) t) in
        let u : T (le x y && le y x) = subst T (float_eq_is x y) (and_r (eqb a b) (eq x y) t) in
        and_i (score_le a x b y) (score_le b y a x) (as_many a b (le x y) e (and_l (le x y) (le y x) u))
        (as_many b a (le y x) (sym e) (and_r (le x y) (le y x) u))

    back : T (score_le a x b y && score_le b y a x) → T (score_eq a x b y)
    back t = elim (split a b (le x y) (and_l (score_le a x b y) (score_le b y a x) t)) [
      | inl l ↦ elim (split b a (le y x) (and_r (score_le a x b y) (score_le b y a x) t)) [
        | inl m ↦ absurd
            (omega arith)
        | inr m ↦ let e = m.0 in absurd (omega arith)
      ]
      | inr l ↦ elim (split b a (le y x) (and_r (score_le a x b y) (score_le b y a x) t)) [
        | inl m ↦ let e = l.0 in absurd (omega arith)
        | inr m ↦ and_i (eqb a b) (eq x y) (eq→eqb l.0) (rw (float_eq_is x y) (and_i (le x y) (le y x) l.1 m.1))
      ]
    ]

-- below is at most
pub score_lt-le : (a : ℕ) (x : Float) (b : ℕ) (y : Float) → T (score_lt a x b y) → T (score_le a x b y)
score_lt-le a x b y h = elim (split a b (lt x y) h) [ inl l ↦ fewer a b (le x y) l | inr l ↦ as_many a b (le x y) l.0 (float_lt-le x y l.1) ]

-- below and then at most is below
pub score_lt-le_trans : (a : ℕ) (x : Float) (b : ℕ) (y : Float) (c : ℕ) (z : Float) → T (score_lt a x b y) → T (score_le b y c z) → T (score_lt a x c z)
score_lt-le_trans a x b y c z = chain a b c (lt x y) (le y z) (lt x z) (float_lt-le_trans x y z)

-- at most and then below is below
pub score_le-lt_trans : (a : ℕ) (x : Float) (b : ℕ) (y : Float) (c : ℕ) (z : Float) → T (score_le a x b y) → T (score_lt b y c z) → T (score_lt a x c z)
score_le-lt_trans a x b y c z = chain a b c (le x y) (lt y z) (lt x z) (float_le-lt_trans x y z)

-- ---- one more piece, and one more cut: k and l count whether the piece is over the maximum, c and d are its length's cost, e is a cut's

-- pieces in order after scores in order: what the bound of a pruned range stands on
pub score_bound : (f : Format) (a : ℕ) (x : Float) (b : ℕ) (y : Float) (k l : ℕ) (c d : Float) → T (nonneg x) → T (nonneg c) → k ≤ l → T (le c d)
    → T (score_le a x b y) → T (score_le (a + k) (add f x c) (b + l) (add f y d))
score_bound f a x b y k l c d p q m g h = elim (split a b (le x y) h) [
  | inl i ↦ fewer (a + k) (b + l) (le (add f x c) (add f y d)) (omega arith)
  | inr i ↦ let e = i.0 in elim (lt_or_le k l) [
    | inl j ↦ fewer (a + k) (b + l) (le (add f x c) (add f y d)) (omega arith)
    | inr j ↦ as_many (a + k) (b + l) (le (add f x c) (add f y d)) (omega arith) (add_mono f x y c d p q i.1 g)
  ]
]

-- the same piece on both sides
pub score_piece : (f : Format) (a : ℕ) (x : Float) (b : ℕ) (y : Float) (k : ℕ) (c : Float) → T (nonneg x) → T (nonneg c) → T (score_le a x b y)
    → T (score_le (a + k) (add f x c) (b + k) (add f y c))
score_piece f a x b y k c p q h = score_bound f a x b y k k c c p q (le_refl k) (float_le_refl c (nonneg-number c q)) h

-- the same cut on both sides
pub score-cut : (f : Format) (a : ℕ) (x : Float) (b : ℕ) (y e : Float) → T (nonneg x) → T (nonneg e) → T (score_le a x b y)
    → T (score_le a (add f x e) b (add f y e))
score-cut f a x b y e p q h = elim (split a b (le x y) h) [
  | inl l ↦ fewer a b (le (add f x e) (add f y e)) l
  | inr l ↦ as_many a b (le (add f x e) (add f y e)) l.0 (add_mono f x y e e p q l.1 (float_le_refl e (nonneg-number e q)))
]

-- the same piece and then the same cut on both sides: a step of the dynamic program
pub score-step : (f : Format) (a : ℕ) (x : Float) (b : ℕ) (y : Float) (k : ℕ) (c e : Float) → T (nonneg x) → T (nonneg c) → T (nonneg e)
    → T (score_le a x b y)
    → T (score_le (a + k) (add f (add f x c) e) (b + k) (add f (add f y c) e))
score-step f a x b y k c e p q r h =
    score-cut f (a + k) (add f x c) (b + k) (add f y c) e (float_add-nonneg f x c p q) r (score_piece f a x b y k c p q h)
