-- A sum of two finite values rounds one signed fraction, which is linear in the parts, so a sum keeps the order of its parts; where a part is infinite the sum is an end of the order.
-- This holds for all signs, wherever neither sum is NaN.
-- Sums of values that are not negative: no such sum is NaN, so they grow with each part, and nothing is lost by adding.
use Rattle.std.specs.Prelude.{◌≡◌, refl, ℕ, ◌+◌, ◌-◌, ◌*◌, ◌≤◌, ◌<◌, Bool, not, ◌&&◌, cond, T, ltb, Float, ℤ}
use Rattle.std.proofs.Common.{sym, ap, subst, ◌∙◌, inl, inr, mul-pos, mul_assoc, mul_comm, mul_left_comm, add-mul, le_refl, mul-one, arith, lt-ltb, le-ltb}
use Rattle.std.proofs.Math.Bool.{true, false}
use Rattle.std.specs.Bool.{beq}
use Rattle.std.specs.Float.{nan, inf, fin, Format}
use Rattle.std.specs.Float.Ieee.{up, down, round, sum, add, is_nan, le, fits}
use Rattle.std.specs.Float.Ieee.Fits.{down_pos}
use Rattle.base_laws.specs.Tests.{tested, lt_or_le}
use Rattle.base_laws.specs.Signed.{posi, nega, posi_scale, nega_scale, Under, under_scale}
use Rattle.base_laws.specs.Compare.{Le, low_end, high_end, le→Le, Le→le, Le-trans}
use Rattle.base_laws.specs.Rounding.{round_number, round-le, Le-of_values, sign_nonneg, round_has, round-own}
use Rattle.base_laws.specs.Order.{float_le_refl, float_le_trans}
use Rattle.base_terms.specs.Floats.{nought, nonneg}
use Rattle.base_laws.specs.Nonneg.{nought-nonneg, nonneg-number}

-- ---- a sum as one signed fraction

-- its sign
abbrev pub sgn : Bool → ℕ → Bool → ℕ → Bool
sgn s a t b = cond (beq s t) s (cond (ltb a b) t (s && ltb b a))

-- its size
abbrev pub size_of : Bool → ℕ → Bool → ℕ → ℕ
size_of s a t b = cond (beq s t) (a + b) (cond (ltb a b) (b - a) (a - b))

-- `sum` rounds it
pub sum_is : (f : Format) (s : Bool) (a : ℕ) (t : Bool) (b c : ℕ) → sum f s a t b c ≡ round f (sgn s a t b) (size_of s a t b) c
unfolding sum
sum_is f true a true b c = refl
sum_is f false a false b c = refl
sum_is f true a false b c = elim (tested (ltb a b)) [ inl e ↦ rw e | inr e ↦ rw e ]
sum_is f false a true b c = elim (tested (ltb a b)) [ inl e ↦ rw e | inr e ↦ rw e ]

-- so it is a number
pub sum_number : (f : Format) (s : Bool) (a : ℕ) (t : Bool) (b c : ℕ) → T (not (is_nan (sum f s a t b c)))
sum_number f s a t b c = rw sum_is (round_number f (sgn s a t b) (size_of s a t b) c)

-- ±w is ±a + ±b
abbrev Balanced : Bool → ℕ → Bool → ℕ → Bool → ℕ → Type 0
Balanced u w s a t b = posi u w + (nega s a + nega t b) ≡ nega u w + (posi s a + posi t b)

balanced : (s : Bool) (a : ℕ) (t : Bool) (b : ℕ) → Balanced (sgn s a t b) (size_of s a t b) s a t b
balanced true a true b = omega arith
balanced false a false b = omega arith
balanced true a false b = elim (lt_or_le a b) [
  | inl l ↦ rw (lt-ltb a b l) (omega arith)
  | inr l ↦ elim (lt_or_le b a) [ inl m ↦ rw (le-ltb a b l, lt-ltb b a m) (omega arith) | inr m ↦ rw (le-ltb a b l, le-ltb b a m) (omega arith) ]
]
balanced false a true b = elim (lt_or_le a b) [ inl l ↦ rw (lt-ltb a b l) (omega arith) | inr l ↦ rw (le-ltb a b l) (omega arith) ]

balanced_scale : (u : Bool) (w : ℕ) (s : Bool) (a : ℕ) (t : Bool) (b k : ℕ) → Balanced u w s a t b → Balanced u (w * k) s (a * k) t (b * k)
balanced_scale u w s a t b k h = simp (posi_scale, nega_scale) (simp add-mul at (ap (λ (z : ℕ). z * k) h))

-- ---- the sum of two fractions keeps the order

over : (s : Bool) (a p : ℕ) (s' : Bool) (a' p' q q' : ℕ) → Under s (a * p') s' (a' * p) → Under s (a * q * (p' * q')) s' (a' * q' * (p * q))
over s a p s' a' p' q q' h =
    let l : a * p' * (q * q') ≡ a * q * (p' * q') = simp (mul_assoc, mul_left_comm) in
    let r : a' * p * (q * q') ≡ a' * q' * (p * q) = simp (mul_assoc, mul_comm, mul_left_comm) in
    rw (← l, ← r) (under_scale s (a * p') s' (a' * p) (q * q') h)

lin : (u v u' v' pa na pb nb pa' na' pb' nb' : ℕ) → u + (na + nb) ≡ v + (pa + pb) → u' + (na' + nb') ≡ v' + (pa' + pb') → pa + na' ≤ pa' + na
    → pb + nb' ≤ pb' + nb → u + v' ≤ u' + v
lin u v u' v' pa na pb nb pa' na' pb' nb' e e' h k = omega arith

sum-le : (f : Format) (s : Bool) (a p : ℕ) (t : Bool) (b q : ℕ) (s' : Bool) (a' p' : ℕ) (t' : Bool) (b' q' : ℕ) → 0 < p → 0 < q → 0 < p' → 0 < q'
    → Under s (a * p') s' (a' * p) → Under t (b * q') t' (b' * q) → Le (sum f s (a * q) t (b * p) (p * q)) (sum f s' (a' * q') t' (b' * p') (p' * q'))
sum-le f s a p t b q s' a' p' t' b' q' P Q P' Q' h k =
    let u = sgn s (a * q) t (b * p) in
    let w = size_of s (a * q) t (b * p) in
    let u' = sgn s' (a' * q') t' (b' * p') in
    let w' = size_of s' (a' * q') t' (b' * p') in
    let K = p' * q' in
    let L = p * q in
    let A = a * q * K in
    let B = b * p * K in
    let A' = a' * q' * L in
    let B' = b' * p' * L in
    let k_b : Under t B t' B' = rw (mul_comm p' q', mul_comm p q) (over t b q t' b' q' p p' k) in
    subst (λ (x : Float). Le x (sum f s' (a' * q') t' (b' * p') K)) (sym (sum_is f s (a * q) t (b * p) L))
    (subst (λ (x : Float). Le (round f u w L) x) (sym (sum_is f s' (a' * q') t' (b' * p') K))
    (round-le f u w L u' w' K (mul-pos P Q) (mul-pos P' Q')
    (lin (posi u (w * K)) (nega u (w * K)) (posi u' (w' * L)) (nega u' (w' * L)) (posi s A) (nega s A) (posi t B) (nega t B) (posi s' A') (nega s' A')
    (posi t' B') (nega t' B')
    (balanced_scale u w s (a * q) t (b * p) K (balanced s (a * q) t (b * p)))
    (balanced_scale u' w' s' (a' * q') t' (b' * p') L (balanced s' (a' * q') t' (b' * p')))
    (over s a p s' a' p' q q' h) k_b)))

-- ---- the sum of two floats

-- it grows with each part, where neither sum is NaN
pub add-le : (f : Format) (x x' y y' : Float) → Le x x' → Le y y' → T (not (is_nan (add f x y))) → T (not (is_nan (add f x' y')))
    → Le (add f x y) (add f x' y')
unfolding add is_nan
add-le f nan x' y y' h k p q = absurd h
add-le f (inf true) x' nan y' h k p q = absurd k
add-le f (inf true) x' (inf true) y' h k p q = low_end (add f x' y') q
add-le f (inf true) x' (inf false) y' h k p q = absurd p
add-le f (inf true) x' (fin t n d) y' h k p q = low_end (add f x' y') q
add-le f (inf false) nan y y' h k p q = absurd h
add-le f (inf false) (inf true) y y' h k p q = absurd h
add-le f (inf false) (inf false) y nan h k p q = absurd q
add-le f (inf false) (inf false) y (inf true) h k p q = absurd q
add-le f (inf false) (inf false) y (inf false) h k p q = high_end (add f (inf false) y) p
add-le f (inf false) (inf false) y (fin t n d) h k p q = high_end (add f (inf false) y) p
add-le f (inf false) (fin s m e) y y' h k p q = absurd h
add-le f (fin s m e) nan y y' h k p q = absurd h
add-le f (fin s m e) (inf true) y y' h k p q = absurd h
add-le f (fin s m e) (inf false) y nan h k p q = absurd q
add-le f (fin s m e) (inf false) y (inf true) h k p q = absurd q
add-le f (fin s m e) (inf false) y (inf false) h k p q = high_end (add f (fin s m e) y) p
add-le f (fin s m e) (inf false) y (fin t n d) h k p q = high_end (add f (fin s m e) y) p
add-le f (fin s m e) (fin s' m' e') nan y' h k p q = absurd k
add-le f (fin s m e) (fin s' m' e') (inf true) y' h k p q = low_end (add f (fin s' m' e') y') q
add-le f (fin s m e) (fin s' m' e') (inf false) nan h k p q = absurd k
add-le f (fin s m e) (fin s' m' e') (inf false) (inf true) h k p q = absurd k
add-le f (fin s m e) (fin s' m' e') (inf false) (inf false) h k p q = tt
add-le f (fin s m e) (fin s' m' e') (inf false) (fin t n d) h k p q = absurd k
add-le f (fin s m e) (fin s' m' e') (fin t n d) nan h k p q = absurd k
add-le f (fin s m e) (fin s' m' e') (fin t n d) (inf true) h k p q = absurd k
add-le f (fin s m e) (fin s' m' e') (fin t n d) (inf false) h k p q = high_end (add f (fin s m e) (fin t n d)) p
add-le f (fin s m e) (fin s' m' e') (fin t n d) (fin t' n' d') h k p q =
    sum-le f s (m * up e) (down e) t (n * up d) (down d) s' (m' * up e') (down e') t' (n' * up d') (down d') (down_pos e) (down_pos d) (down_pos e')
    (down_pos d') h k

add-number : (f : Format) (x y : Float) → Le nought x → Le nought y → T (not (is_nan (add f x y)))
unfolding add is_nan
add-number f nan y h k = absurd h
add-number f (inf true) y h k = absurd h
add-number f (inf false) nan h k = absurd k
add-number f (inf false) (inf true) h k = absurd k
add-number f (inf false) (inf false) h k = tt
add-number f (inf false) (fin t n d) h k = tt
add-number f (fin s m e) nan h k = absurd k
add-number f (fin s m e) (inf t) h k = tt
add-number f (fin s m e) (fin t n d) h k = sum_number f s (m * up e * down d) t (n * up d * down e) (down e * down d)

-- a sum of values that are not negative grows with each part, as the laws of this crate cite it
pub add_mono : (f : Format) (x x' y y' : Float) (p : T (nonneg x)) (q : T (nonneg y)) (h : T (le x x')) (k : T (le y y')) → T (le (add f x y) (add f x' y'))
add_mono f x x' y y' p q h k =
    let X : Le nought x = le→Le nought x p in
    let Y : Le nought y = le→Le nought y q in
    let h' : Le x x' = le→Le x x' h in
    let k' : Le y y' = le→Le y y' k in
    Le→le (add f x y) (add f x' y')
    (add-le f x x' y y' h' k' (add-number f x y X Y) (add-number f x' y' (Le-trans nought x x' X h') (Le-trans nought y y' Y k')))

-- a sum of values that are not negative grows with each part
pub float_add_mono : (f : Format) (x x' y y' : Float) → T (nonneg x) → T (nonneg y) → T (le x x') → T (le y y') → T (le (add f x y) (add f x' y'))
float_add_mono f x x' y y' p q h k = add_mono f x x' y y' p q h k

-- and is not negative
pub float_add-nonneg : (f : Format) (x y : Float) → T (nonneg x) → T (nonneg y) → T (nonneg (add f x y))
float_add-nonneg f x y h k =
    let start : T (nonneg (add f nought nought)) = unfold add in rw (sum_is f false 0 false 0 1) (sign_nonneg (round f false 0 1) (round_has f false 0 1)) in
    float_le_trans nought (add f nought nought) (add f x y) start (add_mono f nought x nought y nought-nonneg nought-nonneg h k)

add-nought : (f : Format) (m : ℕ) (e : ℤ) → add f (fin false m e) nought ≡ round f false (m * up e) (down e)
unfolding add
add-nought f m e =
    let a : m * up e * 1 + 0 * 1 * down e ≡ m * up e = omega arith in
    sum_is f false (m * up e * 1) false (0 * 1 * down e) (down e * 1)
    ∙ ap (λ (n : ℕ). round f false n (down e * 1)) a
    ∙ ap (λ (n : ℕ). round f false (m * up e) n) (mul-one (down e))

-- nothing is lost by adding: a part that the format holds is at most the sum
pub float_add_grows : (f : Format) (x y : Float) → T (nonneg x) → T (fits f x) → T (nonneg y) → T (le x (add f x y))
float_add_grows f x y p v q =
    float_le_trans x (add f x nought) (add f x y) (Le→le x (add f x nought) (go x (le→Le nought x p) v))
    (add_mono f x x nought y p nought-nonneg (float_le_refl x (nonneg-number x p)) q)
  where
    go : (z : Float) → Le nought z → T (fits f z) → Le z (add f z nought)
    go nan h w = absurd h
    go (inf true) h w = absurd h
    go (inf false) h w = unfold add in tt
    go (fin true m e) h w =
        Le-trans (fin true m e) nought (add f (fin true m e) nought) (omega arith)
        (le→Le nought (add f (fin true m e) nought) (float_add-nonneg f (fin true m e) nought (Le→le nought (fin true m e) h) nought-nonneg))
    go (fin false m e) h w =
        rw add-nought
        (Le-of_values (fin false m e) false (m * up e) (down e) (round f false (m * up e) (down e)) false (m * up e) (down e)
        (down_pos e) (down_pos e) (refl, refl) (round-own f false false m e w) (le_refl (m * up e * down e + 0)))
