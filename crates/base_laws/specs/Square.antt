-- The square term of a length's cost, (w * off) * off in the program's order of operations: not negative for a weight that is not, and no smaller for an offset of a larger size.
-- A sign goes through a product, and two signs cancel, so the term sees only the size of the offset; and on sizes a product grows with its factors.
use Rattle.std.specs.Prelude.{◌≡◌, refl, ℕ, zero, suc, ◌*◌, Bool, true, not, cond, T, eqb, Float}
use Rattle.std.proofs.Common.{sym, ap, ◌∙◌, mul-pos, mul-zero}
use Rattle.std.proofs.Math.Bool.{false}
use Rattle.std.proofs.Math.Dec.{eqb-suc-zero}
use Rattle.std.specs.Float.{nan, inf, fin, Format}
use Rattle.std.specs.Float.Ieee.{up, down, unlike, round, neg, mul, le, is_nan, fits}
use Rattle.std.specs.Float.Ieee.Fits.{down_pos, mul-fits}
use Rattle.std.specs.Float.Ieee.Scale.{finite}
use Rattle.base_terms.specs.Lengths.{square}
use Rattle.base_laws.specs.Signed.{times_zero}
use Rattle.base_laws.specs.Rounding.{round_neg, round_zero, finite_of_value}
use Rattle.base_laws.specs.Order.{float_le_refl}
use Rattle.base_terms.specs.Floats.{nonneg, abs_of}
use Rattle.base_laws.specs.Nonneg.{finite_number, abs_nonneg, abs_finite}
use Rattle.base_laws.specs.Products.{float_mul-number, float_mul_mono, float_mul-nonneg}

-- it is a value of the format
pub square-fits : (f : Format) (w off : Float) → T (fits f (square f w off))
unfolding square
square-fits f w x = mul-fits f (mul f w x) x

-- ---- steps: signs go through a product

neg_neg : (x : Float) → neg (neg x) ≡ x
unfolding neg
neg_neg nan = refl
neg_neg (inf true) = refl
neg_neg (inf false) = refl
neg_neg (fin true m e) = refl
neg_neg (fin false m e) = refl

-- what a product takes its sign from, by that sign
signed : (z : Bool → Float) → z true ≡ neg (z false) → (s t : Bool)
    → (z (unlike s (not t)) ≡ neg (z (unlike s t))) × (z (unlike (not s) t) ≡ neg (z (unlike s t)))
signed z h true true = (h, h)
signed z h true false = let g = sym (neg_neg (z false)) ∙ ap neg (sym h) in (g, g)
signed z h false true = let g = sym (neg_neg (z false)) ∙ ap neg (sym h) in (g, g)
signed z h false false = (h, h)

endless : (b : Bool) → cond b nan (inf true) ≡ neg (cond b nan (inf false))
unfolding neg
endless true = refl
endless false = refl

mul_neg_r : (f : Format) (x y : Float) → mul f x (neg y) ≡ neg (mul f x y)
unfolding mul neg
mul_neg_r f nan y = refl
mul_neg_r f (inf s) nan = refl
mul_neg_r f (inf s) (inf t) = (signed (λ (u : Bool). inf u) refl s t).0
mul_neg_r f (inf s) (fin t n d) = (signed (λ (u : Bool). cond (eqb n 0) nan (inf u)) (endless (eqb n 0)) s t).0
mul_neg_r f (fin s m e) nan = refl
mul_neg_r f (fin s m e) (inf t) = (signed (λ (u : Bool). cond (eqb m 0) nan (inf u)) (endless (eqb m 0)) s t).0
mul_neg_r f (fin s m e) (fin t n d) =
    (signed (λ (u : Bool). round f u (m * up e * (n * up d)) (down e * down d)) (round_neg f (m * up e * (n * up d)) (down e * down d)) s t).0

mul_neg_l : (f : Format) (x y : Float) → mul f (neg x) y ≡ neg (mul f x y)
unfolding mul neg
mul_neg_l f nan y = refl
mul_neg_l f (inf s) nan = refl
mul_neg_l f (inf s) (inf t) = (signed (λ (u : Bool). inf u) refl s t).1
mul_neg_l f (inf s) (fin t n d) = (signed (λ (u : Bool). cond (eqb n 0) nan (inf u)) (endless (eqb n 0)) s t).1
mul_neg_l f (fin s m e) nan = refl
mul_neg_l f (fin s m e) (inf t) = (signed (λ (u : Bool). cond (eqb m 0) nan (inf u)) (endless (eqb m 0)) s t).1
mul_neg_l f (fin s m e) (fin t n d) =
    (signed (λ (u : Bool). round f u (m * up e * (n * up d)) (down e * down d)) (round_neg f (m * up e * (n * up d)) (down e * down d)) s t).1

-- ---- the sign of the offset

-- an offset and its negative cost the same
pub square_neg : (f : Format) (w off : Float) → square f w (neg off) ≡ square f w off
unfolding square
square_neg f w x =
    mul_neg_r f (mul f w (neg x)) x
    ∙ ap neg (ap (λ (z : Float). mul f z x) (mul_neg_r f w x) ∙ mul_neg_l f (mul f w x) x)
    ∙ neg_neg (mul f (mul f w x) x)

square_abs : (f : Format) (w x : Float) → square f w x ≡ square f w (abs_of x)
square_abs f w nan = refl
square_abs f w (inf true) = unfold neg in square_neg f w (inf false)
square_abs f w (inf false) = refl
square_abs f w (fin true m e) = unfold neg in square_neg f w (fin false m e)
square_abs f w (fin false m e) = refl

-- ---- a number, and not negative

-- it is a number for a finite weight and offset: where w * off overflows, off is not zero
pub square-number : (f : Format) (w off : Float) → T (finite w) → T (finite off) → T (not (is_nan (square f w off)))
unfolding square mul is_nan
square-number f w nan h k = absurd k
square-number f w (inf t) h k = absurd k
square-number f w (fin t zero d) h k = float_mul-number f (mul f w (fin t 0 d)) (fin t 0 d) (at_zero w h) tt
  where
    at_zero : (w : Float) → T (finite w) → T (finite (mul f w (fin t 0 d)))
    at_zero nan h = absurd h
    at_zero (inf s) h = absurd h
    at_zero (fin s m e) h =
        let a = m * up e * (0 * up d) in
        let c = down e * down d in
        finite_of_value (round f (unlike s t) a c) (unlike s t) 0 1
        (round_zero f (unlike s t) a c (mul-pos (down_pos e) (down_pos d))
        (ap (λ (k : ℕ). m * up e * k) (times_zero 0 (up d) refl) ∙ mul-zero (m * up e)))
square-number f w (fin t (suc n) d) h k = last (mul f w (fin t (suc n) d)) (float_mul-number f w (fin t (suc n) d) h tt)
  where
    last : (z : Float) → T (not (is_nan z)) → T (not (is_nan (mul f z (fin t (suc n) d))))
    last nan p = p
    last (inf s) p = rw (eqb-suc-zero n) tt
    last (fin s m e) p = float_mul-number f (fin s m e) (fin t (suc n) d) tt tt

-- it is not negative for a weight that is not
pub square-nonneg : (f : Format) (w off : Float) → T (nonneg w) → T (finite w) → T (finite off) → T (nonneg (square f w off))
square-nonneg f w x p fw fx =
    let o = abs_of x in
    let fo : T (finite o) = rw (abs_finite x) fx in
    let no : T (nonneg o) = abs_nonneg x (finite_number x fx) in
    let nw : T (nonneg (mul f w o)) = float_mul-nonneg f w o p no (float_mul-number f w o fw fo) in
    rw (square_abs f w x) (unfold square in float_mul-nonneg f (mul f w o) o nw no (square-number f w o fw fo))

-- ---- order

-- an offset of a larger size costs no less
pub square_mono : (f : Format) (w off off' : Float) → T (nonneg w) → T (finite w) → T (finite off) → T (finite off') → T (le (abs_of off) (abs_of off'))
    → T (le (square f w off) (square f w off'))
square_mono f w x x' p fw fx fx' h =
    let o = abs_of x in
    let o' = abs_of x' in
    let fo : T (finite o) = rw (abs_finite x) fx in
    let fo' : T (finite o') = rw (abs_finite x') fx' in
    let no : T (nonneg o) = abs_nonneg x (finite_number x fx) in
    let n : T (not (is_nan (mul f w o))) = float_mul-number f w o fw fo in
    let n' : T (not (is_nan (mul f w o'))) = float_mul-number f w o' fw fo' in
    let nw : T (nonneg (mul f w o)) = float_mul-nonneg f w o p no n in
    let up : T (le (mul f w o) (mul f w o')) = float_mul_mono f w w o o' p no (float_le_refl w (finite_number w fw)) h n n' in
    rw (square_abs f w x, square_abs f w x')
    (unfold square in float_mul_mono f (mul f w o) (mul f w o') o o' nw no up h (square-number f w o fw fo) (square-number f w o' fw fo'))
