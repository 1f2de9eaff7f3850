-- What `round` keeps: the sign, the order of signed fractions, a value that the format holds, and finiteness under a finite result.
-- No proof here opens `round`: the kit's `round_mono`, `round_exact` and `round_same` say all that is used of it. Steps for the other files.
use Rattle.std.specs.Prelude.{◌≡◌, refl, ℕ, zero, suc, ◌+◌, ◌-◌, ◌*◌, ◌%◌, ◌^◌, ◌≤◌, ◌<◌, Bool, true, false, not, ◌&&◌, ℤ, pos, negsuc, T, ltb, leb, eqb, Float}
use Rattle.std.proofs.Common.{sym, ap, subst, ◌∙◌, inl, inr, lt_of_mul-lt-mul_right, mul-lt-mul_of_pos_right, mul_comm, mul_left_comm, le_refl, le_trans, le_of_eq, lt_of_not-le, not-le_of_lt, le_of_suc-le-suc, mul_assoc, mul-one, one-mul, zero-mul, mul-pos, mul-le-mul_right, arith, true≢false, ltb→lt, leb→le, eqb→eq, pow_pos, pow-add}
use Rattle.std.proofs.Math.Pow.{pow-lt}
use Rattle.std.specs.Float.{nan, inf, fin, Format}
use Rattle.std.specs.Float.Ieee.{prec, emax, low, up, down, odd, units, round, neg, le, is_nan, fits}
use Rattle.std.specs.Float.Ieee.Fits.{two, two-le_pos, up_pos, down_pos, and_l, and_r, round_is}
use Rattle.std.specs.Float.Ieee.Exact.{HasValue, round_exact}
use Rattle.std.specs.Float.Ieee.Order.{drop, kept, round_mono}
use Rattle.std.specs.Float.Ieee.Scale.{finite, round_same}
use Rattle.base_laws.specs.Tests.{tested}
use Rattle.base_laws.specs.Signed.{Under, under_flip, under_transfer, zero_of}
use Rattle.base_laws.specs.Compare.{Le, le→Le, Le→le}

-- ---- the order of two values is that of the fractions that they equal

-- fractions in order make values in order
pub Le-of_values : (x : Float) (s : Bool) (a c : ℕ) (y : Float) (t : Bool) (b d : ℕ) → 0 < c → 0 < d → HasValue x s a c → HasValue y t b d
    → Under s (a * d) t (b * c) → Le x y
Le-of_values nan s a c y t b d C D p q h = p
Le-of_values (inf u) s a c y t b d C D p q h = absurd p
Le-of_values (fin u m e) s a c nan t b d C D p q h = q
Le-of_values (fin u m e) s a c (inf v) t b d C D p q h = absurd q
Le-of_values (fin u m e) s a c (fin v n g) t b d C D p q h =
    subst (λ (i : Bool). Under i (m * up e * down g) v (n * up g * down e)) (sym p.0)
    (subst (λ (i : Bool). Under s (m * up e * down g) i (n * up g * down e)) (sym q.0)
    (under_transfer s (m * up e) (down e) a c t (n * up g) (down g) b d C D p.1 q.1 h))

-- what has the value of a fraction is finite
pub finite_of_value : (x : Float) (s : Bool) (a c : ℕ) → HasValue x s a c → T (finite x)
finite_of_value nan s a c h = h
finite_of_value (inf t) s a c h = h
finite_of_value (fin t m e) s a c h = tt

-- ---- the sign

-- a number with the sign s
abbrev pub Sign : Bool → Float → Type 0
Sign s nan = ⊥
Sign s (inf t) = t ≡ s
Sign s (fin t m e) = t ≡ s

odd_has : (d : ℕ) (s : Bool) (q k l : ℕ) → Sign s (odd d s q k l)
unfolding odd
odd_has d s zero k l = refl
odd_has d s (suc q) k l = refl

units_has : (f : Format) (s : Bool) (q k : ℕ) → Sign s (units f s q k)
unfolding units
units_has f s q k = elim (tested (ltb (q * 2 ^ k) (2 ^ (low f + suc (emax f))))) [ inl e ↦ rw e (odd_has (suc (prec f)) s q k (low f)) | inr e ↦ rw e ]

-- `round` keeps the sign that it is given
pub round_has : (f : Format) (s : Bool) (a c : ℕ) → Sign s (round f s a c)
round_has f s a c = rw round_is (units_has f s (kept (prec f) (a * 2 ^ low f) c) (drop (prec f) (a * 2 ^ low f) c))

-- a value with the sign clear is not below zero
pub sign_nonneg : (x : Float) → Sign false x → T (le (fin false 0 (pos 0)) x)
sign_nonneg x h = Le→le (fin false 0 (pos 0)) x (go x h)
  where
    go : (z : Float) → Sign false z → Le (fin false 0 (pos 0)) z
    go nan k = k
    go (inf true) k = absurd (true≢false k)
    go (inf false) k = tt
    go (fin true m e) k = absurd (true≢false k)
    go (fin false m e) k = omega arith

sign_number : (s : Bool) (x : Float) → Sign s x → T (not (is_nan x))
unfolding is_nan
sign_number s nan h = h
sign_number s (inf t) h = tt
sign_number s (fin t m e) h = tt

-- so its result is a number
pub round_number : (f : Format) (s : Bool) (a c : ℕ) → T (not (is_nan (round f s a c)))
round_number f s a c = sign_number s (round f s a c) (round_has f s a c)

-- ---- `neg` turns the order round, and goes through `round`

-- the negatives of two values are in the other order
pub neg_flip : (x y : Float) → Le x y → Le (neg y) (neg x)
unfolding neg
neg_flip nan y h = absurd h
neg_flip (inf s) nan h = absurd h
neg_flip (inf true) (inf true) h = tt
neg_flip (inf true) (inf false) h = tt
neg_flip (inf false) (inf true) h = absurd h
neg_flip (inf false) (inf false) h = tt
neg_flip (inf true) (fin t n d) h = tt
neg_flip (inf false) (fin t n d) h = absurd h
neg_flip (fin s m e) nan h = absurd h
neg_flip (fin s m e) (inf true) h = absurd h
neg_flip (fin s m e) (inf false) h = tt
neg_flip (fin s m e) (fin t n d) h = under_flip s (m * up e * down d) t (n * up d * down e) h

odd_neg : (d q k l : ℕ) → odd d true q k l ≡ neg (odd d false q k l)
unfolding odd neg
odd_neg d zero k l = refl
odd_neg d (suc q) k l = refl

units_neg : (f : Format) (q k : ℕ) → units f true q k ≡ neg (units f false q k)
unfolding units
units_neg f q k = elim (tested (ltb (q * 2 ^ k) (2 ^ (low f + suc (emax f))))) [
  | inl e ↦ rw e (odd_neg (suc (prec f)) q k (low f))
  | inr e ↦ rw e (unfold neg in refl)
]

-- rounding a negated fraction negates the result
pub round_neg : (f : Format) (a c : ℕ) → round f true a c ≡ neg (round f false a c)
round_neg f a c =
    round_is f true a c ∙ units_neg f (kept (prec f) (a * 2 ^ low f) c) (drop (prec f) (a * 2 ^ low f) c) ∙ ap neg (sym (round_is f false a c))

-- ---- the order of signed fractions

-- zero rounds to zero
pub round_zero : (f : Format) (s : Bool) (a c : ℕ) → 0 < c → a ≡ 0 → HasValue (round f s a c) s 0 1
round_zero f s a c C z =
    rw (round_same f s a c 0 1 C (pow_pos 0) (mul-one a ∙ z ∙ sym (zero-mul c)))
    (round_exact f s 0 1 0 0 (pow_pos 0) (pow_pos (prec f)) (pow_pos (low f + suc (emax f))) (zero-mul (2 ^ low f)))

across : (x y : Float) → Sign true x → Sign false y → Le x y
across nan y h k = h
across (inf s) nan h k = k
across (inf true) (inf t) h k = tt
across (inf false) (inf t) h k = absurd (true≢false (sym h))
across (inf true) (fin t n d) h k = tt
across (inf false) (fin t n d) h k = absurd (true≢false (sym h))
across (fin s m e) nan h k = k
across (fin s m e) (inf true) h k = absurd (true≢false k)
across (fin s m e) (inf false) h k = tt
across (fin true m e) (fin true n d) h k = absurd (true≢false k)
across (fin true m e) (fin false n d) h k = omega arith
across (fin false m e) (fin t n d) h k = absurd (true≢false (sym h))

-- signed fractions in order round to values in order
pub round-le : (f : Format) (s : Bool) (a c : ℕ) (t : Bool) (b d : ℕ) → 0 < c → 0 < d → Under s (a * d) t (b * c) → Le (round f s a c) (round f t b d)
round-le f false a c false b d C D h = le→Le (round f false a c) (round f false b d) (round_mono f a c b d C D (omega arith))
round-le f false a c true b d C D h =
    Le-of_values (round f false a c) false 0 1 (round f true b d) true 0 1 (pow_pos 0) (pow_pos 0)
    (round_zero f false a c C (zero_of a d D (omega arith))) (round_zero f true b d D (zero_of b c C (omega arith))) (omega arith)
round-le f true a c false b d C D h = across (round f true a c) (round f false b d) (round_has f true a c) (round_has f false b d)
round-le f true a c true b d C D h =
    rw (round_neg f a c, round_neg f b d)
    (neg_flip (round f false b d) (round f false a c) (le→Le (round f false b d) (round f false a c) (round_mono f b d a c D C (omega arith))))

-- ---- a value that the format holds

pow_back : (i j : ℕ) → 2 ^ i ≤ 2 ^ j → i ≤ j
pow_back i j h = le_of_suc-le-suc (lt_of_not-le (λ (g : suc j ≤ i). not-le_of_lt (pow-lt g) h))

-- so is 2 ^ t of it, as long as that does not overflow
own : (f : Format) (s : Bool) (m : ℕ) (e : ℤ) (t : ℕ) → m < 2 ^ prec f → down e ≤ 2 ^ low f → m * up e * 2 ^ t < 2 ^ suc (emax f) * down e
    → HasValue (round f s (m * up e * 2 ^ t) (down e)) s (m * up e * 2 ^ t) (down e)
own f s m e t a b c =
    let l = low f in
    let p = unit e l b in
    let shift : m * up e * 2 ^ t * 2 ^ l ≡ m * 2 ^ (p.0 + t) * down e = moved m (up e) (2 ^ t) (2 ^ l) (2 ^ p.0) (down e) p.1 ∙ ap (λ (x : ℕ). m * x * down e) (sym (pow-add 2 p.0 t)) in
    round_exact f s (m * up e * 2 ^ t) (down e) m (p.0 + t) (down_pos e) a
    (lt_of_mul-lt-mul_right (down e) (subst (λ (x : ℕ). x < 2 ^ (l + suc (emax f)) * down e) shift (fine (m * up e * 2 ^ t) (2 ^ suc (emax f)) (down e) (2 ^ l) (2 ^ (l + suc (emax f))) c (pow_pos l) (sym (pow-add 2 l (suc (emax f)))))))
    shift
  where
    -- 2 ^ e is a whole number of the format's smallest value
    unit : (e : ℤ) (l : ℕ) → down e ≤ 2 ^ l → (j : ℕ) × (up e * 2 ^ l ≡ 2 ^ j * down e)
    unit (pos k) l h = (k + l, sym (pow-add 2 k l) ∙ sym (mul-one (2 ^ (k + l))))
    unit (negsuc k) l h = (l - suc k, one-mul (2 ^ l) ∙ ap (λ (x : ℕ). 2 ^ x) (sym (omega (arith, pow_back (suc k) l h))) ∙ pow-add 2 (l - suc k) (suc k))

    moved : (m u t l j d : ℕ) → u * l ≡ j * d → m * u * t * l ≡ m * (j * t) * d
    moved m u t l j d h =
        let apart : m * u * t * l ≡ u * l * (m * t) = simp (mul_assoc, mul_comm, mul_left_comm) in
        let together : j * d * (m * t) ≡ m * (j * t) * d = simp (mul_assoc, mul_comm, mul_left_comm) in
        apart ∙ ap (λ (x : ℕ). x * (m * t)) h ∙ together

    fine : (n e d l w : ℕ) → n < e * d → 0 < l → l * e ≡ w → n * l < w * d
    fine n e d l w h p g =
        subst (λ (x : ℕ). n * l < x) (mul_comm (e * d) l ∙ sym (mul_assoc l e d) ∙ ap (λ (x : ℕ). x * d) g) (mul-lt-mul_of_pos_right h p)

-- what a value's fits says of its digits
pub fits_digits : (f : Format) (u : Bool) (m : ℕ) (e : ℤ) → T (fits f (fin u m e)) → (m < 2 ^ prec f) × (down e ≤ 2 ^ low f) × (m * up e < 2 ^ suc (emax f) * down e)
unfolding fits
fits_digits f u zero e h =
    let d : down e ≤ up e * down e = le_trans (le_of_eq (sym (one-mul (down e)))) (mul-le-mul_right (down e) (up_pos e)) in
    (pow_pos (prec f), le_trans d (le_trans (le_of_eq (eqb→eq (up e * down e) 1 h)) (pow_pos (low f))), subst (λ (x : ℕ). x < 2 ^ suc (emax f) * down e) (sym (zero-mul (up e))) (mul-pos (pow_pos (suc (emax f))) (down_pos e)))
fits_digits f u (suc m) e h =
    let a = eqb (suc m % 2) 1 in
    let b = ltb (suc m) (2 ^ prec f) in
    let c = leb (down e) (2 ^ low f) in
    let d = ltb (suc m * up e) (2 ^ suc (emax f) * down e) in
    (ltb→lt (suc m) (2 ^ prec f) (and_r a b (and_l (a && b) c (and_l (a && b && c) d h))), leb→le (down e) (2 ^ low f) (and_r (a && b) c (and_l (a && b && c) d h)), ltb→lt (suc m * up e) (2 ^ suc (emax f) * down e) (and_r (a && b && c) d h))

-- it rounds to itself, under either sign
pub round-own : (f : Format) (u s : Bool) (m : ℕ) (e : ℤ) → T (fits f (fin u m e)) → HasValue (round f s (m * up e) (down e)) s (m * up e) (down e)
round-own f u s m e h =
    let p = fits_digits f u m e h in
    subst (λ (n : ℕ). HasValue (round f s n (down e)) s n (down e)) (mul-one (m * up e))
    (own f s m e 0 p.0 p.1 (subst (λ (n : ℕ). n < 2 ^ suc (emax f) * down e) (sym (mul-one (m * up e))) p.2))

-- and twice of it does, as long as that does not overflow
pub round-double : (f : Format) (u s : Bool) (m : ℕ) (e : ℤ) → T (fits f (fin u m e)) → m * up e * 2 < 2 ^ suc (emax f) * down e
    → HasValue (round f s (m * up e * 2) (down e)) s (m * up e * 2) (down e)
round-double f u s m e h l = let p = fits_digits f u m e h in own f s m e 1 p.0 p.1 l

-- ---- finite results

-- a negative is finite where the value is
pub neg_finite : (x : Float) → T (finite x) → T (finite (neg x))
unfolding neg
neg_finite nan h = h
neg_finite (inf s) h = h
neg_finite (fin s m e) h = tt

-- so a fraction that rounds to a finite value does so under either sign
pub either_sign : (f : Format) (s : Bool) (a c : ℕ) → T (finite (round f false a c)) → T (finite (round f s a c))
either_sign f false a c h = h
either_sign f true a c h = rw (round_neg f a c) (neg_finite (round f false a c) h)

-- a fraction that is no larger than one that rounds to a finite value does so too
round_finite : (f : Format) (s : Bool) (a c b d : ℕ) → 0 < c → 0 < d → a * d ≤ b * c → T (finite (round f false b d)) → T (finite (round f s a c))
unfolding neg
round_finite f s a c b d C D h k =
    either_sign f s a c (under (round f false a c) (round f false b d) (round_has f false a c)
    (le→Le (round f false a c) (round f false b d) (round_mono f a c b d C D h)) k)
  where
    under : (x y : Float) → Sign false x → Le x y → T (finite y) → T (finite x)
    under nan y s h k = h
    under (inf true) y s h k = absurd (true≢false s)
    under (inf false) nan s h k = k
    under (inf false) (inf t) s h k = k
    under (inf false) (fin t n d) s h k = h
    under (fin u m e) y s h k = tt

-- a power of two up to 2 ^ emax rounds to itself
pub round_power : (f : Format) (k : ℕ) → k ≤ emax f → HasValue (round f false (2 ^ k) 1) false (2 ^ k) 1
round_power f k h =
    round_exact f false (2 ^ k) 1 1 (k + low f) (pow_pos 0) (pow-lt (two-le_pos (prec f) (two f)))
    (subst (λ (x : ℕ). x < 2 ^ (low f + suc (emax f))) (sym (one-mul (2 ^ (k + low f)))) (pow-lt (omega arith)))
    (sym (pow-add 2 k (low f)) ∙ sym (mul-one (1 * 2 ^ (k + low f)) ∙ one-mul (2 ^ (k + low f))))

-- so a fraction of at most 2 ^ emax rounds to a finite value
pub round-within : (f : Format) (s : Bool) (a c : ℕ) → 0 < c → a ≤ 2 ^ emax f * c → T (finite (round f s a c))
round-within f s a c C h =
    round_finite f s a c (2 ^ emax f) 1 C (pow_pos 0) (le_trans (le_of_eq (mul-one a)) h)
    (finite_of_value (round f false (2 ^ emax f) 1) false (2 ^ emax f) 1 (round_power f (emax f) (le_refl (emax f))))
