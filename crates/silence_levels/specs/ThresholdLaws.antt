-- The thresholds are numbers where floor, reference and the setting's number are finite, and some do not depend on floor and reference at all.
use Rattle.std.specs.Prelude.{◌≡◌, refl, Bool, true, false, not, cond, T, Float}
use Rattle.std.proofs.Common.{inl, inr}
use Rattle.std.specs.Float.{binary32}
use Rattle.std.specs.Float.Ieee.{add, sub, lt, le, eq, is_nan, of_int, round}
use Rattle.std.specs.Float.Ieee.Scale.{finite}
use Rattle.base_laws.specs.Tests.{holds}
use Rattle.base_laws.specs.Order.{float_le_refl}
use Rattle.base_laws.specs.Nonneg.{finite_number}
use Rattle.base_laws.specs.Differences.{float_add_finite, float_sub_finite_number}
use Rattle.base_terms.specs.Floats.{min_of, max_of}
use Rattle.base_laws.specs.Clamp.{min-one, max-one}
use Rattle.grid.specs.Values.{is_finite}
use Rattle.grid.specs.ValuesLaws.{value_finite, value_number}
use Rattle.grid.specs.declared.validate.Domain.{Domain}
use Rattle.grid.specs.declared.validate.Domain.TheVariants.{Decibels, Scores}
use Rattle.silence_levels.specs.declared.threshold.Threshold.{Threshold}
use Rattle.silence_levels.specs.declared.threshold.Threshold.TheVariants.{Auto, Abs, BelowRef}
use Rattle.silence_levels.specs.Threshold.{decibels, decibel_on, auto_of, resolve_of, threshold_ok, is_fixed}

-- ---- the automatic onset, from the two values worked out for it

module _ (floor reference low on : Float) (a : low ≡ min_of (add binary32 floor (decibels 6)) (sub binary32 reference (decibels 20)))
    (b : on ≡ max_of (add binary32 floor (decibels 4)) low)
  where
    -- above the reference it is lowered to the floor
    pub on_lowered : lt reference on ≡ true → floor ≡ decibel_on floor reference
    unfolding decibel_on
    on_lowered t = rw (← a, ← b, t)

    -- else it stays
    pub on_stays : lt reference on ≡ false → on ≡ decibel_on floor reference
    unfolding decibel_on
    on_stays t = rw (← a, ← b, t)

-- ---- floor and reference are passed on

pub resolve_floor : (domain : Domain) (threshold : Threshold) (floor reference : Float) → (resolve_of domain threshold floor reference).floor ≡ floor
unfolding resolve_of auto_of
resolve_floor Decibels Auto floor reference = refl
resolve_floor Scores Auto floor reference = refl
resolve_floor domain (Abs v) floor reference = refl
resolve_floor domain (BelowRef v) floor reference = refl

pub resolve_reference : (domain : Domain) (threshold : Threshold) (floor reference : Float) → (resolve_of domain threshold floor reference).reference ≡ reference
unfolding resolve_of auto_of
resolve_reference Decibels Auto floor reference = refl
resolve_reference Scores Auto floor reference = refl
resolve_reference domain (Abs v) floor reference = refl
resolve_reference domain (BelowRef v) floor reference = refl

-- ---- no threshold is NaN

abbrev Number : Float → Type 0
Number x = T (not (is_nan x))

min-number : (x y : Float) → Number x → Number y → Number (min_of x y)
min-number x y p q = elim (min-one x y) [ inl e ↦ rw e p | inr e ↦ rw e q ]

max-number : (x y : Float) → Number x → Number y → Number (max_of x y)
max-number x y p q = elim (max-one x y) [ inl e ↦ rw e p | inr e ↦ rw e q ]

either : (b : Bool) (x y : Float) → Number x → Number y → Number (cond b x y)
either true x y p q = p
either false x y p q = q

on_number : (floor reference : Float) → T (finite floor) → T (finite reference) → Number (decibel_on floor reference)
unfolding decibel_on of_int round
on_number floor reference p q =
    let f : Number floor = finite_number floor p in
    let r : Number reference = finite_number reference q in
    let a : Number (add binary32 floor (decibels 4)) = float_add_finite binary32 floor (decibels 4) f tt in
    let b : Number (add binary32 floor (decibels 6)) = float_add_finite binary32 floor (decibels 6) f tt in
    let c : Number (sub binary32 reference (decibels 20)) = float_sub_finite_number binary32 reference (decibels 20) r tt in
    let low : Float = min_of (add binary32 floor (decibels 6)) (sub binary32 reference (decibels 20)) in
    let on : Float = max_of (add binary32 floor (decibels 4)) low in
    either (lt reference on) floor on f
    (max-number (add binary32 floor (decibels 4)) low a (min-number (add binary32 floor (decibels 6)) (sub binary32 reference (decibels 20)) b c))

-- where test 11 passes and floor and reference are finite, both are numbers
pub resolve_numbers : (domain : Domain) (threshold : Threshold) (floor reference : Float) → threshold_ok threshold ≡ true → is_finite floor ≡ true → is_finite reference ≡ true
    → Number (resolve_of domain threshold floor reference).on × Number (resolve_of domain threshold floor reference).off
unfolding resolve_of auto_of threshold_ok of_int round is_nan
resolve_numbers Decibels Auto floor reference t p q =
    let n = on_number floor reference (value_finite floor p) (value_finite reference q) in
    (n, float_sub_finite_number binary32 (decibel_on floor reference) (decibels 3) n tt)
resolve_numbers Scores Auto floor reference t p q = (tt, tt)
resolve_numbers domain (Abs v) floor reference t p q = (value_number v t, value_number v t)
resolve_numbers domain (BelowRef v) floor reference t p q =
    let n = float_sub_finite_number binary32 reference v (value_number reference q) (value_finite v t) in
    (n, n)

-- ---- thresholds that do not depend on the values

-- any other floor and reference give the same
pub fixed_same : (domain : Domain) (threshold : Threshold) (floor reference floor' reference' : Float) → is_fixed domain threshold ≡ true
    → ((resolve_of domain threshold floor reference).on ≡ (resolve_of domain threshold floor' reference').on)
    × ((resolve_of domain threshold floor reference).off ≡ (resolve_of domain threshold floor' reference').off)
unfolding resolve_of auto_of is_fixed
fixed_same Decibels Auto f r g s e = absurd (holds e)
fixed_same Scores Auto f r g s e = (refl, refl)
fixed_same domain (Abs v) f r g s e = (refl, refl)
fixed_same domain (BelowRef v) f r g s e = absurd (holds e)

-- sound ends no higher than it starts
pub fixed_order : (domain : Domain) (threshold : Threshold) (floor reference : Float) → is_fixed domain threshold ≡ true → threshold_ok threshold ≡ true
    → T (le (resolve_of domain threshold floor reference).off (resolve_of domain threshold floor reference).on)
unfolding resolve_of auto_of is_fixed threshold_ok round le lt eq
fixed_order Decibels Auto f r e t = absurd (holds e)
fixed_order Scores Auto f r e t = tt
fixed_order domain (Abs v) f r e t = float_le_refl v (value_number v t)
fixed_order domain (BelowRef v) f r e t = absurd (holds e)
