-- A value on the scale is a number from 0 to 1. A span of decibels may overflow to +inf in f32, and then every difference, which is finite, is 0 of it.
use Rattle.std.specs.Prelude.{◌≡◌, true, false, not, T, Float}
use Rattle.std.specs.Float.{nan, inf, fin, binary32, binary64}
use Rattle.std.specs.Float.Ieee.{sub, div, le, lt, eq, of_int, round, is_nan, fits}
use Rattle.std.specs.Float.Ieee.Scale.{finite}
use Rattle.base_laws.specs.Order.{float_le_numbers, float_lt-le_trans}
use Rattle.base_terms.specs.Floats.{nought, clamp_of}
use Rattle.base_laws.specs.Nonneg.{nought-nonneg, finite_between, positive_above}
use Rattle.base_laws.specs.Differences.{float_sub_finite_number, difference_finite}
use Rattle.base_laws.specs.Quotients.{float_div-number}
use Rattle.base_laws.specs.Clamp.{max_above, clamp_range}
use Rattle.grid.specs.Values.{is_finite}
use Rattle.grid.specs.ValuesLaws.{value_finite, value_number}
use Rattle.grid.specs.declared.validate.Domain.TheVariants.{Decibels, Scores}
use Rattle.silence_levels.specs.declared.threshold.Levels.{Levels}
use Rattle.candidate_costs.specs.Normalize.{unit, min_range, range_of, normalize_of}

-- a number from 0 to 1
pub record OnScale (x : Float) : Type 0 where
  pub low : T (le nought x)
  pub high : T (le x unit)

-- a number from 0 to 1 is finite
pub scale_finite : (x : Float) → OnScale x → T (finite x)
scale_finite x s = finite_between nought x unit tt tt s.low s.high

-- ---- the scale of decibels

-- a floor and a reference that are finite
pub record Scaled (scale : Levels) : Type 0 where
  pub low_end : is_finite scale.floor ≡ true
  pub high_end : is_finite scale.reference ≡ true

-- their difference is a number
pub span-number : (scale : Levels) → Scaled scale → T (not (is_nan (sub binary32 scale.reference scale.floor)))
span-number scale s =
    float_sub_finite_number binary32 scale.reference scale.floor (value_number scale.reference s.high_end) (value_finite scale.floor s.low_end)

-- the range is 20 at least
range_least : (scale : Levels) → Scaled scale → T (le min_range (range_of scale))
unfolding range_of is_nan of_int round
range_least scale s = (max_above (sub binary32 scale.reference scale.floor) min_range (span-number scale s) tt).1

-- a finite value over such a range is a number
scaled_number : (x range : Float) → T (finite x) → T (le min_range range) → T (not (is_nan (div binary64 x range)))
unfolding div is_nan le lt eq of_int round
scaled_number nan range p h = absurd p
scaled_number (inf s) range p h = absurd p
scaled_number (fin s m e) nan p h = absurd (float_le_numbers min_range nan h).1
scaled_number (fin s m e) (inf true) p h = absurd h
scaled_number (fin s m e) (inf false) p h = tt
scaled_number (fin s m e) (fin t n d) p h =
    float_div-number binary64 (fin s m e) (fin t n d) (positive_above nought (fin t n d) nought-nonneg (float_lt-le_trans nought min_range (fin t n d) tt h) tt) tt

-- ---- on the scale

clamped : (x : Float) → T (not (is_nan x)) → OnScale (clamp_of x nought unit)
unfolding le lt eq
clamped x n = let r = clamp_range x nought unit n tt in record { low = r.0; high = r.1 }

-- a number becomes a score
pub score_scale : (scale : Levels) (x : Float) → T (not (is_nan x)) → OnScale (normalize_of Scores scale x)
unfolding normalize_of
score_scale scale x n = clamped x n

-- and a finite f64 a level of decibels, where the floor is a finite f32
pub decibel_scale : (scale : Levels) (x : Float) → Scaled scale → T (fits binary32 scale.floor) → T (finite x) → T (fits binary64 x)
    → OnScale (normalize_of Decibels scale x)
unfolding normalize_of
decibel_scale scale x s g p f =
    let above : Float = sub binary64 x scale.floor in
    clamped (div binary64 above (range_of scale))
    (scaled_number above (range_of scale) (difference_finite x scale.floor p (value_finite scale.floor s.low_end) f g) (range_least scale s))
