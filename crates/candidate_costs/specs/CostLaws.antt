-- Every cost of a cut is above zero: the fixed cost is, and what is added to it is not negative. Finite weights can give +inf, and never a NaN.
use Rattle.std.specs.Prelude.{◌≡◌, true, ℕ, ◌/◌, ◌%◌, ◌≤◌, ◌<◌, pos, T, Float}
use Rattle.std.proofs.Common.{inl, inr, arith}
use Rattle.std.specs.Float.Ieee.{binary64, add, sum, sub, mul, div, of_int, round, le, lt, eq, is_nan, fits}
use Rattle.std.specs.Float.Ieee.Fits.{add-fits}
use Rattle.std.specs.Float.Ieee.Positive.{positive, between}
use Rattle.base_laws.specs.Tests.{lt_or_le}
use Rattle.base_terms.specs.Floats.{nought, nonneg}
use Rattle.base_laws.specs.Nonneg.{nought-nonneg, nonneg-number, finite_within}
use Rattle.base_laws.specs.Order.{float_le_trans, float_lt-le_trans}
use Rattle.base_laws.specs.Sums.{float_add_mono, float_add-nonneg, float_add_grows}
use Rattle.base_laws.specs.Differences.{float_sub-nonneg, float_sub-within}
use Rattle.base_laws.specs.Products.{float_mul-number, float_mul-nonneg}
use Rattle.base_laws.specs.Quotients.{float_div_mono, float_div-nonneg}
use Rattle.base_laws.specs.Whole.{whole_mono, whole-nonneg}
use Rattle.base_laws.specs.Clamp.{min-one, min_below}
use Rattle.grid.specs.Limits.{max_duration, nanos_per_sec}
use Rattle.grid.specs.Durations.{seconds_of}
use Rattle.plan_settings.specs.Tests.{weights_ok}
use Rattle.plan_settings.specs.TestsLaws.{Weight, Weighed, weights_parts}
use Rattle.path_pieces.specs.declared.weights.Weights.{Weights}
use Rattle.candidate_costs.specs.Normalize.{unit}
use Rattle.candidate_costs.specs.NormalizeLaws.{OnScale, scale_finite}
use Rattle.candidate_costs.specs.Cost.{pause_of, cut_cost}

-- ---- the pause reference in seconds

abbrev float : ℕ → Float
float n = of_int binary64 (pos n)

abbrev rest : ℕ → Float
rest n = div binary64 (float n) (float nanos_per_sec)

second : T (positive (float nanos_per_sec))
unfolding of_int round
second = tt

rest-nonneg : (n : ℕ) → T (nonneg (rest n))
rest-nonneg n = float_div-nonneg binary64 (float n) (float nanos_per_sec) second (whole-nonneg binary64 n)

-- one nanosecond at the least, and a day at the most
seconds_most : (ns : ℕ) → ns ≤ max_duration → T (le (seconds_of ns) (add binary64 (float 86400) (rest nanos_per_sec)))
unfolding seconds_of
seconds_most ns h =
    float_add_mono binary64 (float (ns / nanos_per_sec)) (float 86400) (rest (ns % nanos_per_sec)) (rest nanos_per_sec) (whole-nonneg binary64 (ns / nanos_per_sec))
    (rest-nonneg (ns % nanos_per_sec)) (whole_mono binary64 (ns / nanos_per_sec) 86400 (omega arith))
    (float_div_mono binary64 (float (ns % nanos_per_sec)) (float nanos_per_sec) (float nanos_per_sec) second (whole_mono binary64 (ns % nanos_per_sec) nanos_per_sec (omega arith)))

seconds-whole : (ns : ℕ) → 0 < ns / nanos_per_sec → T (le (add binary64 (float 1) nought) (seconds_of ns))
unfolding seconds_of
seconds-whole ns h =
    float_add_mono binary64 (float 1) (float (ns / nanos_per_sec)) nought (rest (ns % nanos_per_sec)) (whole-nonneg binary64 1) nought-nonneg
    (whole_mono binary64 1 (ns / nanos_per_sec) h) (rest-nonneg (ns % nanos_per_sec))

seconds_part : (ns : ℕ) → 0 < ns % nanos_per_sec → T (le (add binary64 nought (rest 1)) (seconds_of ns))
unfolding seconds_of
seconds_part ns h =
    float_add_mono binary64 nought (float (ns / nanos_per_sec)) (rest 1) (rest (ns % nanos_per_sec)) nought-nonneg (rest-nonneg 1)
    (whole-nonneg binary64 (ns / nanos_per_sec)) (float_div_mono binary64 (float 1) (float (ns % nanos_per_sec)) (float nanos_per_sec) second (whole_mono binary64 1 (ns % nanos_per_sec) h))

-- a duration above zero and up to 24 hours is finite and above zero
pub seconds_positive : (ns : ℕ) → 0 < ns → ns ≤ max_duration → T (positive (seconds_of ns))
unfolding add sum div of_int round
seconds_positive ns h k =
    elim (lt_or_le 0 (ns / nanos_per_sec)) [
      | inl l ↦ between (add binary64 (float 1) nought) (seconds_of ns) (add binary64 (float 86400) (rest nanos_per_sec)) tt tt (seconds-whole ns l) (seconds_most ns k)
      | inr l ↦ between (add binary64 nought (rest 1)) (seconds_of ns) (add binary64 (float 86400) (rest nanos_per_sec)) tt tt (seconds_part ns (omega arith)) (seconds_most ns k)
    ]

-- ---- the cost

-- the part of the pause reference is on the scale
pause_scale : (w : Weights) (secs : Float) → Weighed w → T (nonneg secs) → OnScale (pause_of w secs)
unfolding pause_of is_nan le lt eq
pause_scale w secs p h =
    let q : Float = div binary64 secs (seconds_of w.pause_ref) in
    let n : T (nonneg q) = float_div-nonneg binary64 secs (seconds_of w.pause_ref) (seconds_positive w.pause_ref p.some p.most) h in
    record {
      low = elim (min-one q unit) [ inl e ↦ rw e n | inr e ↦ rw e tt ];
      high = (min_below q unit (nonneg-number q n) tt).1;
    }

-- what a pause lacks is finite and not negative
lack : (x : Float) → OnScale x → Weight (sub binary64 unit x)
unfolding fits le lt eq
lack x s =
    record {
      bounded = finite_within (sub binary64 unit x) unit tt (float_sub-within binary64 unit x unit tt s.low tt s.high tt tt);
      not_below = float_sub-nonneg binary64 unit x tt (scale_finite x s) s.high;
    }

times : (x y : Float) → Weight x → Weight y → T (nonneg (mul binary64 x y))
times x y p q = float_mul-nonneg binary64 x y p.not_below q.not_below (float_mul-number binary64 x y p.bounded q.bounded)

module _ (w : Weights) (level secs : Float) (ok : weights_ok w ≡ true) (s : OnScale level) (h : T (nonneg secs)) where
  -- the level's part, and what the pause lacks
  abbrev loud : Float
  loud = mul binary64 w.level level

  abbrev lacking : Float
  lacking = mul binary64 w.pause (sub binary64 unit (pause_of w secs))

  loud-nonneg : T (nonneg loud)
  loud-nonneg = times w.level level (weights_parts w ok).level_weight (record { bounded = scale_finite level s; not_below = s.low })

  lacking-nonneg : T (nonneg lacking)
  lacking-nonneg =
      let p = weights_parts w ok in
      times w.pause (sub binary64 unit (pause_of w secs)) p.pause_weight (lack (pause_of w secs) (pause_scale w secs p h))

  both_nonneg : T (nonneg (add binary64 w.cut loud))
  both_nonneg = float_add-nonneg binary64 w.cut loud (weights_parts w ok).cut_cost_lem.not_below loud-nonneg

  -- a cost is of the search's domain: not NaN, and not below zero
  pub cost_fine : T (nonneg (cut_cost w level secs))
  unfolding cut_cost
  cost_fine = float_add-nonneg binary64 (add binary64 w.cut loud) lacking both_nonneg lacking-nonneg

  -- it is above zero, or +inf: the fixed cost, an f64, is above zero, and a sum is at least each of its parts
  pub cost_positive : T (fits binary64 w.cut) → T (lt nought (cut_cost w level secs))
  unfolding cut_cost
  cost_positive held =
      let p = weights_parts w ok in
      let one = add binary64 w.cut loud in
      float_lt-le_trans nought w.cut (add binary64 one lacking) p.cut_above
      (float_le_trans w.cut one (add binary64 one lacking) (float_add_grows binary64 w.cut loud p.cut_cost_lem.not_below held loud-nonneg)
      (float_add_grows binary64 one lacking both_nonneg (add-fits binary64 w.cut loud) lacking-nonneg))
