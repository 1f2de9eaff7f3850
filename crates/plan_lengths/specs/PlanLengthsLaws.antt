-- The path search may be asked with what a plan prefers: the tests of a plan leave weights that are finite and not negative, and minimum and target in the search's range.
-- By length a product of duration and rate is a whole number below 2 ^ 66, over 10 ^ 9; by count a length from 1 to 2 ^ 40 is divided by a count from 1 to 2 ^ 20.
use Rattle.std.specs.Prelude.{◌≡◌, false, List, ℕ, ◌-◌, ◌*◌, ◌^◌, ◌≤◌, ◌<◌, pos, negsuc, T, Float}
use Rattle.std.proofs.Common.{le_trans, le_of_lt, mul-pos, mul-le-mul, lit≤}
use native.Mathlib.Omega.{arith}
use Rattle.std.specs.Float.{fin}
use Rattle.std.specs.Float.Ieee.{binary64, div, of_int, round, le}
use Rattle.std.specs.Float.Ieee.Order.{round_mono}
use Rattle.std.proofs.Math.ListN.{length}
use Rattle.base_terms.specs.Limits.{max_len}
use Rattle.base_laws.specs.Order.{float_le_trans}
use Rattle.base_laws.specs.Quotients.{float_div_mono}
use Rattle.base_laws.specs.Whole.{whole_mono}
use Rattle.grid.specs.Limits.{max_rate, max_duration, nanos_per_sec}
use Rattle.grid.specs.Durations.{samples_in}
use Rattle.grid.specs.Boundary.{boundary_of}
use Rattle.grid.specs.BoundaryLaws.{boundary_above, boundary_le_len, boundary_mono}
use Rattle.grid.specs.Validate.{grid_of}
use Rattle.grid.specs.ValidateLaws.{within_pos}
use Rattle.grid.specs.declared.boundary.FrameGrid.{FrameGrid}
use Rattle.grid.specs.declared.validate.Recording.{Recording}
use Rattle.silence_list.specs.declared.config.SegmentConfig.{SegmentConfig}
use Rattle.path_pieces.specs.Domain.{Preferred}
use Rattle.path_tests.specs.Refusal.{max_count}
use Rattle.plan_settings.specs.declared.config.PlanConfig.{PlanConfig}
use Rattle.plan_tests.specs.PlanReady.{PlanReady}
use Rattle.plan_lengths.specs.PlanLengths.{Timed, InPieces, maximum_in, target_by_length, target_by_count, lengths_with, lengths_by_length, lengths_by_count}
use Rattle.plan_lengths.specs.QuotientLaws.{quotient_is}

abbrev float : ℕ → Float
float n = of_int binary64 (pos n)

-- ---- a duration in samples

-- at most 2 ^ 60
samples_high : (rate ns : ℕ) → rate ≤ max_rate → ns ≤ max_duration → T (le (samples_in rate ns) (fin false 1 (pos 60)))
unfolding samples_in of_int round div le
samples_high rate ns r t =
    float_le_trans (div binary64 (float (ns * rate)) (float nanos_per_sec)) (div binary64 (float (max_duration * max_rate)) (float nanos_per_sec)) (fin false 1 (pos 60))
    (float_div_mono binary64 (float (ns * rate)) (float (max_duration * max_rate)) (float nanos_per_sec) tt (whole_mono binary64 (ns * rate) (max_duration * max_rate) (mul-le-mul t r)))
    tt

-- at least 2 ^ -40, where neither is zero
samples_low : (rate ns : ℕ) → 0 < rate → 0 < ns → T (le (fin false 1 (negsuc 39)) (samples_in rate ns))
unfolding samples_in of_int round div le
samples_low rate ns r t =
    float_le_trans (fin false 1 (negsuc 39)) (div binary64 (float 1) (float nanos_per_sec)) (div binary64 (float (ns * rate)) (float nanos_per_sec))
    tt
    (float_div_mono binary64 (float 1) (float (ns * rate)) (float nanos_per_sec) tt (whole_mono binary64 1 (ns * rate) (mul-pos t r)))

-- ---- a length over a count

module _ (length count : ℕ) (some : 0 < length) (most : length ≤ max_len) (one : 0 < count) (few : count ≤ max_count) where
  share_is : div binary64 (float length) (float count) ≡ round binary64 false length count
  share_is = quotient_is binary64 length count one (le_trans most (lit≤ tt)) (le_trans few (lit≤ tt))

  -- at most 2 ^ 60
  share_high : T (le (div binary64 (float length) (float count)) (fin false 1 (pos 60)))
  unfolding round
  share_high = rw share_is (round_mono binary64 length count (2 ^ 60) 1 one (lit≤ tt) (omega arith))

  -- at least 2 ^ -40
  share_low : T (le (fin false 1 (negsuc 39)) (div binary64 (float length) (float count)))
  unfolding round
  share_low = rw share_is (round_mono binary64 1 (2 ^ 40) length count (lit≤ tt) one (omega arith))

-- ---- what the tests of a plan leave

module _ {r : Recording} {segment : SegmentConfig} {settings : PlanConfig} {values : List Float} {flags : List ℕ} {levels : List Float} {n32 n64 nf : ℕ}
    (p : PlanReady r segment settings values flags levels n32 n64 nf) where
  abbrev grid : FrameGrid
  grid = grid_of r (length values)

  -- the durations fit as samples
  pub ready_timed : Timed (grid_of r (length values)) settings
  ready_timed =
      record {
        rate = p.accepted.bounded.rate;
        min_time = p.preferring.least_time;
        target_time = p.preferring.target_time;
        max_time = p.preferring.most_time;
      }

  -- a span's length and a count that passed test 8 are exact
  pub ready_in_pieces : (first last count : ℕ) → first ≤ last → count ≤ max_count → InPieces (grid_of r (length values)) first last count
  ready_in_pieces first last count h k =
      record {
        bounded = p.accepted.bounded;
        forward = boundary_mono grid p.accepted first last h;
        within = le_trans (boundary_le_len grid p.accepted last) p.length_bounded;
        few = k;
      }

  -- with a target in the search's range the search may be asked
  with_preferred : (target : Float) (limit : ℕ) → T (le (fin false 1 (negsuc 39)) target) → T (le target (fin false 1 (pos 60)))
      → Preferred (lengths_with (grid_of r (length values)) settings target limit)
  unfolding lengths_with
  with_preferred target limit low high =
      record {
        preferences = record {
          target_weight_nonneg = p.weighed.target_weight.not_below;
          target_weight_finite = p.weighed.target_weight.bounded;
          short_weight_nonneg = p.weighed.short_weight.not_below;
          short_weight_finite = p.weighed.short_weight.bounded;
          min_high = samples_high r.sample_rate settings.min ready_timed.rate ready_timed.min_time;
          target_low = low;
          target_high = high;
        };
      }

  -- by length, under any limit
  pub by_length_limited : (limit : ℕ) → Preferred (lengths_with (grid_of r (length values)) settings (target_by_length (grid_of r (length values)) settings) limit)
  by_length_limited limit =
      with_preferred (target_by_length grid settings) limit
      (samples_low r.sample_rate settings.target (within_pos r.sample_rate max_rate p.recording.rate) p.preferring.target_some)
      (samples_high r.sample_rate settings.target ready_timed.rate ready_timed.target_time)

  -- so under the maximum
  pub by_length_preferred : Preferred (lengths_by_length (grid_of r (length values)) settings)
  by_length_preferred = by_length_limited (maximum_in grid settings)

  -- by count, for any span that is not empty, under any limit
  pub by_count_preferred : (first last count limit : ℕ) → first < last → last ≤ length values → 0 < count → count ≤ max_count
      → Preferred (lengths_by_count (grid_of r (length values)) settings first last count limit)
  unfolding target_by_count
  by_count_preferred first last count limit h k some few =
      let rises = boundary_above grid p.accepted first last h k in
      let inside = ready_in_pieces first last count (le_of_lt h) few in
      let span = boundary_of grid last - boundary_of grid first in
      let above : 0 < span = omega arith in
      let below : span ≤ max_len = omega arith in
      with_preferred (div binary64 (float span) (float count)) limit (share_low span count above below some few) (share_high span count above below some few)
