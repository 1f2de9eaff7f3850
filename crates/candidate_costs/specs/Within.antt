-- Every level of an accepted recording is a number from 0 to 1.
use Rattle.std.specs.Prelude.{◌≡◌, ◌&&◌, List, ℕ, zero, suc, ◌≤◌, ◌<◌, T, Float, get_or}
use Rattle.std.proofs.Math.Path.{refl}
use Rattle.std.proofs.Common.{inl, inr, eq-or-lt_of_le, arith, lit≤, leb→le, eqb→eq}
use Rattle.std.proofs.Math.Bool.{true}
use Rattle.std.specs.Float.Ieee.{nan, add, sum, div, round, le, lt, eq, fits}
use Rattle.std.specs.Float.{binary32, binary64}
use Rattle.std.proofs.Math.ListN.{length}
use Rattle.base_laws.specs.Tests.{holds, both}
use Rattle.base_laws.specs.Order.{float_le_trans}
use Rattle.base_laws.specs.Nonneg.{nonneg-number}
use Rattle.base_laws.specs.Sums.{float_add_mono, float_add-nonneg}
use Rattle.base_laws.specs.Quotients.{float_div_mono, float_div-nonneg}
use Rattle.base_terms.specs.Lists.{all_of, tabulate}
use Rattle.base_code.specs.Elements.{all-at}
use Rattle.base_code.specs.FrontLaws.{tabulate-at}
use Rattle.grid.specs.Values.{is_finite, is_score, is_flag, is_unflagged}
use Rattle.grid.specs.ValuesLaws.{value_finite, values_finite}
use Rattle.grid.specs.Limits.{max_frame_rate, max_hop, max_frames}
use Rattle.grid.specs.Durations.{InFrames}
use Rattle.grid.specs.Validate.{level_count, frames_ok, values_ok}
use Rattle.grid.specs.ValidateLaws.{AcceptedRecording, within_most, within_pos, frames_parts, lists_parts}
use Rattle.grid.specs.declared.validate.Recording.{Recording}
use Rattle.grid.specs.declared.validate.Domain.{Domain}
use Rattle.grid.specs.declared.validate.Domain.TheVariants.{Decibels, Scores}
use Rattle.silence_levels.specs.declared.threshold.Threshold.{Threshold}
use Rattle.silence_levels.specs.declared.threshold.Levels.{Levels}
use Rattle.silence_levels.specs.KeysLaws.{fits_all}
use Rattle.silence_levels.specs.Levels.{levels_of}
use Rattle.silence_levels.specs.LevelsLaws.{levels_pass}
use Rattle.candidate_costs.specs.Window.{smoothing, width_of}
use Rattle.candidate_costs.specs.WindowLaws.{width_some, width_narrow, window_nonneg}
use Rattle.candidate_costs.specs.Normalize.{unit}
use Rattle.candidate_costs.specs.NormalizeLaws.{OnScale, Scaled, score_scale, decibel_scale}
use Rattle.candidate_costs.specs.Level.{smoothed_at, frame_level, level_at, boundary_levels}
use Rattle.candidate_costs.specs.LevelLaws.{double, level_first, level_inner, level_last, Measured, lent_each}

-- ---- means of levels

alone : (x : Float) → OnScale x → OnScale (div binary64 x unit)
unfolding div round le lt eq
alone x s =
    record {
      low = float_div-nonneg binary64 x unit tt s.low;
      high = float_le_trans (div binary64 x unit) (div binary64 unit unit) unit (float_div_mono binary64 x unit unit tt s.high) tt;
    }

pair : (x y : Float) → OnScale x → OnScale y → OnScale (div binary64 (add binary64 x y) double)
unfolding add sum div round le lt eq
pair x y s t =
    record {
      low = float_div-nonneg binary64 (add binary64 x y) double tt (float_add-nonneg binary64 x y s.low t.low);
      high =
          float_le_trans (div binary64 (add binary64 x y) double) (div binary64 (add binary64 unit unit) double) unit
          (float_div_mono binary64 (add binary64 x y) (add binary64 unit unit) double tt (float_add_mono binary64 x unit y unit s.low t.low s.high t.high)) tt;
    }

-- the level of a boundary between levels on the scale
mean_scale : (f : ℕ → Float) (n k : ℕ) → ((i : ℕ) → i < n → OnScale (f i)) → 0 < n → k ≤ n → OnScale (level_at (tabulate f n) k)
mean_scale f n zero g h l = rw (level_first f n h) (alone (f 0) (g 0 h))
mean_scale f n (suc k) g h l =
    elim (eq-or-lt_of_le l) [
      | inl e ↦ rw (level_last f n k e) (alone (f k) (g k (omega arith)))
      | inr b ↦ rw (level_inner f n k b) (pair (f k) (f (suc k)) (g k (omega arith)) (g (suc k) b))
    ]

-- ---- the levels of a recording

-- what tests 4 and 5 leave of a recording's lists, beside what their types say: an f32 for each value, an f64 for each level
pub record Levelled (domain : Domain) (scale : Levels) (width : ℕ) (values : List Float) (flags : List ℕ) (levels : List Float) : Type 0 where
  pub measured : Measured domain width values levels
  pub scaled : Scaled scale
  pub accepted : values_ok domain values flags levels ≡ true
  pub floor_fits : T (fits binary32 scale.floor)
  pub lent_fits : (i : ℕ) → T (fits binary64 (get_or levels i nan))

module _ (scale : Levels) (width : ℕ) (values : List Float) (flags : List ℕ) (levels : List Float) where
  -- the level of a frame is on the scale
  pub frame_within : (domain : Domain) → Levelled domain scale width values flags levels → (i : ℕ) → i < length values
      → OnScale (frame_level domain scale width values levels i)
  unfolding frame_level smoothed_at values_ok
  frame_within Scores w i h =
      score_scale scale (smoothed_at Scores width values levels i)
      (nonneg-number (smoothed_at Scores width values levels i)
      (window_nonneg width values i w.measured.windows h (both (all_of is_score values) (all_of is_unflagged flags) w.accepted).0))
  frame_within Decibels w i h =
      let each : all_of is_finite levels ≡ true = (both (all_of is_finite values && all_of is_flag flags) (all_of is_finite levels) w.accepted).1 in
      let l : length levels ≡ length values = lent_each Decibels width values levels refl w.measured in
      decibel_scale scale (get_or levels i nan) w.scaled w.floor_fits (value_finite (get_or levels i nan) (all-at is_finite levels i nan (omega (arith, l)) each)) (w.lent_fits i)

  -- so is that of a boundary
  pub level_within : (domain : Domain) → Levelled domain scale width values flags levels → 0 < length values → (k : ℕ) → k ≤ length values
      → OnScale (get_or (boundary_levels domain scale width values levels) k nan)
  unfolding boundary_levels
  level_within domain w h k l =
      rw (tabulate-at (level_at (tabulate (frame_level domain scale width values levels) (length values))) (suc (length values)) k nan (omega arith))
      (mean_scale (frame_level domain scale width values levels) (length values) k (frame_within domain w) h l)

-- ---- floor and reference of an accepted recording

module _ (domain : Domain) (threshold : Threshold) (values : List Float) (flags : List ℕ) where
  -- they are finite
  pub levels_scaled : all_of is_finite values ≡ true → Scaled (levels_of domain threshold values flags)
  unfolding is_finite lt
  levels_scaled h = let p = levels_pass domain threshold values flags is_finite refl h in record { low_end = p.0; high_end = p.1 }

  -- and f32, where the values are
  pub floor_held : ((i : ℕ) → T (fits binary32 (get_or values i nan))) → T (fits binary32 (levels_of domain threshold values flags).floor)
  unfolding fits
  floor_held h = holds (levels_pass domain threshold values flags (fits binary32) refl (fits_all values h)).0

-- ---- a recording that has passed tests 1 to 6

-- the smoothing time in frames of its grid fits in 64 bits
pub smoothing-frames : (rate frameRate hop : ℕ) → frames_ok rate frameRate hop ≡ true → InFrames frameRate hop smoothing
smoothing-frames rate frameRate hop e =
    let p = frames_parts rate frameRate hop e in
    record {
      rate = within_most frameRate max_frame_rate p.0;
      step = within_pos hop max_hop p.1;
      most = within_most hop max_hop p.1;
      time = lit≤ tt;
    }

module _ (r : Recording) (values : List Float) (flags : List ℕ) (levels : List Float) (p : AcceptedRecording r values flags levels) where
  -- its windows
  pub passed_measured : Measured r.domain (width_of r.frame_rate r.hop) values levels
  passed_measured =
      let l = lists_parts r.domain (length values) (length flags) (length levels) p.lists in
      record {
        windows = record {
          some = width_some r.frame_rate r.hop;
          narrow = width_narrow r.frame_rate r.hop (smoothing-frames r.sample_rate r.frame_rate r.hop p.frames);
          few = leb→le (length values) max_frames (holds l.0);
          bounded = values_finite r.domain values flags levels p.within;
        };
        lends = eqb→eq (length levels) (level_count r.domain (length values)) (holds l.2);
      }

  -- and its levels, under any threshold
  pub passed_levelled : (threshold : Threshold) → ((i : ℕ) → T (fits binary32 (get_or values i nan))) → ((i : ℕ) → T (fits binary64 (get_or levels i nan)))
      → Levelled r.domain (levels_of r.domain threshold values flags) (width_of r.frame_rate r.hop) values flags levels
  passed_levelled threshold f g =
      record {
        measured = passed_measured;
        scaled = levels_scaled r.domain threshold values flags (values_finite r.domain values flags levels p.within);
        accepted = p.within;
        floor_fits = floor_held r.domain threshold values flags f;
        lent_fits = g;
      }
