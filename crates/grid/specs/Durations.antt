-- Durations in nanoseconds as frames, samples, or seconds. Each is over the exact product of naturals.
use Rattle.std.specs.Prelude.{ℕ, ◌+◌, ◌-◌, ◌*◌, ◌/◌, ◌%◌, ◌≤◌, ◌<◌, Bool, leb, pos, Float}
use Rattle.std.specs.Float.{binary64}
use Rattle.std.specs.Float.Ieee.{add, div, of_int}
use Rattle.grid.specs.Limits.{max_rate, max_frame_rate, max_hop, max_duration, nanos_per_sec}

-- 7: a duration is at most 24 hours
abbrev pub duration_ok : ℕ → Bool
duration_ok ns = leb ns max_duration

-- what a conversion to frames needs to fit in 64 bits: test 3 has passed, and the duration is within refusal 7's limit
pub record InFrames (frameRate hop ns : ℕ) : Type 0 where
  pub rate : frameRate ≤ max_frame_rate
  pub step : 0 < hop
  pub most : hop ≤ max_hop
  pub time : ns ≤ max_duration

-- what one to samples needs for its steps to fit, and for duration and rate to be exact as floats: test 1 has passed, and 7's limit holds
pub record InSamples (sampleRate ns : ℕ) : Type 0 where
  pub rate : sampleRate ≤ max_rate
  pub time : ns ≤ max_duration

-- counted in frames a duration is the fraction ns × frame rate / (hop × 10^9): its numerator
abbrev pub frames_num : ℕ → ℕ → ℕ
frames_num frameRate ns = ns * frameRate

-- its denominator
abbrev pub frames_den : ℕ → ℕ
frames_den hop = hop * nanos_per_sec

-- document 01's frames "rounded half up"
unfoldable pub frames_in : ℕ → ℕ → ℕ → ℕ
frames_in frameRate hop ns = (frames_num frameRate ns + frames_den hop / 2) / frames_den hop

-- document 01's frames rounded up
unfoldable pub frames_ceil : ℕ → ℕ → ℕ → ℕ
frames_ceil frameRate hop ns = (frames_num frameRate ns + (frames_den hop - 1)) / frames_den hop

-- document 01's frames rounded down
unfoldable pub frames_floor : ℕ → ℕ → ℕ → ℕ
frames_floor frameRate hop ns = frames_num frameRate ns / frames_den hop

-- document 01's "samples rounded down"
unfoldable pub samples_floor : ℕ → ℕ → ℕ
samples_floor rate ns = ns * rate / nanos_per_sec

abbrev float : ℕ → Float
float n = of_int binary64 (pos n)

-- document 01's samples as a float: "the whole product rounded to the nearest f64 (ties to even), then divided by 10^9"
unfoldable pub samples_in : ℕ → ℕ → Float
samples_in rate ns = div binary64 (float (ns * rate)) (float nanos_per_sec)

-- document 01's seconds, "as `as_secs_f64` does it: whole seconds plus (remaining nanoseconds / 10^9), in f64"
unfoldable pub seconds_of : ℕ → Float
seconds_of ns = add binary64 (float (ns / nanos_per_sec)) (div binary64 (float (ns % nanos_per_sec)) (float nanos_per_sec))

-- one frame in seconds: hop / frame rate
unfoldable pub frame_secs_of : ℕ → ℕ → Float
frame_secs_of frameRate hop = div binary64 (float hop) (float frameRate)
