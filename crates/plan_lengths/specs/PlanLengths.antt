-- What a plan prefers of its pieces' lengths, in samples, as the Rust's `plan` takes it from the settings: document 01's minimum, target and limit, by length and by count.
-- `lengths_by_length` and `lengths_by_count` are what the path search is asked with; that it may be asked with them is in PlanLengthsLaws.
use Rattle.std.specs.Prelude.{ℕ, ◌-◌, ◌≤◌, pos, Float}
use Rattle.std.specs.Float.{binary64}
use Rattle.std.specs.Float.Ieee.{div, of_int}
use Rattle.base_terms.specs.Limits.{max_len}
use Rattle.grid.specs.Limits.{max_rate, max_duration}
use Rattle.grid.specs.Durations.{samples_floor, samples_in}
use Rattle.grid.specs.Boundary.{Bounded, boundary_of}
use Rattle.grid.specs.declared.boundary.FrameGrid.{FrameGrid}
use Rattle.path_pieces.specs.declared.lengths.Lengths.{Lengths}
use Rattle.path_tests.specs.Refusal.{max_count}
use Rattle.plan_settings.specs.declared.config.PlanConfig.{PlanConfig}

-- what the settings' durations need to fit in 64 bits as samples: tests 1 and 7 have passed
pub record Timed (g : FrameGrid) (settings : PlanConfig) : Type 0 where
  pub rate : g.sample_rate ≤ max_rate
  pub min_time : settings.min ≤ max_duration
  pub target_time : settings.target ≤ max_duration
  pub max_time : settings.max ≤ max_duration

-- what a span's length over a count needs: both boundaries fit in 64 bits, the first is not above the last, and length and count are exact as floats
pub record InPieces (g : FrameGrid) (first last count : ℕ) : Type 0 where
  pub bounded : Bounded g
  pub forward : boundary_of g first ≤ boundary_of g last
  pub within : boundary_of g last ≤ max_len
  pub few : count ≤ max_count

-- the minimum in samples, a float; a piece shorter than it has flag `s`
abbrev pub minimum_in : FrameGrid → PlanConfig → Float
minimum_in g settings = samples_in g.sample_rate settings.min

-- the maximum in samples, rounded down; a piece longer than it has flag `l`, whatever the reach
abbrev pub maximum_in : FrameGrid → PlanConfig → ℕ
maximum_in g settings = samples_floor g.sample_rate settings.max

-- the target by length: the settings' target in samples
abbrev pub target_by_length : FrameGrid → PlanConfig → Float
target_by_length g settings = samples_in g.sample_rate settings.target

-- the target by count: the length of the span from boundary first to boundary last, over the count
unfoldable pub target_by_count : FrameGrid → ℕ → ℕ → ℕ → Float
target_by_count g first last count = div binary64 (of_int binary64 (pos (boundary_of g last - boundary_of g first))) (of_int binary64 (pos count))

-- what is preferred with this target, under this limit: document 01's "the limit is the maximum, or the reach once one was sought"
unfoldable pub lengths_with : FrameGrid → PlanConfig → Float → ℕ → Lengths
lengths_with g settings target limit = record { min = minimum_in g settings; target = target; limit = limit; weights = settings.weights }

-- by length the limit is the maximum
abbrev pub lengths_by_length : FrameGrid → PlanConfig → Lengths
lengths_by_length g settings = lengths_with g settings (target_by_length g settings) (maximum_in g settings)

-- by count it is the maximum at first, and then the reach
abbrev pub lengths_by_count : FrameGrid → PlanConfig → ℕ → ℕ → ℕ → ℕ → Lengths
lengths_by_count g settings first last count limit = lengths_with g settings (target_by_count g first last count) limit
