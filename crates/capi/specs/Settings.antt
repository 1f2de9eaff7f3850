-- The settings of a plan, as C hands them over.
use Rattle.std.specs.Prelude.{ℕ, Bool, Float}
use Rattle.path_pieces.specs.declared.weights.Weights.{Weights}
use Rattle.plan_settings.specs.declared.config.PlanConfig.{PlanConfig}
use Rattle.kinds.specs.Flagged.{gap_of, mode_of}
use Rattle.kinds.specs.Numbered.{placement_of}

-- the weights with these numbers, the pause reference in nanoseconds
abbrev pub weights_of : Float → Float → Float → ℕ → Float → Float → Weights
weights_of cut level pause reference target short = record { cut = cut; level = level; pause = pause; pause_ref = reference; target = target; short = short }

-- the settings with these numbers
abbrev pub plan_config_of : ℕ → ℕ → ℕ → Bool → ℕ → Bool → ℕ → Float → Weights → PlanConfig
plan_config_of least target most by_count count dropGaps kind ratio weights = record {
  min = least;
  target = target;
  max = most;
  mode = mode_of by_count count;
  gap = gap_of dropGaps;
  placement = placement_of kind ratio;
  weights = weights;
}
