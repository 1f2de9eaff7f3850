-- The candidates of a recording under its settings: what they are made from, and the list itself.
-- `candidates_in` is what contracts and theorems cite. `levels` are those that the caller lends for decibels.
use Rattle.std.specs.Prelude.{ℕ, cond, List, [], Float, length}
use Rattle.grid.specs.Durations.{frame_secs_of}
use Rattle.grid.specs.declared.validate.Recording.{Recording}
use Rattle.silence_levels.specs.Levels.{levels_of}
use Rattle.silence_levels.specs.declared.threshold.Levels.{Levels}
use Rattle.silence_runs.specs.Quiet.{below_off, quiet_runs}
use Rattle.silence_list.specs.Silences.{silences_in}
use Rattle.silence_list.specs.declared.config.SegmentConfig.{SegmentConfig}
use Rattle.plan_settings.specs.declared.config.PlanConfig.{PlanConfig}
use Rattle.candidate_span.specs.declared.padding.Padding.{Padding}
use Rattle.candidate_points.specs.Points.{grid_points}
use Rattle.candidate_costs.specs.Window.{width_of}
use Rattle.candidate_costs.specs.Level.{boundary_levels}
use Rattle.candidates.specs.Candidates.{candidates_of, all_listed}
use Rattle.candidates.specs.declared.candidate.Candidate.{Candidate}
use Rattle.candidates.specs.declared.context.Context.{Context}
use Rattle.candidate_finder.specs.SpanIn.{spacing_in, padding_in, empty_in, first_in, last_in, blocked_in}

-- ---- what candidates are made from

-- percentiles and thresholds, under the segment settings
abbrev pub recording_levels : Recording → SegmentConfig → List Float → List ℕ → Levels
recording_levels r segment values flags = levels_of r.domain segment.threshold values flags

-- for each frame the length of its stretch below off
unfoldable pub runs_in : Recording → SegmentConfig → List Float → List ℕ → List ℕ
runs_in r segment values flags = quiet_runs (below_off (recording_levels r segment values flags).off values flags)

-- the level at each frame boundary, from 0 to 1
unfoldable pub boundary_levels_in : Recording → SegmentConfig → List Float → List ℕ → List Float → List Float
boundary_levels_in r segment values flags levels = boundary_levels r.domain (recording_levels r segment values flags) (width_of r.frame_rate r.hop) values levels

-- the settings and numbers that every candidate is made with
abbrev pub context_with : Recording → PlanConfig → Padding → Context
context_with r settings padding = record {
  gap = settings.gap;
  placement = settings.placement;
  weights = settings.weights;
  frame_secs = frame_secs_of r.frame_rate r.hop;
  padding = padding;
}

-- the same, of a recording of so many frames
abbrev pub context_of : Recording → SegmentConfig → PlanConfig → ℕ → Context
context_of r segment settings frames = context_with r settings (padding_in r segment settings frames)

-- ---- the candidates

-- document 01's "one grid point for each block", strictly inside the span
abbrev pub grid_points_in : Recording → SegmentConfig → PlanConfig → List Float → List ℕ → List Float → List ℕ
grid_points_in r segment settings values flags levels =
    grid_points (blocked_in r segment settings values flags) (boundary_levels_in r segment values flags levels) (spacing_in r segment settings (length values)).block
    (first_in r segment settings values flags) (last_in r segment settings values flags)

-- the candidates as they are listed: the silences' own, then the grid points
abbrev pub listed_in : Recording → SegmentConfig → PlanConfig → List Float → List ℕ → List Float → List Candidate
listed_in r segment settings values flags levels =
    all_listed (context_of r segment settings (length values)) (silences_in r segment values flags) (runs_in r segment values flags) (boundary_levels_in r segment values flags levels)
    (grid_points_in r segment settings values flags levels)

-- document 01's candidates of a plan, before completion adds to them: none where the span is empty
unfoldable pub candidates_in : Recording → SegmentConfig → PlanConfig → List Float → List ℕ → List Float → List Candidate
candidates_in r segment settings values flags levels =
    cond (empty_in r segment settings values flags) []
    (candidates_of (context_of r segment settings (length values)) (silences_in r segment values flags) (runs_in r segment values flags)
    (boundary_levels_in r segment values flags levels) (grid_points_in r segment settings values flags levels) (first_in r segment settings values flags) (last_in r segment settings values flags))
