-- The level at each frame boundary: the mean of the smoothed and normalised levels of the frames around it.
use Rattle.std.specs.Prelude.{List, ℕ, suc, Float, length, get_or}
use Rattle.std.specs.Float.{nan}
use Rattle.base_terms.specs.Lists.{tabulate}
use Rattle.grid.specs.declared.validate.Domain.{Domain}
use Rattle.grid.specs.declared.validate.Domain.TheVariants.{Decibels, Scores}
use Rattle.silence_levels.specs.declared.threshold.Levels.{Levels}
use Rattle.candidate_costs.specs.Window.{clipped, window_of, mean_of}
use Rattle.candidate_costs.specs.Normalize.{normalize_of}

-- document 01's `smoothed` of frame i: for scores the mean of its window, for decibels the level that the caller lends
unfoldable pub smoothed_at : Domain → ℕ → List Float → List Float → ℕ → Float
smoothed_at Scores width values levels i = mean_of (window_of width values i)
smoothed_at Decibels width values levels i = get_or levels i nan

-- the level of frame i
unfoldable pub frame_level : Domain → Levels → ℕ → List Float → List Float → ℕ → Float
frame_level domain scale width values levels i = normalize_of domain scale (smoothed_at domain width values levels i)

-- the level of boundary k, from the levels of the frames: the mean of the frame before it and the one after it, or of the only one at either end
unfoldable pub level_at : List Float → ℕ → Float
level_at frames k = mean_of (clipped 1 1 frames k)

-- the levels of all boundaries, one more than there are frames
unfoldable pub boundary_levels : Domain → Levels → ℕ → List Float → List Float → List Float
boundary_levels domain scale width values levels =
    tabulate (level_at (tabulate (frame_level domain scale width values levels) (length values))) (suc (length values))
