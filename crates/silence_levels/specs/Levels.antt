-- Document 01's "percentiles 10 and 99 and the thresholds as in `Levels::new`", over the frames with flag 0.
use Rattle.std.specs.Prelude.{List, [], ◌∷◌, ℕ, Float}
use Rattle.grid.specs.declared.validate.Domain.{Domain}
use Rattle.silence_levels.specs.declared.threshold.Threshold.{Threshold}
use Rattle.silence_levels.specs.declared.threshold.Levels.{Levels}
use Rattle.silence_levels.specs.declared.threshold.Thresholds.{Thresholds}
use Rattle.silence_levels.specs.Keys.{with_signal}
use Rattle.silence_levels.specs.Percentile.{percentile_of}
use Rattle.silence_levels.specs.Threshold.{no_signal, resolve_of}

-- the levels of some values
unfoldable pub levels_over : Domain → Threshold → List Float → Levels
levels_over domain threshold [] = no_signal
levels_over domain threshold (v ∷ vs) = resolve_of domain threshold (percentile_of (v ∷ vs) 10) (percentile_of (v ∷ vs) 99)

-- the levels of a recording's values and flags
unfoldable pub levels_of : Domain → Threshold → List Float → List ℕ → Levels
levels_of domain threshold values flags = levels_over domain threshold (with_signal values flags)

-- the thresholds of some levels
abbrev pub thresholds_in : Levels → Thresholds
thresholds_in l = record { on = l.on; off = l.off }

-- its thresholds alone
unfoldable pub thresholds_of : Domain → Threshold → List Float → List ℕ → Thresholds
thresholds_of domain threshold values flags = thresholds_in (levels_of domain threshold values flags)
