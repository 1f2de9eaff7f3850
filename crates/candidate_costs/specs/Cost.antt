-- Document 01's cost of a cut, as the Rust's `cut_cost` adds it up.
use Rattle.std.specs.Prelude.{Float}
use Rattle.std.specs.Float.{binary64}
use Rattle.std.specs.Float.Ieee.{add, sub, mul, div}
use Rattle.base_terms.specs.Floats.{min_of}
use Rattle.grid.specs.Durations.{seconds_of}
use Rattle.path_pieces.specs.declared.weights.Weights.{Weights}
use Rattle.candidate_costs.specs.Normalize.{unit}

-- how much of the pause reference a stretch of so many seconds reaches, 1 at most
unfoldable pub pause_of : Weights → Float → Float
pause_of w secs = min_of (div binary64 secs (seconds_of w.pause_ref)) unit

-- what a cut costs at this level, in a stretch of so many seconds: the fixed cost, the level's and then what the pause lacks
unfoldable pub cut_cost : Weights → Float → Float → Float
cut_cost w level secs =
    add binary64 (add binary64 w.cut (mul binary64 w.level level)) (mul binary64 w.pause (sub binary64 unit (pause_of w secs)))
