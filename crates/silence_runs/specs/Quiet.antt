-- Frames below the off threshold, with no hysteresis and no filling, as the Rust's `below_off` finds them, and how long each stretch of them is.
use Rattle.std.specs.Prelude.{ℕ, cond, ◌||◌, List, [], ◌∷◌, eqb, Float}
use Rattle.std.specs.Float.Ieee.{lt}
use Rattle.silence_runs.specs.Runs.{each_run}

-- whether a frame is below off: 1 where its flag is 1 or its value is less
unfoldable pub below_at : Float → Float → ℕ → ℕ
below_at off value flag = cond (eqb flag 1 || lt value off) 1 0

-- the same for each frame
unfoldable pub below_off : Float → List Float → List ℕ → List ℕ
below_off off [] flags = []
below_off off (v ∷ values) [] = []
below_off off (v ∷ values) (f ∷ flags) = below_at off v f ∷ below_off off values flags

-- a run's own length
abbrev pub own : ℕ → ℕ
own n = n

-- for each frame that is below off (1) the length of the run of such frames that it is in, and 0 for any other
unfoldable pub quiet_runs : List ℕ → List ℕ
quiet_runs below = each_run 1 own below
