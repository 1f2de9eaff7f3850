-- "The length in seconds of the below-off stretch at a boundary": `quiet_runs` of the crate silence_runs gives for each frame the length of its stretch in frames.
use Rattle.std.specs.Prelude.{List, [], ◌∷◌, ℕ, max, pos, Float}
use Rattle.std.specs.Float.{binary64}
use Rattle.std.specs.Float.Ieee.{mul, of_int}
use Rattle.candidate_costs.specs.Window.{clipped}

-- the greatest of some numbers, 0 of none
unfoldable pub most_of : List ℕ → ℕ
most_of [] = 0
most_of (x ∷ xs) = max x (most_of xs)

-- the longer stretch of the frames around boundary k, in frames
unfoldable pub stretch_at : List ℕ → ℕ → ℕ
stretch_at runs k = most_of (clipped 1 1 runs k)

-- so many frames in seconds, where a frame lasts so long
unfoldable pub secs_of : Float → ℕ → Float
secs_of frame_secs_of frames = mul binary64 (of_int binary64 (pos frames)) frame_secs_of
