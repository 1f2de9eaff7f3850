-- What the exported conversions answer: the value where every number is within document 01's limits, and a marker elsewhere.
use Rattle.std.specs.Prelude.{ℕ, Bool, true, ◌&&◌, cond, leb, pos, Float}
use Rattle.std.specs.Float.{fin}
use Rattle.base_terms.specs.Limits.{max_len}
use Rattle.grid.specs.Limits.{max_frames}
use Rattle.grid.specs.Durations.{duration_ok}
use Rattle.grid.specs.Validate.{rate_ok, frame_step_ok}
use Rattle.grid.specs.declared.boundary.FrameGrid.{FrameGrid}
use Rattle.grid.specs.declared.validate.Recording.{Recording}
use Rattle.kinds.specs.Flagged.{domain_of}

-- no whole number: 2^64 − 1, above every answer
abbrev pub no_number : ℕ
no_number = 18446744073709551615

-- no float: −1, below every answer
abbrev pub no_float : Float
no_float = fin true 1 (pos 0)

-- the numbers of a conversion to frames are within their limits
unfoldable pub frames_args : ℕ → ℕ → ℕ → Bool
frames_args frameRate hop ns = frame_step_ok frameRate hop && duration_ok ns

-- the numbers of a conversion to samples
unfoldable pub samples_args : ℕ → ℕ → Bool
samples_args rate ns = rate_ok rate && duration_ok ns

-- the numbers of a grid
unfoldable pub grid_args : FrameGrid → Bool
grid_args g =
    rate_ok g.sample_rate && frame_step_ok g.frame_rate g.hop && leb g.frames max_frames && leb g.len max_len

-- the number where the test passes, and else the marker
abbrev pub number_if : Bool → ℕ → ℕ
number_if within n = cond within n no_number

-- the float where the test passes, and else the marker
abbrev pub float_if : Bool → Float → Float
float_if within x = cond within x no_float

-- a grid's numbers, as C hands them over
abbrev pub grid_with : ℕ → ℕ → ℕ → ℕ → ℕ → FrameGrid
grid_with rate frameRate hop len frames =
    record { sample_rate = rate; frame_rate = frameRate; hop = hop; len = len; frames = frames }

-- a recording's numbers, as C hands them over
abbrev pub recording_of : ℕ → ℕ → ℕ → ℕ → ℕ → Bool → Recording
recording_of rate channels frameRate hop len decibels =
    record { sample_rate = rate; channels = channels; frame_rate = frameRate; hop = hop; len = len; domain = domain_of decibels }
