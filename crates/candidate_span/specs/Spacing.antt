-- The spacing of a plan's candidates and its padding, as the Rust's `plan` takes them from the settings. Durations are in nanoseconds.
-- `spacing_of` is what contracts cite; what its parts need to fit in 64 bits is in SpacingLaws.
use Rattle.std.specs.Prelude.{ℕ, ◌-◌, ◌*◌, ◌/◌, min, max}
use Rattle.grid.specs.Limits.{nanos_per_sec}
use Rattle.grid.specs.Durations.{frames_in, frames_floor, samples_floor}
use Rattle.grid.specs.Boundary.{boundary_of}
use Rattle.grid.specs.declared.boundary.FrameGrid.{FrameGrid}
use Rattle.candidate_span.specs.declared.padding.Padding.{Padding}
use Rattle.candidate_span.specs.declared.spacing.Spacing.{Spacing}

-- the block's duration: half of maximum less minimum, an eighth of the maximum at least, a second at most
abbrev pub block_time : ℕ → ℕ → ℕ
block_time least most = min (max ((most - least) / 2) (most / 8)) nanos_per_sec

-- a duration in whole frames of a grid, rounded down
abbrev pub floor_in : FrameGrid → ℕ → ℕ
floor_in g ns = frames_floor g.frame_rate g.hop ns

-- document 01's "block", in frames: at least one
unfoldable pub block_of : FrameGrid → ℕ → ℕ → ℕ
block_of g least most = max 1 (floor_in g (block_time least most))

-- the cap of the padding: the maximum less two blocks
abbrev pub padding_cap : FrameGrid → ℕ → ℕ → ℕ
padding_cap g block most = floor_in g most - 2 * block

-- the padding: silence kept beside sound, in frames, rounded half up, and at most the cap
unfoldable pub padding_of : FrameGrid → ℕ → ℕ → ℕ
padding_of g cap ns = min (frames_in g.frame_rate g.hop ns) cap

-- the grid's edge limit, in samples: the maximum less two blocks, a block measured from the recording's start
unfoldable pub edge_limit_of : FrameGrid → ℕ → ℕ → ℕ
edge_limit_of g block most = samples_floor g.sample_rate most - 2 * boundary_of g (min block g.frames)

-- all of them, for padding before and after sound, the minimum and the maximum
unfoldable pub spacing_of : FrameGrid → ℕ → ℕ → ℕ → ℕ → Spacing
spacing_of g pre tail least most =
    let block = block_of g least most in
    let cap = padding_cap g block most in
    let padding : Padding = record { frames = g.frames; pre = padding_of g cap pre; tail = padding_of g cap tail } in
    record { block = block; edge_limit = edge_limit_of g block most; padding = padding }
