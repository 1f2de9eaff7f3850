-- Document 01's "frame grid": where the boundaries between frames stand, and which grids cover a length.
-- `boundary_of` and `covers` are what contracts cite; their laws are in BoundaryLaws.
use Rattle.std.specs.Prelude.{ℕ, ◌+◌, ◌-◌, ◌*◌, ◌/◌, ◌≤◌, ◌<◌, Bool, ◌&&◌, cond, ltb, eqb}
use Rattle.grid.specs.Limits.{max_rate, max_hop, max_frames}
use Rattle.grid.specs.declared.boundary.FrameGrid.{FrameGrid}

-- what the arithmetic on a grid needs to fit in 64 bits
pub record Bounded (g : FrameGrid) : Type 0 where
  pub rate : g.sample_rate ≤ max_rate
  pub divisor : 0 < g.frame_rate
  pub hop : g.hop ≤ max_hop
  pub frames : g.frames ≤ max_frames

-- the first sample of frame k: floor(k × hop × rate / frame rate), whatever the length
unfoldable pub start_of : FrameGrid → ℕ → ℕ
start_of g k = k * (g.hop * g.sample_rate) / g.frame_rate

-- document 01's "boundary k": the start of frame k, and the length where k is the frame count or more
unfoldable pub boundary_of : FrameGrid → ℕ → ℕ
boundary_of g k = cond (ltb k g.frames) (start_of g k) g.len

-- the frames cover the length "as `validate` says": the last frame starts before the length, and less than one hop is missing at the end
unfoldable pub covers : FrameGrid → Bool
covers g =
    cond (eqb g.len 0) (eqb g.frames 0)
    (ltb 0 g.frames && ltb (start_of g (g.frames - 1)) g.len && ltb g.len (start_of g (g.frames + 1)))
