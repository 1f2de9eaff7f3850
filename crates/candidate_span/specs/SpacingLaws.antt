-- What the conversions of a plan's durations need, and that a block has a frame at least.
use Rattle.std.specs.Prelude.{ℕ, ◌≤◌, ◌<◌, List, Float, length}
use Rattle.std.proofs.Common.{arith}
use Rattle.grid.specs.Limits.{max_frame_rate, max_hop, max_duration, nanos_per_sec}
use Rattle.grid.specs.Durations.{InFrames}
use Rattle.grid.specs.Boundary.{Bounded}
use Rattle.grid.specs.Validate.{grid_of}
use Rattle.grid.specs.ValidateLaws.{AcceptedRecording, passed_bounded, frames_parts, within_most, within_pos}
use Rattle.grid.specs.declared.boundary.FrameGrid.{FrameGrid}
use Rattle.grid.specs.declared.validate.Recording.{Recording}
use Rattle.candidate_span.specs.Spacing.{block_time, block_of}

-- a grid that passed tests 1, 3 and 4, and a duration within refusal 7's limit
pub record Spaced (g : FrameGrid) (ns : ℕ) : Type 0 where
  pub bounded : Bounded g
  pub rate : g.frame_rate ≤ max_frame_rate
  pub step : 0 < g.hop
  pub time : ns ≤ max_duration

-- an accepted recording has such a grid
pub passed_spaced : (r : Recording) (values : List Float) (flags : List ℕ) (levels : List Float) → AcceptedRecording r values flags levels → (ns : ℕ) → ns ≤ max_duration
    → Spaced (grid_of r (length values)) ns
passed_spaced r values flags levels p ns h =
    let f = frames_parts r.sample_rate r.frame_rate r.hop p.frames in
    record {
      bounded = passed_bounded r values flags levels p.rate p.frames p.lists;
      rate = within_most r.frame_rate max_frame_rate f.0;
      step = within_pos r.hop max_hop f.1;
      time = h;
    }

-- a block lasts a second at most
pub block_time_most : (least most : ℕ) → block_time least most ≤ nanos_per_sec
block_time_most least most = omega arith

-- so its conversion to frames fits
pub spaced_block : {g : FrameGrid} {ns : ℕ} (least most : ℕ) → Spaced g ns → InFrames g.frame_rate g.hop (block_time least most)
spaced_block least most s = record { rate = s.rate; step = s.step; most = s.bounded.hop; time = omega (arith, block_time_most least most) }

-- a block has a frame at least
pub block_some : (g : FrameGrid) (least most : ℕ) → 1 ≤ block_of g least most
unfolding block_of
block_some g least most = omega arith
