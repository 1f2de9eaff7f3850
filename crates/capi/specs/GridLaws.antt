-- Numbers that pass the tests of the exported conversions meet what the conversions ask for.
use Rattle.std.specs.Prelude.{ℕ, true, ◌&&◌, ◌≡◌, leb}
use Rattle.std.proofs.Common.{leb-true}
use Rattle.base_laws.specs.Tests.{both}
use Rattle.base_terms.specs.Limits.{max_len}
use Rattle.grid.specs.Limits.{max_rate, max_frame_rate, max_hop, max_frames, max_duration}
use Rattle.grid.specs.Boundary.{Bounded}
use Rattle.grid.specs.Durations.{duration_ok, InFrames, InSamples}
use Rattle.grid.specs.Validate.{rate_ok, frame_step_ok}
use Rattle.grid.specs.ValidateLaws.{within_most, within_pos, step_parts}
use Rattle.grid.specs.declared.boundary.FrameGrid.{FrameGrid}
use Rattle.capi.specs.Grid.{frames_args, samples_args, grid_args}

-- numbers that pass the test can be converted to frames
pub frames_args_lem : (frameRate hop ns : ℕ) → frames_args frameRate hop ns ≡ true → InFrames frameRate hop ns
unfolding frames_args
frames_args_lem frameRate hop ns e =
    let p = both (frame_step_ok frameRate hop) (duration_ok ns) e in
    let q = step_parts frameRate hop p.0 in
    record {
      rate = within_most frameRate max_frame_rate q.0;
      step = within_pos hop max_hop q.1;
      most = within_most hop max_hop q.1;
      time = leb-true ns max_duration p.1;
    }

-- numbers that pass the test can be converted to samples
pub samples_args_lem : (rate ns : ℕ) → samples_args rate ns ≡ true → InSamples rate ns
unfolding samples_args
samples_args_lem rate ns e =
    let p = both (rate_ok rate) (duration_ok ns) e in
    record { rate = within_most rate max_rate p.0; time = leb-true ns max_duration p.1 }

-- and the boundaries of a grid of such numbers fit in 64 bits
pub grid_args_lem : (g : FrameGrid) → grid_args g ≡ true → Bounded g
unfolding grid_args
grid_args_lem g e =
    let p = both (rate_ok g.sample_rate && frame_step_ok g.frame_rate g.hop && leb g.frames max_frames) (leb g.len max_len) e in
    let q = both (rate_ok g.sample_rate && frame_step_ok g.frame_rate g.hop) (leb g.frames max_frames) p.0 in
    let s = both (rate_ok g.sample_rate) (frame_step_ok g.frame_rate g.hop) q.0 in
    let t = step_parts g.frame_rate g.hop s.1 in
    record {
      rate = within_most g.sample_rate max_rate s.0;
      divisor = within_pos g.frame_rate max_frame_rate t.0;
      hop = within_most g.hop max_hop t.1;
      frames = leb-true g.frames max_frames q.1;
    }
