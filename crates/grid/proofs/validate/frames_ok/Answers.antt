-- The limits of frame rate and hop first; then the product of two u32, which fits in 64 bits.
use Rattle.std.proofs.Common.{rules}
use Rattle.grid.specs.Validate.{frames_ok}
use Rattle.grid.proofs.validate.frames_ok.Goals as goal

pub returns-then-frame_step_ok : goal.returns-then-frame_step_ok
unfolding frames_ok
returns-then-frame_step_ok c = search rules

pub returns-else-frame_step_ok : goal.returns-else-frame_step_ok
unfolding frames_ok
returns-else-frame_step_ok c = search rules
