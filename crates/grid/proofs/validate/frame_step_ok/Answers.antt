-- The two limits, in order.
use Rattle.std.proofs.Common.{rules}
use Rattle.grid.specs.Validate.{frame_step_ok}
use Rattle.grid.proofs.validate.frame_step_ok.Goals as goal

pub returns-then-is_up_to : goal.returns-then-is_up_to
unfolding frame_step_ok
returns-then-is_up_to c = search rules

pub returns-else-is_up_to : goal.returns-else-is_up_to
unfolding frame_step_ok
returns-else-is_up_to c = search rules
