-- Product and half the divisor fit in 64 bits together, and the divisor is not 0.
use Rattle.grid.specs.Durations.{frames_in}
use Rattle.grid.specs.FitLaws.{frames_fit}
use Rattle.std.proofs.Common.{arith}
use Rattle.grid.proofs.durations.frames_in.Goals as goal

pub overflow_add-result : goal.overflow_add-result
overflow_add-result c = omega (arith, frames_fit c.args.frame_rate c.args.hop c.args.nanos c.requires)

pub returns : goal.returns
unfolding frames_in
returns c = cc
