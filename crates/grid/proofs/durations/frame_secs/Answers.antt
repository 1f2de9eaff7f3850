-- Two u32 are exact as f64, and the divisor is not a NaN.
use Rattle.grid.specs.Durations.{frame_secs_of}
use Rattle.grid.proofs.durations.frame_secs.Goals as goal

pub returns : goal.returns
unfolding frame_secs_of
returns c = cc
