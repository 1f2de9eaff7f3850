-- The product is exact, and the divisor is not 0: the hop is not.
use Rattle.grid.specs.Durations.{frames_floor}
use Rattle.grid.proofs.durations.frames_floor.Goals as goal

pub returns : goal.returns
unfolding frames_floor
returns c = cc
