-- `stretch::secs_of`: a u32 is exact as an f64.
use Rattle.std.proofs.Common.{rules}
use lib.Ieee.{mul}
use Rattle.candidate_costs.specs.Stretch.{secs_of}
use Rattle.candidate_costs.proofs.stretch.secs_of.Goals as goal

pub returns : goal.returns
unfolding secs_of mul
returns c = search rules
