-- `candidate::node`: by computation.
use Rattle.std.proofs.Common.{rules}
use lib.Ieee.{of_bits}
use Rattle.candidates.proofs.candidate.node.Goals as goal

pub returns : goal.returns
unfolding of_bits
returns c = search rules
