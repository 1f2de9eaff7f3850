-- `costs::is_min`: the literals are 0 and 2 ^ 60.
use lib.Ieee.{of_bits}
use Rattle.path_tests.specs.Costs.{is_min}
use Rattle.path_tests.proofs.costs.is_min.Goals as goal

pub returns-then-x : goal.returns-then-x
unfolding is_min of_bits
returns-then-x c = rw c.if-x.true

pub returns-else-x : goal.returns-else-x
unfolding is_min of_bits
returns-else-x c = rw c.if-x.false
