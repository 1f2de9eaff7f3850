-- `costs::is_cost`: the two comparisons are those of `is_cost`.
use lib.Ieee.{of_bits, div}
use Rattle.path_tests.specs.Costs.{is_cost}
use Rattle.path_tests.proofs.costs.is_cost.Goals as goal

pub returns-then-x : goal.returns-then-x
unfolding is_cost of_bits div
returns-then-x c = rw c.if-x.true

pub returns-else-x : goal.returns-else-x
unfolding is_cost of_bits div
returns-else-x c = rw c.if-x.false
