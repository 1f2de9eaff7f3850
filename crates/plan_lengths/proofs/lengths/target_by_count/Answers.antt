-- `lengths::target_by_count` divides as the definition does; span and count are far below 2 ^ 53, so their casts are exact.
use Prim.Native.Nat.{◌-◌, ◌^◌}
use lib.Dec.{le→leb}
use lib.Ieee.{in_float}
use Rattle.std.proofs.Common.{arith}
use Rattle.plan_lengths.specs.PlanLengths.{target_by_count}
use Rattle.plan_lengths.proofs.lengths.target_by_count.Goals as goal

pub int_to_float-result : goal.int_to_float-result
unfolding in_float
int_to_float-result c = le→leb (c.position.result - c.position-2.result) (2 ^ 53) (omega arith)

pub int_to_float-result-2 : goal.int_to_float-result-2
unfolding in_float
int_to_float-result-2 c = le→leb c.args.count (2 ^ 53) (omega arith)

pub returns : goal.returns
unfolding target_by_count
returns c = rw (c.position-2.ensures, c.position.ensures)
