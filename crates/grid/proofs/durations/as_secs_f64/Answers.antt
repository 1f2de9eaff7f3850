-- Whole seconds and remaining nanoseconds are both exact as f64.
use Prim.Native.Nat.{◌/◌, ◌%◌, ◌^◌}
use lib.Dec.{le→leb}
use lib.Ieee.{in_float}
use Rattle.grid.specs.Durations.{seconds_of}
use Rattle.std.proofs.Common.{rules}
use Rattle.std.proofs.Common.{arith}
use Rattle.grid.proofs.durations.as_secs_f64.Goals as goal

pub int_to_float-result : goal.int_to_float-result
unfolding in_float
int_to_float-result c = le→leb (c.args.nanos / 1000000000) (2 ^ 53) (omega arith)

pub int_to_float-result-2 : goal.int_to_float-result-2
unfolding in_float
int_to_float-result-2 c = le→leb (c.args.nanos % 1000000000) (2 ^ 53) (omega arith)

pub int_to_float-result-3 : goal.int_to_float-result-3
unfolding in_float
int_to_float-result-3 c = search rules

pub returns : goal.returns
unfolding seconds_of
returns c = cc
