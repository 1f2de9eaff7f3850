-- Duration and rate are exact as floats: their product is rounded once, and then divided.
use Prim.Native.Nat.{◌^◌}
use lib.Dec.{le→leb}
use lib.Ieee.{in_float}
use Rattle.std.proofs.Common.{rules}
use Rattle.std.proofs.Common.{arith}
use Rattle.grid.specs.FitLaws.{samples_once}
use Rattle.grid.proofs.durations.samples_in.Goals as goal

pub int_to_float-result : goal.int_to_float-result
unfolding in_float
int_to_float-result c = le→leb c.args.nanos (2 ^ 53) (omega arith)

pub int_to_float-result-2 : goal.int_to_float-result-2
unfolding in_float
int_to_float-result-2 c = search rules

pub int_to_float-result-3 : goal.int_to_float-result-3
unfolding in_float
int_to_float-result-3 c = search rules

pub returns : goal.returns
returns c = samples_once c.args.sample_rate c.args.nanos c.requires
