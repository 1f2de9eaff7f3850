-- `Lengths::long_cost` is the length cost where the test of the minimum fails.
use Prim.Native.Nat.{◌^◌}
use lib.Dec.{le→leb}
use lib.Ieee.{in_float}
use Rattle.std.proofs.Common.{arith}
use Rattle.base_terms.specs.Lengths.{square, off_of, length_cost}
use Rattle.path_pieces.specs.Pieces.{length_cost_of}
use Rattle.path_pieces.proofs.lengths.Lengths.long_cost.Goals as goal

pub int_to_float-off : goal.int_to_float-off
unfolding in_float
int_to_float-off c = le→leb c.args.len (2 ^ 53) (omega arith)

pub returns : goal.returns
unfolding length_cost_of length_cost square off_of
returns c = rw c.requires.not_short
