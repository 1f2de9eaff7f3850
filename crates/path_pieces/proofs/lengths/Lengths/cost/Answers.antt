-- `Lengths::cost` works the cost out in the order of the definition; a length is far below 2 ^ 53, so its cast is exact.
use Prim.Native.Nat.{◌^◌}
use lib.Dec.{le→leb}
use lib.Ieee.{in_float}
use Rattle.std.proofs.Common.{arith}
use Rattle.base_terms.specs.Lengths.{square, off_of, short, length_cost}
use Rattle.path_pieces.specs.Pieces.{length_cost_of}
use Rattle.path_pieces.proofs.lengths.Lengths.cost.Goals as goal

pub int_to_float-len : goal.int_to_float-len
unfolding in_float
int_to_float-len c = le→leb c.args.len (2 ^ 53) (omega arith)

pub returns-then-len-self : goal.returns-then-len-self
unfolding length_cost_of length_cost square off_of short
returns-then-len-self c = rw c.if-len-self.true

pub returns-else-len-self : goal.returns-else-len-self
unfolding length_cost_of length_cost square off_of short
returns-else-len-self c = rw c.if-len-self.false
