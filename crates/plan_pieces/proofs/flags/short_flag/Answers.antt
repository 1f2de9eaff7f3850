-- `flags::short_flag` tests as the definition does; a length is far below 2 ^ 53, so its cast is exact.
use Prim.Native.Nat.{◌^◌}
use lib.Dec.{le→leb}
use lib.Ieee.{in_float}
use Rattle.std.proofs.Common.{arith}
use Rattle.plan_pieces.specs.FlagsLaws.{short_told}
use Rattle.plan_pieces.proofs.flags.short_flag.Goals as goal

pub int_to_float-len : goal.int_to_float-len
unfolding in_float
int_to_float-len c = le→leb c.args.len (2 ^ 53) (omega arith)

pub returns : goal.returns
returns c = short_told c.args.min c.args.len c.from.result c.from.ensures
