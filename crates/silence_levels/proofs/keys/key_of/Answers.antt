-- `keys::key_of`: the two branches are those of `place_of`, and a bit pattern is below 2^32.
use Rattle.base_laws.specs.Tests.{holds}
use lib.Ieee.{binary32}
use lib.Ieee.Bits.{to_bits-lt}
use Rattle.std.proofs.Common.{arith}
use Rattle.silence_levels.proofs.keys.key_of.Goals as goal

pub overflow_sub-result : goal.overflow_sub-result
overflow_sub-result c = let l = to_bits-lt binary32 c.args.x (holds c.well_formed.0.1) in omega arith
