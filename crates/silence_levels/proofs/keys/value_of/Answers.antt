-- `keys::value_of`: the two branches are those of `pattern_of`, and the pattern is no NaN's, since the value is none.
use borrow.Author.Tests.{lt-ltb, le-ltb}
use lib.Ieee.{binary32}
use lib.Ieee.Bits.{nan_bits_is}
use Rattle.silence_levels.specs.Keys.{pattern_of, value_of}
use Prim.Native.Nat.{◌-◌}
use Rattle.silence_levels.proofs.keys.value_of.Goals as goal

pub float_from_bits-result : goal.float_from_bits-result
unfolding value_of pattern_of
float_from_bits-result c = rw (nan_bits_is binary32 (4294967295 - c.args.k)) (rw (lt-ltb _ _ c.if-k-lt2147483648.true) at c.requires)

pub float_from_bits-result-else-k-lt2147483648 : goal.float_from_bits-result-else-k-lt2147483648
unfolding value_of pattern_of
float_from_bits-result-else-k-lt2147483648 c = rw (nan_bits_is binary32 (c.args.k - 2147483648)) (rw (le-ltb _ _ c.if-k-lt2147483648.false) at c.requires)

pub returns-then-k-lt2147483648 : goal.returns-then-k-lt2147483648
unfolding value_of pattern_of
returns-then-k-lt2147483648 c = rw (lt-ltb _ _ c.if-k-lt2147483648.true)

pub returns-else-k-lt2147483648 : goal.returns-else-k-lt2147483648
unfolding value_of pattern_of
returns-else-k-lt2147483648 c = rw (le-ltb _ _ c.if-k-lt2147483648.false)
