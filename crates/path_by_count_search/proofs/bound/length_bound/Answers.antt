-- `bound::length_bound` works the bound out in the order of the definition; lengths are far below 2 ^ 53, so their casts are exact.
use Prim.Native.Nat.{◌^◌}
use lib.Dec.{le→leb}
use lib.Ieee.{in_float}
use Rattle.base_terms.specs.Lengths.{square, off_of, short, length_bound}
use Rattle.path_by_count_search.specs.Bound.{length_bound_of}
use Rattle.std.proofs.Common.{arith}
use Rattle.path_by_count_search.proofs.bound.length_bound.Goals as goal

pub int_to_float-min : goal.int_to_float-min
unfolding in_float
int_to_float-min c = le→leb c.args.shortest (2 ^ 53) (omega arith)

pub int_to_float-max : goal.int_to_float-max
unfolding in_float
int_to_float-max c = le→leb c.args.longest (2 ^ 53) (omega arith)

pub returns-then-max-lengths : goal.returns-then-max-lengths
unfolding length_bound_of length_bound square off_of short
returns-then-max-lengths c = rw (← c.clamp-closest.ensures, c.if-max-lengths.true)

pub returns-else-max-lengths : goal.returns-else-max-lengths
unfolding length_bound_of length_bound square off_of short
returns-else-max-lengths c = rw (← c.clamp-closest.ensures, c.if-max-lengths.false)
