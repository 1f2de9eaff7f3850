-- The three kinds, in order, and any other number.
use Rattle.std.proofs.Common.{tests, rules}
use lib.Ieee.{of_bits}
use Rattle.kinds.specs.Numbered.{placement_of}
use Rattle.kinds.proofs.numbered.placement_of.Goals as goal

pub returns-in-0 : goal.returns-in-0
unfolding placement_of
returns-in-0 c = rw c.in-0.is

pub returns-in-1 : goal.returns-in-1
unfolding placement_of
returns-in-1 c = rw c.in-1.is

pub returns-in-2 : goal.returns-in-2
unfolding placement_of
returns-in-2 c = rw c.in-2.is

pub returns-in_default : goal.returns-in_default
unfolding placement_of of_bits
returns-in_default c = search (tests, rules)
