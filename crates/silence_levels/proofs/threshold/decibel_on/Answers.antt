-- `threshold::decibel_on` takes its operations in the order of `decibel_on`.
use lib.Ieee.{of_bits, of_int}
use Rattle.silence_levels.specs.ThresholdLaws.{on_lowered, on_stays}
use Rattle.silence_levels.proofs.threshold.decibel_on.Goals as goal

pub returns-then-on-reference : goal.returns-then-on-reference
unfolding of_bits of_int
returns-then-on-reference c = on_lowered _ _ _ _ c.min.ensures c.max-on.ensures c.if-on-reference.true

pub returns-else-on-reference : goal.returns-else-on-reference
unfolding of_bits of_int
returns-else-on-reference c = on_stays _ _ _ _ c.min.ensures c.max-on.ensures c.if-on-reference.false
