-- Raised by the first test, lowered by the second.
use Rattle.std.proofs.Common.{rules}
use Rattle.base_terms.specs.Floats.{clamp_of}
use Rattle.base_code.proofs.floats.clamp.Goals as goal
use Rattle.base_code.proofs.floats.clamp.Goals.{then-below, else-below}

pub returns-then-below-2 : goal.returns-then-below-2
unfolding clamp_of
returns-then-below-2 g c = elim c.if-below.branch [ then-below w ↦ search rules | else-below w ↦ search rules ]

pub returns-else-below-2 : goal.returns-else-below-2
unfolding clamp_of
returns-else-below-2 g c = elim c.if-below.branch [ then-below w ↦ search rules | else-below w ↦ search rules ]
