-- The two tests of `min_of`, in order.
use Rattle.std.proofs.Common.{rules}
use Rattle.base_terms.specs.Floats.{min_of}
use Rattle.base_code.proofs.floats.min.Goals as goal
use Rattle.base_code.proofs.floats.min.Goals.{then-at_most, else-at_most}

pub returns-then-no_number : goal.returns-then-no_number
unfolding min_of
returns-then-no_number g c = elim c.if-at_most.branch [ then-at_most w ↦ search rules | else-at_most w ↦ search rules ]

pub returns-else-no_number : goal.returns-else-no_number
unfolding min_of
returns-else-no_number g c = elim c.if-at_most.branch [ then-at_most w ↦ search rules | else-at_most w ↦ search rules ]
