-- `lengths::lengths_with` puts the four parts together.
use Rattle.plan_lengths.specs.PlanLengths.{lengths_with}
use Rattle.plan_lengths.proofs.lengths.lengths_with.Goals as goal

pub returns : goal.returns
unfolding lengths_with
returns c = rw c.samples_in.ensures
