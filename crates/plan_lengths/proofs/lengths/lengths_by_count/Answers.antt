-- `lengths::lengths_by_count` hands the target by count and the limit on.
use Rattle.plan_lengths.proofs.lengths.lengths_by_count.Goals as goal

pub returns : goal.returns
returns c = rw (c.lengths_with.ensures, c.target_by_count-target.ensures)
