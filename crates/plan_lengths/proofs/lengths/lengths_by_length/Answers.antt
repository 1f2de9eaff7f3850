-- `lengths::lengths_by_length` hands the settings' target and the maximum on.
use Rattle.plan_lengths.proofs.lengths.lengths_by_length.Goals as goal

pub returns : goal.returns
returns c = rw (c.lengths_with.ensures, c.maximum.ensures, c.samples_in-target.ensures)
