-- The values lie in the job.
use Rattle.job.specs.Job.{values_in}
use Rattle.job.specs.JobLaws.{values_inside}
use Rattle.job.proofs.lists.put_values.Goals as goal

pub copy-requires : goal.copy-requires
copy-requires c = record { s_in_bounds = values_inside c.requires.within; list_in_bounds = c.requires.frames_in_bounds }

pub returns : goal.returns
unfolding values_in
returns c = c.copy.ensures
