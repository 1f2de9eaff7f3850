-- The flags of decibels lie in the job, and those of scores are 0.
use Rattle.job.specs.Job.{flags_in}
use Rattle.job.specs.JobLaws.{flags_inside}
use Rattle.job.proofs.lists.put_flags.Goals as goal

pub copy_bytes-requires : goal.copy_bytes-requires
copy_bytes-requires c = record { s_in_bounds = flags_inside c.requires.within c.in-Decibels.is; list_in_bounds = c.requires.frames_in_bounds }

pub returns-in-Decibels : goal.returns-in-Decibels
unfolding flags_in
returns-in-Decibels c = rw c.in-Decibels.is c.copy_bytes.ensures

pub returns-in-Scores : goal.returns-in-Scores
unfolding flags_in
returns-in-Scores c = rw c.in-Scores.is c.put_zeros.ensures
