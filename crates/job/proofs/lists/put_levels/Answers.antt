-- The levels of decibels lie in the job, and scores have none.
use mathlib.Core.Path.{sym}
use Rattle.base_code.specs.FrontLaws.{onto_nil}
use Rattle.job.specs.Job.{levels_in}
use Rattle.job.specs.JobLaws.{levels_inside}
use Rattle.job.proofs.lists.put_levels.Goals as goal

pub copy-requires : goal.copy-requires
copy-requires c = record { s_in_bounds = levels_inside c.requires.within c.in-Decibels.is; list_in_bounds = c.requires.frames_in_bounds }

pub returns-in-Decibels : goal.returns-in-Decibels
unfolding levels_in
returns-in-Decibels c = rw c.in-Decibels.is c.copy.ensures

pub returns-in-Scores : goal.returns-in-Scores
unfolding levels_in
returns-in-Scores c = rw c.in-Scores.is (sym (onto_nil c.args.levels.now))
