-- A count that is present takes four bytes.
use Rattle.job.specs.Settings.{mode_at}
use Rattle.job.specs.ReadsLaws.{same_job}
use Rattle.job.proofs.settings.mode_at.Goals as goal

pub returns-then-not-has-clause-read : goal.returns-then-not-has-clause-read
unfolding mode_at
returns-then-not-has-clause-read c = record { part_is = rw (← c.has.ensures, c.if-not-has.true); same = same_job }

pub returns-clause-read : goal.returns-clause-read
unfolding mode_at
returns-clause-read c = record { part_is = rw (← c.has.ensures, c.if-not-has.false, c.next.ensures.value, c.next.ensures.next); same = c.next.ensures.same }
