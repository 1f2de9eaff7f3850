-- A number that is present takes eight bytes.
use Rattle.job.specs.Fields.{u64_field}
use Rattle.job.specs.ReadsLaws.{same_job}
use Rattle.job.proofs.fields.Fields.u64_or.Goals as goal

pub returns-then-not-has-clause-read : goal.returns-then-not-has-clause-read
unfolding u64_field
returns-then-not-has-clause-read c = record { part_is = rw (← c.has.ensures, c.if-not-has.true); same = same_job }

pub returns-clause-read : goal.returns-clause-read
unfolding u64_field
returns-clause-read c = record { part_is = rw (← c.has.ensures, c.if-not-has.false, c.next.ensures.value, c.next.ensures.next); same = c.next.ensures.same }
