-- Each end has the numbers that the definition gives where the two tests fell so.
use borrow.Author.Tests.{eq-eqb, ne_eqb}
use Rattle.answers_jobs.specs.Tally.{with_record}
use Rattle.answers_jobs.proofs.report.with_record.Goals as goal

pub returns-then-not-same : goal.returns-then-not-same
unfolding with_record
returns-then-not-same c = rw c.if-not-same.true

pub returns-then-t-eq0 : goal.returns-then-t-eq0
unfolding with_record
returns-then-t-eq0 c = rw (c.if-not-same.false, eq-eqb _ _ c.if-t-eq0.true)

pub returns : goal.returns
unfolding with_record
returns c = rw (c.if-not-same.false, ne_eqb _ _ c.if-t-eq0.false)
