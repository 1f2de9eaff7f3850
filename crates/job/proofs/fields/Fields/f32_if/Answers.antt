-- A float that is present takes four bytes.
use lib.Ieee.{of_bits}
use Rattle.job.specs.Fields.{f32_field}
use Rattle.job.specs.ReadsLaws.{same_job}
use Rattle.job.proofs.fields.Fields.f32_if.Goals as goal

pub returns-then-not-present-clause-read : goal.returns-then-not-present-clause-read
unfolding f32_field of_bits
returns-then-not-present-clause-read c = record { part_is = rw c.if-not-present.true; same = same_job }

pub returns-clause-read : goal.returns-clause-read
unfolding f32_field
returns-clause-read c = record { part_is = rw (c.if-not-present.false, c.next.ensures.value, c.next.ensures.next); same = c.next.ensures.same }
