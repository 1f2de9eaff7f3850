-- A kind that is present takes a byte; absent it is 0, which is known.
use borrow.Author.Tests.{le-leb, lt-leb}
use Rattle.std.proofs.Common.{arith, refl}
use Rattle.job.specs.Fields.{kind_field}
use Rattle.job.specs.ReadsLaws.{same_job}
use Rattle.job.proofs.fields.Fields.kind.Goals as goal

pub returns-then-not-present-clause-read : goal.returns-then-not-present-clause-read
unfolding kind_field
returns-then-not-present-clause-read c = (rw (c.if-not-present.true, le-leb 0 c.args.most (omega arith)), same_job)

pub returns-then-most-number-clause-read : goal.returns-then-most-number-clause-read
unfolding kind_field
returns-then-most-number-clause-read c = (
  rw (c.if-not-present.false, ← c.byte_at-number.ensures, lt-leb c.byte_at-number.result c.args.most c.if-most-number.true),
  record { same_bytes = refl; same_map = refl },
  refl,
)

pub returns-clause-read : goal.returns-clause-read
unfolding kind_field
returns-clause-read c = (
  rw (c.if-not-present.false, ← c.byte_at-number.ensures, le-leb c.byte_at-number.result c.args.most c.if-most-number.false),
  record { same_bytes = refl; same_map = refl },
)
