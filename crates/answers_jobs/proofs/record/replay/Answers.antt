-- A record's parts are read one after the other, each where the one before it ends.
use Rattle.std.proofs.Common.{arith}
use Rattle.answers_jobs.specs.RecordLaws.{no_job, no_listing, whole_record}
use Rattle.answers_jobs.proofs.record.replay.Goals as goal

pub returns-then-s-job : goal.returns-then-s-job
returns-then-s-job c = let s = c.args.s.now in
    record { size_nonzero = c.broken.ensures.size_nonzero; size_in_bounds = c.broken.ensures.size_in_bounds; value = no_job s _ _ c.at-job.ensures c.if-s-job.true c.broken.ensures.value }

pub returns-then-s-job-2 : goal.returns-then-s-job-2
returns-then-s-job-2 c = let s = c.args.s.now in
    record { size_nonzero = c.broken-then-s-job-2.ensures.size_nonzero; size_in_bounds = c.broken-then-s-job-2.ensures.size_in_bounds; value = no_listing s _ _ _ c.at-job.ensures c.at-listing.ensures c.if-s-job.false c.if-s-job-2.true c.broken-then-s-job-2.ensures.value }

pub returns : goal.returns
returns c = let s = c.args.s.now in
    let fits = c.if-s-job.false in
    let whole = c.if-s-job-2.false in
    record { size_nonzero = omega arith; size_in_bounds = omega (arith, fits, whole); value = whole_record s _ _ _ c.at-job.ensures c.at-listing.ensures fits whole c.agrees.ensures }
