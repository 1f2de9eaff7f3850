-- A list that is too short, and one that is long enough.
use Rattle.std.proofs.Common.{arith}
use mathlib.Core.Path.{refl}
use Rattle.cutplan.specs.CutplanLaws.{too_short, printed_into_lem, front_counts}
use Rattle.cutplan.proofs.plan.plan_job.Goals as goal

pub returns-then-out-lt-LONGEST_LISTING : goal.returns-then-out-lt-LONGEST_LISTING
returns-then-out-lt-LONGEST_LISTING c = record { out_after = too_short c.args.job.now c.args.out.now c.if-out-lt-LONGEST_LISTING.true; prefix_len = (omega arith, refl) }

pub returns : goal.returns
returns c = record { out_after = printed_into_lem c.args.job.now c.args.out.now _ _ c.list_job.ensures.size_value c.list_job.ensures.out_after c.if-out-lt-LONGEST_LISTING.false; prefix_len = front_counts _ c.args.out.now _ _ c.list_job.ensures.size_value c.list_job.ensures.out_after }
