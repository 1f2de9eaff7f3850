-- The conversion itself where the numbers are within their limits, and the marker elsewhere.
use lib.Ieee.{of_bits, neg}
use Rattle.capi.proofs.convert.buchawzer_seconds.Goals as goal

pub returns-else-samples_args : goal.returns-else-samples_args
unfolding of_bits neg
returns-else-samples_args c = rw (← c.samples_args.ensures, c.if-samples_args.false)

pub returns-then-samples_args : goal.returns-then-samples_args
returns-then-samples_args c = rw (← c.samples_args.ensures, c.if-samples_args.true) c.as_secs_f64.ensures
