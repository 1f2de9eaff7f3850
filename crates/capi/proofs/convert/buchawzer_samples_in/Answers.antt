-- The conversion itself where the numbers are within their limits, and the marker elsewhere.
use mathlib.Core.Path.{sym, ◌∙◌}
use lib.Ieee.{of_bits, neg}
use Rattle.capi.specs.GridLaws.{samples_args_lem}
use Rattle.capi.proofs.convert.buchawzer_samples_in.Goals as goal

pub returns-else-samples_args : goal.returns-else-samples_args
unfolding of_bits neg
returns-else-samples_args c = rw (← c.samples_args.ensures, c.if-samples_args.false)

pub samples_in-requires : goal.samples_in-requires
samples_in-requires c = samples_args_lem _ _ (sym c.samples_args.ensures ∙ c.if-samples_args.true)

pub returns-then-samples_args : goal.returns-then-samples_args
returns-then-samples_args c = rw (← c.samples_args.ensures, c.if-samples_args.true) c.samples_in.ensures
