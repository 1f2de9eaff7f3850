-- The conversion itself where the numbers are within their limits, and the marker elsewhere.
use mathlib.Core.Path.{sym, ◌∙◌}
use Rattle.capi.specs.GridLaws.{samples_args_lem}
use Rattle.capi.proofs.convert.buchawzer_samples_floor.Goals as goal

pub returns-else-samples_args : goal.returns-else-samples_args
returns-else-samples_args c = rw (← c.samples_args.ensures, c.if-samples_args.false)

pub samples_floor-requires : goal.samples_floor-requires
samples_floor-requires c = samples_args_lem _ _ (sym c.samples_args.ensures ∙ c.if-samples_args.true)

pub returns-then-samples_args : goal.returns-then-samples_args
returns-then-samples_args c = rw (← c.samples_args.ensures, c.if-samples_args.true) c.samples_floor.ensures
