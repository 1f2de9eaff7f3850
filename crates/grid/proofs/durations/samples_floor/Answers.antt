-- The samples of the whole seconds and those of the rest fit in 64 bits together, and are those of the duration.
use Rattle.std.proofs.Common.{arith}
use Rattle.grid.specs.FitLaws.{samples_fit, samples_by_parts}
use Rattle.grid.proofs.durations.samples_floor.Goals as goal

pub overflow_mul-rest : goal.overflow_mul-rest
overflow_mul-rest c = omega (arith, samples_fit c.args.sample_rate c.args.nanos c.requires)

pub overflow_mul-result : goal.overflow_mul-result
overflow_mul-result c = omega (arith, samples_fit c.args.sample_rate c.args.nanos c.requires)

pub overflow_add-result : goal.overflow_add-result
overflow_add-result c = omega (arith, samples_fit c.args.sample_rate c.args.nanos c.requires)

pub returns : goal.returns
returns c = samples_by_parts c.args.sample_rate c.args.nanos
