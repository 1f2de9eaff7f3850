-- `percentile::percentile_index`: 100 times the largest frame count fits easily.
use Rattle.silence_levels.specs.PercentileLaws.{index_product}
use Rattle.std.proofs.Common.{arith}
use Rattle.silence_levels.proofs.percentile.percentile_index.Goals as goal

pub overflow_mul-result : goal.overflow_mul-result
overflow_mul-result c = omega (arith, index_product c.args.len c.args.percentile c.requires.percentile_bound)

pub overflow_add-result : goal.overflow_add-result
overflow_add-result c = omega (arith, index_product c.args.len c.args.percentile c.requires.percentile_bound)
