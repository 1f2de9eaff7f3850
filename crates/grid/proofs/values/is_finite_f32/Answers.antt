-- std's test is ours.
use Rattle.std.proofs.Common.{◌∙◌}
use Rattle.grid.specs.ValuesLaws.{finite_is}
use Rattle.grid.proofs.values.is_finite_f32.Goals as goal

pub returns : goal.returns
returns c = c.is_finite.ensures.value ∙ finite_is c.args.x
