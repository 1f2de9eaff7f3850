-- `copy::copy_f64`: the front is the whole list.
use mathlib.Core.Path.{◌∙◌}
use Rattle.base_code.specs.FrontLaws.{onto-all}
use Rattle.path_list.proofs.copy.copy_f64.Goals as goal

pub returns : goal.returns
returns c = c.put_front.ensures ∙ onto-all c.args.from.now c.args.to.now c.requires
