-- On bytes the mask's test is `is_flag`.
use mathlib.Core.Path.{◌∙◌}
use Rattle.grid.specs.Values.{is_flag}
use Rattle.grid.specs.FlagsLaws.{flag_mask, all_by_mask}
use Rattle.grid.proofs.flags.are_flags.Goals as goal

pub returns : goal.returns
returns c = c.are_clear.ensures ∙ all_by_mask is_flag 254 flag_mask _ (λ i. (c.type_inv.flags i).fits)
