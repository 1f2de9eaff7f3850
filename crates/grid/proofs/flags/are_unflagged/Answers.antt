-- On bytes the mask's test is `is_unflagged`.
use mathlib.Core.Path.{◌∙◌}
use Rattle.grid.specs.Values.{is_unflagged}
use Rattle.grid.specs.FlagsLaws.{unflagged_mask, all_by_mask}
use Rattle.grid.proofs.flags.are_unflagged.Goals as goal

pub returns : goal.returns
returns c = c.are_clear.ensures ∙ all_by_mask is_unflagged 255 unflagged_mask _ (λ i. (c.type_inv.flags i).fits)
