-- std rounds up by what is left over.
use Rattle.std.proofs.Common.{arith, ◌∙◌}
use Rattle.grid.specs.Durations.{frames_ceil, frames_den}
use Rattle.grid.specs.FitLaws.{rounded_up}
use Rattle.grid.proofs.durations.frames_ceil.Goals as goal

pub returns : goal.returns
unfolding frames_ceil
returns c =
    rw (← c.product.ensures)
    (c.div_ceil.ensures ∙ rounded_up c.product.result (frames_den c.args.hop) (omega (arith, c.requires.step)))
