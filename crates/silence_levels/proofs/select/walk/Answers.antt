-- `select::walk` passes counts while they are at most the rank; the rank is below their sum, so it stops inside the table.
use Rattle.silence_levels.specs.SelectLaws.{digit_starts, digit_next}
use Rattle.std.proofs.Common.{rules}
use Rattle.silence_levels.proofs.select.walk.Goals as goal

pub loop-digit-init : goal.loop-digit-init
loop-digit-init c = digit_starts c.args.counts.now c.args.rank c.requires

pub loop-digit-preserved : goal.loop-digit-preserved
loop-digit-preserved c = digit_next _ _ _ _ (search rules) c.loop-digit.invariant
