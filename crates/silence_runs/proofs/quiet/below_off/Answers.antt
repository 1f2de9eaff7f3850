-- `quiet::below_off` writes one frame after another.
use Rattle.std.proofs.Common.{rules}
use Rattle.silence_runs.specs.QuietLaws.{below_next, below_done}
use Rattle.silence_runs.proofs.quiet.below_off.Goals as goal

pub loop-i-preserved : goal.loop-i-preserved
loop-i-preserved c =
    below_next c.args.off c.args.readings.now.values.now c.args.readings.now.flags.now _ c.loop-i.below c.loop-i.i c.below_at.result (search rules) c.below_at.ensures c.loop-i.invariant

pub returns : goal.returns
returns c = below_done _ _ _ _ _ _ (search rules) c.loop-i.invariant
