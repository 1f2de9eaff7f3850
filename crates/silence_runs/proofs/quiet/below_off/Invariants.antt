use Rattle.silence_runs.specs.QuietLaws.{BelowWritten}
use Rattle.silence_runs.proofs.quiet.below_off.Given as goal

abbrev pub invariant-loop-i : goal.invariant-loop-i
invariant-loop-i l = BelowWritten l.off l.readings.values.now l.readings.flags.now l.i-end l.below l.i
