use Prim.Native.Nat.{◌-◌}
use Rattle.silence_runs.specs.Quiet.{own}
use Rattle.silence_runs.specs.RunsWalk.{Rewriting}
use Rattle.silence_runs.proofs.quiet.quiet_runs.Given as goal

abbrev pub invariant-loop-i : goal.invariant-loop-i
invariant-loop-i l = Rewriting 1 own l.initial.below l.i-end l.below l.start l.i

abbrev pub decreases-loop-i : goal.decreases-loop-i
decreases-loop-i l = l.i-end - l.i
