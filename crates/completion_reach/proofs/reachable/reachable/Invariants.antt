use Prim.Native.Nat.{◌-◌}
use Rattle.completion_reach.specs.ReachableLaws.{Halving}
use Rattle.completion_reach.proofs.reachable.reachable.Given as goal

abbrev pub invariant-loop-low : goal.invariant-loop-low
invariant-loop-low l = Halving l.g l.limit l.from l.end l.low l.high

abbrev pub decreases-loop-low : goal.decreases-loop-low
decreases-loop-low l = l.high - l.low
