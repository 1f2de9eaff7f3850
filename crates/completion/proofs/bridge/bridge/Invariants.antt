use Prim.Native.Nat.{◌-◌}
use Rattle.completion.specs.BridgeLaws.{Bridging}
use Rattle.completion.proofs.bridge.bridge.Given as goal

abbrev pub invariant-loop-g : goal.invariant-loop-g
invariant-loop-g l = Bridging l.g l.base l.from l.end l.limit l.initial.work l.at l.work

abbrev pub decreases-loop-g : goal.decreases-loop-g
decreases-loop-g l = l.end - l.at
