use Prim.Native.Nat.{◌-◌}
use Rattle.candidate_walk.specs.CollectStep.{WalkHolds}
use Rattle.candidate_walk.proofs.collect.pass_all.Given as goal

abbrev pub invariant-loop-k : goal.invariant-loop-k
invariant-loop-k l = WalkHolds l.x l.span l.stop l.from l.initial.work_u32 l.initial.work_f64 l.k l.w l.work_u32 l.work_f64

abbrev pub decreases-loop-k : goal.decreases-loop-k
decreases-loop-k l = l.span.last - l.k
