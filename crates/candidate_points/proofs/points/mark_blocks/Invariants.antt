use Prim.Native.Nat.{◌-◌}
use Rattle.candidate_points.specs.PointsWalk.{HalfMarked}
use Rattle.candidate_points.proofs.points.mark_blocks.Given as goal

abbrev pub invariant-loop-k : goal.invariant-loop-k
invariant-loop-k l = HalfMarked l.levels l.block l.first l.last l.initial.marks l.marks l.k

abbrev pub decreases-loop-k : goal.decreases-loop-k
decreases-loop-k l = l.last - l.k
