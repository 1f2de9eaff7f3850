use Prim.Native.Nat.{◌-◌}
use Rattle.candidate_points.specs.PointsWalk.{Opening}
use Rattle.candidate_points.proofs.points.block_end.Given as goal

abbrev pub invariant-loop-end : goal.invariant-loop-end
invariant-loop-end l = Opening l.flags l.block l.last l.k l.most l.end

abbrev pub decreases-loop-end : goal.decreases-loop-end
decreases-loop-end l = l.most - l.end
