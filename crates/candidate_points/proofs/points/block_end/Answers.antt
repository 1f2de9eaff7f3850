-- `points::block_end` looks at one flag after another, up to the first that is set.
use Rattle.std.proofs.Common.{rules}
use Rattle.candidate_points.specs.PointsWalk.{opening_start, opening_next, opening_shut, opening_done}
use Rattle.candidate_points.proofs.points.block_end.Goals as goal

pub loop-end-init : goal.loop-end-init
loop-end-init c = opening_start _ _ _ _ _ (search rules) c.after-most.ensures

pub returns-then-flags-end-ne0 : goal.returns-then-flags-end-ne0
returns-then-flags-end-ne0 c = opening_shut _ _ _ _ _ _ c.loop-end.invariant c.if-flags-end-ne0.true

pub loop-end-preserved : goal.loop-end-preserved
loop-end-preserved c = opening_next _ _ _ _ _ _ c.loop-end.invariant (search rules) c.if-flags-end-ne0.false

pub returns : goal.returns
returns c = opening_done _ _ _ _ _ _ c.loop-end.invariant (search rules)
