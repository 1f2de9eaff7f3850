-- `points::mark_blocks` walks over the span once: behind the walk stand marks, before it flags.
use Rattle.std.proofs.Common.{rules}
use Rattle.std.proofs.Common.{arith}
use Rattle.candidate_points.specs.PointsWalk.{half_start, half_ready, half_next, half_done, step_after}
use Rattle.candidate_points.proofs.points.mark_blocks.Goals as goal

pub loop-k-init : goal.loop-k-init
loop-k-init c = half_start _ _ _ _ _ c.requires

pub mark_block-k-requires : goal.mark_block-k-requires
mark_block-k-requires c =
    half_ready c.args.levels.now c.args.block c.args.first c.args.last c.args.marks.now c.loop-k.marks c.loop-k.k c.loop-k-test.true c.loop-k.invariant

pub loop-k-smaller : goal.loop-k-smaller
loop-k-smaller c =
    let r = half_ready c.args.levels.now c.args.block c.args.first c.args.last c.args.marks.now c.loop-k.marks c.loop-k.k c.loop-k-test.true c.loop-k.invariant in
    omega (arith, c.mark_block-k.ensures.value, step_after c.args.block c.args.last c.loop-k.k c.args.levels.now c.loop-k.marks r, c.loop-k-test.true)

pub loop-k-preserved : goal.loop-k-preserved
loop-k-preserved c =
    half_next c.args.levels.now c.args.block c.args.first c.args.last c.args.marks.now c.loop-k.marks _ c.loop-k.k _ c.loop-k-test.true c.mark_block-k.ensures.value c.mark_block-k.ensures.marks_after c.loop-k.invariant

pub returns : goal.returns
returns c =
    half_done c.args.levels.now c.args.block c.args.first c.args.last c.args.marks.now c.loop-k.marks c.loop-k.k (search rules) c.loop-k.invariant
