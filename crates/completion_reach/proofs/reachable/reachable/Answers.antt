-- `reachable::reachable`: a search by halves, since lengths grow with the end of a piece.
use Rattle.std.proofs.Common.{arith}
use Prim.Native.Nat.{◌-◌, ◌/◌}
use Rattle.grid.specs.BoundaryLaws.{boundary_mono}
use Rattle.completion_reach.specs.ReachableLaws.{halving_up, halving_down, halving_done}
use Rattle.completion_reach.proofs.reachable.reachable.Goals as goal

pub overflow_sub-position : goal.overflow_sub-position
overflow_sub-position c =
    let middle = c.loop-low.high - (c.loop-low.high - c.loop-low.low) / 2 in
    omega (arith, c.position-start.ensures, c.position.ensures, boundary_mono c.args.g c.requires c.args.from middle (omega (arith, c.loop-low.invariant.from, c.loop-low-test.true)))

pub loop-low-preserved-then-position-start : goal.loop-low-preserved-then-position-start
loop-low-preserved-then-position-start c =
    let middle = c.loop-low.high - (c.loop-low.high - c.loop-low.low) / 2 in
    halving_up c.args.g c.args.limit c.args.from c.args.end c.loop-low.low c.loop-low.high middle c.loop-low.invariant (omega (arith, c.loop-low-test.true)) (omega arith)
    (omega (arith, c.position-start.ensures, c.position.ensures, c.if-position-start.true))

pub loop-low-preserved : goal.loop-low-preserved
loop-low-preserved c =
    let middle = c.loop-low.high - (c.loop-low.high - c.loop-low.low) / 2 in
    halving_down c.args.g c.args.limit c.args.from c.args.end c.loop-low.low c.loop-low.high middle c.loop-low.invariant (omega (arith, c.loop-low-test.true)) (omega arith) c.requires
    (omega (arith, c.position-start.ensures, c.position.ensures, c.if-position-start.false))

pub returns : goal.returns
returns c =
    halving_done c.args.g c.args.limit c.args.from c.args.end c.loop-low.low c.loop-low.high c.loop-low.invariant c.loop-low-test.false
