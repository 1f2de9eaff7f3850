-- `bridge::bridge`: the marks of the points still ahead, and those that were set, are all of them.
use Rattle.std.proofs.Common.{arith}
use Rattle.grid.specs.BoundaryLaws.{boundary_mono}
use Rattle.completion.specs.BridgeLaws.{bridging_start, bridging_within, bridging_end, bridging_on, bridging_room, bridging_next, on_to_lem}
use Rattle.completion.proofs.bridge.bridge.Goals as goal

pub loop-g-init : goal.loop-g-init
loop-g-init c =
    bridging_start c.args.g c.args.base c.args.from c.args.end c.args.limit c.args.work.now c.requires

pub overflow_sub-stop : goal.overflow_sub-stop
overflow_sub-stop c =
    omega (arith, c.position-stop.ensures, c.position.ensures, boundary_mono c.args.g c.requires.accepted c.loop-g.at c.args.end (omega (arith, c.loop-g.invariant.before)))

pub overflow_add-at : goal.overflow_add-at
overflow_add-at c = omega (arith, c.loop-g.invariant.before, c.ranges)

pub shape_of-work-then-next-end : goal.shape_of-work-then-next-end
shape_of-work-then-next-end c = c.loop-g.invariant.size

pub returns-then-next-end : goal.returns-then-next-end
returns-then-next-end c =
    bridging_end c.args.g c.args.base c.args.from c.args.end c.args.limit c.args.work.now c.requires c.loop-g.at c.loop-g.work c.loop-g.invariant (omega (arith, c.loop-g-test.true, c.position-stop.ensures, c.position.ensures))
    c.max-next.result (on_to_lem c.args.g c.args.limit c.args.end c.loop-g.at c.reachable.result c.max-next.result c.reachable.ensures c.max-next.ensures) c.if-next-end.true

pub mark_cut-requires : goal.mark_cut-requires
mark_cut-requires c =
    bridging_room c.args.g c.args.base c.args.from c.args.end c.args.limit c.args.work.now c.requires c.loop-g.at c.loop-g.work c.loop-g.invariant (omega (arith, c.loop-g-test.true, c.position-stop.ensures, c.position.ensures))
    c.max-next.result (on_to_lem c.args.g c.args.limit c.args.end c.loop-g.at c.reachable.result c.max-next.result c.reachable.ensures c.max-next.ensures) c.if-next-end.false

pub loop-g-smaller : goal.loop-g-smaller
loop-g-smaller c =
    let on = bridging_on c.args.g c.args.base c.args.from c.args.end c.args.limit c.args.work.now c.requires c.loop-g.at c.loop-g.work c.loop-g.invariant (omega (arith, c.loop-g-test.true, c.position-stop.ensures, c.position.ensures))
    c.max-next.result (on_to_lem c.args.g c.args.limit c.args.end c.loop-g.at c.reachable.result c.max-next.result c.reachable.ensures c.max-next.ensures) c.if-next-end.false in
    omega (arith, on.0, on.1)

pub loop-g-preserved : goal.loop-g-preserved
loop-g-preserved c =
    bridging_next c.args.g c.args.base c.args.from c.args.end c.args.limit c.args.work.now c.requires c.loop-g.at c.loop-g.work c.loop-g.invariant (omega (arith, c.loop-g-test.true, c.position-stop.ensures, c.position.ensures))
    c.max-next.result (on_to_lem c.args.g c.args.limit c.args.end c.loop-g.at c.reachable.result c.max-next.result c.reachable.ensures c.max-next.ensures) c.if-next-end.false
    _ c.mark_cut.ensures

pub shape_of-work : goal.shape_of-work
shape_of-work c = c.loop-g.invariant.size

pub returns : goal.returns
returns c =
    bridging_within c.args.g c.args.base c.args.from c.args.end c.args.limit c.args.work.now c.requires c.loop-g.at c.loop-g.work c.loop-g.invariant (omega (arith, c.loop-g-test.false, c.position-stop.ensures, c.position.ensures))
