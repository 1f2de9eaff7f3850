-- `bridge::complete_max`: the points of the steps so far are marked, and the candidates behind the marks stay.
use Rattle.std.proofs.Common.{arith}
use mathlib.Core.Path.{refl}
use Prim.Native.Nat.{◌+◌, ◌*◌}
use lib.ListN.{get_or}
use Rattle.completion.specs.CompleteLaws.{completing_start, completing_fit, completing_next, completing_done}
use Rattle.completion.proofs.bridge.complete_max.Goals as goal

pub loop-i-init : goal.loop-i-init
loop-i-init c =
    completing_start c.args.g c.args.base c.args.entries c.args.steps c.args.limit c.args.work.now c.requires

pub overflow_mul-from : goal.overflow_mul-from
overflow_mul-from c = omega (arith, c.loop-i-test.true, c.requires.room, c.ranges)

pub overflow_add-from : goal.overflow_add-from
overflow_add-from c = omega (arith, c.loop-i-test.true, c.requires.room, c.ranges)

pub overflow_add-from-in-loop-i : goal.overflow_add-from-in-loop-i
overflow_add-from-in-loop-i c = omega (arith, c.loop-i-test.true, c.requires.room, c.ranges)

pub bounds-work-entries : goal.bounds-work-entries
bounds-work-entries c = omega (arith, c.loop-i-test.true, c.requires.room, c.loop-i.invariant.size)

pub overflow_cast-from : goal.overflow_cast-from
overflow_cast-from c = omega (arith, c.type_inv.work (c.args.entries + 3 * c.loop-i.i + 1))

pub overflow_mul-end : goal.overflow_mul-end
overflow_mul-end c = omega (arith, c.loop-i-test.true, c.requires.room, c.ranges)

pub overflow_add-end : goal.overflow_add-end
overflow_add-end c = omega (arith, c.loop-i-test.true, c.requires.room, c.ranges)

pub overflow_add-end-in-loop-i : goal.overflow_add-end-in-loop-i
overflow_add-end-in-loop-i c = omega (arith, c.loop-i-test.true, c.requires.room, c.ranges)

pub bounds-work-entries-in-loop-i : goal.bounds-work-entries-in-loop-i
bounds-work-entries-in-loop-i c = omega (arith, c.loop-i-test.true, c.requires.room, c.loop-i.invariant.size)

pub overflow_cast-end : goal.overflow_cast-end
overflow_cast-end c = omega (arith, c.type_inv.work (c.args.entries + 3 * c.loop-i.i + 3))

pub bridge-requires : goal.bridge-requires
bridge-requires c =
    completing_fit c.args.g c.args.base c.args.entries c.args.steps c.args.limit c.args.work.now c.requires c.loop-i.i c.loop-i.work c.loop-i.invariant c.loop-i-test.true
    (get_or c.loop-i.work (c.args.entries + 3 * c.loop-i.i + 1) 0) (get_or c.loop-i.work (c.args.entries + 3 * c.loop-i.i + 3) 0) refl refl

pub loop-i-preserved : goal.loop-i-preserved
loop-i-preserved c =
    completing_next c.args.g c.args.base c.args.entries c.args.steps c.args.limit c.args.work.now c.requires c.loop-i.i c.loop-i.work c.loop-i.invariant c.loop-i-test.true
    (get_or c.loop-i.work (c.args.entries + 3 * c.loop-i.i + 1) 0) (get_or c.loop-i.work (c.args.entries + 3 * c.loop-i.i + 3) 0) refl refl _ c.bridge.ensures

pub shape_of-work : goal.shape_of-work
shape_of-work c = c.loop-i.invariant.size

pub returns : goal.returns
returns c =
    completing_done c.args.g c.args.base c.args.entries c.args.steps c.args.limit c.args.work.now c.requires c.loop-i.i c.loop-i.work c.loop-i.invariant c.loop-i-test.false
