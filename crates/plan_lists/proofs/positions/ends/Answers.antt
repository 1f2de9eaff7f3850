-- `positions::ends` writes one position after another; three numbers stand in the list for each.
use Rattle.std.proofs.Common.{arith}
use mathlib.Core.Path.{refl}
use Prim.Native.Nat.{◌+◌, ◌*◌}
use Rattle.plan_lists.specs.Positions.{end_in}
use Rattle.plan_lists.specs.EndsLaws.{ends_start, ends_next, ends_done}
use Rattle.plan_lists.proofs.positions.ends.Goals as goal

pub loop-i-init : goal.loop-i-init
loop-i-init c = (refl, refl, ends_start (end_in c.args.g c.args.entries.now c.args.which) c.args.out.now)

pub overflow_cast-entries : goal.overflow_cast-entries
overflow_cast-entries c = omega (arith, c.type_inv.entries (3 * c.loop-i.i + c.args.which))

pub loop-i-preserved : goal.loop-i-preserved
loop-i-preserved c =
    let next = ends_next (end_in c.args.g c.args.entries.now c.args.which) c.args.out.now c.loop-i.invariant.2 c.position.result c.position.ensures c.loop-i-test.true in
    (next.same, c.loop-i.invariant.1, next)

pub returns : goal.returns
returns c =
    ends_done (end_in c.args.g c.args.entries.now c.args.which) c.args.out.now c.loop-i.invariant.2 c.loop-i-test.false
