-- `reach::bisect`: a search by halves, since limits above a feasible one are feasible.
use Rattle.std.proofs.Common.{arith}
use Prim.Native.Nat.{◌+◌, ◌-◌, ◌/◌}
use Rattle.completion_reach.specs.FitsLaws.{told_feasible, told_infeasible}
use Rattle.completion_reach.specs.ReachLaws.{bracket_down, bracket_up, bracket_done}
use Rattle.completion_reach.proofs.reach.bisect.Goals as goal

pub loop-low-init : goal.loop-low-init
loop-low-init c = (c.requires.bracket, omega arith)

pub overflow_add-low : goal.overflow_add-low
overflow_add-low c = omega (arith, c.loop-low.invariant.0.order, c.loop-low.invariant.1, c.ranges)

pub overflow_add-middle : goal.overflow_add-middle
overflow_add-middle c = omega (arith, c.loop-low-test.true, c.loop-low.invariant.1, c.ranges)

pub loop-low-preserved-then-fits : goal.loop-low-preserved-then-fits
loop-low-preserved-then-fits c =
    let middle = c.loop-low.low + (c.loop-low.high - c.loop-low.low) / 2 in (
      bracket_down c.args.x.grid _ c.args.count c.args.maximum c.loop-low.low c.loop-low.high middle c.loop-low.invariant.0 (omega (arith, c.loop-low-test.true)) (omega (arith, c.loop-low-test.true))
          (told_feasible c.args.x.grid c.requires.founded.accepted _ c.requires.founded.spread middle c.args.count c.args.pieces c.requires.pieces_value c.fits.result c.fits.ensures c.if-fits.true),
      omega (arith, c.loop-low-test.true, c.loop-low.invariant.1),
    )

pub loop-low-preserved : goal.loop-low-preserved
loop-low-preserved c =
    let middle = c.loop-low.low + (c.loop-low.high - c.loop-low.low) / 2 in (
      bracket_up c.args.x.grid _ c.args.count c.args.maximum c.loop-low.low c.loop-low.high middle c.loop-low.invariant.0 (omega (arith, c.loop-low-test.true)) (omega (arith, c.loop-low-test.true))
          (told_infeasible c.args.x.grid c.requires.founded.accepted _ c.requires.founded.spread middle c.args.count c.args.pieces c.requires.pieces_value c.fits.result c.fits.ensures c.if-fits.false),
      c.loop-low.invariant.1,
    )

pub returns : goal.returns
returns c =
    bracket_done c.args.x.grid _ c.args.count c.args.maximum c.loop-low.low c.loop-low.high c.loop-low.invariant.0 c.loop-low-test.false
