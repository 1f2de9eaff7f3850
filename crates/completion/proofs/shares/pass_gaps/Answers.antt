-- `shares::pass_gaps`: the gaps of the silences before i move the boundary on by what was removed, and a gap that is ahead, or none, ends it.
use Rattle.std.proofs.Common.{arith}
use Rattle.completion.specs.CountedLaws.{counting_next, counting_width, counted_none, counted_here}
use Rattle.completion.proofs.shares.pass_gaps.Goals as goal

pub loop-i-init : goal.loop-i-init
loop-i-init c = c.requires.counting

pub overflow_add-at : goal.overflow_add-at
overflow_add-at c = omega (arith, c.loop-i.invariant.balance, c.requires.silences_bound)

pub returns-then-is_ahead : goal.returns-then-is_ahead
returns-then-is_ahead c =
    record {
      counting = c.loop-i.invariant;
      here = counted_here c.args.p c.args.silences.now c.args.at c.loop-i.i c.loop-i.removed c.loop-i.invariant c.loop-i-test.true c.start_at-start.result c.end_at-end.result
          c.start_at-start.ensures c.end_at-end.ensures c.is_ahead.result c.is_ahead.ensures c.if-is_ahead.true;
    }

pub overflow_add-removed : goal.overflow_add-removed
overflow_add-removed c =
    omega (
      arith,
      c.gap_width-removed.ensures,
      c.requires.silences_bound,
      counting_width c.args.p c.args.silences.now c.args.at c.loop-i.i c.loop-i.removed c.loop-i.invariant c.loop-i-test.true
          c.start_at-start.result c.end_at-end.result c.start_at-start.ensures c.end_at-end.ensures,
    )

pub loop-i-preserved : goal.loop-i-preserved
loop-i-preserved c =
    counting_next c.args.p c.args.silences.now c.args.at c.loop-i.i c.loop-i.removed c.loop-i.invariant c.loop-i-test.true c.start_at-start.result c.end_at-end.result
    c.start_at-start.ensures c.end_at-end.ensures c.is_ahead.result c.is_ahead.ensures c.if-is_ahead.false c.gap_width-removed.result c.gap_width-removed.ensures

pub returns : goal.returns
returns c =
    counted_none c.args.p c.args.silences.now c.args.at c.loop-i.i c.loop-i.removed c.loop-i.invariant c.loop-i-test.false
