-- A record is not empty and ends within the sample, so that each brings the end nearer, and what is counted with what is left is the whole tally.
use borrow.Author.Tests.{lt-ltb, le-ltb}
use borrow.Author.Rules.{part_to_end}
use mathlib.Core.Path.{sym, ap, ◌∙◌}
use Rattle.std.proofs.Common.{arith}
use Rattle.answers_jobs.specs.Parts.{rest-length}
use Rattle.answers_jobs.specs.Record.{replayed_of}
use Rattle.answers_jobs.specs.Tally.{tally_of}
use Rattle.answers_jobs.specs.TallyLaws.{up_start, up_next, up_more, tallied_start, tallied_next, tallied_end}
use Rattle.answers_jobs.proofs.replay_all.Goals as goal

pub returns-then-s-gt-MOST : goal.returns-then-s-gt-MOST
unfolding tally_of
returns-then-s-gt-MOST c = rw (lt-ltb _ _ c.if-s-gt-MOST.true) c.too_long.ensures

pub loop-at-init : goal.loop-at-init
loop-at-init c = (omega arith, c.if-s-gt-MOST.false, up_start _ c.nothing-tally.ensures, tallied_start _ _ c.nothing-tally.ensures)

pub replay-replayed-requires : goal.replay-replayed-requires
replay-replayed-requires c = omega (arith, rest-length c.loop-at.at c.args.s.now)

pub overflow_add-at : goal.overflow_add-at
overflow_add-at c = omega (arith, rest-length c.loop-at.at c.args.s.now)

pub with_record-tally-requires : goal.with_record-tally-requires
with_record-tally-requires c = up_more c.loop-at.at 131072 c.loop-at.tally (omega (arith, c.loop-at.invariant.0, c.loop-at.invariant.1)) c.loop-at.invariant.2

pub loop-at-smaller : goal.loop-at-smaller
loop-at-smaller c =
    omega (arith, rest-length c.loop-at.at c.args.s.now)

pub loop-at-preserved : goal.loop-at-preserved
loop-at-preserved c =
    let s = c.args.s.now in
    let rest = rest-length c.loop-at.at s in (
      omega (arith, rest),
      c.loop-at.invariant.1,
      up_next c.loop-at.at _ c.loop-at.tally _ _ (omega (arith, rest)) c.loop-at.invariant.2 c.with_record-tally.ensures,
      tallied_next s c.loop-at.at c.loop-at.tally _ c.replay-replayed.result c.loop-at-test.true c.replay-replayed.ensures.size_nonzero (c.replay-replayed.ensures.value ∙ ap replayed_of (part_to_end s c.loop-at.at)) c.with_record-tally.ensures c.loop-at.invariant.3,
    )

pub returns : goal.returns
unfolding tally_of
returns c =
    rw (le-ltb _ _ c.loop-at.invariant.1) (sym (tallied_end _ c.loop-at.at c.loop-at.tally c.loop-at-test.false c.loop-at.invariant.3))
