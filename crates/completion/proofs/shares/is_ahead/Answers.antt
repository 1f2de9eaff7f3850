-- `shares::is_ahead`: a silence has a gap exactly where a frame of it is dropped.
use Rattle.std.proofs.Common.{eq-eqb}
use Rattle.completion.specs.CountedLaws.{ahead_none, ahead_some}
use Rattle.completion.proofs.shares.is_ahead.Goals as goal

pub returns-then-gap_width-ne0 : goal.returns-then-gap_width-ne0
returns-then-gap_width-ne0 c =
    ahead_some c.args.p c.args.start c.args.end c.args.k c.gap_width.result c.gap_width.ensures c.if-gap_width-ne0.true
    c.silence_bounds.result c.silence_bounds.ensures

pub returns-else-gap_width-ne0 : goal.returns-else-gap_width-ne0
returns-else-gap_width-ne0 c =
    rw (eq-eqb c.gap_width.result 0 c.if-gap_width-ne0.false)
    (ahead_none c.args.p c.args.start c.args.end c.args.k c.gap_width.result c.gap_width.ensures c.if-gap_width-ne0.false)
