-- `blocked::mark_silences` marks one silence after another.
use Rattle.std.proofs.Common.{arith}
use Rattle.candidate_points.specs.BlockedWalk.{marking_start, marking_silent, marking_next, marking_done}
use Rattle.candidate_points.proofs.blocked.mark_silences.Goals as goal

pub loop-pair-init : goal.loop-pair-init
loop-pair-init c = marking_start _ _ _ _ _ c.requires

pub mark_silence-requires : goal.mark_silence-requires
mark_silence-requires c =
    marking_silent c.args.gap _ _ _ _ c.requires _ _ _ _ c.as_chunks.ensures.front (omega (arith, c.as_chunks.ensures.front_len, c.loop-pair-test.true)) c.loop-pair.invariant

pub loop-pair-preserved : goal.loop-pair-preserved
loop-pair-preserved c =
    marking_next _ _ _ _ _ c.requires _ _ _ _ c.as_chunks.ensures.front (omega (arith, c.as_chunks.ensures.front_len, c.loop-pair-test.true)) c.loop-pair.invariant
    _ c.mark_silence.ensures

pub returns : goal.returns
returns c =
    marking_done _ _ _ _ _ c.requires _ _ (omega (arith, c.as_chunks.ensures.front_len, c.loop-pair.auto.pair-index-end)) (omega (arith, c.as_chunks.ensures.front_len, c.loop-pair-test.false))
    c.loop-pair.invariant
