-- `kept::less_gaps` takes the frames of one gap after another.
use Rattle.std.proofs.Common.{arith}
use Rattle.candidate_span.specs.KeptWalk.{no_gap_taken, next_gap_taken, all_gaps_taken}
use Rattle.candidate_span.proofs.kept.less_gaps.Goals as goal

pub loop-pair-init : goal.loop-pair-init
loop-pair-init c = no_gap_taken _ _ _ _ _ c.saturating_sub-kept.ensures

pub loop-pair-preserved : goal.loop-pair-preserved
loop-pair-preserved c =
    next_gap_taken _ _ _ _ _ _ c.loop-pair.invariant _ _ c.gap_width.result _ c.as_chunks.ensures.front (omega (arith, c.as_chunks.ensures.front_len, c.loop-pair-test.true)) c.gap_width.ensures
    c.saturating_sub-kept-in-loop-pair.ensures

pub returns : goal.returns
returns c = all_gaps_taken _ _ _ _ _ _ c.loop-pair.invariant (omega (arith, c.as_chunks.ensures.front_len, c.loop-pair-test.false))
