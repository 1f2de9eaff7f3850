use Rattle.candidate_span.specs.KeptWalk.{GapsTaken}
use Rattle.candidate_span.proofs.kept.less_gaps.Given as goal

abbrev pub invariant-loop-pair : goal.invariant-loop-pair
invariant-loop-pair l = GapsTaken l.p l.first l.last l.silences l.kept l.pair-index
