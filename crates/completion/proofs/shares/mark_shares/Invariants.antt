use Rattle.completion.specs.SharesLaws.{Sharing}
use Rattle.completion.proofs.shares.mark_shares.Given as goal

abbrev pub invariant-loop-i : goal.invariant-loop-i
invariant-loop-i l = Sharing l.x l.base l.pieces l.initial.work l.i l.passed l.work
