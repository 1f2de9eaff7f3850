use Rattle.completion.specs.CompleteLaws.{Completing}
use Rattle.completion.proofs.bridge.complete_max.Given as goal

abbrev pub invariant-loop-i : goal.invariant-loop-i
invariant-loop-i l = Completing l.g l.base l.entries l.steps l.limit l.initial.work l.i l.work
