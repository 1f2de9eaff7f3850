-- The operation's end, of which the answer and the output are handed on.
use mathlib.Core.Path.{ap}
use Rattle.plan_pieces.specs.Output.{handed_of}
use Rattle.planner.specs.Operation.{End}
use Rattle.cutplan.specs.Memory.{handed_within}
use Rattle.cutplan.proofs.memory.plan_within.Goals as goal

pub returns : goal.returns
unfolding handed_within
returns c = ap (λ (e : End). handed_of e.answer e.out) c.plan.ensures.answer
