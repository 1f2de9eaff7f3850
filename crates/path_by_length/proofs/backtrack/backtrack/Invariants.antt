use Rattle.path_by_length.specs.Solved.{parent_at}
use Rattle.path_by_length.specs.WalkLaws.{WritingBack}
use Rattle.path_by_length.proofs.backtrack.backtrack.Given as goal

abbrev pub invariant-loop-n : goal.invariant-loop-n
invariant-loop-n l = WritingBack (parent_at l.parent) l.last l.initial.path l.path l.n l.j
