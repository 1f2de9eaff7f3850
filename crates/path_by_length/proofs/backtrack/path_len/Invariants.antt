use Rattle.path_by_length.specs.Solved.{parent_at}
use Rattle.path_by_length.specs.WalkLaws.{CountingBack}
use Rattle.path_by_length.proofs.backtrack.path_len.Given as goal

abbrev pub invariant-loop-j : goal.invariant-loop-j
invariant-loop-j l = CountingBack (parent_at l.parent) l.last l.len l.j

abbrev pub decreases-loop-j : goal.decreases-loop-j
decreases-loop-j l = l.j
