use Prim.Native.Nat.{◌-◌}
use Rattle.candidate_costs.specs.QuietestLaws.{Seeking}
use Rattle.candidate_costs.proofs.quietest.quietest.Given as goal

abbrev pub invariant-loop-k : goal.invariant-loop-k
invariant-loop-k l = Seeking l.levels l.from l.to l.best l.k

abbrev pub decreases-loop-k : goal.decreases-loop-k
decreases-loop-k l = l.to - l.k
