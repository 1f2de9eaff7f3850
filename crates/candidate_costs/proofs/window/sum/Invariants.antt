use Prim.Native.Nat.{◌+◌}
use Rattle.candidate_costs.specs.WindowLaws.{Summing}
use Rattle.candidate_costs.proofs.window.sum.Given as goal

abbrev pub invariant-loop-value : goal.invariant-loop-value
invariant-loop-value l = Summing l.part l.total (l.value-index + 1)
