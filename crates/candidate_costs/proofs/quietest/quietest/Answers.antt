-- `quietest::quietest` keeps the quieter of two boundaries, one after another.
use Rattle.std.proofs.Common.{rules}
use Rattle.candidate_costs.specs.QuietestLaws.{seeking_start, seeking_next, seeking_done}
use Rattle.candidate_costs.proofs.quietest.quietest.Goals as goal

pub loop-k-init : goal.loop-k-init
loop-k-init c = seeking_start _ _ _ (search rules)

pub loop-k-preserved : goal.loop-k-preserved
loop-k-preserved c = seeking_next _ _ _ _ _ c.loop-k.invariant _ (search rules) c.quieter-best.ensures

pub returns : goal.returns
returns c = seeking_done _ _ _ _ _ c.loop-k.invariant (search rules)
