use Rattle.path_by_count_search.specs.Narrow.{Encloses}
use Prim.Native.Nat.{◌-◌}
use Rattle.path_by_count_search.proofs.narrow.search.Given as goal

abbrev pub invariant-loop-place : goal.invariant-loop-place
invariant-loop-place l = Encloses l.query.leaves l.over l.cost l.query.from l.query.to l.place

abbrev pub decreases-loop-place : goal.decreases-loop-place
decreases-loop-place l = l.place.hi - l.place.lo
