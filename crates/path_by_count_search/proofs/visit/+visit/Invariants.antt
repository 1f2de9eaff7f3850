-- The range's length falls.
use Rattle.std.proofs.Common.{◌-◌}
use Rattle.path_by_count_search.proofs.visit.+visit.Given as goal

abbrev pub decreases-visit : goal.decreases-visit
decreases-visit l = l.hi - l.lo
