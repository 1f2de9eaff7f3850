use Prim.Native.Nat.{◌≤◌}
use Rattle.path_by_length_search.specs.Backward.{Walked, Long}
use Rattle.path_by_length_search.proofs.backward.long_parts.Given as goal

abbrev pub invariant-loop-i : goal.invariant-loop-i
invariant-loop-i l = (l.i ≤ l.j) × Walked l.table.lengths l.table.ends.left.now l.table.ends.right.now l.table.over.now l.table.cost.now l.from l.j l.best l.i × Long l.table.lengths l.table.ends.left.now l.table.ends.right.now l.from l.j l.i

abbrev pub decreases-loop-i : goal.decreases-loop-i
decreases-loop-i l = l.i
