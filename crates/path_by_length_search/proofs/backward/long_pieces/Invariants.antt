use Prim.Native.Nat.{◌≤◌}
use Rattle.path_by_length_search.specs.Backward.{Walked, Long}
use Rattle.path_by_length_search.proofs.backward.long_pieces.Given as goal

abbrev pub invariant-loop-k : goal.invariant-loop-k
invariant-loop-k l = (l.k ≤ l.j) × Walked l.table.lengths l.table.ends.left.now l.table.ends.right.now l.table.over.now l.table.cost.now l.from l.j l.best l.k × Long l.table.lengths l.table.ends.left.now l.table.ends.right.now l.from l.j l.k
