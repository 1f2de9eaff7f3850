use Prim.Native.Nat.{◌≤◌}
use mathlib.Core.Path.{◌≡◌}
use Rattle.path_by_length_search.specs.Backward.{Walked}
use Rattle.path_by_length_search.proofs.backward.short_pieces.Given as goal

abbrev pub invariant-loop-k : goal.invariant-loop-k
invariant-loop-k l = (l.k ≤ l.j) × (l.walk.at ≡ l.k) × Walked l.table.lengths l.table.ends.left.now l.table.ends.right.now l.table.over.now l.table.cost.now l.from l.j l.walk.best l.k
