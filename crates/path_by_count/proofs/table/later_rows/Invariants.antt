use Rattle.path_by_count_rows.specs.Rows.{behind}
use Rattle.path_by_count.specs.Filled.{RowsFilled}
use mathlib.Core.Path.{◌≡◌}
use Prim.Native.Nat.{◌≤◌, ◌<◌}
use lib.ListN.{length}
use Rattle.path_by_count.proofs.table.later_rows.Given as goal

abbrev pub invariant-loop-k : goal.invariant-loop-k
invariant-loop-k l =
    (0 < l.k) × (l.k ≤ l.pieces) × (l.n ≡ length l.ends.left.now) × (length l.over ≡ length l.initial.over) × (length l.cost ≡ length l.initial.cost) × (length l.parent ≡ length l.initial.parent)
    × RowsFilled l.lengths l.ends.left.now l.ends.right.now (behind (length l.ends.left.now) l.initial.cost) l.leaves l.over l.cost l.parent l.k
