use Rattle.path_by_count_rows.specs.Rows.{FirstWritten}
use mathlib.Core.Path.{◌≡◌}
use Prim.Native.Nat.{◌-◌, ◌≤◌}
use lib.ListN.{length}
use Rattle.path_by_count_rows.proofs.row.write_first.Given as goal

abbrev pub invariant-loop-j : goal.invariant-loop-j
invariant-loop-j l =
    (l.j ≤ l.n) × (l.n ≡ length l.ends.left.now) × (length l.over ≡ length l.initial.over) × (length l.cost ≡ length l.initial.cost) × (length l.row ≡ length l.ends.left.now)
    × FirstWritten l.lengths l.ends.left.now l.ends.right.now l.leaves l.initial.over l.initial.cost l.over l.cost l.row l.j

abbrev pub decreases-loop-j : goal.decreases-loop-j
decreases-loop-j l = l.n - l.j
