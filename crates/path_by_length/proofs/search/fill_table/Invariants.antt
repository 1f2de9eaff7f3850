use Prim.Native.Nat.{◌-◌, ◌≤◌, ◌<◌}
use lib.ListN.{length}
use Rattle.path_by_length.specs.Solved.{Filled}
use Rattle.path_by_length.proofs.search.fill_table.Given as goal

abbrev pub invariant-loop-j : goal.invariant-loop-j
invariant-loop-j l =
    (0 < l.j) × (l.j ≤ length l.ends.left.now) × Filled l.lengths l.ends.left.now l.ends.right.now l.initial.over l.initial.cost l.over l.cost l.j

abbrev pub decreases-loop-j : goal.decreases-loop-j
decreases-loop-j l = length l.ends.left.now - l.j
