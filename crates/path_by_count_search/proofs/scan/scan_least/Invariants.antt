use Rattle.path_by_count_tree.specs.Least.{IsLeast}
use Rattle.path_by_count_search.specs.Starts.{arrival_at}
use Prim.Native.Nat.{◌≤◌, ◌<◌}
use Rattle.path_by_count_search.proofs.scan.scan_least.Given as goal

abbrev pub invariant-loop-i : goal.invariant-loop-i
invariant-loop-i l =
    (l.from < l.i) × (l.i ≤ l.to) × IsLeast (arrival_at l.lengths l.right l.over l.cost l.base l.end) l.from l.i l.best
