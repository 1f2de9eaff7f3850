use Rattle.path_by_count_rows.specs.FirstLaws.{Starting}
use mathlib.Core.Path.{◌≡◌}
use Prim.Native.Nat.{◌-◌}
use lib.ListN.{length}
use Rattle.path_by_count_rows.proofs.first.first_starts.Given as goal

abbrev pub invariant-loop-j : goal.invariant-loop-j
invariant-loop-j l = (l.j-end ≡ length l.ends.left.now) × Starting l.limit l.ends.left.now l.ends.right.now l.first l.p l.j

abbrev pub decreases-loop-j : goal.decreases-loop-j
decreases-loop-j l = l.j-end - l.j
