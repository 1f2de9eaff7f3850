use Rattle.path_by_count_tree.specs.Fill.{Linked}
use mathlib.Core.Path.{◌≡◌}
use Prim.Native.Nat.{◌≤◌}
use lib.ListN.{length}
use Rattle.path_by_count_tree.proofs.tree.link_nodes.Given as goal

abbrev pub invariant-loop-node : goal.invariant-loop-node
invariant-loop-node l =
    (l.node ≤ l.leaves) × (length l.tree_over ≡ length l.initial.tree_over) × (length l.tree_cost ≡ length l.initial.tree_cost)
    × Linked l.initial.tree_over l.initial.tree_cost l.leaves l.tree_over l.tree_cost l.node
