-- `tree::link_nodes` goes down from the last node: both children of a node have a higher number, so they stay as they are.
use Rattle.path_by_count_tree.specs.Fill.{linked_none, linked_next, linked_done}
use Rattle.std.proofs.Common.{rules}
use Rattle.std.proofs.Common.{arith}
use mathlib.Core.Path.{refl}
use lib.ListN.{length-set}
use Rattle.path_by_count_tree.proofs.tree.link_nodes.Goals as goal

pub loop-node-init : goal.loop-node-init
loop-node-init c = (omega arith, refl, refl, linked_none)

pub loop-node-preserved : goal.loop-node-preserved
loop-node-preserved c = (
  search rules,
  simp length-set (omega arith),
  simp length-set (omega arith),
  linked_next c.lesser_score-least.result (omega arith) (omega arith) (omega arith) (omega arith) (omega arith) c.lesser_score-least.ensures c.loop-node.invariant.3,
)

pub returns : goal.returns
returns c = linked_done c.loop-node-test.false c.loop-node.invariant.3
