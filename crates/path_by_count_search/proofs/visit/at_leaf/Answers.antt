-- `visit::at_leaf` compares the score that its leaf gives with the best so far.
use Rattle.std.proofs.Common.{arith}
use Rattle.path_by_count_search.proofs.visit.at_leaf.Goals as goal

pub overflow_add-node : goal.overflow_add-node
overflow_add-node c = omega (arith, c.requires.in_over, c.well_formed)

pub returns : goal.returns
returns c = rw (← c.lengths.ensures, ← c.score_from-score.ensures) c.first_of.ensures
