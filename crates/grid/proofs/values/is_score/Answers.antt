-- The two comparisons are those of `is_score`.
use Rattle.std.proofs.Common.{rules}
use lib.Ieee.{of_bits}
use Rattle.grid.specs.Values.{is_score}
use Rattle.grid.proofs.values.is_score.Goals as goal

pub returns-then-x : goal.returns-then-x
unfolding is_score of_bits
returns-then-x c = search rules

pub returns-else-x : goal.returns-else-x
unfolding is_score of_bits
returns-else-x c = search rules
