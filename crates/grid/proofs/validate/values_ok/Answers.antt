-- The tests of the recording's own domain.
use Rattle.std.proofs.Common.{rules}
use Rattle.grid.specs.Validate.{values_ok}
use Rattle.grid.specs.Values.{is_score}
use Rattle.grid.proofs.validate.values_ok.Goals as goal

pub returns-then-every : goal.returns-then-every
unfolding values_ok
returns-then-every c = let scores = c.every.ensures is_score (λ x r k. k) in rw c.in-Scores.is (search rules)

pub returns-else-every : goal.returns-else-every
unfolding values_ok
returns-else-every c = let scores = c.every.ensures is_score (λ x r k. k) in rw c.in-Scores.is (search rules)
