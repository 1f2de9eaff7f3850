-- `backward::or_better` chooses as the definition does: of costs that are no NaN, the one that is not above the other is at most the other.
use Rattle.std.proofs.Common.{arith}
use borrow.Author.Tests.{lt-ltb, le-ltb, eq-eqb, ne_eqb}
use Rattle.path_by_length_search.specs.BackwardLaws.{cost_at_most}
use Rattle.path_by_length_search.proofs.backward.or_better.Goals as goal

pub returns-then-b-a-clause-value : goal.returns-then-b-a-clause-value
returns-then-b-a-clause-value c = rw (le-ltb c.args.a.score.over c.args.b.score.over (omega arith), eq-eqb _ _ c.if-a-b.true, cost_at_most _ _ c.requires.first_nonneg c.requires.second_nonneg, c.if-b-a.true)

pub returns-else-b-a-clause-value : goal.returns-else-b-a-clause-value
returns-else-b-a-clause-value c = rw (le-ltb c.args.a.score.over c.args.b.score.over (omega arith), eq-eqb _ _ c.if-a-b.true, cost_at_most _ _ c.requires.first_nonneg c.requires.second_nonneg, c.if-b-a.false)

pub returns-then-a-b-2-clause-value : goal.returns-then-a-b-2-clause-value
returns-then-a-b-2-clause-value c = rw (lt-ltb _ _ c.if-a-b-2.true)

pub returns-else-a-b-2-clause-value : goal.returns-else-a-b-2-clause-value
returns-else-a-b-2-clause-value c = rw (le-ltb _ _ c.if-a-b-2.false, ne_eqb _ _ c.if-a-b.false)
