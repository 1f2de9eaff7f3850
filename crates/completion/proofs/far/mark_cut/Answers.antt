-- `far::mark_cut`: the test is that of `mark_cut`.
use borrow.Author.Tests.{eq-eqb, ne_eqb}
use Rattle.completion.proofs.far.mark_cut.Goals as goal

pub returns-then-cut : goal.returns-then-cut
returns-then-cut c = rw (eq-eqb c.args.cut.left c.args.cut.right c.if-cut.true)

pub returns-else-cut : goal.returns-else-cut
returns-else-cut c = rw (ne_eqb c.args.cut.left c.args.cut.right c.if-cut.false)
