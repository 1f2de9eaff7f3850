-- Above 0 first, then the limit.
use borrow.Author.Tests.{lt-ltb, le-ltb}
use Rattle.grid.specs.Validate.{is_up_to}
use Rattle.grid.proofs.validate.is_up_to.Goals as goal

pub returns-then-x-gt0 : goal.returns-then-x-gt0
unfolding is_up_to
returns-then-x-gt0 c = rw (lt-ltb _ _ c.if-x-gt0.true)

pub returns-else-x-gt0 : goal.returns-else-x-gt0
unfolding is_up_to
returns-else-x-gt0 c = rw (le-ltb _ _ c.if-x-gt0.false)
