-- The limit first, then the cover.
use borrow.Author.Tests.{le-leb, lt-leb}
use Rattle.grid.specs.Validate.{length_ok}
use Rattle.grid.proofs.validate.length_ok.Goals as goal

pub returns-then-grid-le-MAX_LEN : goal.returns-then-grid-le-MAX_LEN
unfolding length_ok
returns-then-grid-le-MAX_LEN c = rw (le-leb _ _ c.if-grid-le-MAX_LEN.true) c.covered.ensures

pub returns-else-grid-le-MAX_LEN : goal.returns-else-grid-le-MAX_LEN
unfolding length_ok
returns-else-grid-le-MAX_LEN c = rw (lt-leb _ _ c.if-grid-le-MAX_LEN.false)
