-- Below the frame count the start of the frame, and else the length.
use borrow.Author.Tests.{lt-ltb, le-ltb}
use Rattle.grid.specs.Boundary.{boundary_of}
use Rattle.grid.proofs.boundary.FrameGrid.position.Goals as goal

pub returns-then-k-self : goal.returns-then-k-self
unfolding boundary_of
returns-then-k-self c = rw (lt-ltb _ _ c.if-k-self.true) c.start.ensures

pub returns-else-k-self : goal.returns-else-k-self
unfolding boundary_of
returns-else-k-self c = rw (le-ltb _ _ c.if-k-self.false)
