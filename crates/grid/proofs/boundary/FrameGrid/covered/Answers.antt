-- Each end is one case of `covers`: no length, no frame, or both comparisons.
use Rattle.std.proofs.Common.{rules}
use Rattle.grid.specs.Boundary.{covers}
use Rattle.grid.proofs.boundary.FrameGrid.covered.Goals as goal
use Rattle.grid.proofs.boundary.FrameGrid.covered.Goals.{then-n-gt0, else-n-gt0}

pub returns-then-len-eq0 : goal.returns-then-len-eq0
unfolding covers
returns-then-len-eq0 c = search rules

pub returns-then-start-len : goal.returns-then-start-len
unfolding covers
returns-then-start-len c = elim c.if-n-gt0.branch [ then-n-gt0 w ↦ search rules | else-n-gt0 w ↦ search rules ]

pub returns-else-start-len : goal.returns-else-start-len
unfolding covers
returns-else-start-len c = elim c.if-n-gt0.branch [ then-n-gt0 w ↦ search rules | else-n-gt0 w ↦ search rules ]
