-- The three tests of `lists_ok`, in order.
use Rattle.std.proofs.Common.{rules}
use Rattle.grid.specs.Validate.{lists_ok}
use Rattle.grid.proofs.validate.lists_ok.Goals as goal
use Rattle.grid.proofs.validate.lists_ok.Goals.{then-frames-le-MAX_FRAMES, else-frames-le-MAX_FRAMES}

pub returns-then-flags-frames : goal.returns-then-flags-frames
unfolding lists_ok
returns-then-flags-frames c = elim c.if-frames-le-MAX_FRAMES.branch [ then-frames-le-MAX_FRAMES w ↦ search rules | else-frames-le-MAX_FRAMES w ↦ search rules ]

pub returns-else-flags-frames : goal.returns-else-flags-frames
unfolding lists_ok
returns-else-flags-frames c = elim c.if-frames-le-MAX_FRAMES.branch [ then-frames-le-MAX_FRAMES w ↦ search rules | else-frames-le-MAX_FRAMES w ↦ search rules ]
