-- `point::point_reason`: one end for each reason.
use lib.Ieee.{of_bits}
use Rattle.candidates.specs.Candidates.{point_reason}
use Rattle.candidates.proofs.point.point_reason.Goals as goal

pub returns-then-in_pause : goal.returns-then-in_pause
unfolding point_reason
returns-then-in_pause c = rw (← c.in_pause.ensures, c.if-in_pause.true)

pub returns-then-levels-k : goal.returns-then-levels-k
unfolding point_reason of_bits
returns-then-levels-k c = rw (← c.in_pause.ensures, c.if-in_pause.false, c.if-levels-k.true)

pub returns-else-levels-k : goal.returns-else-levels-k
unfolding point_reason of_bits
returns-else-levels-k c = rw (← c.in_pause.ensures, c.if-in_pause.false, c.if-levels-k.false)
