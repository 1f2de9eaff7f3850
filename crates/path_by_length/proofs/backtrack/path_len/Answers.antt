-- `backtrack::path_len` counts one candidate for each step back; each parent is an earlier candidate, so the walk ends.
use Rattle.std.proofs.Common.{arith}
use Rattle.path_by_length.specs.WalkLaws.{counting_back_next, counting_back_done}
use Rattle.path_by_length.proofs.backtrack.path_len.Goals as goal

pub overflow_cast-j : goal.overflow_cast-j
overflow_cast-j c = omega (arith, c.type_inv.parent c.loop-j.j)

pub loop-j-smaller : goal.loop-j-smaller
loop-j-smaller c = c.requires.falling c.loop-j.j c.loop-j-test.true c.loop-j.invariant.0

pub loop-j-preserved : goal.loop-j-preserved
loop-j-preserved c = counting_back_next c.requires.falling c.loop-j.len c.loop-j.j c.loop-j-test.true c.loop-j.invariant

pub returns : goal.returns
returns c = counting_back_done c.requires.falling c.loop-j.len c.loop-j.j c.loop-j-test.false c.loop-j.invariant
