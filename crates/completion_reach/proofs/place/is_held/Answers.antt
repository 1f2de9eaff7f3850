-- `place::is_held`: the tests are those of `is_inner`, `is_gap` and the gap's two edges.
use Rattle.std.proofs.Common.{arith}
use Rattle.std.proofs.lemmas.Grind.{common_steps}
use Rattle.completion_reach.specs.PlaceLaws.{held_tests}
use Rattle.completion_reach.proofs.place.is_held.Goals as goal

pub returns-then-b-k : goal.returns-then-b-k
returns-then-b-k c = rw (held_tests c.args.p c.args.start c.args.end c.args.k c.silence_bounds-b.result c.silence_bounds-b.ensures) (grind (arith, common_steps))

pub returns-else-b-k : goal.returns-else-b-k
returns-else-b-k c = rw (held_tests c.args.p c.args.start c.args.end c.args.k c.silence_bounds-b.result c.silence_bounds-b.ensures) (grind (arith, common_steps))
