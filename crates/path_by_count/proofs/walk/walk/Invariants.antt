use Rattle.path_by_count.specs.WalkLaws.{Walking}
use mathlib.Core.Path.{◌≡◌}
use lib.ListN.{length}
use Rattle.path_by_count.proofs.walk.walk.Given as goal

abbrev pub invariant-loop-k : goal.invariant-loop-k
invariant-loop-k l = (length l.path ≡ length l.initial.path) × Walking l.parent l.n l.pieces l.initial.path l.path l.k l.j
