use mathlib.Core.Path.{◌≡◌}
use lib.ListN.{length}
use Rattle.plan_lists.specs.BackLaws.{WritingWithin}
use Rattle.plan_lists.proofs.back.backtrack_within.Given as goal

abbrev pub invariant-loop-k : goal.invariant-loop-k
invariant-loop-k l = (length l.work ≡ length l.initial.work) × WritingWithin l.parents l.n l.at l.initial.work l.work l.k l.j
