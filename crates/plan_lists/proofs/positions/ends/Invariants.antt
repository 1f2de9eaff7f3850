use mathlib.Core.Path.{◌≡◌}
use Prim.Native.Nat.{◌-◌}
use lib.ListN.{length}
use Rattle.plan_lists.specs.Positions.{end_in}
use Rattle.plan_lists.specs.EndsLaws.{WritingEnds}
use Rattle.plan_lists.proofs.positions.ends.Given as goal

abbrev pub invariant-loop-i : goal.invariant-loop-i
invariant-loop-i l = (length l.out ≡ length l.initial.out) × (l.i-end ≡ length l.initial.out) × WritingEnds (end_in l.g l.entries l.which) l.initial.out l.i-end l.out l.i

abbrev pub decreases-loop-i : goal.decreases-loop-i
decreases-loop-i l = l.i-end - l.i
