use Prim.Native.Nat.{◌-◌, ◌≤◌}
use lib.ListN.{length}
use Rattle.answers_jobs.specs.Tally.{UpTo}
use Rattle.answers_jobs.specs.TallyLaws.{Tallied}
use Rattle.answers_jobs.proofs.replay_all.Given as goal

abbrev pub invariant-loop-at : goal.invariant-loop-at
invariant-loop-at l = (l.at ≤ length l.s) × (length l.s ≤ 131072) × UpTo l.at l.tally × Tallied l.s l.at l.tally

abbrev pub decreases-loop-at : goal.decreases-loop-at
decreases-loop-at l = length l.s - l.at
