use Prim.Native.Nat.{◌-◌}
use lib.ListN.{length}
use Rattle.candidate_costs.specs.Level.{frame_level}
use Rattle.candidate_costs.specs.LevelLaws.{Levelling}
use Rattle.candidate_costs.proofs.level.fill_levels.Given as goal

abbrev pub invariant-loop-k : goal.invariant-loop-k
invariant-loop-k l = Levelling (frame_level l.domain l.scale l.width l.readings.values.now l.readings.levels.now) (length l.readings.values.now) l.initial.out l.n l.out l.before l.k

abbrev pub decreases-loop-k : goal.decreases-loop-k
decreases-loop-k l = l.n - l.k
