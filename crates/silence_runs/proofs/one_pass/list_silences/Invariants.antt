use Prim.Native.Nat.{◌-◌}
use lib.ListN.{length}
use Rattle.silence_runs.specs.OnePassWalk.{PassHolds}
use Rattle.silence_runs.proofs.one_pass.list_silences.Given as goal

abbrev pub invariant-loop-from : goal.invariant-loop-from
invariant-loop-from l = PassHolds l.on l.off l.min_sound l.min_silence l.readings.values.now l.readings.flags.now l.initial.out l.out l.from l.last l.at

abbrev pub decreases-loop-from : goal.decreases-loop-from
decreases-loop-from l = length l.readings.values.now - l.from
