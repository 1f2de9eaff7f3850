use lib.ListN.{length}
use Rattle.silence_levels.specs.KeysLaws.{Collecting}
use Rattle.silence_levels.proofs.keys.collect.Given as goal

abbrev pub invariant-loop-value : goal.invariant-loop-value
invariant-loop-value l = Collecting l.readings.values.now l.readings.flags.now l.initial.keys (length l.readings.values.now) l.keys l.n (length l.yielded)
