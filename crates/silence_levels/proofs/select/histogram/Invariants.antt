use lib.ListN.{length}
use Rattle.silence_levels.specs.SelectLaws.{DigitsCounted}
use Rattle.silence_levels.proofs.select.histogram.Given as goal

abbrev pub invariant-loop-key : goal.invariant-loop-key
invariant-loop-key l = DigitsCounted l.keys l.shift l.prefix (length l.keys) l.counts l.key-index
