use Rattle.silence_levels.specs.SelectLaws.{DigitSought}
use Rattle.silence_levels.proofs.select.walk.Given as goal

abbrev pub invariant-loop-digit : goal.invariant-loop-digit
invariant-loop-digit l = DigitSought l.counts l.rank l.digit l.left
