-- `threshold::no_signal`: 1.0 / 0.0 is the infinity.
use lib.Ieee.{of_bits, div}
use Rattle.silence_levels.specs.Threshold.{no_signal}
use Rattle.std.proofs.Common.{rules}
use Rattle.silence_levels.proofs.threshold.no_signal.Goals as goal

pub returns : goal.returns
unfolding of_bits div no_signal
returns c = search rules
