-- The literals are the defaults.
use mathlib.Core.Path.{refl}
use lib.Ieee.{of_bits, round}
use Rattle.job.specs.Settings.{default_weights}
use Rattle.job.proofs.settings.default_weights.Goals as goal

pub returns : goal.returns
unfolding default_weights of_bits round
returns c = refl
