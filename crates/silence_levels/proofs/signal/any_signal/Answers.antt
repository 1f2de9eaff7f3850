-- `signal::any_signal`: a frame has signal where a flag is 0.
use Rattle.std.proofs.Common.{◌∙◌}
use Rattle.silence_levels.specs.KeysLaws.{signal_is}
use Rattle.silence_levels.proofs.signal.any_signal.Goals as goal

pub returns : goal.returns
returns c = c.contains.ensures.value ∙ signal_is c.args.flags.now
