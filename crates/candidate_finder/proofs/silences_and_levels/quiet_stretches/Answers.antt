-- `silences_and_levels::quiet_stretches`: flags first, then the length of each run of them.
use mathlib.Core.Path.{ap, ◌∙◌}
use Rattle.silence_runs.specs.Quiet.{quiet_runs}
use Rattle.candidate_finder.proofs.silences_and_levels.quiet_stretches.Goals as goal

pub returns : goal.returns
returns c = c.quiet_runs.ensures ∙ ap quiet_runs c.below_off.ensures
