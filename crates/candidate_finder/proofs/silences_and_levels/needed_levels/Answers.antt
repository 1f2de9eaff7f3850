-- `silences_and_levels::needed_levels`: decibels take the levels, scores their thresholds alone.
use mathlib.Core.Path.{◌≡◌}
use Rattle.grid.specs.declared.validate.Domain.{Domain}
use Rattle.grid.specs.declared.validate.Domain.TheVariants.{Decibels, Scores}
use Rattle.candidate_finder.specs.NeededLevels.{needed_decibels, needed_scores}
use Rattle.candidate_finder.proofs.silences_and_levels.needed_levels.Goals as goal

pub returns-in-Decibels : goal.returns-in-Decibels
returns-in-Decibels c =
    let d : ◌≡◌ {A = Domain} c.args.domain Decibels = cc in
    needed_decibels c.args.domain _ _ d c.levels.ensures.result

pub returns-in-Scores : goal.returns-in-Scores
returns-in-Scores c =
    let d : ◌≡◌ {A = Domain} c.args.domain Scores = cc in
    needed_scores c.args.domain c.args.threshold c.args.readings.now.values.now c.args.readings.now.flags.now c.thresholds-t.result d c.thresholds-t.ensures
