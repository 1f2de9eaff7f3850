-- `thresholds`: fixed ones need no percentile; the others are those of the levels.
use Rattle.std.proofs.Common.{rules, ◌∙◌, ◌≡◌}
use Rattle.silence_levels.specs.Levels.{thresholds_in}
use Rattle.silence_levels.specs.LevelsLaws.{thresholds_levels}
use Rattle.silence_levels.proofs.thresholds.Goals as goal

pub returns : goal.returns
returns c =
    let made : c.into.result ≡ thresholds_in c.levels.result = search rules in
    made ∙ thresholds_levels _ _ _ _ _ c.levels.ensures.result
