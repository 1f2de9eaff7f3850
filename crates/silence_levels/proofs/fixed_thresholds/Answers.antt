-- `fixed_thresholds`: without a frame with signal nothing reaches them; else any floor and reference give them.
use Rattle.std.proofs.Common.{rules, sym, ◌∙◌, ◌≡◌}
use Rattle.silence_levels.specs.Levels.{thresholds_in}
use Rattle.silence_levels.specs.LevelsLaws.{thresholds_none, thresholds_fixed}
use Rattle.silence_levels.proofs.fixed_thresholds.Goals as goal

pub returns-then-not-any_signal : goal.returns-then-not-any_signal
returns-then-not-any_signal c =
    let made : c.into.result ≡ thresholds_in c.no_signal.result = search rules in
    made ∙ thresholds_none _ _ _ _ _ c.no_signal.ensures (sym c.any_signal.ensures ∙ c.if-not-any_signal.true)

pub returns : goal.returns
returns c =
    let made : c.into-2.result ≡ thresholds_in c.resolve.result = search rules in
    made ∙ thresholds_fixed _ _ _ _ _ _ _ c.resolve.ensures c.requires.flags_len c.requires.threshold_fixed (sym c.any_signal.ensures ∙ c.if-not-any_signal.false)
