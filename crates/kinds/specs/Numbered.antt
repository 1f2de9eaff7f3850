-- The kinds that have a number from 0 to 2, some with a value beside it.
-- Any other number is no kind. A job that has one is refused for it (19) before what is made of it is looked at; from C it becomes a value that is NaN, which document 01's tests refuse.
use Rattle.std.specs.Prelude.{ℕ, cond, eqb, Float}
use Rattle.std.specs.Float.{nan}
use Rattle.silence_levels.specs.declared.threshold.Threshold.{Threshold}
use Rattle.silence_levels.specs.declared.threshold.Threshold.TheVariants.{Auto, Abs, BelowRef}
use Rattle.plan_settings.specs.declared.config.Placement.{Placement}
use Rattle.plan_settings.specs.declared.config.Placement.TheVariants.{Quietest, Center, Ratio}

-- document 01's threshold: 0 automatic, 1 absolute, 2 below the reference, the last two with a level; of any other number the level fails test 11
unfoldable pub threshold_of : ℕ → Float → Threshold
threshold_of kind level = cond (eqb kind 0) Auto (cond (eqb kind 1) (Abs level) (cond (eqb kind 2) (BelowRef level) (Abs nan)))

-- document 01's placement: 0 quietest, 1 center, 2 ratio, the last with a ratio; of any other number the ratio fails test 9
unfoldable pub placement_of : ℕ → Float → Placement
placement_of kind ratio = cond (eqb kind 0) Quietest (cond (eqb kind 1) Center (cond (eqb kind 2) (Ratio ratio) (Ratio nan)))
