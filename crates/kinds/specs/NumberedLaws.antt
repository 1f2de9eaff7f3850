-- Each number from 0 to 2 says its own kind, with the value that was handed over; any other says one that the tests refuse.
use Rattle.std.specs.Prelude.{◌≡◌, refl, false, ℕ, ◌<◌, Float}
use Rattle.std.proofs.Common.{ap, arith}
use borrow.Author.Tests.{ne_eqb}
use Rattle.std.specs.Float.{nan}
use Rattle.std.specs.Float.Ieee.{le, lt}
use Rattle.grid.specs.Values.{is_finite, is_score}
use Rattle.silence_levels.specs.Threshold.{threshold_ok}
use Rattle.silence_levels.specs.declared.threshold.Threshold.TheVariants.{Auto, Abs, BelowRef}
use Rattle.plan_settings.specs.Tests.{ratio_ok}
use Rattle.plan_settings.specs.declared.config.Placement.TheVariants.{Quietest, Center, Ratio}
use Rattle.kinds.specs.Numbered.{threshold_of, placement_of}

-- ---- the threshold

-- 0 is the automatic threshold, whatever level stands beside it
pub threshold_auto : (level : Float) → threshold_of 0 level ≡ Auto
unfolding threshold_of
threshold_auto level = refl

-- 1 is an absolute threshold, at its level
pub threshold_absolute : (level : Float) → threshold_of 1 level ≡ Abs level
unfolding threshold_of
threshold_absolute level = refl

-- 2 is a threshold below the reference, by its level
pub threshold_below : (level : Float) → threshold_of 2 level ≡ BelowRef level
unfolding threshold_of
threshold_below level = refl

-- any other number fails test 11, whatever the level
pub threshold_unknown : (kind : ℕ) (level : Float) → 2 < kind → threshold_ok (threshold_of kind level) ≡ false
unfolding threshold_ok is_finite lt
threshold_unknown kind level h = ap threshold_ok none
  where
    none : threshold_of kind level ≡ Abs nan
    none = unfold threshold_of in rw (ne_eqb kind 0 (omega arith), ne_eqb kind 1 (omega arith), ne_eqb kind 2 (omega arith))

-- ---- the placement

-- 0 is quietest, whatever ratio stands beside it
pub placement_quietest : (ratio : Float) → placement_of 0 ratio ≡ Quietest
unfolding placement_of
placement_quietest ratio = refl

-- 1 is center, whatever ratio stands beside it
pub placement_center : (ratio : Float) → placement_of 1 ratio ≡ Center
unfolding placement_of
placement_center ratio = refl

-- 2 is ratio, with its ratio
pub placement_ratio : (ratio : Float) → placement_of 2 ratio ≡ Ratio ratio
unfolding placement_of
placement_ratio ratio = refl

-- any other number fails test 9, whatever the ratio
pub placement_unknown : (kind : ℕ) (ratio : Float) → 2 < kind → ratio_ok (placement_of kind ratio) ≡ false
unfolding ratio_ok is_score le
placement_unknown kind ratio h = ap ratio_ok none
  where
    none : placement_of kind ratio ≡ Ratio nan
    none = unfold placement_of in rw (ne_eqb kind 0 (omega arith), ne_eqb kind 1 (omega arith), ne_eqb kind 2 (omega arith))
