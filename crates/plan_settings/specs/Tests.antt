-- Document 01's refusals 9 and 10 of a plan's settings. A NaN is outside every range: every comparison with it is false.
use Rattle.std.specs.Prelude.{ℕ, Bool, true, ◌&&◌, ltb, leb, Float}
use Rattle.std.specs.Float.Ieee.{le, lt}
use Rattle.base_terms.specs.Floats.{nought}
use Rattle.grid.specs.Limits.{max_duration}
use Rattle.grid.specs.Values.{is_score, is_finite}
use Rattle.plan_settings.specs.declared.config.Placement.{Placement}
use Rattle.plan_settings.specs.declared.config.Placement.TheVariants.{Quietest, Center, Ratio}
use Rattle.path_pieces.specs.declared.weights.Weights.{Weights}

-- 9: a ratio lies within 0 to 1
unfoldable pub ratio_ok : Placement → Bool
ratio_ok Quietest = true
ratio_ok Center = true
ratio_ok (Ratio r) = is_score r

-- a weight is finite and not negative
unfoldable pub is_weight : Float → Bool
is_weight x = is_finite x && le nought x

-- the fixed cost of a cut is finite and above zero
unfoldable pub is_cut_cost : Float → Bool
is_cut_cost x = is_finite x && lt nought x

-- a pause reference is above zero and at most 24 hours
unfoldable pub is_reference : ℕ → Bool
is_reference nanos = ltb 0 nanos && leb nanos max_duration

-- 10: weights that `Weights::validate` takes, and a pause reference of at most 24 hours
unfoldable pub weights_ok : Weights → Bool
weights_ok w =
    is_weight w.level && is_weight w.pause && is_weight w.target && is_weight w.short && is_cut_cost w.cut
    && is_reference w.pause_ref
