-- A smoothed value on the scale from 0 to 1, as the Rust's `Levels::normalize` puts it there.
use Rattle.std.specs.Prelude.{false, pos, Float}
use Rattle.std.specs.Float.{fin, binary32, binary64}
use Rattle.std.specs.Float.Ieee.{sub, div, of_int}
use Rattle.base_terms.specs.Floats.{nought, max_of, clamp_of}
use Rattle.grid.specs.declared.validate.Domain.{Domain}
use Rattle.grid.specs.declared.validate.Domain.TheVariants.{Decibels, Scores}
use Rattle.silence_levels.specs.declared.threshold.Levels.{Levels}

-- the upper end of the scale, a program's `1.0`
abbrev pub unit : Float
unit = fin false 1 (pos 0)

-- the Rust's MIN_RANGE_DB: a narrower range would make noise look loud
abbrev pub min_range : Float
min_range = of_int binary64 (pos 20)

-- how many decibels the scale spans: the reference less the floor, in f32, and 20 at least
unfoldable pub range_of : Levels → Float
range_of scale = max_of (sub binary32 scale.reference scale.floor) min_range

-- a value on the scale: scores are on it already, decibels are scaled between the floor and the reference
unfoldable pub normalize_of : Domain → Levels → Float → Float
normalize_of Scores scale value = clamp_of value nought unit
normalize_of Decibels scale value = clamp_of (div binary64 (sub binary64 value scale.floor) (range_of scale)) nought unit
