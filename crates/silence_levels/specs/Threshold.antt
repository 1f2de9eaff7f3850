-- Document 01's "thresholds", as in `Levels::new`: where sound starts and how long it lasts, from the floor and the reference.
use Rattle.std.specs.Prelude.{Bool, true, false, cond, ℕ, pos, Float}
use Rattle.std.specs.Float.{inf, fin, binary32}
use Rattle.std.specs.Float.Ieee.{add, sub, lt, of_int, round}
use Rattle.base_terms.specs.Floats.{min_of, max_of}
use Rattle.grid.specs.Values.{is_finite}
use Rattle.grid.specs.declared.validate.Domain.{Domain}
use Rattle.grid.specs.declared.validate.Domain.TheVariants.{Decibels, Scores}
use Rattle.silence_levels.specs.declared.threshold.Threshold.{Threshold}
use Rattle.silence_levels.specs.declared.threshold.Threshold.TheVariants.{Auto, Abs, BelowRef}
use Rattle.silence_levels.specs.declared.threshold.Levels.{Levels}

-- a whole number of decibels
abbrev pub decibels : ℕ → Float
decibels n = of_int binary32 (pos n)

-- floor and reference, with these thresholds
abbrev pub levels_at : Float → Float → Float → Float → Levels
levels_at floor reference on off = record { floor = floor; reference = reference; on = on; off = off }

-- the levels where no frame has a signal: nothing reaches the threshold
unfoldable pub no_signal : Levels
no_signal = levels_at (fin false 0 (pos 0)) (fin false 0 (pos 0)) (inf false) (inf false)

-- max(floor + 4, min(floor + 6, reference − 20)), or the floor where that is above the reference
unfoldable pub decibel_on : Float → Float → Float
decibel_on floor reference =
    let on = max_of (add binary32 floor (decibels 4)) (min_of (add binary32 floor (decibels 6)) (sub binary32 reference (decibels 20))) in
    cond (lt reference on) floor on

-- the automatic thresholds: for decibels sound ends 3 below the onset, for scores it starts at 0.5 and ends below 0.35
unfoldable pub auto_of : Domain → Float → Float → Levels
auto_of Decibels floor reference = levels_at floor reference (decibel_on floor reference) (sub binary32 (decibel_on floor reference) (decibels 3))
auto_of Scores floor reference = levels_at floor reference (round binary32 false 1 2) (round binary32 false 35 100)

-- the thresholds of each setting
unfoldable pub resolve_of : Domain → Threshold → Float → Float → Levels
resolve_of domain Auto floor reference = auto_of domain floor reference
resolve_of domain (Abs v) floor reference = levels_at floor reference v v
resolve_of domain (BelowRef v) floor reference = levels_at floor reference (sub binary32 reference v) (sub binary32 reference v)

-- 11: the threshold's number is finite, where it has one
unfoldable pub threshold_ok : Threshold → Bool
threshold_ok Auto = true
threshold_ok (Abs v) = is_finite v
threshold_ok (BelowRef v) = is_finite v

-- the automatic thresholds do not depend on the values: those for scores
abbrev pub fixed_auto : Domain → Bool
fixed_auto Decibels = false
fixed_auto Scores = true

-- the thresholds do not depend on the values: absolute ones, and the automatic ones for scores
unfoldable pub is_fixed : Domain → Threshold → Bool
is_fixed domain Auto = fixed_auto domain
is_fixed domain (Abs v) = true
is_fixed domain (BelowRef v) = false
