-- Document 01's rule of sound, by two thresholds. Sound flags are numbers, one a frame: 1 for sound, 0 for silence.
use Rattle.std.specs.Prelude.{ℕ, cond, List, [], ◌∷◌, eqb, Float}
use Rattle.std.specs.Float.Ieee.{le}

-- 1 where a value is at a threshold or above
unfoldable pub reached : Float → Float → ℕ
reached threshold value = cond (le threshold value) 1 0

-- whether a frame sounds, after one that did or did not: "sound starts at on or above and lasts while at off or above"; "a frame with flag 1 (no signal) enters as silence"
unfoldable pub sound_at : Float → Float → ℕ → Float → ℕ → ℕ
sound_at on off before value flag = cond (eqb flag 1) 0 (cond (eqb before 0) (reached on value) (reached off value))

-- the sound flags of frames that come after one that sounds or does not
unfoldable pub sounds_after : Float → Float → ℕ → List Float → List ℕ → List ℕ
sounds_after on off before [] flags = []
sounds_after on off before (v ∷ values) [] = []
sounds_after on off before (v ∷ values) (f ∷ flags) = sound_at on off before v f ∷ sounds_after on off (sound_at on off before v f) values flags

-- the sound flags of a recording, before any filling: it starts silent
unfoldable pub hysteresis : Float → Float → List Float → List ℕ → List ℕ
hysteresis on off values flags = sounds_after on off 0 values flags
