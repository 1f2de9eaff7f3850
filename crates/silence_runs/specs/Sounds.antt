-- Document 01: "short sound is filled first, then short silence, if any sound is left".
use Rattle.std.specs.Prelude.{ℕ, Bool, not, cond, List, eqb, Float}
use Rattle.base_terms.specs.Lists.{all_of}
use Rattle.silence_runs.specs.Hysteresis.{hysteresis}
use Rattle.silence_runs.specs.Fill.{fill_short}

-- a frame is silent
unfoldable pub is_silent : ℕ → Bool
is_silent x = eqb x 0

-- any frame sounds
unfoldable pub any_sound : List ℕ → Bool
any_sound xs = not (all_of is_silent xs)

-- short silence filled, if any sound is left
unfoldable pub fill_silence : ℕ → List ℕ → List ℕ
fill_silence min_silence xs = cond (any_sound xs) (fill_short 0 min_silence xs) xs

-- the sound flags of a recording, with both minimum lengths in frames
unfoldable pub sounds_of : Float → Float → ℕ → ℕ → List Float → List ℕ → List ℕ
sounds_of on off min_sound min_silence values flags = fill_silence min_silence (fill_short 1 min_sound (hysteresis on off values flags))
