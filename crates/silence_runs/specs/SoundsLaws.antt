-- There is a sound flag for each frame.
use Rattle.std.specs.Prelude.{◌≡◌, List, ℕ, Float, length}
use Rattle.std.proofs.Common.{inl, inr}
use Rattle.base_laws.specs.Tests.{tested}
use Rattle.silence_runs.specs.HysteresisLaws.{hysteresis-length}
use Rattle.silence_runs.specs.FillLaws.{fill_length}
use Rattle.silence_runs.specs.Sounds.{any_sound, fill_silence, sounds_of}

-- filling keeps the number of frames
silence-length : (min_silence : ℕ) (xs : List ℕ) → length (fill_silence min_silence xs) ≡ length xs
unfolding fill_silence
silence-length min_silence xs = elim (tested (any_sound xs)) [ inl e ↦ rw e (fill_length 0 min_silence xs) | inr e ↦ rw e ]

module _ (on off : Float) (min_sound min_silence : ℕ) (values : List Float) (flags : List ℕ) where
  -- there is a flag for each frame
  pub sounds_length : length flags ≡ length values → length (sounds_of on off min_sound min_silence values flags) ≡ length values
  unfolding sounds_of
  sounds_length e = simp (silence-length, fill_length) (hysteresis-length on off values flags e)
