-- The silences as one pass over the frames finds them, with no list of sound flags: a sound that is long enough ends the silence before it.
-- OnePassLaws shows that they are the silences of `sounds_of`.
use Rattle.std.specs.Prelude.{ℕ, suc, ◌-◌, Bool, not, ◌&&◌, cond, List, [], ◌∷◌, ◌++◌, eqb, ltb, leb, Float}
use Rattle.silence_runs.specs.Hysteresis.{reached}

-- whether a frame sounds by one threshold
unfoldable pub sound_by : Float → Float → ℕ → ℕ
sound_by threshold value flag = cond (eqb flag 1) 0 (reached threshold value)

-- whether a frame's sound flag is another
unfoldable pub is_other : Float → ℕ → Float × ℕ → Bool
is_other threshold sound frame = not (eqb (sound_by threshold frame.0 frame.1) sound)

-- how many frames in front have one and the same sound flag
unfoldable pub stay : Float → ℕ → List Float → List ℕ → ℕ
stay threshold sound [] flags = 0
stay threshold sound (v ∷ values) [] = 0
stay threshold sound (v ∷ values) (f ∷ flags) = cond (eqb (sound_by threshold v f) sound) (suc (stay threshold sound values flags)) 0

-- there is a run of n frames, and it is not shorter than min
unfoldable pub lasts : ℕ → ℕ → Bool
lasts min n = leb min n && ltb 0 n

-- the silence between two frames, where it lasts
unfoldable pub silence_between : ℕ → ℕ → ℕ → List ℕ
silence_between min first end = cond (lasts min (end - first)) (first ∷ (end ∷ [])) []

-- the silence after the last sound. Where there was no sound, which is last = 0, it stays however short it is
unfoldable pub last_silence : ℕ → ℕ → ℕ → List ℕ
last_silence min last end = silence_between (cond (eqb last 0) 0 min) last end

-- the silences from the end of the last long sound on, as seen at frame k after `held` frames of sound
unfoldable pub silences_from : ℕ → ℕ → ℕ → ℕ → ℕ → List ℕ → List ℕ
silences_from min_sound min_silence k last held [] = cond (lasts min_sound held) (silence_between min_silence last (k - held) ++ last_silence min_silence k k) (last_silence min_silence last k)
silences_from min_sound min_silence k last held (x ∷ xs) =
    cond (eqb x 1) (silences_from min_sound min_silence (suc k) last (suc held) xs)
    (cond (lasts min_sound held) (silence_between min_silence last (k - held) ++ silences_from min_sound min_silence (suc k) k 0 xs) (silences_from min_sound min_silence (suc k) last 0 xs))

-- the frame after frame i, of so many
abbrev pub next_frame : ℕ → ℕ → ℕ
next_frame i frames = cond (ltb i frames) (suc i) frames
