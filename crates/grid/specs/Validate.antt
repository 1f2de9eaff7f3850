-- Document 01's refusals 1 to 6 of a recording: what each test passes, and which refusal is given first.
use Rattle.std.specs.Prelude.{ℕ, ◌*◌, Bool, true, false, ◌&&◌, cond, List, ltb, leb, eqb, Float, length, Result, Ok, Err}
use Rattle.base_terms.specs.Lists.{all_of}
use Rattle.base_terms.specs.Limits.{max_len}
use Rattle.grid.specs.Limits.{max_rate, max_frame_rate, max_hop, max_frames}
use Rattle.grid.specs.Boundary.{covers}
use Rattle.grid.specs.Values.{is_score, is_finite, is_flag, is_unflagged}
use Rattle.grid.specs.declared.boundary.FrameGrid.{FrameGrid}
use Rattle.grid.specs.declared.validate.Domain.{Domain}
use Rattle.grid.specs.declared.validate.Domain.TheVariants.{Decibels, Scores}
use Rattle.grid.specs.declared.validate.Recording.{Recording}
use Rattle.grid.specs.declared.validate.Refusal.{Refusal}
use Rattle.grid.specs.declared.validate.Refusal.TheVariants.{BadSampleRate, NoChannels, BadFrames, BadLists, BadValue, NotCovered}

-- ---- the six tests, each true where the recording passes

-- above 0, and at most the limit
unfoldable pub is_up_to : ℕ → ℕ → Bool
is_up_to x most = ltb 0 x && leb x most

-- 1: the sample rate is above 0 and within its limit
abbrev pub rate_ok : ℕ → Bool
rate_ok rate = is_up_to rate max_rate

-- 2: there is a channel
abbrev pub channels_ok : ℕ → Bool
channels_ok channels = ltb 0 channels

-- 3: frame rate and hop are above 0 and within their limits
unfoldable pub frame_step_ok : ℕ → ℕ → Bool
frame_step_ok frameRate hop = is_up_to frameRate max_frame_rate && is_up_to hop max_hop

-- 3: and a frame spans at least one sample
unfoldable pub frames_ok : ℕ → ℕ → ℕ → Bool
frames_ok rate frameRate hop = frame_step_ok frameRate hop && leb frameRate (hop * rate)

-- 4: how many levels go with so many frames: one for each frame of decibels, none for scores
abbrev pub level_count : Domain → ℕ → ℕ
level_count Decibels frames = frames
level_count Scores frames = 0

-- 4: not too many frames, a flag for each, and as many levels as go with them
unfoldable pub lists_ok : Domain → ℕ → ℕ → ℕ → Bool
lists_ok domain frames flags levels = leb frames max_frames && eqb flags frames && eqb levels (level_count domain frames)

-- 5: scores within 0 to 1 without flags, or finite decibels with finite levels and flags of 0 or 1
unfoldable pub values_ok : Domain → List Float → List ℕ → List Float → Bool
values_ok Decibels values flags levels = all_of is_finite values && all_of is_flag flags && all_of is_finite levels
values_ok Scores values flags levels = all_of is_score values && all_of is_unflagged flags

-- 6: the length is within its limit, and the frames cover it
unfoldable pub length_ok : FrameGrid → Bool
length_ok g = leb g.len max_len && covers g

-- ---- the chain

-- the frame grid of a recording with this many values
abbrev pub grid_of : Recording → ℕ → FrameGrid
grid_of r frames =
    record { sample_rate = r.sample_rate; frame_rate = r.frame_rate; hop = r.hop; len = r.len; frames = frames }

-- the rest of the chain where a test passes, its refusal where it does not
abbrev pub or_else : Bool → Refusal → Result Unit Refusal → Result Unit Refusal
or_else passes refusal rest = cond passes rest (Err refusal)

-- the first test that fails, in document 01's order
unfoldable pub validity_of : Recording → List Float → List ℕ → List Float → Result Unit Refusal
validity_of r values flags levels =
    or_else (rate_ok r.sample_rate) BadSampleRate
    (or_else (channels_ok r.channels) NoChannels
    (or_else (frames_ok r.sample_rate r.frame_rate r.hop) BadFrames
    (or_else (lists_ok r.domain (length values) (length flags) (length levels)) BadLists
    (or_else (values_ok r.domain values flags levels) BadValue
    (or_else (length_ok (grid_of r (length values))) NotCovered
    (Ok tt))))))

-- the recording is accepted
abbrev pub is_valid : Result Unit Refusal → Bool
is_valid (Ok u) = true
is_valid (Err r) = false

-- document 01's number for each refusal
abbrev pub number_of : Refusal → ℕ
number_of BadSampleRate = 1
number_of NoChannels = 2
number_of BadFrames = 3
number_of BadLists = 4
number_of BadValue = 5
number_of NotCovered = 6

-- and 0 where the recording is accepted
abbrev pub refusal_of : Result Unit Refusal → ℕ
refusal_of (Ok u) = 0
refusal_of (Err r) = number_of r
