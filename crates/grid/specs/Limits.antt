-- Document 01's limits on a recording, each with its name. A change request that moves one moves it here.
use Rattle.std.specs.Prelude.{ℕ}

-- refusal 1: the highest sample rate, that of a bat recorder
abbrev pub max_rate : ℕ
max_rate = 768000

-- refusal 3: the highest frame rate
abbrev pub max_frame_rate : ℕ
max_frame_rate = 192000

-- refusal 3: the longest hop
abbrev pub max_hop : ℕ
max_hop = 1048576

-- refusal 4: the most frames
abbrev pub max_frames : ℕ
max_frames = 1048576

-- refusal 7: the longest duration, 24 hours, in nanoseconds
abbrev pub max_duration : ℕ
max_duration = 86400000000000

-- how many nanoseconds a second has
abbrev pub nanos_per_sec : ℕ
nanos_per_sec = 1000000000
