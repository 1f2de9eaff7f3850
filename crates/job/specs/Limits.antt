-- Document 01's limits of a job: "job over 8,192 bytes or 511 frames".
use Rattle.std.specs.Prelude.{ℕ}

-- the most bytes
abbrev pub most_bytes : ℕ
most_bytes = 8192

-- the most frames
abbrev pub most_frames : ℕ
most_frames = 511
