-- Limits that more than one floor has: document 01's, and that of a word.
use Rattle.std.specs.Prelude.{ℕ, ◌<◌}

-- refusals 6 and 16: the greatest length of a recording, and so the highest end of a candidate and the highest limit, in samples: 2 ^ 40
abbrev pub max_len : ℕ
max_len = 1099511627776

-- a number of 64 bits
abbrev pub IsU64 : ℕ → Type 0
IsU64 n = n < 18446744073709551616
