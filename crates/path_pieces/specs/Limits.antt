-- Document 01's bounds on the number of lent candidates, refusal 15.
use Rattle.std.specs.Prelude.{ℕ}

-- the highest index of a candidate: 2 ^ 20. A path has no more pieces
abbrev pub max_index : ℕ
max_index = 1048576

-- the most candidates
abbrev pub max_candidates : ℕ
max_candidates = 1048577
