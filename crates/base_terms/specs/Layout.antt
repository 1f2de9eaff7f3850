-- Where each part of each work list stands: docs/ARCHITECTURE.md has the picture. Places in a list are counted from 0.
use Rattle.std.specs.Prelude.{ℕ, ◌+◌, ◌*◌}

-- ---- a plan of a recording of so many frames

-- how many frame boundaries there are; a part has a place for each of them, or several
abbrev pub side : ℕ → ℕ
side frames = frames + 1

-- u32: two numbers for each silence stand in front; then each frame's quiet stretch
abbrev pub runs_at : ℕ → ℕ
runs_at frames = frames + 1

-- u32: a mark for each boundary with a point
abbrev pub marks_at : ℕ → ℕ
marks_at frames = 2 * (frames + 1)

-- u32: three numbers for each candidate
abbrev pub entries_at : ℕ → ℕ
entries_at frames = 3 * (frames + 1)

-- u32: the search's part
abbrev pub search_at : ℕ → ℕ
search_at frames = 6 * (frames + 1)

-- u32: the path
abbrev pub path_at : ℕ → ℕ
path_at frames = 11 * (frames + 1)

-- u32: behind the path
abbrev pub end_u32 : ℕ → ℕ
end_u32 frames = 12 * (frames + 1)

-- u64: the candidates' left positions stand in front; then the right ones
abbrev pub rights_at : ℕ → ℕ
rights_at frames = frames + 1

-- u64: behind the right positions
abbrev pub end_u64 : ℕ → ℕ
end_u64 frames = 2 * (frames + 1)

-- f64: the level of each boundary stands in front; then a cost for each candidate
abbrev pub costs_at : ℕ → ℕ
costs_at frames = frames + 1

-- f64: the search's part
abbrev pub scores_at : ℕ → ℕ
scores_at frames = 2 * (frames + 1)

-- f64: behind the search's part
abbrev pub end_f64 : ℕ → ℕ
end_f64 frames = 7 * (frames + 1)

-- ---- a search over n candidates, in its part of both lists

-- by length: the table stands in front; then the parents in the u32 list, the cuts' costs in the f64 list
abbrev pub behind_table : ℕ → ℕ
behind_table n = n

-- by length: behind these
abbrev pub end_by_length : ℕ → ℕ
end_by_length n = n + n

-- by count: the tree of least scores stands in front; then the first starts in the u32 list, the cuts' costs in the f64 list
abbrev pub behind_tree : ℕ → ℕ
behind_tree n = n * 4

-- by count: behind these
abbrev pub end_by_count : ℕ → ℕ
end_by_count n = n * 5
