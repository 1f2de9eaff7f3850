-- Document 01: "By length, points are added until neighbouring candidates are within the maximum or one frame apart." Over all neighbours, as the Rust's `complete_max` goes.
-- Candidates stand in work memory: the left end of candidate i at entries + 3 i, its right end behind it.
use Rattle.std.specs.Prelude.{List, [], ◌++◌, ℕ, zero, suc, ◌+◌, ◌*◌, get_or}
use Rattle.grid.specs.declared.boundary.FrameGrid.{FrameGrid}
use Rattle.candidate_span.specs.Gaps.{Cut}
use Rattle.completion.specs.Bridge.{bridge_of}

-- the left end of candidate i
abbrev pub left_held : ℕ → List ℕ → ℕ → ℕ
left_held entries work i = get_or work (entries + 3 * i) 0

-- its right end
abbrev pub right_held : ℕ → List ℕ → ℕ → ℕ
right_held entries work i = get_or work (entries + 3 * i + 1) 0

-- the points that are added on n steps from a candidate to the next
unfoldable pub bridges_of : FrameGrid → ℕ → ℕ → List ℕ → ℕ → List Cut
bridges_of g limit entries work zero = []
bridges_of g limit entries work (suc n) = bridges_of g limit entries work n ++ bridge_of g limit (right_held entries work n) (left_held entries work (suc n))
