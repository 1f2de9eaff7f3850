-- The candidates' ends in samples, from the three numbers of each in work memory.
use Rattle.std.specs.Prelude.{List, ℕ, ◌+◌, ◌*◌, ◌≤◌, ◌<◌, length, get_or}
use Rattle.base_terms.specs.Layout.{side, entries_at, rights_at}
use Rattle.base_terms.specs.Lists.{onto, tabulate}
use Rattle.grid.specs.declared.boundary.FrameGrid.{FrameGrid}
use Rattle.grid.specs.Boundary.{boundary_of}
use Rattle.candidate_points.specs.Placed.{placed}
use Rattle.plan_lists.specs.Within.{part_at}

-- the position of candidate i's left end, which is its number 0, or right end, its number 1
abbrev pub end_in : FrameGrid → List ℕ → ℕ → ℕ → ℕ
end_in g entries which i = boundary_of g (get_or entries (3 * i + which) 0)

-- the numbers of so many candidates, where a plan's work memory holds them
abbrev pub entries_in : ℕ → ℕ → List ℕ → List ℕ
entries_in frames candidates work = part_at (entries_at frames) (3 * candidates) work

-- the left positions of so many candidates at the front of a list, and the right ones at their place behind
unfoldable pub positions_in : FrameGrid → ℕ → List ℕ → List ℕ → List ℕ
positions_in g candidates work positions =
    placed (rights_at g.frames) (tabulate (end_in g (entries_in g.frames candidates work) 1) candidates)
    (onto (tabulate (end_in g (entries_in g.frames candidates work) 0) candidates) positions)

-- there are three numbers for each of n candidates
pub record EntriesRoom (n which : ℕ) (entries : List ℕ) : Type 0 where
  pub three : 3 * n ≤ length entries
  pub one : which < 3

-- the candidates are no more than the boundaries, and the lists have room
pub record PositionsRoom (frames candidates : ℕ) (work positions : List ℕ) : Type 0 where
  pub few : candidates ≤ side frames
  pub entries : entries_at frames + 3 * candidates ≤ length work
  pub room : rights_at frames + candidates ≤ length positions
