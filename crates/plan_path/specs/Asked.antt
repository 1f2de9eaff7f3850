-- Candidates in work memory, over which the path search is asked.
use Rattle.std.specs.Prelude.{◌≡◌, List, ℕ, ◌≤◌, Float, length}
use Rattle.base_terms.specs.Layout.{side, end_u32, end_u64, end_f64}
use Rattle.grid.specs.declared.boundary.FrameGrid.{FrameGrid}
use Rattle.candidates.specs.declared.candidate.Candidate.{Candidate}
use Rattle.candidates.specs.Entries.{entries_of, costs_of}
use Rattle.plan_lists.specs.Positions.{entries_in}
use Rattle.plan_path.specs.Search.{costs_in}

-- work memory holds the candidates cs, and has room for their positions and for the search
pub record CandidatesHeld (g : FrameGrid) (cs : List Candidate) (work positions : List ℕ) (costs : List Float) : Type 0 where
  pub entries : entries_in g.frames (length cs) work ≡ entries_of cs
  pub priced : costs_in g.frames (length cs) costs ≡ costs_of cs
  pub few : length cs ≤ side g.frames
  pub u32s : end_u32 g.frames ≤ length work
  pub u64s : end_u64 g.frames ≤ length positions
  pub f64s : end_f64 g.frames ≤ length costs
