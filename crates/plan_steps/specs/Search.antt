-- The best path over candidates that work memory holds: what the search asks, and what it leaves. The candidates are those of whatever list cs is held there.
use Rattle.std.specs.Prelude.{◌≡◌, List, ℕ, Float, length, take}
use Rattle.grid.specs.Boundary.{Bounded}
use Rattle.grid.specs.declared.boundary.FrameGrid.{FrameGrid}
use Rattle.path_pieces.specs.declared.lengths.Lengths.{Lengths}
use Rattle.path_rules.specs.declared.solved.Solved.{Solved}
use Rattle.candidates.specs.declared.candidate.Candidate.{Candidate}
use Rattle.candidates.specs.Samples.{lefts_of, rights_of}
use Rattle.plan_lists.specs.Within.{part_at}
use Rattle.plan_path.specs.Asked.{CandidatesHeld}
use Rattle.base_terms.specs.Layout.{search_at, path_at, scores_at}
use Rattle.plan_path.specs.Search.{lefts_in, rights_in}
use Rattle.plan_division.specs.Best.{best_path_over, best_path_over_by_count, overs_of}
use Rattle.plan_division.specs.Ready.{SearchableOver}

-- k candidates stand in work memory, of the search's domain
pub record AskedOver (g : FrameGrid) (k : ℕ) (l : Lengths) (work positions : List ℕ) (costs : List Float) : Type 0 where
  pub cs : List Candidate
  pub number : k ≡ length cs
  pub held : CandidatesHeld g cs work positions costs
  pub searchable : SearchableOver g l cs
  pub bounded : Bounded g

-- a path over candidates cs stands in work memory, with their positions; what stands before the search's part is as it was
pub record PathOver (g : FrameGrid) (cs : List Candidate) (path work work' positions' : List ℕ) (costs costs' : List Float) (answer : Solved) : Type 0 where
  pub len : answer.len ≡ length path
  pub path_in_lem : part_at (path_at g.frames) answer.len work' ≡ path
  pub lefts : lefts_in (length cs) positions' ≡ lefts_of g cs
  pub rights : rights_in g.frames (length cs) positions' ≡ rights_of g cs
  pub before : take (search_at g.frames) work' ≡ take (search_at g.frames) work
  pub beforef : take (scores_at g.frames) costs' ≡ take (scores_at g.frames) costs

module _ (g : FrameGrid) (k : ℕ) (l : Lengths) (work positions : List ℕ) (costs : List Float) (work' positions' : List ℕ) (costs' : List Float) (answer : Solved) where
  -- by length: whatever candidates stand there, the best path over them is left
  pub record SearchedByLength : Type 0 where
    pub over : (cs : List Candidate) → k ≡ length cs → CandidatesHeld g cs work positions costs
        → PathOver g cs (best_path_over g l cs) work work' positions' costs costs' answer

module _ (g : FrameGrid) (k : ℕ) (l : Lengths) (count : ℕ) (work positions : List ℕ) (costs : List Float) (work' positions' : List ℕ) (costs' : List Float) (answer : Solved) where
  -- by count: the same, and the answer says how many of its pieces are over the limit
  pub record SearchedByCount : Type 0 where
    pub over : (cs : List Candidate) → k ≡ length cs → CandidatesHeld g cs work positions costs
        → PathOver g cs (best_path_over_by_count g l cs count) work work' positions' costs costs' answer
    pub overs : (cs : List Candidate) → k ≡ length cs → CandidatesHeld g cs work positions costs → answer.score.over ≡ overs_of g l cs count
