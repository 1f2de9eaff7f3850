-- What completion leaves. By count: candidates that have the cuts of the division which goes as far as it can under the reach, and of equal shares.
-- By length: candidates that have the points which are added between neighbours of the first ones. A cut is had by its left end (`left_cut` of AcrossLaws).
use mathlib.Core.List.{List, Memᴰ}
use Rattle.std.specs.Prelude.{ℕ}
use Rattle.grid.specs.declared.boundary.FrameGrid.{FrameGrid}
use Rattle.candidate_span.specs.Gaps.{Cut}
use Rattle.candidate_span.specs.Span.{Span}
use Rattle.division.specs.Division.{pieces_asked}
use Rattle.division.specs.Greedy.{Greedy}
use Rattle.division.specs.Reach.{IsReach}
use Rattle.division.specs.Shares.{shares_of}
use Rattle.candidates.specs.declared.candidate.Candidate.{Candidate}
use Rattle.completion.specs.Bridged.{bridged_in}
use Rattle.plan_division.specs.Along.{all_cuts}
use Rattle.plan_division.specs.Across.{HasLeft, Across}

-- each of the cuts has its candidate
abbrev pub HasLefts : List Candidate → List Cut → Type 0
HasLefts cs cuts = (k : Cut) → Memᴰ k cuts → HasLeft cs k.left

-- document 01: "the cuts of the division that goes as far as it can at each step, and of min(N, kept frames) equal shares of the kept frames, are added"
pub record CompletedByCount (g : FrameGrid) (s : Span) (count maximum reach : ℕ) (cs : List Candidate) : Type 0 where
  pub across : Across s cs
  pub sought : IsReach g s count maximum reach
  pub far : List Cut
  pub greedy : Greedy g s reach far
  pub has_far : HasLefts cs far
  pub has_shares : HasLefts cs (shares_of s (pieces_asked s count))

-- document 01: "points are added until neighbouring candidates are within the maximum or one frame apart"; ds are the first candidates
pub record CompletedByLength (g : FrameGrid) (s : Span) (maximum : ℕ) (ds cs : List Candidate) : Type 0 where
  pub first : Across s ds
  pub across : Across s cs
  pub bridged : HasLefts cs (bridged_in g maximum s (all_cuts ds))
