-- The points that completion adds to a plan's candidates, given as cuts: those at one boundary become points, and a dropped gap is a candidate already.
use Rattle.std.specs.Prelude.{List, [], ◌++◌, ℕ, zero, suc, ◌-◌, Float, length}
use Rattle.grid.specs.declared.boundary.FrameGrid.{FrameGrid}
use Rattle.candidate_span.specs.Gaps.{Cut}
use Rattle.candidate_span.specs.Span.{Span}
use Rattle.division.specs.Division.{pieces_asked}
use Rattle.division.specs.Shares.{shares_of}
use Rattle.candidates.specs.declared.candidate.Candidate.{Candidate}
use Rattle.candidates.specs.declared.context.Context.{Context}
use Rattle.candidates.specs.Candidates.{candidates_of}
use Rattle.completion.specs.Bridge.{bridge_of}
use Rattle.completion_reach.specs.Cuts.{points_in}
use Rattle.plan_division.specs.Along.{ends_at}

-- by count: the cuts of the division that goes as far as it can, and of equal shares
abbrev pub added_by_count : Span → ℕ → List Cut → List Cut
added_by_count s count far = far ++ shares_of s (pieces_asked s count)

-- by length: the points on n steps from a candidate to the next
abbrev pub bridges_among : FrameGrid → ℕ → List Candidate → ℕ → List Cut
bridges_among g limit cs zero = []
bridges_among g limit cs (suc n) = bridges_among g limit cs n ++ bridge_of g limit (ends_at cs n).right (ends_at cs (suc n)).left

-- document 01's points by length, "until neighbouring candidates are within the maximum or one frame apart": those on all steps
abbrev pub added_by_length : FrameGrid → ℕ → List Candidate → List Cut
added_by_length g maximum cs = bridges_among g maximum cs (length cs - 1)

-- the candidates with points at boundaries ks and at those that are added
abbrev pub completed_with : Context → List ℕ → List ℕ → List Float → List ℕ → List Cut → ℕ → ℕ → List Candidate
completed_with x ss runs levels ks added first last = candidates_of x ss runs levels (ks ++ points_in added) first last
