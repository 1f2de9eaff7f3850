-- Candidates in samples, as the path search takes them: the Rust's `left` and `right`.
use Rattle.std.specs.Prelude.{List, map, ℕ}
use Rattle.grid.specs.declared.boundary.FrameGrid.{FrameGrid}
use Rattle.grid.specs.Boundary.{boundary_of}
use Rattle.candidates.specs.declared.candidate.Candidate.{Candidate}

-- the sample at which the earlier piece ends
abbrev pub left_sample : FrameGrid → Candidate → ℕ
left_sample g c = boundary_of g c.left

-- the sample at which the later piece starts
abbrev pub right_sample : FrameGrid → Candidate → ℕ
right_sample g c = boundary_of g c.right

-- the left ends of all candidates, in samples
abbrev pub lefts_of : FrameGrid → List Candidate → List ℕ
lefts_of g cs = map (left_sample g) cs

-- their right ends
abbrev pub rights_of : FrameGrid → List Candidate → List ℕ
rights_of g cs = map (right_sample g) cs
