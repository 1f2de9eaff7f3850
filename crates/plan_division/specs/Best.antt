-- Document 01's best path over candidates on a frame grid.
use Rattle.std.specs.Prelude.{List, ℕ}
use Rattle.grid.specs.declared.boundary.FrameGrid.{FrameGrid}
use Rattle.path_pieces.specs.declared.lengths.Lengths.{Lengths}
use Rattle.path_by_length.specs.Table.{best_path}
use Rattle.path_by_count.specs.Table.{best_path_by_count, best_score_by_count}
use Rattle.candidates.specs.declared.candidate.Candidate.{Candidate}
use Rattle.candidates.specs.Entries.{costs_of}
use Rattle.candidates.specs.Samples.{lefts_of, rights_of}

-- by length
abbrev pub best_path_over : FrameGrid → Lengths → List Candidate → List ℕ
best_path_over g l cs = best_path l (lefts_of g cs) (rights_of g cs) (costs_of cs)

-- by count
abbrev pub best_path_over_by_count : FrameGrid → Lengths → List Candidate → ℕ → List ℕ
best_path_over_by_count g l cs count = best_path_by_count l (lefts_of g cs) (rights_of g cs) (costs_of cs) count

-- how many pieces of the best path by count are over the limit
abbrev pub overs_of : FrameGrid → Lengths → List Candidate → ℕ → ℕ
overs_of g l cs count = (best_score_by_count l (lefts_of g cs) (rights_of g cs) (costs_of cs) count).over
