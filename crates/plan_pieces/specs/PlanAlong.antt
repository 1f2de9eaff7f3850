-- Document 01's "plan" of a path over candidates: its pieces (start, end, flags) and its cuts (previous end, next start, reason), three numbers each.
use Rattle.std.specs.Prelude.{ℕ, List, map}
use Rattle.grid.specs.declared.boundary.FrameGrid.{FrameGrid}
use Rattle.plan_settings.specs.declared.config.PlanConfig.{PlanConfig}
use Rattle.candidates.specs.Candidates.{reason_number}
use Rattle.candidates.specs.Samples.{lefts_of, rights_of}
use Rattle.candidates.specs.declared.candidate.Candidate.{Candidate}
use Rattle.plan_lengths.specs.PlanLengths.{minimum_in, maximum_in}
use Rattle.plan_pieces.specs.Along.{pieces_along_numbers, cuts_along_numbers}

-- the reasons of candidates, as numbers
abbrev pub reasons_of : List Candidate → List ℕ
reasons_of cs = map (λ (c : Candidate). reason_number c.reason) cs

-- the pieces along a path over candidates cs
unfoldable pub plan_pieces : FrameGrid → PlanConfig → List Candidate → List ℕ → List ℕ
plan_pieces g settings cs path = pieces_along_numbers (lefts_of g cs) (rights_of g cs) (minimum_in g settings) (maximum_in g settings) path

-- the cuts between them
unfoldable pub plan_cuts : FrameGrid → List Candidate → List ℕ → List ℕ
plan_cuts g cs path = cuts_along_numbers (lefts_of g cs) (rights_of g cs) (reasons_of cs) path
