-- Two steps of document 01's plan: the cuts that completion by count adds, and the plan along a path over candidates.
use Rattle.std.specs.Prelude.{List, ℕ, ◌-◌, length}
use Rattle.grid.specs.declared.boundary.FrameGrid.{FrameGrid}
use Rattle.plan_settings.specs.declared.config.PlanConfig.{PlanConfig}
use Rattle.candidate_span.specs.Gaps.{Cut}
use Rattle.candidate_span.specs.Span.{Span}
use Rattle.division.specs.Division.{pieces_asked}
use Rattle.candidates.specs.declared.candidate.Candidate.{Candidate}
use Rattle.completion_reach.specs.Cuts.{cuts_of}
use Rattle.plan_division.specs.Added.{added_by_count}
use Rattle.plan_pieces.specs.PlanAlong.{plan_pieces, plan_cuts}
use Rattle.plan_pieces.specs.Output.{Output, Handed, handed_out_of}

-- document 01: "the cuts of the division that goes as far as it can at each step, and of min(N, kept frames) equal shares of the kept frames, are added"
abbrev pub cuts_added : FrameGrid → Span → ℕ → ℕ → List Cut
cuts_added g s count limit = added_by_count s count (cuts_of g s limit (pieces_asked s count))

-- the plan along a path over candidates, or 12
abbrev pub plan_along : FrameGrid → PlanConfig → List Candidate → List ℕ → Output → Handed
plan_along g settings cs path out = handed_out_of (length path - 1) (plan_pieces g settings cs path) (plan_cuts g cs path) out
