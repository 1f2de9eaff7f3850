-- The candidates that stand in work memory once completion is done.
use Rattle.std.specs.Prelude.{◌≡◌, List, [], ℕ, Float}
use Rattle.grid.specs.declared.boundary.FrameGrid.{FrameGrid}
use Rattle.candidate_span.specs.Span.{Span, span_in}
use Rattle.candidate_span.specs.declared.held.HeldSpan.{HeldSpan}
use Rattle.candidates.specs.declared.candidate.Candidate.{Candidate}
use Rattle.candidates.specs.declared.context.Context.{Context}
use Rattle.candidate_walk.specs.Held.{silences_held, levels_held}
use Rattle.plan_division.specs.Added.{added_by_length}
use Rattle.completion_reach.specs.Reach.{reach_of}
use Rattle.candidate_finder.specs.FinderLaws.{Stands}
use Rattle.plan_steps.specs.declared.complete.Completed.{Completed}
use Rattle.plan_steps.specs.Held.{front_of, held_with}
use Rattle.plan_steps.specs.Steps.{cuts_added}

-- by length: points are added until neighbouring candidates are within `most`, document 01's maximum, or one frame apart
abbrev pub bridged_held : Context → FrameGrid → ℕ → HeldSpan → List ℕ → List Float → List Candidate
bridged_held x g most span work workf =
    let with = held_with x span (front_of x.padding.frames work) (levels_held x.padding.frames workf) in
    with (added_by_length g most (with []))

-- by count: document 01's reach, and the candidates that are completed under it
module _ (x : Context) (g : FrameGrid) (most count : ℕ) (span : HeldSpan) (work : List ℕ) (workf : List Float) (work' : List ℕ) (workf' : List Float) where
  -- the span
  abbrev s : Span
  s = span_in x.gap x.padding span (silences_held span.silences (front_of x.padding.frames work))

  -- the limit is the reach, and so many candidates stand under it
  pub record CompletedIs (r : Completed) : Type 0 where
    -- document 01's reach
    pub reach : r.limit ≡ reach_of g s count most
    -- the candidates with what is added under it
    pub stands : Stands x.padding.frames r.candidates
        (held_with x span (front_of x.padding.frames work) (levels_held x.padding.frames workf) (cuts_added g s count r.limit)) work' workf'
