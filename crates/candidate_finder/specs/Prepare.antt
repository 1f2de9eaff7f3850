-- What preparing needs of a recording and settings, and what its answer says of them and of work memory.
use Rattle.std.specs.Prelude.{◌≡◌, true, false, List, Option, Some, None, ℕ, ◌≤◌, Float, length}
use Rattle.grid.specs.Validate.{grid_of}
use Rattle.grid.specs.declared.boundary.FrameGrid.{FrameGrid}
use Rattle.grid.specs.declared.validate.Recording.{Recording}
use Rattle.silence_list.specs.declared.config.SegmentConfig.{SegmentConfig}
use Rattle.plan_settings.specs.Tests.{ratio_ok}
use Rattle.plan_settings.specs.declared.config.PlanConfig.{PlanConfig}
use Rattle.candidate_span.specs.SpacingLaws.{Spaced}
use Rattle.candidate_span.specs.declared.held.HeldSpan.{HeldSpan}
use Rattle.candidate_points.specs.Points.{is_in}
use Rattle.candidates.specs.declared.context.Context.{Context}
use Rattle.candidate_walk.specs.Held.{marked}
use Rattle.candidate_finder.specs.CandidatesIn.{context_of, grid_points_in}
use Rattle.candidate_finder.specs.SpanIn.{empty_in, first_in, last_in}
use Rattle.candidate_finder.specs.Holds.{Measurable, Holds}
use Rattle.candidate_finder.specs.declared.prepare.Prepared.{Prepared}

module _ (r : Recording) (segment : SegmentConfig) (settings : PlanConfig) (values : List Float) (flags : List ℕ) (levels : List Float) where
  -- a recording that can be measured, and settings that can be planned with, in lists of these lengths
  pub record Plannable (n32 nf : ℕ) : Type 0 where
    pub measurable : Measurable r segment values flags levels n32 nf
    pub pre_spaced : Spaced (grid_of r (length values)) segment.pre
    pub tail_spaced : Spaced (grid_of r (length values)) segment.tail
    pub max_spaced : Spaced (grid_of r (length values)) settings.max
    pub ratio : ratio_ok settings.placement ≡ true

  -- the span is not empty, and work memory holds so many silences, the stretches, the levels and a mark at each grid point
  pub record SpanReady (x : Context) (g : FrameGrid) (span : HeldSpan) (work : List ℕ) (workf : List Float) : Type 0 where
    pub some : empty_in r segment settings values flags ≡ false
    pub context : x ≡ context_of r segment settings (length values)
    pub grid : g ≡ grid_of r (length values)
    pub starts : span.first ≡ first_in r segment settings values flags
    pub stops : span.last ≡ last_in r segment settings values flags
    pub holds : Holds r segment values flags levels span.silences work workf
    pub marks : (k : ℕ) → k ≤ length values → marked (length values) work k ≡ is_in (grid_points_in r segment settings values flags levels) k

  module _ (work : List ℕ) (workf : List Float) where
    -- the span is empty, or it is held
    abbrev Says : Option Prepared → Type 0
    Says None = empty_in r segment settings values flags ≡ true
    Says (Some p) = SpanReady p.context p.grid p.span work workf

    -- what an answer says
    pub record PreparedIs (p : Option Prepared) : Type 0 where
      pub says : Says p
