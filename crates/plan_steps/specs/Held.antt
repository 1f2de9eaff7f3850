-- What work memory holds of a span while it is planned: the front of the u32 list has the silences, each frame's quiet stretch and a mark for each boundary with a point,
-- that of the f64 list the level of each boundary. Candidates, positions and the search stand behind, and leave the fronts as they are.
use Rattle.std.specs.Prelude.{◌≡◌, List, ℕ, suc, ◌-◌, ◌*◌, ◌≤◌, Float, length, take}
use Rattle.base_terms.specs.Layout.{side, runs_at, entries_at, search_at, end_u32, end_u64, scores_at, end_f64}
use Rattle.grid.specs.declared.boundary.FrameGrid.{FrameGrid}
use Rattle.candidate_span.specs.Gaps.{Cut}
use Rattle.candidate_span.specs.Kept.{boundaries, passing}
use Rattle.candidate_span.specs.declared.held.HeldSpan.{HeldSpan}
use Rattle.candidates.specs.declared.candidate.Candidate.{Candidate}
use Rattle.candidates.specs.declared.context.Context.{Context}
use Rattle.candidates.specs.Sources.{Planned}
use Rattle.candidates.specs.Asked.{Sampled}
use Rattle.candidates.specs.Costs.{Costable}
use Rattle.candidate_walk.specs.Held.{silences_held, runs_held, marked}
use Rattle.plan_division.specs.Added.{completed_with}

-- silences, stretches and marks
abbrev pub front_of : ℕ → List ℕ → List ℕ
front_of frames work = take (entries_at frames) work

-- the boundaries strictly inside the span with a mark
abbrev pub points_held : ℕ → HeldSpan → List ℕ → List ℕ
points_held frames span front = passing (marked frames front) (boundaries span.first (span.last - suc span.first))

-- the candidates of the span, with points added
abbrev pub held_with : Context → HeldSpan → List ℕ → List Float → List Cut → List Candidate
held_with x span front levels added =
    completed_with x (silences_held span.silences front) (runs_held x.padding.frames front) levels (points_held x.padding.frames span front) added
    span.first span.last

-- a span that is not empty, of a recording and settings that pass the tests, and so many silences
pub record SpanHeld (x : Context) (g : FrameGrid) (span : HeldSpan) (front : List ℕ) (levels : List Float) : Type 0 where
  pub planned : Planned x (silences_held span.silences front) levels (points_held x.padding.frames span front) span.first span.last
  pub sampled : Sampled x g
  pub costed : Costable x g (runs_held x.padding.frames front) levels
  pub apart : 2 * span.silences ≤ runs_at x.padding.frames
  pub long : length front ≡ entries_at x.padding.frames
  pub longf : length levels ≡ side x.padding.frames

-- room for what is held and for candidates
pub record CollectRoom (frames n32 nf : ℕ) : Type 0 where
  pub u32s : search_at frames ≤ n32
  pub f64s : scores_at frames ≤ nf

-- room for positions and the search besides
pub record SpanRoom (frames n32 n64 nf : ℕ) : Type 0 where
  pub u32s : end_u32 frames ≤ n32
  pub u64s : end_u64 frames ≤ n64
  pub f64s : end_f64 frames ≤ nf
