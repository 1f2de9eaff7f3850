-- Document 01's operation Plan: what a call leaves, on all input. `plan_of` is what the contract cites; `levels` are those that the caller lends for decibels.
use Rattle.std.specs.Prelude.{List, ℕ, Float, length, Ok, Err, Result}
use Rattle.base_terms.specs.Lists.{filled}
use Rattle.base_terms.specs.Work.{Work, cleared}
use Rattle.grid.specs.Validate.{grid_of}
use Rattle.grid.specs.declared.validate.Recording.{Recording}
use Rattle.silence_list.specs.Silences.{silences_in}
use Rattle.silence_list.specs.declared.config.SegmentConfig.{SegmentConfig}
use Rattle.plan_settings.specs.declared.config.PlanConfig.{PlanConfig}
use Rattle.candidate_span.specs.Gaps.{Cut}
use Rattle.candidate_span.specs.Span.{span_of}
use Rattle.candidates.specs.declared.candidate.Candidate.{Candidate}
use Rattle.plan_tests.specs.Refusal as tests
use Rattle.plan_tests.specs.declared.refusal.Refusal.{Refusal}
use Rattle.candidate_finder.specs.CandidatesIn.{runs_in, boundary_levels_in, context_of, grid_points_in}
use Rattle.candidate_finder.specs.SpanIn.{padding_in, empty_in, first_in, last_in}
use Rattle.plan_division.specs.Added.{completed_with}
use Rattle.plan_pieces.specs.Output.{Output, Handed, handed_of, pick}
use Rattle.plan_pieces.specs.Answer.{Answer}
use Rattle.plan_pieces.specs.declared.answer.Error.TheVariants.{Refused}
use Rattle.plan_modes.specs.Plan.{plan_by}

-- what a call leaves: its answer, and every list that was lent to be written
pub record End : Type 0 where
  pub answer : Answer
  pub out : Output
  pub work : Work
  pub parent : List ℕ

-- what a call leaves, from its parts
abbrev pub end_of : Answer → Output → Work → List ℕ → End
end_of answer out work parent = record { answer = answer; out = out; work = work; parent = parent }

-- "Refusals before 14 .. leave work memory untouched. All later ends, success too, leave it zeroed."
abbrev pub end_after : Result Unit Refusal → Handed → Output → Work → List ℕ → End
end_after (Ok u) planned out work parent = end_of planned.answer planned.out (cleared work) (filled 0 parent)
end_after (Err r) planned out work parent = end_of (Err (Refused r)) out work parent

module _ (r : Recording) (segment : SegmentConfig) (settings : PlanConfig) (values : List Float) (flags : List ℕ) (levels : List Float) where
  -- the candidates of recording and settings, with points added at the boundaries of some cuts
  abbrev pub candidates_with : List Cut → List Candidate
  candidates_with added =
      completed_with (context_of r segment settings (length values)) (silences_in r segment values flags) (runs_in r segment values flags)
      (boundary_levels_in r segment values flags levels) (grid_points_in r segment settings values flags levels) added
      (first_in r segment settings values flags) (last_in r segment settings values flags)

  -- document 01: "the span is empty, and so is the plan; no reach is sought then"; else the plan of document 01's span, with `parents` the length of the parent list
  unfoldable pub planned_of : ℕ → Output → Handed
  planned_of parents out =
      pick (empty_in r segment settings values flags) (handed_of (Ok 0) out)
      (plan_by (grid_of r (length values)) settings (span_of settings.gap (padding_in r segment settings (length values)) (silences_in r segment values flags)) candidates_with
      settings.mode parents out)

  -- document 01's operation Plan: the first test that fails, or the plan
  unfoldable pub plan_of : Output → Work → List ℕ → End
  plan_of out work parent =
      end_after
      (tests.first_refusal_of r segment settings values flags levels (length work.u32s) (length work.u64s) (length work.f64s))
      (planned_of (length parent) out) out work parent
