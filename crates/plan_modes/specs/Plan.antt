-- Document 01's plan of a span that is not empty, by length and by count, with the refusals that arise on the way: 14 and 12.
-- `with` gives the candidates of a recording and settings with points added at the boundaries of some cuts; with none, they are the first ones.
use Rattle.std.specs.Prelude.{Bool, ◌&&◌, List, [], ℕ, suc, eqb, length, Err}
use Rattle.grid.specs.declared.boundary.FrameGrid.{FrameGrid}
use Rattle.path_pieces.specs.declared.mode.Mode.{Mode}
use Rattle.path_pieces.specs.declared.mode.Mode.TheVariants.{ByLength, ByCount}
use Rattle.plan_settings.specs.declared.config.PlanConfig.{PlanConfig}
use Rattle.candidate_span.specs.Gaps.{Cut}
use Rattle.candidate_span.specs.Span.{Span}
use Rattle.candidates.specs.declared.candidate.Candidate.{Candidate}
use Rattle.completion_reach.specs.Reach.{reach_of}
use Rattle.plan_division.specs.Added.{added_by_length}
use Rattle.plan_division.specs.Best.{best_path_over, best_path_over_by_count, overs_of}
use Rattle.plan_lists.specs.Parents.{has_parents}
use Rattle.plan_lengths.specs.PlanLengths.{maximum_in, lengths_by_length, lengths_by_count}
use Rattle.plan_pieces.specs.Output.{Output, Handed, handed_of, pick}
use Rattle.plan_pieces.specs.declared.answer.Error.TheVariants.{ShortParent}
use Rattle.plan_steps.specs.Steps.{plan_along, cuts_added}

-- ---- by length

module _ (g : FrameGrid) (settings : PlanConfig) (with : List Cut → List Candidate) where
  -- document 01: "points are added until neighbouring candidates are within the maximum or one frame apart"
  abbrev pub completed_by_length : List Candidate
  completed_by_length = with (added_by_length g (maximum_in g settings) (with []))

  -- the best path over them, under the maximum
  abbrev pub path_by_length : List ℕ
  path_by_length = best_path_over g (lengths_by_length g settings) completed_by_length

  -- the plan along it
  unfoldable pub plan_by_length : Output → Handed
  plan_by_length out = plan_along g settings completed_by_length path_by_length out

-- ---- by count

module _ (g : FrameGrid) (settings : PlanConfig) (s : Span) where
  -- document 01's best path by count, of min(N, last index) pieces, under a limit
  abbrev pub path_by_count : ℕ → ℕ → List Candidate → List ℕ
  path_by_count count limit cs = best_path_over_by_count g (lengths_by_count g settings s.first s.last count limit) cs count

  -- it has no fewer than N pieces, and none over the limit
  unfoldable pub suffices : ℕ → ℕ → List Candidate → Bool
  suffices count limit cs =
      eqb (length (path_by_count count limit cs)) (suc count) && eqb (overs_of g (lengths_by_count g settings s.first s.last count limit) cs count) 0

  -- the path over candidates under a limit: 14, or the plan along it
  unfoldable pub planned_under : ℕ → ℕ → List Candidate → ℕ → Output → Handed
  planned_under count limit cs parents out =
      pick (has_parents count (length cs) parents) (plan_along g settings cs (path_by_count count limit cs) out) (handed_of (Err ShortParent) out)

  module _ (with : List Cut → List Candidate) where
    -- the candidates completed for a number of pieces, under a limit
    abbrev pub completed_by_count : ℕ → ℕ → List Candidate
    completed_by_count count limit = with (cuts_added g s count limit)

    -- once the first path falls short: the path over the completed candidates, under the reach
    abbrev pub planned_after : ℕ → ℕ → Output → Handed
    planned_after count parents out =
        let reach = reach_of g s count (maximum_in g settings) in
        planned_under count reach (completed_by_count count reach) parents out

    -- document 01: "if the first path has fewer than N pieces or one over the maximum", the reach is sought; else the plan along the first path; 14 comes before both
    unfoldable pub plan_by_count : ℕ → ℕ → Output → Handed
    plan_by_count count parents out =
        pick (has_parents count (length (with [])) parents)
        (pick (suffices count (maximum_in g settings) (with []))
        (plan_along g settings (with []) (path_by_count count (maximum_in g settings) (with [])) out)
        (planned_after count parents out))
        (handed_of (Err ShortParent) out)

    -- ---- either

    -- the plan by length or by count, as the mode says
    unfoldable pub plan_by : Mode → ℕ → Output → Handed
    plan_by ByLength parents out = plan_by_length g settings with out
    plan_by (ByCount count) parents out = plan_by_count count parents out
