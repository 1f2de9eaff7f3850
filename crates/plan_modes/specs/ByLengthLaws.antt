-- The plan by length, step by step: what each call needs of the one before, and that the last hands out the definition.
use Rattle.std.specs.Prelude.{◌≡◌, refl, ℕ, ◌-◌, Float, length}
use Rattle.std.proofs.Common.{sym, subst, ◌∙◌}
use Rattle.std.proofs.Math.Path.{ap}
use mathlib.Core.List.{List, [], Memᴰ}
use Rattle.grid.specs.declared.boundary.FrameGrid.{FrameGrid}
use Rattle.path_pieces.specs.Domain.{Preferred}
use Rattle.path_pieces.specs.declared.lengths.Lengths.{Lengths}
use Rattle.path_rules.specs.Paths.{Allowed, Path, last_candidate}
use Rattle.path_by_length.proofs.Theorems.{best_path_allowed}
use Rattle.path_rules.specs.declared.solved.Solved.{Solved}
use Rattle.plan_settings.specs.declared.config.PlanConfig.{PlanConfig}
use Rattle.candidate_span.specs.Gaps.{Cut}
use Rattle.candidate_span.specs.Span.{span_in}
use Rattle.candidate_span.specs.declared.held.HeldSpan.{HeldSpan}
use Rattle.division.specs.Division.{Place}
use Rattle.candidates.specs.declared.candidate.Candidate.{Candidate}
use Rattle.candidates.specs.declared.context.Context.{Context}
use Rattle.candidates.specs.Samples.{lefts_of, rights_of}
use Rattle.candidate_walk.specs.Held.{silences_held, levels_held}
use Rattle.candidate_finder.specs.FinderLaws.{Stands}
use Rattle.plan_lengths.specs.PlanLengths.{maximum_in, lengths_with, lengths_by_length}
use Rattle.plan_pieces.specs.Along.{reasons_in, pieces_along_numbers, cuts_along_numbers}
use Rattle.plan_pieces.specs.Output.{Output, Handed, handed_out_of}
use Rattle.plan_lists.specs.Positions.{entries_in}
use Rattle.plan_path.specs.Search.{lefts_in, rights_in}
use Rattle.plan_division.specs.Added.{added_by_length}
use Rattle.plan_division.specs.Best.{best_path_over}
use Rattle.plan_steps.specs.AlongLaws.{with_searchable, with-held, with_asked, along-room, along-handed}
use Rattle.plan_steps.specs.CompleteLaws.{length-placed}
use Rattle.plan_steps.specs.Hand.{path_in, HandRoom}
use Rattle.plan_steps.specs.Held.{front_of, held_with, SpanHeld, SpanRoom}
use Rattle.plan_steps.specs.HeldLaws.{room_collects, room_stays}
use Rattle.plan_modes.specs.Lengths.{AskedByLength}
use Rattle.plan_steps.specs.Steps.{plan_along}
use Rattle.plan_modes.specs.Plan.{completed_by_length, plan_by_length}
use Rattle.plan_steps.specs.Search.{AskedOver, PathOver, SearchedByLength}

module _ (x : Context) (g : FrameGrid) (settings : PlanConfig) (span : HeldSpan) (work positions : List ℕ) (workf : List Float)
    (h : SpanHeld x g span (front_of x.padding.frames work) (levels_held x.padding.frames workf)) (room : SpanRoom x.padding.frames (length work) (length positions) (length workf))
    (asked : AskedByLength g settings) (most : ℕ) (is : most ≡ maximum_in g settings)
  where
    abbrev with : List Cut → List Candidate
    with = held_with x span (front_of x.padding.frames work) (levels_held x.padding.frames workf)

    abbrev added : List Cut
    added = added_by_length g most (with [])

    abbrev cs : List Candidate
    cs = with added

    -- once the candidates are completed
    module _ (k : ℕ) (work₁ : List ℕ) (workf₁ : List Float) (stands : Stands x.padding.frames k cs work₁ workf₁) (same : length work₁ ≡ length work) (samef : length workf₁ ≡ length workf)
        (l : Lengths) (prefers : l ≡ lengths_by_length g settings) where
      room₁ : SpanRoom x.padding.frames (length work₁) (length positions) (length workf₁)
      room₁ = room_stays room same refl samef

      preferred : Preferred l
      preferred = subst Preferred (sym prefers) asked.preferred

      placed : (j : Cut) → Memᴰ j added → Place (span_in x.gap x.padding span (silences_held span.silences (front_of x.padding.frames work))) j
      placed = length-placed x g span work workf h (room_collects room) most

      -- the path can be sought
      pub length_asked : AskedOver g k l work₁ positions workf₁
      length_asked =
          with_asked x g span (front_of x.padding.frames work) (levels_held x.padding.frames workf) h added placed k work₁ positions workf₁ stands room₁ l preferred

      -- once the path is found
      module _ (work₂ positions₂ : List ℕ) (workf₂ : List Float) (answer : Solved) (found : SearchedByLength g k l work₁ positions workf₁ work₂ positions₂ workf₂ answer)
          (same₂ : length work₂ ≡ length work₁) (same64 : length positions₂ ≡ length positions) where
        over : PathOver g cs (best_path_over g l cs) work₁ work₂ positions₂ workf₁ workf₂ answer
        over =
            found.over cs stands.number
            (with-held x g span (front_of x.padding.frames work) (levels_held x.padding.frames workf) h added placed k work₁ positions workf₁ stands room₁)

        allowed : Path (Allowed l.limit (lefts_of g cs) (rights_of g cs)) (best_path_over g l cs) (last_candidate (lefts_of g cs))
        allowed = best_path_allowed (with_searchable x g span (front_of x.padding.frames work) (levels_held x.padding.frames workf) h added placed l preferred)

        -- the plan along it can be handed out
        pub length-room : HandRoom g.frames k answer.len work₂ positions₂
        length-room =
            along-room x g span (front_of x.padding.frames work) (levels_held x.padding.frames workf) h added placed k work₁ positions workf₁ stands room₁
            (Allowed l.limit (lefts_of g cs) (rights_of g cs)) (λ i j a. a.0) l preferred (best_path_over g l cs) allowed work₂ positions₂ workf₂ answer over same₂ same64

        -- what is handed out is the plan by length
        pub length-handed : (out : Output) (now : Handed)
            → now ≡ handed_out_of (answer.len - 1)
            (pieces_along_numbers (lefts_in k positions₂) (rights_in g.frames k positions₂) l.min most (path_in g.frames answer.len work₂))
            (cuts_along_numbers (lefts_in k positions₂) (rights_in g.frames k positions₂) (reasons_in (entries_in g.frames k work₂)) (path_in g.frames answer.len work₂)) out
            → now ≡ plan_by_length g settings with out
        unfolding plan_by_length lengths_with
        length-handed out now e =
            along-handed x g span (front_of x.padding.frames work) (levels_held x.padding.frames workf) h added placed k work₁ positions workf₁ stands room₁
            (Allowed l.limit (lefts_of g cs) (rights_of g cs)) (λ i j a. a.0) l preferred (best_path_over g l cs) allowed work₂ positions₂ workf₂ answer over same₂ same64
            settings l.min most out now (ap (λ (t : Lengths). t.min) prefers) is e
            ∙ ap (λ (m : ℕ). plan_along g settings (with (added_by_length g m (with []))) (best_path_over g l (with (added_by_length g m (with [])))) out) is
            ∙ ap (λ (t : Lengths). plan_along g settings (completed_by_length g settings with) (best_path_over g t (completed_by_length g settings with)) out) prefers
