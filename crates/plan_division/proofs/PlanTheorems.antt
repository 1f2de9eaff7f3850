-- Demand 3, of the best path over the candidates of a recording and settings: x is the context, ss the silences, ks the boundaries with a grid point.
--   first-plan    by count, the first path: it has N pieces, none over the maximum
--   second-plan   by count, the path over completed candidates, its limit the reach
--   length-plan   by length, the path over completed candidates, its limit the maximum
use Rattle.std.specs.Prelude.{◌≡◌, refl, List, ◌++◌, ℕ, suc, ◌<◌, Float, length}
use Rattle.std.proofs.Common.{sym, subst}
use Rattle.std.proofs.lemmas.List.{length-map}
use Rattle.grid.specs.declared.boundary.FrameGrid.{FrameGrid}
use Rattle.path_pieces.specs.Domain.{Costs}
use Rattle.path_pieces.specs.declared.lengths.Lengths.{Lengths}
use Rattle.candidate_span.specs.Gaps.{Cut, Spread}
use Rattle.candidate_span.specs.Span.{Span, span_of}
use Rattle.division.specs.SpanLaws.{span_spread}
use Rattle.division.specs.Greedy.{Greedy}
use Rattle.division.specs.Reach.{IsReach}
use Rattle.division.specs.Demand.{DemandByCount, DemandByLength}
use Rattle.candidates.specs.declared.candidate.Candidate.{Candidate}
use Rattle.candidates.specs.declared.context.Context.{Context}
use Rattle.candidates.specs.Candidates.{candidates_of}
use Rattle.candidates.specs.Entries.{costs_of}
use Rattle.candidates.specs.Sources.{Planned}
use Rattle.candidates.specs.Samples.{left_sample}
use Rattle.candidates.specs.Asked.{candidates_asked, costs_asked}
use Rattle.completion_reach.specs.Cuts.{points_in}
use Rattle.plan_division.specs.Along.{cuts_along}
use Rattle.plan_division.specs.AcrossLaws.{planned_across}
use Rattle.plan_division.proofs.CountTheorems.{first_found, second-found}
use Rattle.plan_division.proofs.LengthTheorems.{length_found}
use Rattle.plan_division.specs.Added.{added_by_count, added_by_length, completed_with}
use Rattle.plan_division.specs.AddedLaws.{planned-completed}
use Rattle.plan_division.proofs.CompletedLaws.{places_by_count, completed_by_count_lem, places_by_length, completed_by_length_lem}
use Rattle.plan_division.specs.Best.{best_path_over, best_path_over_by_count, overs_of}
use Rattle.plan_division.specs.Ready.{Ready, SearchableOver}

-- a plan's candidates are of the search's domain
pub plan_searchable : (x : Context) (ss runs : List ℕ) (levels : List Float) (ks : List ℕ) (first last : ℕ) (g : FrameGrid) (l : Lengths)
    → Planned x ss levels ks first last → Ready x g runs levels l
    → SearchableOver g l (candidates_of x ss runs levels ks first last)
plan_searchable x ss runs levels ks first last g l p q =
    let cs = candidates_of x ss runs levels ks first last in
    record {
      candidates = candidates_asked x ss runs levels ks first last p g q.sampled;
      costs = subst (Costs (costs_of cs)) (sym (length-map cs (left_sample g))) (costs_asked x ss runs levels ks first last p g q.costed);
      preferred = q.preferred;
    }

module _ (x : Context) (ss runs : List ℕ) (levels : List Float) (ks : List ℕ) (first last : ℕ) (p : Planned x ss levels ks first last) (g : FrameGrid) (l : Lengths)
    (q : Ready x g runs levels l) where
  -- the recording's span
  abbrev span : Span
  span = span_of x.gap x.padding ss

  -- the first candidates
  abbrev cs : List Candidate
  cs = candidates_of x ss runs levels ks first last

  spread : Spread span.first span.gaps span.last
  spread = span_spread x.gap x.padding ss p.prepared.spanned

  module _ (count : ℕ) (some : 0 < count) where
    -- the first path, its limit the maximum, meets demand 3 where it has N pieces and none over it: no reach is sought then
    pub first_plan : length (best_path_over_by_count g l cs count) ≡ suc count → overs_of g l cs count ≡ 0
        → DemandByCount g span count l.limit (cuts_along cs (best_path_over_by_count g l cs count))
    first_plan n none =
        first_found g span spread cs count some (planned_across x ss runs levels ks first last p) l (costs_of cs) (plan_searchable x ss runs levels ks first last g l p q) n none

    module _ (maximum : ℕ) (far : List Cut) (sought : IsReach g span count maximum l.limit) (greedy : Greedy g span l.limit far) where
      -- the completed candidates
      abbrev by_count : List Candidate
      by_count = completed_with x ss runs levels ks (added_by_count span count far) first last

      -- the second path, its limit the reach, meets demand 3
      pub second_plan : DemandByCount g span count maximum (cuts_along by_count (best_path_over_by_count g l by_count count))
      second_plan =
          let ok = q.sampled.accepted in
          let added = added_by_count span count far in
          let places = places_by_count x ss runs levels ks first last p g ok count some maximum l.limit far sought greedy in
          second-found g span spread by_count count ok some maximum l.limit
          (completed_by_count_lem x ss runs levels ks first last p g ok count some maximum l.limit far sought greedy) l (costs_of by_count) refl
          (plan_searchable x ss runs levels (ks ++ points_in added) first last g l (planned-completed x ss runs levels ks added first last p places) q)

  -- the completed candidates
  abbrev by_length : List Candidate
  by_length = completed_with x ss runs levels ks (added_by_length g l.limit cs) first last

  -- the path by length, its limit the maximum, meets demand 3
  pub length_plan : DemandByLength g span l.limit (cuts_along by_length (best_path_over g l by_length))
  length_plan =
      let added = added_by_length g l.limit cs in
      length_found g q.sampled.accepted span spread l.limit cs by_length (completed_by_length_lem x ss runs levels ks first last p g l.limit) l (costs_of by_length) refl
      (plan_searchable x ss runs levels (ks ++ points_in added) first last g l
      (planned-completed x ss runs levels ks added first last p (places_by_length x ss runs levels ks first last p g l.limit)) q)
