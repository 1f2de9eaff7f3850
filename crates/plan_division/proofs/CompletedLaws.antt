-- Completion leaves what demand 3 needs: the cuts that it adds are places, so the candidates stay a plan's, and each cut has its candidate.
use Rattle.std.specs.Prelude.{◌⊎◌, ℕ, ◌≤◌, ◌<◌, Float}
use Rattle.std.proofs.Common.{inl, inr, arith}
use mathlib.Core.List.Memᴰ
use mathlib.Core.List.{List, ◌++◌, Memᴰ}
use Rattle.grid.specs.BoundaryLaws.{Accepted}
use Rattle.grid.specs.declared.boundary.FrameGrid.{FrameGrid}
use Rattle.candidate_span.specs.Gaps.{Cut, Spread}
use Rattle.candidate_span.specs.Span.{Span, span_of}
use Rattle.division.specs.Division.{kept_in, pieces_asked, Place}
use Rattle.division.specs.SpanLaws.{span_spread}
use Rattle.division.specs.Greedy.{Greedy}
use Rattle.division.specs.GreedyLaws.{greedy_divides}
use Rattle.division.specs.Reach.{IsReach}
use Rattle.division.specs.ReachLaws.{asked_some}
use Rattle.division.specs.Shares.{shares_of}
use Rattle.division.specs.SharesLaws.{shares_divide}
use Rattle.candidates.specs.declared.candidate.Candidate.{Candidate}
use Rattle.candidates.specs.declared.context.Context.{Context}
use Rattle.candidates.specs.Candidates.{candidates_of}
use Rattle.candidates.specs.Sources.{Planned}
use Rattle.completion.specs.BridgedLaws.{bridged_divides}
use Rattle.completion_reach.specs.Cuts.{points_in}
use Rattle.plan_division.specs.Along.{all_cuts}
use Rattle.plan_division.specs.Across.{HasLeft, HasCut, Across}
use Rattle.plan_division.specs.AcrossLaws.{all_divides, gaps_all, planned_across}
use Rattle.plan_division.specs.Completed.{CompletedByCount, CompletedByLength}
use Rattle.plan_division.specs.Added.{added_by_count, added_by_length, completed_with}
use Rattle.plan_division.specs.AddedLaws.{planned-completed, has_added, has_still}
use Rattle.plan_division.proofs.StepLaws.{added-bridged, bridged-added}

module _ (x : Context) (ss runs : List ℕ) (levels : List Float) (ks : List ℕ) (first last : ℕ) (p : Planned x ss levels ks first last) (g : FrameGrid) where
  abbrev span : Span
  span = span_of x.gap x.padding ss

  spread : Spread span.first span.gaps span.last
  spread = span_spread x.gap x.padding ss p.prepared.spanned

  -- ---- by count

  module _ (ok : Accepted g) (count : ℕ) (some : 0 < count) (maximum reach : ℕ) (far : List Cut) (sought : IsReach g span count maximum reach)
      (greedy : Greedy g span reach far) where
    -- the cuts that completion by count adds are places
    pub places_by_count : (k : Cut) → Memᴰ k (added_by_count span count far) → Place span k
    places_by_count k m = go (Memᴰ.append_cases far m)
      where
        go : Memᴰ k far ⊎ Memᴰ k (shares_of span (pieces_asked span count)) → Place span k
        go (inl i) = (greedy_divides g ok span spread reach far greedy).placed k i
        go (inr i) =
            let fit : pieces_asked span count ≤ kept_in span = omega arith in
            let more = asked_some span spread count some in
            (shares_divide span spread (pieces_asked span count) more fit).placed k i

    -- a plan's candidates, with the cuts that completion by count adds
    pub completed_by_count_lem : CompletedByCount g span count maximum reach (completed_with x ss runs levels ks (added_by_count span count far) first last)
    completed_by_count_lem =
        let added = added_by_count span count far in
        record {
          across = planned_across x ss runs levels (ks ++ points_in added) first last (planned-completed x ss runs levels ks added first last p places_by_count);
          sought = sought;
          far = far;
          greedy = greedy;
          has_far = λ k m. has_added x ss runs levels ks added first last p places_by_count k (Memᴰ.append_left (shares_of span (pieces_asked span count)) m);
          has_shares = λ k m. has_added x ss runs levels ks added first last p places_by_count k (Memᴰ.append_right far m);
        }

  -- ---- by length

  module _ (maximum : ℕ) where
    -- the first candidates
    abbrev ds : List Candidate
    ds = candidates_of x ss runs levels ks first last

    first_across : Across span ds
    first_across = planned_across x ss runs levels ks first last p

    -- the points that completion by length adds are places
    pub places_by_length : (k : Cut) → Memᴰ k (added_by_length g maximum ds) → Place span k
    places_by_length k m =
        let d = bridged_divides g maximum span (all_cuts ds) (all_divides span ds first_across) (gaps_all span ds first_across spread) in
        d.placed k (added-bridged g maximum ds span first_across k m)

    -- a plan's candidates, with the points that completion by length adds
    pub completed_by_length_lem : CompletedByLength g span maximum ds (completed_with x ss runs levels ks (added_by_length g maximum ds) first last)
    completed_by_length_lem =
        let added = added_by_length g maximum ds in
        record {
          first = first_across;
          across = planned_across x ss runs levels (ks ++ points_in added) first last (planned-completed x ss runs levels ks added first last p places_by_length);
          bridged = λ k m. go k (bridged-added g maximum ds span first_across k m);
        }
      where
        go : (k : Cut) → HasCut ds k ⊎ Memᴰ k (added_by_length g maximum ds) → HasLeft (completed_with x ss runs levels ks (added_by_length g maximum ds) first last) k.left
        go k (inl f) = has_still x ss runs levels ks (added_by_length g maximum ds) first last p places_by_length k f
        go k (inr m) = has_added x ss runs levels ks (added_by_length g maximum ds) first last p places_by_length k m
