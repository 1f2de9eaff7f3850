-- A plan of a span that is not empty, by length and by count: its path is the best one over a plan's candidates, so demands 2 and 3 hold of it.
-- The first candidates are document 01's (`candidates_in`); the tests before 14 and the types of the lists give what the theorems of the crates below ask.
use Rattle.std.specs.Prelude.{◌≡◌, refl, ◌⊎◌, true, false, eqb, Float, Err}
use Rattle.std.proofs.Math.Path.{sym, ap, subst}
use Rattle.std.proofs.Common.{◌∙◌, inl, inr, mul_comm, mul-le-mul, arith}
use mathlib.Core.List.{List, [], ◌++◌, append-nil, Memᴰ}
use Prim.Native.Nat.{ℕ, suc, ◌+◌, ◌-◌, ◌*◌, ◌≤◌, ◌<◌, min}
use borrow.Author.Tests.{eqb-true, eq-eqb}
use Rattle.std.proofs.Math.ListN.{length}
use Rattle.base_laws.specs.Tests.{both, tested, unmet}
use Rattle.grid.specs.Boundary.{boundary_of}
use Rattle.grid.specs.Validate.{grid_of}
use Rattle.grid.specs.declared.boundary.FrameGrid.{FrameGrid}
use Rattle.grid.specs.declared.validate.Recording.{Recording}
use Rattle.silence_list.specs.Silences.{silences_in}
use Rattle.silence_list.specs.declared.config.SegmentConfig.{SegmentConfig}
use Rattle.path_pieces.specs.Domain.{Preferred}
use Rattle.path_pieces.specs.declared.lengths.Lengths.{Lengths}
use Rattle.path_pieces.specs.declared.mode.Mode.TheVariants.{ByCount}
use Rattle.path_rules.specs.Paths.{over_count}
use Rattle.path_rules.specs.PathsLaws.{over_count_lem}
use Rattle.path_by_length.proofs.Theorems.{best_path-all}
use Rattle.path_by_count.specs.Theorems.{count_score, count_all}
use Rattle.plan_settings.specs.declared.config.PlanConfig.{PlanConfig}
use Rattle.candidate_span.specs.Gaps.{Cut, Spread}
use Rattle.candidate_span.specs.GapsLaws.{spread_ends}
use Rattle.candidate_span.specs.Kept.{kept_frames}
use Rattle.candidate_span.specs.Span.{Span, span_of}
use Rattle.division.specs.Division.{Place, Division, pieces_asked}
use Rattle.division.specs.Pieces.{pieces_of}
use Rattle.division.specs.PlacesLaws.{at_most_kept}
use Rattle.division.specs.SpanLaws.{span_spread, span-within}
use Rattle.division.specs.Greedy.{Greedy}
use Rattle.division.specs.GreedyLaws.{greedy_one}
use Rattle.division.specs.Reach.{IsReach}
use Rattle.division.proofs.ReachFound.{reach_exists}
use Rattle.division.specs.Demand.{DemandByCount, DemandByLength}
use Rattle.candidates.specs.Entries.{costs_of}
use Rattle.candidates.specs.Candidates.{candidates_of}
use Rattle.candidates.specs.Samples.{lefts_of, rights_of}
use Rattle.candidates.specs.Sources as sources
use Rattle.candidates.specs.Order.{span-ends, candidates_few, candidate_within, candidates_apart}
use Rattle.candidates.specs.Alone.{gap_dropped, dropped-found, gap_alone}
use Rattle.candidates.specs.declared.candidate.Candidate.{Candidate}
use Rattle.candidates.specs.declared.context.Context.{Context}
use Rattle.plan_tests.specs.Fitting.{Fitting}
use Rattle.plan_tests.specs.PlanReady.{PlanReady}
use Rattle.candidate_finder.specs.CandidatesIn.{runs_in, boundary_levels_in, context_of, grid_points_in, candidates_in}
use Rattle.candidate_finder.specs.SpanIn.{empty_in, first_in, last_in, padding_in}
use Rattle.candidate_finder.specs.Theorems as finder
use Rattle.completion_reach.specs.Cuts.{cuts_of, points_in}
use Rattle.completion_reach.specs.Reach.{reach_of}
use Rattle.completion_reach.specs.ReachLaws.{is_reach, reach_of_lem}
use Rattle.plan_division.specs.Along.{cuts_along, RisingPath}
use Rattle.plan_division.specs.Across.{Across}
use Rattle.plan_division.specs.AcrossLaws.{planned_across}
use Rattle.plan_division.specs.Added.{added_by_count, added_by_length}
use Rattle.plan_division.specs.AddedLaws.{planned-completed}
use Rattle.plan_division.specs.Completed.{CompletedByLength}
use Rattle.plan_division.proofs.CompletedLaws.{places_by_count, places_by_length, completed_by_length_lem}
use Rattle.plan_division.proofs.CountLaws.{count_rises, length_rises}
use Rattle.plan_division.proofs.LengthLaws.{neighbours_short}
use Rattle.plan_division.specs.HeldLaws.{far_greedy}
use Rattle.plan_division.specs.Best.{best_path_over, best_path_over_by_count, overs_of}
use Rattle.plan_division.specs.Ready.{Ready, SearchableOver}
use Rattle.plan_division.proofs.PlanTheorems.{plan_searchable, first_plan, second_plan, length_plan}
use Rattle.plan_lengths.specs.PlanLengths.{minimum_in, maximum_in, lengths_with, lengths_by_length, lengths_by_count}
use Rattle.plan_lengths.specs.PlanLengthsLaws.{ready_timed, by_length_preferred, by_count_preferred}
use Rattle.plan_pieces.specs.Output.{Output, handed_of}
use Rattle.plan_pieces.specs.declared.answer.Error.TheVariants.{ShortParent}
use Rattle.plan_lists.specs.Parents.{has_parents}
use Rattle.plan_modes.specs.Plan.{completed_by_length, path_by_length, suffices, completed_by_count, plan_by_count}
use Rattle.planner.specs.Operation.{candidates_with}
use Rattle.plan_theorems.specs.Made.{reason_at, Fills, Flagged, Shows, InSpan, BestOverByCount, Suffices, PlanByLength, PlanAtFirst, FallsShort, PlanWithReach, SoughtOver, FewParents, ReachExists}
use Rattle.plan_theorems.specs.Made as made
use Rattle.plan_theorems.specs.ShowsLaws.{shows_fills}
use Rattle.plan_theorems.specs.FollowsLaws.{along_follows, along_shows, along_flagged, along_reasoned}
use Rattle.plan_theorems.specs.EndsLaws.{HandedAlong, along, short_parent, CountEnd, first_short, at_first, second_short, with_reach, short-at-first, short-at-second, too_few, few_parents}

module _ (r : Recording) (segment : SegmentConfig) (settings : PlanConfig) (values : List Float) (flags : List ℕ) (levels : List Float) (n32 n64 nf : ℕ)
    (p : PlanReady r segment settings values flags levels n32 n64 nf) (full : empty_in r segment settings values flags ≡ false)
  where
    abbrev g : FrameGrid
    g = grid_of r (length values)

    abbrev s : Span
    s = span_of settings.gap (padding_in r segment settings (length values)) (silences_in r segment values flags)

    abbrev maximum : ℕ
    maximum = maximum_in g settings

    abbrev x : Context
    x = context_of r segment settings (length values)

    abbrev ss : List ℕ
    ss = silences_in r segment values flags

    abbrev runs : List ℕ
    runs = runs_in r segment values flags

    abbrev boundary_levels_lem : List Float
    boundary_levels_lem = boundary_levels_in r segment values flags levels

    abbrev ks : List ℕ
    ks = grid_points_in r segment settings values flags levels

    abbrev first : ℕ
    first = first_in r segment settings values flags

    abbrev last : ℕ
    last = last_in r segment settings values flags

    abbrev ds : List Candidate
    ds = candidates_in r segment settings values flags levels

    abbrev with : List Cut → List Candidate
    with added = candidates_with r segment settings values flags levels added

    -- ---- the span, and the first candidates

    planned : sources.Planned x ss boundary_levels_lem ks first last
    planned = finder.planned r segment settings values flags levels n32 n64 nf p full

    spread : Spread s.first s.gaps s.last
    spread = span_spread x.gap x.padding ss planned.prepared.spanned

    within : s.last ≤ length values
    within = span-within x.gap x.padding ss planned.prepared.spanned

    -- a division has no more pieces than there are frames
    pub divided_few : (cuts : List Cut) → Division s cuts → length (pieces_of s cuts) ≤ length values
    unfolding kept_frames
    divided_few cuts d = omega (arith, at_most_kept s spread cuts d, within)

    are : ds ≡ candidates_of x ss runs boundary_levels_lem ks first last
    are = finder.found_are r segment settings values flags levels n32 n64 nf p full

    -- no cut added, they are those of the operation
    none-added : with [] ≡ ds
    unfolding points_in
    none-added = ap (λ (js : List ℕ). candidates_of x ss runs boundary_levels_lem js first last) (append-nil ks) ∙ sym are

    -- candidates with points that keep out of dropped gaps lie as document 01 says
    points_in-span : (js : List ℕ) → sources.Planned x ss boundary_levels_lem js first last → InSpan s (candidates_of x ss runs boundary_levels_lem js first last)
    points_in-span js q = record {
      within = candidate_within x ss runs boundary_levels_lem js first last q;
      order = candidates_apart x ss runs boundary_levels_lem js first last q;
      gap_dropped = gap_dropped x ss runs boundary_levels_lem js first last q;
      gap_found = λ k m. let f = dropped-found x ss runs boundary_levels_lem js first last q k m in (f.number, f.counted, f.is);
      alone = gap_alone x ss runs boundary_levels_lem js first last q;
    }

    first_in-span : InSpan s ds
    first_in-span = subst (InSpan s) (sym are) (points_in-span ks planned)

    -- with whatever points, no more candidates than boundaries
    points_few : (js : List ℕ) → length (candidates_of x ss runs boundary_levels_lem js first last) ≤ suc (length values)
    points_few js =
        let e = span-ends x ss runs boundary_levels_lem ks first last planned in
        omega (arith, candidates_few x ss runs boundary_levels_lem js first last e.0, e.0, e.1)

    -- for any number of pieces from 1 on there is a reach
    pub reach_there : (count : ℕ) → 0 < count → ReachExists r segment settings values flags levels count
    reach_there count some = reach_exists g p.accepted s spread count some maximum

    first_across : Across s ds
    first_across = subst (Across s) (sym are) (planned_across x ss runs boundary_levels_lem ks first last planned)

    -- ---- every plan, where the lists hold what their types say

    module _ (f : Fitting values levels) where
      ready : (l : Lengths) → Preferred l → Ready x g runs boundary_levels_lem l
      ready l q = record {
        sampled = finder.sampled r segment settings values flags levels n32 n64 nf p full;
        costed = finder.costed r segment settings values flags levels n32 n64 nf p full f;
        preferred = q;
      }

      first_searchable : (l : Lengths) → Preferred l → SearchableOver g l ds
      first_searchable l q = subst (SearchableOver g l) (sym are) (plan_searchable x ss runs boundary_levels_lem ks first last g l planned (ready l q))

      -- ---- with points added at places

      module _ (added : List Cut) (places : (k : Cut) → Memᴰ k added → Place s k) where
        added-planned : sources.Planned x ss boundary_levels_lem (ks ++ points_in added) first last
        added-planned = planned-completed x ss runs boundary_levels_lem ks added first last planned places

        -- so they lie as document 01 says
        added_in_span : InSpan s (with added)
        added_in_span = points_in-span (ks ++ points_in added) added-planned

        added_across : Across s (with added)
        added_across = planned_across x ss runs boundary_levels_lem (ks ++ points_in added) first last added-planned

        added_searchable : (l : Lengths) → Preferred l → SearchableOver g l (with added)
        added_searchable l q = plan_searchable x ss runs boundary_levels_lem (ks ++ points_in added) first last g l added-planned (ready l q)

      -- ---- what both ways leave

      -- the pieces and cuts fill the span, each with its flags or its reason
      pub record SpanFilled (k : ℕ) (after : Output) : Type 0 where
        pub fills : Fills (boundary_of g s.first) (boundary_of g s.last) k after
        pub flagged : Flagged (minimum_in g settings) maximum k after
        pub reasoned : (i : ℕ) → suc i < k → reason_at after i ≤ 2

      laid : (cs : List Candidate) (path : List ℕ) (k : ℕ) (before after : Output) → Across s cs → RisingPath cs path → Division s (cuts_along cs path)
          → HandedAlong g settings cs path k before after → SpanFilled k after
      laid cs path k before after across rising d h = record {
        fills = shows_fills g p.accepted s within (cuts_along cs path) d k after (along_shows g settings s cs path k before after across rising h);
        flagged =
            along_flagged g settings s cs path k before after across rising h (omega (arith, p.preferring.least_target, p.preferring.target_most))
            (record { rate = (ready_timed p).rate; time = p.preferring.most_time });
        reasoned = along_reasoned g settings s cs path k before after across rising h;
      }

      -- ---- by length

      abbrev by_length : Lengths
      by_length = lengths_by_length g settings

      -- the cuts that completion adds, and the candidates with them
      abbrev bridges : List Cut
      bridges = added_by_length g maximum ds

      bridge_places : (k : Cut) → Memᴰ k bridges → Place s k
      bridge_places =
          subst (λ (cs : List Candidate). (k : Cut) → Memᴰ k (added_by_length g maximum cs) → Place s k) (sym are)
          (places_by_length x ss runs boundary_levels_lem ks first last planned g maximum)

      length_searchable : SearchableOver g by_length (with bridges)
      length_searchable = added_searchable bridges bridge_places by_length (by_length_preferred p)

      length-completed : CompletedByLength g s maximum ds (with bridges)
      length-completed =
          subst (λ (cs : List Candidate). CompletedByLength g s maximum cs (with (added_by_length g maximum cs))) (sym are)
          (completed_by_length_lem x ss runs boundary_levels_lem ks first last planned g maximum)

      length_met : DemandByLength g s maximum (cuts_along (with bridges) (best_path_over g by_length (with bridges)))
      unfolding lengths_with
      length_met =
          subst (λ (cs : List Candidate). DemandByLength g s maximum (cuts_along (with (added_by_length g maximum cs)) (best_path_over g by_length (with (added_by_length g maximum cs))))) (sym are)
          (length_plan x ss runs boundary_levels_lem ks first last planned g by_length (ready by_length (by_length_preferred p)))

      length_rising : RisingPath (with bridges) (best_path_over g by_length (with bridges))
      length_rising = length_rises g (with bridges) by_length.limit (best_path_over g by_length (with bridges)) (best_path-all length_searchable).allowed

      -- what is claimed of a plan by length
      pub record MadeByLength (k : ℕ) (after : Output) : Type 0 where
        pub best : PlanByLength r segment settings values flags levels k after
        pub demand : (cuts : List Cut) × Shows g s cuts k after × DemandByLength g s maximum cuts
        pub laid : SpanFilled k after

      -- a plan by length meets both demands
      pub made_by_length : (k : ℕ) (before after : Output) → HandedAlong g settings (completed_by_length g settings with) (path_by_length g settings with) k before after → MadeByLength k after
      made_by_length k before after e =
          let path = best_path_over g by_length (with bridges) in
          let h = subst (λ (cs : List Candidate). HandedAlong g settings (with (added_by_length g maximum cs)) (best_path_over g by_length (with (added_by_length g maximum cs))) k before after) none-added e in
          let across = added_across bridges bridge_places in
          record {
            best = record {
              candidates = added_in_span bridges bridge_places;
              neighbours = neighbours_short g p.accepted s spread maximum ds (with bridges) length-completed;
              path = path;
              best = best_path-all length_searchable;
              follows = along_follows g settings s (with bridges) path k before after across length_rising h;
            };
            demand = (cuts_along (with bridges) path, along_shows g settings s (with bridges) path k before after across length_rising h, length_met);
            laid = laid (with bridges) path k before after across length_rising length_met.divides h;
          }

      -- ---- by count

      module _ (count : ℕ) (asked : settings.mode ≡ ByCount count) where
        some : 0 < count
        some = (p.counted count asked).0

        abbrev under : ℕ → Lengths
        under limit = lengths_by_count g settings s.first s.last count limit

        count_preferred : (limit : ℕ) → Preferred (under limit)
        count_preferred limit =
            by_count_preferred p s.first s.last count limit (spread_ends s.first s.gaps s.last spread) within some (p.counted count asked).1

        -- the first path
        abbrev first_path : List ℕ
        first_path = best_path_over_by_count g (under maximum) ds count

        first_searchable_under : SearchableOver g (under maximum) ds
        first_searchable_under = first_searchable (under maximum) (count_preferred maximum)

        first-overs : overs_of g (under maximum) ds count ≡ over_count maximum (lefts_of g ds) (rights_of g ds) first_path
        unfolding lengths_with
        first-overs =
            sym (ap (λ t. t.over) (count_score first_searchable_under count some)) ∙ over_count_lem (under maximum) (lefts_of g ds) (rights_of g ds) (costs_of ds) first_path

        first_suffices : suffices g settings s count maximum ds ≡ true → Suffices r segment settings values flags levels count ds first_path
        unfolding suffices
        first_suffices e =
            let q = both (eqb (length first_path) (suc count)) (eqb (overs_of g (under maximum) ds count) 0) e in
            (eqb-true (length first_path) (suc count) q.0, sym first-overs ∙ eqb-true (overs_of g (under maximum) ds count) 0 q.1)

        first_falls : suffices g settings s count maximum ds ≡ false → Suffices r segment settings values flags levels count ds first_path → ⊥
        unfolding suffices
        first_falls e (n, none) =
            unmet (sym e ∙ rw (eq-eqb (length first_path) (suc count) n, eq-eqb (overs_of g (under maximum) ds count) 0 (first-overs ∙ none)))

        -- where it falls short, as a claim and as a test
        pub falls_short : suffices g settings s count maximum ds ≡ false → FallsShort r segment settings values flags levels count
        falls_short e = record { first_path_lem = first_path; first_best = count_all first_searchable_under count some; not_enough = first_falls e }

        -- two best paths are one
        best-one : (path : List ℕ) → BestOverByCount r segment settings values flags levels count maximum ds path → first_path ≡ path
        best-one path b =
            let best = count_all first_searchable_under count some in
            sym (best.only best.scored.1 path (b.tie best.scored.1) b.allowed.1)

        -- and as a claim it makes the test fail
        pub falls_tested : FallsShort r segment settings values flags levels count → suffices g settings s count maximum ds ≡ false
        falls_tested t = elim (tested (suffices g settings s count maximum ds)) [
          | inl e ↦ absurd (t.not_enough (subst (Suffices r segment settings values flags levels count ds) (best-one t.first_path_lem t.first_best) (first_suffices e)))
          | inr e ↦ e
        ]

        first_met : Suffices r segment settings values flags levels count ds first_path → DemandByCount g s count maximum (cuts_along ds first_path)
        unfolding lengths_with
        first_met (n, none) =
            subst (λ (cs : List Candidate). length (best_path_over_by_count g (under maximum) cs count) ≡ suc count → overs_of g (under maximum) cs count ≡ 0
            → DemandByCount g s count maximum (cuts_along cs (best_path_over_by_count g (under maximum) cs count))) (sym are)
            (first_plan x ss runs boundary_levels_lem ks first last planned g (under maximum) (ready (under maximum) (count_preferred maximum)) count some) n (first-overs ∙ none)

        -- ---- with the reach

        module _ (limit : ℕ) (reach : IsReach g s count maximum limit) where
          -- the cuts of the division that goes as far as it can, and the candidates with what is added
          abbrev far : List Cut
          far = cuts_of g s limit (pieces_asked s count)

          abbrev shares : List Cut
          shares = added_by_count s count far

          greedy : Greedy g s limit far
          greedy = far_greedy g p.accepted s spread count maximum limit reach

          share_places : (k : Cut) → Memᴰ k shares → Place s k
          share_places = places_by_count x ss runs boundary_levels_lem ks first last planned g p.accepted count some maximum limit far reach greedy

          count_searchable : SearchableOver g (under limit) (with shares)
          count_searchable = added_searchable shares share_places (under limit) (count_preferred limit)

          abbrev second_path : List ℕ
          second_path = best_path_over_by_count g (under limit) (with shares) count

          second_met : DemandByCount g s count maximum (cuts_along (with shares) second_path)
          unfolding lengths_with
          second_met =
              second_plan x ss runs boundary_levels_lem ks first last planned g (under limit) (ready (under limit) (count_preferred limit)) count some maximum far reach greedy

        -- ---- the plan

        -- what is claimed of a plan by count
        pub record MadeByCount (k : ℕ) (after : Output) : Type 0 where
          pub best : PlanAtFirst r segment settings values flags levels count k after ⊎ PlanWithReach r segment settings values flags levels count k after
          pub demand : (cuts : List Cut) × Shows g s cuts k after × DemandByCount g s count maximum cuts
          pub laid : SpanFilled k after

        -- along the first path
        made_first : (k : ℕ) (before after : Output) → suffices g settings s count maximum ds ≡ true → HandedAlong g settings ds first_path k before after → MadeByCount k after
        made_first k before after e h =
            let best = count_all first_searchable_under count some in
            let rising = count_rises g ds count (under maximum).limit first_path best.allowed in
            let met = first_met (first_suffices e) in
            record {
              best = inl (record {
                candidates = first_in-span;
                path = first_path;
                best = best;
                suffices = first_suffices e;
                follows = along_follows g settings s ds first_path k before after first_across rising h;
              });
              demand = (cuts_along ds first_path, along_shows g settings s ds first_path k before after first_across rising h, met);
              laid = laid ds first_path k before after first_across rising met.divides h;
            }

        -- along the second, under the reach
        made_second : (k : ℕ) (before after : Output) → suffices g settings s count maximum ds ≡ false → (limit : ℕ) (reach : IsReach g s count maximum limit)
            → HandedAlong g settings (with (shares limit reach)) (second_path limit reach) k before after → MadeByCount k after
        made_second k before after e limit reach h =
            let cs = with (shares limit reach) in
            let path = second_path limit reach in
            let best = count_all (count_searchable limit reach) count some in
            let across = added_across (shares limit reach) (share_places limit reach) in
            let rising = count_rises g cs count (under limit).limit path best.allowed in
            let met = second_met limit reach in
            record {
              best = inr (record {
                falls_short = falls_short e;
                limit = limit;
                reach = reach;
                far = far limit reach;
                greedy = greedy limit reach;
                candidates = added_in_span (shares limit reach) (share_places limit reach);
                path = path;
                best = best;
                follows = along_follows g settings s cs path k before after across rising h;
              });
              demand = (cuts_along cs path, along_shows g settings s cs path k before after across rising h, met);
              laid = laid cs path k before after across rising met.divides h;
            }

        -- a plan by count meets both demands, at its first path or at its second
        pub made_by_count : (parents : ℕ) (cs : List Candidate) (path : List ℕ) (k : ℕ) (before after : Output) → CountEnd g settings s with count parents (along cs path)
            → HandedAlong g settings cs path k before after → MadeByCount k after
        made_by_count parents cs path k before after (at_first e) h =
            made_first k before after (sym (ap (suffices g settings s count maximum) none-added) ∙ e)
            (subst (λ (cs : List Candidate). HandedAlong g settings cs (best_path_over_by_count g (under maximum) cs count) k before after) none-added h)
        made_by_count parents cs path k before after (with_reach e) h =
            made_second k before after (sym (ap (suffices g settings s count maximum) none-added) ∙ e) (reach_of g s count maximum) (is_reach g s spread count some maximum) h

    -- ---- the later refusals, whatever the lists hold

    module _ (count : ℕ) (asked : settings.mode ≡ ByCount count) where
      -- the test that the first path suffices, over the candidates with no cut added
      abbrev IsShort : Type 0
      IsShort = suffices g settings s count maximum (with []) ≡ false

      short_falls : IsShort → Fitting values levels → FallsShort r segment settings values flags levels count
      short_falls e f = falls_short f count asked (sym (ap (suffices g settings s count maximum) none-added) ∙ e)

      falls_is_short : Fitting values levels → FallsShort r segment settings values flags levels count → IsShort
      falls_is_short f t = ap (suffices g settings s count maximum) none-added ∙ falls_tested f count asked t

      -- a path is sought over the first candidates
      sought-first : SoughtOver r segment settings values flags levels count (with [])
      sought-first = rw none-added made.at_first

      -- and the completed ones, where it falls short
      sought-second : IsShort → SoughtOver r segment settings values flags levels count (completed_by_count g settings s with count (reach_of g s count maximum))
      sought-second e =
          let limit = reach_of g s count maximum in
          let reach = is_reach g s spread count (p.counted count asked).0 maximum in
          made.with_reach (short_falls e) limit (cuts_of g s limit (pieces_asked s count)) reach (far_greedy g p.accepted s spread count maximum limit reach)

      -- the candidates over which a path is sought are no more than the boundaries
      sought_few : (cs : List Candidate) → SoughtOver r segment settings values flags levels count cs → length cs ≤ suc (length values)
      sought_few cs made.at_first = subst (λ (ds : List Candidate). length ds ≤ suc (length values)) none-added (points_few (ks ++ points_in []))
      sought_few cs (made.with_reach f limit far reach greedy) = points_few (ks ++ points_in (added_by_count s count far))

      module _ (parents : ℕ) where
        -- 14: the parent list is too short for a path that is sought
        pub few_made : CountEnd g settings s with count parents short_parent → FewParents r segment settings values flags levels parents
        few_made (first_short e) =
            record { count = count; asked = asked; candidates = with []; sought = sought-first; few = few_parents count (length (with [])) parents e }
        few_made (second_short q e) =
            let cs = completed_by_count g settings s with count (reach_of g s count maximum) in
            record { count = count; asked = asked; candidates = cs; sought = sought-second q; few = few_parents count (length cs) parents e }

        -- 14 where its condition holds
        pub short_given : Fitting values levels → (cs : List Candidate) → SoughtOver r segment settings values flags levels count cs
            → parents < min count (length cs - 1) * length cs → (out : Output) → plan_by_count g settings s with count parents out ≡ handed_of (Err ShortParent) out
        short_given f cs made.at_first h out =
            short-at-first g settings s with count parents
            (too_few count (length (with [])) parents (subst (λ (ds : List Candidate). parents < min count (length ds - 1) * length ds) (sym none-added) h)) out
        short_given f cs (made.with_reach t limit far reach greedy) h out =
            let same = greedy_one g p.accepted s spread limit far (cuts_of g s limit (pieces_asked s count)) greedy (far_greedy g p.accepted s spread count maximum limit reach) in
            let few = subst (λ (cuts : List Cut). parents < min count (length (with (added_by_count s count cuts)) - 1) * length (with (added_by_count s count cuts))) same h in
            let is = reach_of_lem g s spread count (p.counted count asked).0 maximum limit reach in
            short-at-second g settings s with count parents (falls_is_short f (t f))
            (subst (λ (l : ℕ). has_parents count (length (completed_by_count g settings s with count l)) parents ≡ false) is
            (too_few count (length (completed_by_count g settings s with count limit)) parents few)) out

        -- (frames + 1) × min(N, frames) parents are never too few
        pub parents_sure : (cs : List Candidate) → SoughtOver r segment settings values flags levels count cs → (length values + 1) * min count (length values) ≤ parents
            → parents < min count (length cs - 1) * length cs → ⊥
        parents_sure cs sought enough few =
            let h = sought_few cs sought in
            let fewer : min count (length cs - 1) ≤ min count (length values) = omega (arith, h) in
            let candidates : length cs ≤ length values + 1 = omega (arith, h) in
            let m : min count (length cs - 1) * length cs ≤ min count (length values) * (length values + 1) = mul-le-mul fewer candidates in
            omega (arith, m, enough, few, mul_comm (length values + 1) (min count (length values)))
