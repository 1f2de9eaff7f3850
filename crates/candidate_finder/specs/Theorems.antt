-- What document 01 says of a plan's candidates holds of every list that is found: the tests give what the theorems of the crates below ask.
-- `plan_candidates` and `plan_costs` are the theorems, where the span is not empty; `plan_empty` is the other case.
use Rattle.std.specs.Prelude.{◌≡◌, refl, true, false, ℕ, suc, ◌≤◌, ◌<◌, Float, length, get_or}
use Rattle.std.proofs.Common.{sym, subst, ◌∙◌, le_of_eq}
use mathlib.Core.List.{List, [], Memᴰ}
use native.Mathlib.Omega.{arith}
use Rattle.std.specs.Float.{nan}
use Rattle.base_code.specs.FrontLaws.{tabulate-length}
use Rattle.base_laws.specs.Nonneg.{nonneg-number}
use Rattle.grid.specs.Limits.{max_frame_rate, max_frames}
use Rattle.grid.specs.Validate.{grid_of}
use Rattle.grid.specs.ValidateLaws.{frames_parts, within_most}
use Rattle.grid.specs.declared.boundary.FrameGrid.{FrameGrid}
use Rattle.grid.specs.declared.validate.Recording.{Recording}
use Rattle.silence_runs.specs.Quiet.{below_off}
use Rattle.silence_runs.specs.QuietLaws.{quiet_length, below_length}
use Rattle.silence_list.specs.Silences.{silences_in}
use Rattle.silence_list.specs.declared.config.SegmentConfig.{SegmentConfig}
use Rattle.plan_settings.specs.declared.config.PlanConfig.{PlanConfig}
use Rattle.candidate_span.specs.Spacing.{spacing_of}
use Rattle.candidate_span.specs.SpanLaws.{span-frames}
use Rattle.candidate_span.specs.declared.spacing.Spacing.{Spacing}
use Rattle.candidate_costs.specs.Level.{boundary_levels}
use Rattle.candidate_costs.specs.Within.{level_within}
use Rattle.candidate_cuts.specs.CutsLaws.{CutReady}
use Rattle.candidate_points.specs.Points.{is_in, is_point}
use Rattle.candidate_points.specs.Theorems.{Levels, point_of, point_quietest, open_in}
use Rattle.plan_tests.specs.Fitting.{Fitting}
use Rattle.plan_tests.specs.PlanReady.{PlanReady, ready_levelled}
use Rattle.candidates.specs.Candidates.{candidates_of}
use Rattle.candidates.specs.Sources.{Planned, Source, own, point, listed_source, point-ends, own_inside}
use Rattle.candidates.specs.GridPoints.{Fits, grid-planned, grid_inside}
use Rattle.candidates.specs.Order.{span-ends, candidates-first, candidates-last, candidates_some, candidate_within, candidates_rise, candidates_apart}
use Rattle.candidates.specs.Found.{candidate_source, listed_found, listed_inside}
use Rattle.candidates.specs.Alone.{gap_dropped, dropped-found, gap_alone}
use Rattle.candidates.specs.Asked.{Sampled, candidates_asked, costs_asked}
use Rattle.candidates.specs.Cheapest.{candidate_cheapest}
use Rattle.candidates.specs.Costs.{Costable, candidate_cost, candidate_positive}
use Rattle.candidates.specs.declared.candidate.Candidate.{Candidate}
use Rattle.candidates.specs.declared.context.Context.{Context}
use Rattle.candidate_finder.specs.CandidatesIn.{recording_levels, runs_in, boundary_levels_in, context_of, grid_points_in, listed_in, candidates_in}
use Rattle.candidate_finder.specs.SpanIn.{spacing_in, empty_in, first_in, last_in, blocked_in}
use Rattle.candidate_finder.specs.PlanCandidates.{HasLeftEnd, QuietestOfBlock, PlanCandidates, PlanCosts}
use Rattle.candidate_finder.specs.Holds.{silences_are}
use Rattle.candidate_finder.specs.Stretches.{stretches_most}

-- an empty span has none
pub plan_empty : (r : Recording) (segment : SegmentConfig) (settings : PlanConfig) (values : List Float) (flags : List ℕ) (levels : List Float)
    → empty_in r segment settings values flags ≡ true → candidates_in r segment settings values flags levels ≡ []
unfolding candidates_in
plan_empty r segment settings values flags levels e = rw e

module _ (r : Recording) (segment : SegmentConfig) (settings : PlanConfig) (values : List Float) (flags : List ℕ) (levels : List Float) (n32 n64 nf : ℕ)
    (p : PlanReady r segment settings values flags levels n32 n64 nf) (full : empty_in r segment settings values flags ≡ false)
  where
    abbrev x : Context
    x = context_of r segment settings (length values)

    abbrev g : FrameGrid
    g = grid_of r (length values)

    abbrev s : Spacing
    s = spacing_in r segment settings (length values)

    abbrev ss : List ℕ
    ss = silences_in r segment values flags

    abbrev runs : List ℕ
    runs = runs_in r segment values flags

    abbrev boundary_levels_lem : List Float
    boundary_levels_lem = boundary_levels_in r segment values flags levels

    abbrev first : ℕ
    first = first_in r segment settings values flags

    abbrev last : ℕ
    last = last_in r segment settings values flags

    abbrev ks : List ℕ
    ks = grid_points_in r segment settings values flags levels

    -- the list is that of the span's candidates
    pub found_are : candidates_in r segment settings values flags levels ≡ candidates_of x ss runs boundary_levels_lem ks first last
    unfolding candidates_in
    found_are = rw full

    -- ---- what the theorems ask

    some : 0 < length values
    some = span-frames settings.gap (length values) ss full

    size : length boundary_levels_lem ≡ suc (length values)
    unfolding boundary_levels_in boundary_levels
    size = tabulate-length _ (suc (length values))

    prepared : CutReady settings.gap settings.placement (length values) boundary_levels_lem ss
    prepared = record { spanned = record { listed = silences_are r segment values flags p.sounds.flagged; some = full }; few = p.few; held = omega (arith, size); ratio = p.ratio }

    fits : Fits x g s
    unfolding spacing_of
    fits = record { frames = refl; padding = refl; some = p.block_some }

    -- points stand at kept frame boundaries
    pub planned : Planned x ss boundary_levels_lem ks first last
    planned = grid-planned x g s ss boundary_levels_lem fits prepared

    -- and strictly inside the span
    inside : (k : ℕ) → is_in ks k ≡ true → (first < k) × (k < last)
    inside k t = grid_inside x g s ss boundary_levels_lem fits first last k t

    -- the grid is of a length that refusal 6 passes
    pub sampled : Sampled x g
    sampled = record { accepted = p.accepted; same = refl; held = p.length_bounded }

    -- ---- where they lie

    in_order : (c : Candidate) → Source x ss runs boundary_levels_lem ks c → c.left ≤ c.right
    in_order c (own i a e) = rw e (own_inside x ss runs boundary_levels_lem ks first last planned i a).1
    in_order c (point k t e) = rw (e, (point-ends x ss runs boundary_levels_lem ks k).0, (point-ends x ss runs boundary_levels_lem ks k).1) (le_of_eq refl)

    -- one survives for each left end that is listed
    survives : (c : Candidate) → Memᴰ c (listed_in r segment settings values flags levels) → HasLeftEnd (candidates_of x ss runs boundary_levels_lem ks first last) c.left
    survives c m =
        let i = listed_inside x ss runs boundary_levels_lem ks first last planned inside c m in
        let from = listed_source x ss runs boundary_levels_lem ks c m in
        let q = listed_found x ss runs boundary_levels_lem ks first last c from i.0 (omega (arith, i.1, in_order c from)) in
        record { number = q.number; counted = q.counted; at = q.at }

    -- what document 01 says of where they lie
    pub plan_candidates : PlanCandidates r segment settings values flags levels (candidates_in r segment settings values flags levels)
    plan_candidates = subst (PlanCandidates r segment settings values flags levels) (sym found_are) record {
      span = span-ends x ss runs boundary_levels_lem ks first last planned;
      two = candidates_some x ss runs boundary_levels_lem ks first last;
      first_end = candidates-first x ss runs boundary_levels_lem ks first last;
      last_end = candidates-last x ss runs boundary_levels_lem ks first last;
      within = candidate_within x ss runs boundary_levels_lem ks first last planned;
      rise = candidates_rise x ss runs boundary_levels_lem ks first last planned;
      apart = candidates_apart x ss runs boundary_levels_lem ks first last planned;
      source = candidate_source x ss runs boundary_levels_lem ks first last;
      inside = listed_inside x ss runs boundary_levels_lem ks first last planned inside;
      survivor = survives;
      gap_dropped = gap_dropped x ss runs boundary_levels_lem ks first last planned;
      gap_found = λ gap m. let d = dropped-found x ss runs boundary_levels_lem ks first last planned gap m in record { number = d.number; counted = d.counted; is = d.is };
      alone = gap_alone x ss runs boundary_levels_lem ks first last planned;
      blocks = open_in (blocked_in r segment settings values flags) boundary_levels_lem s.block last fits.some first;
      asked = candidates_asked x ss runs boundary_levels_lem ks first last planned g sampled;
    }

    -- ---- what they cost

    stretches : length runs ≡ length values
    unfolding runs_in
    stretches = quiet_length (below_off (recording_levels r segment values flags).off values flags) ∙ below_length (recording_levels r segment values flags).off values flags p.sounds.flagged

    counted : (i : ℕ) → get_or runs i 0 < 4294967296
    unfolding runs_in
    counted i =
        omega (
          arith,
          stretches_most max_frames (recording_levels r segment values flags).off values flags (omega arith)
              (omega (arith, p.few, below_length (recording_levels r segment values flags).off values flags p.sounds.flagged)) i,
        )

    module _ (f : Fitting values levels) where
      -- every level is a number from 0 to 1
      pub costed : Costable x g runs boundary_levels_lem
      costed = record {
        weighed = p.weights;
        scale = λ (k : ℕ) (l : k ≤ length values). unfold boundary_levels_in in
            level_within (recording_levels r segment values flags) _ values flags levels r.domain (ready_levelled r segment settings values flags levels n32 n64 nf p f) some k l;
        bounded = p.accepted.bounded;
        rate = within_most r.frame_rate max_frame_rate (frames_parts r.sample_rate r.frame_rate r.hop p.recording.frames).0;
        lasts = refl;
        stretches = stretches;
        counted = counted;
      }

      numbers : Levels (length values) boundary_levels_lem
      numbers = record { size = size; numbers = λ (k : ℕ) (l : k ≤ length values). nonneg-number (get_or boundary_levels_lem k nan) (costed.scale k l).low }

      quietest : (k : ℕ) → is_in ks k ≡ true → QuietestOfBlock (blocked_in r segment settings values flags) boundary_levels_lem s.block first last k
      quietest k t =
          let blocked = blocked_in r segment settings values flags in
          let is : is_point blocked boundary_levels_lem s.block first last k ≡ true = unfold is_point in t in
          let o = point_of blocked boundary_levels_lem s.block last fits.some first k is in
          let a = point_quietest blocked boundary_levels_lem s.block last fits.some first k is (length values) numbers (omega (arith, (span-ends x ss runs boundary_levels_lem ks first last planned).1)) in
          search arith

      -- what document 01 says of their costs
      pub plan_costs : PlanCosts r segment settings values flags levels (candidates_in r segment settings values flags levels)
      plan_costs = subst (PlanCosts r segment settings values flags levels) (sym found_are) record {
        cost = candidate_cost x g runs boundary_levels_lem costed ss ks first last planned;
        positive = candidate_positive x g runs boundary_levels_lem costed ss ks first last planned;
        cheapest = candidate_cheapest x g runs boundary_levels_lem costed ss ks first last planned;
        quietest = quietest;
        costs_asked = costs_asked x ss runs boundary_levels_lem ks first last planned g costed;
      }
