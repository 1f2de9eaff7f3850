-- What the tests leave is what preparing and planning need, and one law for each end of the operation.
use Rattle.std.specs.Prelude.{◌≡◌, Bool, true, not, ◌||◌, List, ◌++◌, ℕ, suc, ◌+◌, ◌-◌, ◌*◌, ◌≤◌, ◌<◌, eqb, Float, length, Ok, Err, Result}
use Rattle.std.proofs.Common.{sym, ◌∙◌, le_of_lt, arith, take-take, get_or-take, length-take-le}
use Rattle.std.proofs.Math.Path.{ap}
use Rattle.base_terms.specs.Layout.{side, runs_at, marks_at, entries_at}
use Rattle.base_terms.specs.Lists.{filled}
use Rattle.base_terms.specs.Work.{Work, cleared}
use Rattle.grid.specs.declared.boundary.FrameGrid.{FrameGrid}
use Rattle.grid.specs.declared.validate.Recording.{Recording}
use Rattle.silence_list.specs.Silences.{silences_in}
use Rattle.silence_list.specs.declared.config.SegmentConfig.{SegmentConfig}
use Rattle.plan_settings.specs.declared.config.PlanConfig.{PlanConfig}
use Rattle.candidate_span.specs.Gaps.{Cut}
use Rattle.candidate_span.specs.Span.{Span, span_of, span_in}
use Rattle.candidate_span.specs.declared.held.HeldSpan.{HeldSpan}
use Rattle.candidate_points.specs.Points.{is_in}
use Rattle.candidates.specs.Candidates.{candidates_of}
use Rattle.candidates.specs.declared.candidate.Candidate.{Candidate}
use Rattle.candidates.specs.declared.context.Context.{Context}
use Rattle.candidates.specs.Order.{span-ends}
use Rattle.candidates.specs.Same.{candidates_same}
use Rattle.candidate_walk.specs.Held.{silences_held, runs_held, levels_held, marked}
use Rattle.candidate_walk.specs.CollectStep.{marked_in}
use Rattle.candidate_finder.specs.CandidatesIn.{runs_in, boundary_levels_in, context_of, grid_points_in}
use Rattle.candidate_finder.specs.SpanIn.{padding_in, empty_in, first_in, last_in}
use Rattle.candidate_finder.specs.Holds.{silences-before}
use Rattle.candidate_finder.specs.Prepare.{SpanReady}
use Rattle.candidate_finder.specs.Theorems as finder
use Rattle.completion_reach.specs.Cuts.{points_in}
use Rattle.plan_lengths.specs.PlanLengthsLaws.{ready_timed, ready_in_pieces, by_length_preferred, by_count_preferred}
use Rattle.plan_tests.specs.Fitting.{Fitting}
use Rattle.plan_tests.specs.PlanReady.{PlanReady}
use Rattle.plan_tests.specs.Refusal as tests
use Rattle.plan_tests.specs.declared.refusal.Refusal.{Refusal}
use Rattle.plan_division.specs.HeldLaws.{in_append}
use Rattle.plan_path.specs.SearchLaws.{part_of}
use Rattle.plan_pieces.specs.Output.{Output, Handed, handed_of}
use Rattle.plan_pieces.specs.Answer.{Answer}
use Rattle.plan_pieces.specs.declared.answer.Error.TheVariants.{Refused}
use Rattle.plan_steps.specs.Held.{front_of, points_held, held_with, SpanHeld, SpanRoom}
use Rattle.plan_modes.specs.Lengths.{AskedFor}
use Rattle.plan_modes.specs.Plan.{plan_by}
use Rattle.planner.specs.Operation.{candidates_with, end_of, planned_of, plan_of}

module _ (r : Recording) (segment : SegmentConfig) (settings : PlanConfig) (values : List Float) (flags : List ℕ) (levels : List Float) where
  abbrev n : ℕ
  n = length values

  -- ---- a span that is prepared

  module _ (n32 n64 nf : ℕ) (p : PlanReady r segment settings values flags levels n32 n64 nf) (fit : Fitting values levels) (x : Context) (g : FrameGrid) (span : HeldSpan)
      (work : List ℕ) (workf : List Float) (q : SpanReady r segment settings values flags levels x g span work workf) (same : length work ≡ n32) (samef : length workf ≡ nf)
    where
      abbrev front : List ℕ
      front = front_of n work

      apart : 2 * span.silences ≤ runs_at n
      apart = omega (arith, q.holds.counted, silences-before r segment values flags p.sounds.flagged)

      inside : (span.first < span.last) × (span.last ≤ n)
      inside =
          rw (q.starts, q.stops)
          (span-ends (context_of r segment settings n) (silences_in r segment values flags) (runs_in r segment values flags) (boundary_levels_in r segment values flags levels)
          (grid_points_in r segment settings values flags levels) (first_in r segment settings values flags) (last_in r segment settings values flags)
          (finder.planned r segment settings values flags levels n32 n64 nf p q.some))

      -- what stands in the front is what the recording has
      silences_are : silences_held span.silences front ≡ silences_in r segment values flags
      silences_are = take-take (2 * span.silences) (entries_at n) work (omega (arith, apart)) ∙ q.holds.listed

      runs_are : runs_held n front ≡ runs_in r segment values flags
      runs_are = part_of (runs_at n) n (entries_at n) work (omega arith) (omega (arith, same, p.work.enough32)) ∙ q.holds.runs

      points_are : (k : ℕ) → span.first < k → k < span.last → is_in (points_held n span front) k ≡ is_in (grid_points_in r segment settings values flags levels) k
      points_are k a b =
          marked_in (marked n front) span.first (span.last - suc span.first) k a (omega arith)
          ∙ ap (λ (j : ℕ). not (eqb j 0)) (get_or-take (entries_at n) work (marks_at n + k) 0 (omega (arith, inside.1)))
          ∙ q.marks k (omega (arith, inside.1))

      size : x.padding.frames ≡ n
      size = ap (λ (y : Context). y.padding.frames) q.context

      -- the span is held
      pub ready_held : SpanHeld x g span (front_of x.padding.frames work) (levels_held x.padding.frames workf)
      ready_held =
          let planned = finder.planned r segment settings values flags levels n32 n64 nf p q.some in
          rw (q.context, q.grid) record {
            planned = rw (silences_are, q.holds.leveled) record {
              prepared = planned.prepared;
              starts = q.starts;
              stops = q.stops;
              clear = λ k t a b. planned.clear k (sym (points_are k a b) ∙ t) (rw (← q.starts) a) (rw (← q.stops) b);
            };
            sampled = finder.sampled r segment settings values flags levels n32 n64 nf p q.some;
            costed = rw (runs_are, q.holds.leveled) (finder.costed r segment settings values flags levels n32 n64 nf p q.some fit);
            apart = apart;
            long = length-take-le (entries_at n) work (omega (arith, same, p.work.enough32));
            longf = length-take-le (side n) workf (omega (arith, samef, p.work.enoughf));
          }

      -- with room for the search
      pub ready_room : SpanRoom x.padding.frames (length work) n64 (length workf)
      ready_room = record {
        u32s = omega (arith, size, same, p.work.enough32);
        u64s = omega (arith, size, p.work.enough64);
        f64s = omega (arith, size, samef, p.work.enoughf);
      }

      -- it is asked for what the settings ask
      pub ready_asked : AskedFor g settings span.first span.last
      ready_asked = rw q.grid record {
        by_length = record { timed = ready_timed p; preferred = by_length_preferred p };
        by_count = λ count m.
            let c = p.counted count m in
            record {
              timed = ready_timed p;
              pieces = ready_in_pieces p span.first span.last count (le_of_lt inside.0) c.1;
              some = c.0;
              preferred = λ limit. by_count_preferred p span.first span.last count limit inside.0 inside.1 c.0 c.1;
            };
      }

      abbrev held : Span
      held = span_in x.gap x.padding span (silences_held span.silences (front_of x.padding.frames work))

      abbrev whole : Span
      whole = span_of settings.gap (padding_in r segment settings n) (silences_in r segment values flags)

      -- its span and candidates are those of the recording
      span_is : held ≡ whole
      span_is = rw (q.context, silences_are, q.starts, q.stops)

      -- candidates of the recording with points at boundaries ks, between two of its boundaries
      abbrev among : List ℕ → ℕ → ℕ → List Candidate
      among ks from to =
          candidates_of (context_of r segment settings n) (silences_in r segment values flags) (runs_in r segment values flags) (boundary_levels_in r segment values flags levels) ks from to

      held_are : (added : List Cut) → held_with x span (front_of x.padding.frames work) (levels_held x.padding.frames workf) added
          ≡ among (points_held n span front ++ points_in added) span.first span.last
      held_are added = rw (q.context, silences_are, runs_are, q.holds.leveled)

      with_is : held_with x span (front_of x.padding.frames work) (levels_held x.padding.frames workf) ≡ candidates_with r segment settings values flags levels
      with_is i added = each added i
        where
          each : (added : List Cut) → held_with x span (front_of x.padding.frames work) (levels_held x.padding.frames workf) added ≡ candidates_with r segment settings values flags levels added
          each added =
              held_are added
              ∙ candidates_same (context_of r segment settings n) (silences_in r segment values flags) (runs_in r segment values flags) (boundary_levels_in r segment values flags levels)
              (points_held n span front ++ points_in added) (grid_points_in r segment settings values flags levels ++ points_in added) span.first span.last
              (λ k a b. in_append (points_held n span front) (points_in added) k ∙ ap (λ (t : Bool). t || is_in (points_in added) k) (points_are k a b)
              ∙ sym (in_append (grid_points_in r segment settings values flags levels) (points_in added) k))
              ∙ ap (λ (from : ℕ). among (grid_points_in r segment settings values flags levels ++ points_in added) from span.last) q.starts
              ∙ ap (among (grid_points_in r segment settings values flags levels ++ points_in added) (first_in r segment settings values flags)) q.stops

      -- so what is planned of it is the recording's plan
      pub planned_ready : (parents : ℕ) (out : Output) (now : Handed)
          → now ≡ plan_by g settings held (held_with x span (front_of x.padding.frames work) (levels_held x.padding.frames workf))
          settings.mode parents out
          → now ≡ planned_of r segment settings values flags levels parents out
      unfolding planned_of
      planned_ready parents out now d =
          d ∙ ap (λ t. plan_by g settings t (held_with x span (front_of x.padding.frames work) (levels_held x.padding.frames workf)) settings.mode parents out) span_is
          ∙ ap (λ t. plan_by g settings whole t settings.mode parents out) with_is
          ∙ ap (λ (t : FrameGrid). plan_by t settings whole (candidates_with r segment settings values flags levels) settings.mode parents out) q.grid
          ∙ rw q.some

  -- ---- the ends of the work

  -- an empty span has the empty plan
  pub planned_empty : empty_in r segment settings values flags ≡ true → (parents : ℕ) (out : Output) → handed_of (Ok 0) out ≡ planned_of r segment settings values flags levels parents out
  unfolding planned_of
  planned_empty e parents out = rw e

  -- ---- the ends of the operation

  module _ (out : Output) (work : Work) (parent : List ℕ) where
    -- the first test that fails
    abbrev verdict : Result Unit Refusal
    verdict = tests.first_refusal_of r segment settings values flags levels (length work.u32s) (length work.u64s) (length work.f64s)

    -- a refusal before 14 leaves every list as it was
    pub plan_refused : (x : Refusal) → Err x ≡ verdict → end_of (Err (Refused x)) out work parent ≡ plan_of r segment settings values flags levels out work parent
    unfolding plan_of
    plan_refused x e = rw (← e)

    -- every later end, success too, leaves work memory zeroed
    pub plan_planned : Ok tt ≡ verdict → (answer : Answer) (out' : Output) (work' : Work) (parent' : List ℕ)
        → handed_of answer out' ≡ planned_of r segment settings values flags levels (length parent) out → work' ≡ cleared work → parent' ≡ filled 0 parent
        → end_of answer out' work' parent' ≡ plan_of r segment settings values flags levels out work parent
    unfolding plan_of
    plan_planned e answer out' work' parent' d w q = rw (← e, ← d, w, q)
