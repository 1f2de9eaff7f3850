-- What each call of `prepare` needs of the ones before, and what its answers say: no frames, an empty span, and a span whose grid points are marked.
-- A request that passes every test before 14 can be prepared.
use Rattle.std.specs.Prelude.{◌≡◌, refl, true, false, List, Option, Some, None, ℕ, ◌+◌, ◌*◌, ◌≤◌, ◌<◌, Float, length, take, drop}
use Rattle.std.proofs.Math.Path.{sym, ap}
use Rattle.std.proofs.Common.{subst, ◌∙◌, arith, take-add, drop_at, length-take-le}
use Rattle.base_terms.specs.Layout.{runs_at, marks_at}
use Rattle.grid.specs.Durations.{frame_secs_of}
use Rattle.grid.specs.Validate.{grid_of}
use Rattle.grid.specs.declared.boundary.FrameGrid.{FrameGrid}
use Rattle.grid.specs.declared.validate.Recording.{Recording}
use Rattle.silence_list.specs.Silences.{silences_in}
use Rattle.silence_list.specs.declared.config.SegmentConfig.{SegmentConfig}
use Rattle.plan_settings.specs.declared.config.Gap.{Gap}
use Rattle.plan_settings.specs.declared.config.Gap.TheVariants.{Keep, Drop}
use Rattle.plan_settings.specs.declared.config.PlanConfig.{PlanConfig}
use Rattle.candidate_span.specs.ListedLaws.{Listed}
use Rattle.candidate_span.specs.Spacing.{spacing_of}
use Rattle.candidate_span.specs.SpacingLaws.{block_some}
use Rattle.candidate_span.specs.Span.{empty_span, ends_of}
use Rattle.candidate_span.specs.SpanLaws.{ends-none, ends_found, ends_order}
use Rattle.candidate_span.specs.declared.held.HeldSpan.{HeldSpan}
use Rattle.candidate_span.specs.declared.padding.Padding.{Padding}
use Rattle.candidate_span.specs.declared.spacing.Spacing.{Spacing}
use Rattle.candidate_span.specs.declared.ends.SpanEnds.{SpanEnds}
use Rattle.candidate_points.specs.Blocked.{is_blocked}
use Rattle.candidate_points.specs.Points.{grid_points, is_in}
use Rattle.candidates.specs.declared.context.Context.{Context}
use Rattle.candidate_walk.specs.Held.{silences_held, runs_held, levels_held, marked}
use Rattle.candidate_finder.specs.SpanIn.{spacing_in, padding_in, empty_in, first_in, last_in}
use Rattle.candidate_finder.specs.CandidatesIn.{runs_in, context_with, grid_points_in}
use Rattle.candidate_finder.specs.Holds.{Holds, silences-before, silences_are}
use Rattle.candidate_finder.specs.GridPointMarks.{marked_of, Markable, mark_stays, mark_length, mark_is}
use Rattle.candidate_finder.specs.Prepare.{Plannable, SpanReady}
use Rattle.plan_tests.specs.PlanReady.{PlanReady}

-- ---- the context by its parts

pub context_is : (r : Recording) (settings : PlanConfig) (padding : Padding) (secs : Float) → secs ≡ frame_secs_of r.frame_rate r.hop
    → ◌≡◌ {A = Context} (record { gap = settings.gap; placement = settings.placement; weights = settings.weights; frame_secs = secs; padding = padding }) (context_with r settings padding)
context_is r settings padding secs e = rw e

-- ---- what the tests leave

-- a request that passes every test before 14 can be prepared
pub ready_plannable : (r : Recording) (segment : SegmentConfig) (settings : PlanConfig) (values : List Float) (flags : List ℕ) (levels : List Float) (n32 n64 nf : ℕ)
    → PlanReady r segment settings values flags levels n32 n64 nf → Plannable r segment settings values flags levels n32 nf
ready_plannable r segment settings values flags levels n32 n64 nf p = record {
  measurable = record { sounds = p.sounds; smoothed = p.smoothed; measured = p.measured; scaled = p.scaled; room = p.work.enough32; roomf = p.work.enoughf };
  pre_spaced = p.pre_spaced;
  tail_spaced = p.tail_spaced;
  max_spaced = p.max_spaced;
  ratio = p.ratio;
}

-- ---- no frames

-- a recording without frames has an empty span
pub no_frames : (gap : Gap) (n : ℕ) (ss : List ℕ) → n ≡ 0 → empty_span gap n ss ≡ true
unfolding empty_span
no_frames Keep n ss e = rw e
no_frames Drop n ss e = rw e

-- ---- a recording that is measured

-- a part of a list by what stands before its end
part_front : {A : Type 0} (a b : ℕ) (xs : List A) → b ≤ length xs → take a (drop b xs) ≡ drop b (take (b + a) xs)
part_front a b xs h = sym (ap (drop b) (take-add b a xs) ∙ drop_at (take b xs) (take a (drop b xs)) b (length-take-le b xs h))

-- the padding is that of the spacing
padding_is : (r : Recording) (segment : SegmentConfig) (settings : PlanConfig) (n : ℕ) → (spacing_in r segment settings n).padding ≡ padding_in r segment settings n
unfolding spacing_of
padding_is r segment settings n = refl

module _ (r : Recording) (segment : SegmentConfig) (settings : PlanConfig) (values : List Float) (flags : List ℕ) (levels : List Float) (n32 nf : ℕ)
    (p : Plannable r segment settings values flags levels n32 nf) (silences : ℕ) (work : List ℕ) (workf : List Float) (h : Holds r segment values flags levels silences work workf)
    (same : length work ≡ n32) (samef : length workf ≡ nf)
  where
    abbrev n : ℕ
    n = length values

    -- the silences stand before the stretches
    apart : 2 * silences ≤ runs_at n
    apart = omega (arith, h.counted, silences-before r segment values flags p.measurable.sounds.flagged)

    -- the silences can be lent
    pub measured_fit : (2 * silences ≤ length work) × (2 * silences < 4294967296)
    measured_fit = (omega (arith, apart, same, p.measurable.room), omega (arith, apart, p.max_spaced.bounded.frames))

    module _ (g : FrameGrid) (s : Spacing) (eg : g ≡ grid_of r n) (es : s ≡ spacing_of g segment.pre segment.tail settings.min settings.max) where
      spacing_is : s ≡ spacing_in r segment settings n
      spacing_is = es ∙ ap (λ (t : FrameGrid). spacing_of t segment.pre segment.tail settings.min settings.max) eg

      padded : s.padding ≡ padding_in r segment settings n
      padded = ap (λ (t : Spacing). t.padding) spacing_is ∙ padding_is r segment settings n

      -- a span without ends is empty
      pub measured_empty : ◌≡◌ {A = Option SpanEnds} None (ends_of settings.gap s.padding (silences_held silences work)) → empty_in r segment settings values flags ≡ true
      measured_empty e =
          ends-none settings.gap (padding_in r segment settings n) (silences_in r segment values flags)
          (e ∙ ap (λ (t : Padding). ends_of settings.gap t (silences_held silences work)) padded ∙ ap (ends_of settings.gap (padding_in r segment settings n)) h.listed)

      -- it has two ends
      module _ (ends : SpanEnds) (e : ◌≡◌ {A = Option SpanEnds} (Some ends) (ends_of settings.gap s.padding (silences_held silences work))) where
        abbrev span : HeldSpan
        span = record { silences = silences; first = ends.first; last = ends.last }

        found : (empty_in r segment settings values flags ≡ false) × (ends.first ≡ first_in r segment settings values flags) × (ends.last ≡ last_in r segment settings values flags)
        found =
            ends_found settings.gap (padding_in r segment settings n) (silences_in r segment values flags) ends
            (e ∙ ap (λ (t : Padding). ends_of settings.gap t (silences_held silences work)) padded ∙ ap (ends_of settings.gap (padding_in r segment settings n)) h.listed)

        listed : Listed n (silences_in r segment values flags)
        listed = silences_are r segment values flags p.measurable.sounds.flagged

        order : (ends.first < ends.last) × (ends.last ≤ n)
        order =
            rw (found.1, found.2)
            (ends_order settings.gap (padding_in r segment settings n) (silences_in r segment values flags) (record { listed = listed; some = found.0 }))

        size : g.frames ≡ n
        size = rw eg

        -- its grid points can be marked
        pub measured_markable : Markable g s span work workf
        measured_markable = record {
          bounded = rw eg p.max_spaced.bounded;
          listed = rw (size, h.listed) listed;
          apart = omega (arith, apart, size);
          some = rw es (unfold spacing_of in block_some g settings.min settings.max);
          order = order.0;
          within = omega (arith, order.1, size);
          size = ap (λ (t : Padding). t.frames) padded ∙ sym size;
          room = omega (arith, same, p.measurable.room, size);
          roomf = omega (arith, samef, p.measurable.roomf, size);
        }

        -- once they are marked
        module _ (work' : List ℕ) (m : work' ≡ marked_of settings.gap g s span work workf) where
          long : length work' ≡ length work
          long = ap length m ∙ mark_length settings.gap g s span work workf measured_markable

          stays : (k : ℕ) → k ≤ marks_at g.frames → take k work' ≡ take k work
          stays k l = ap (take k) m ∙ mark_stays settings.gap g s span work workf measured_markable k l

          runs-stay : runs_held n work' ≡ runs_in r segment values flags
          runs-stay =
              part_front n (runs_at n) work' (omega (arith, long, same, p.measurable.room)) ∙ ap (drop (runs_at n)) (stays (runs_at n + n) (omega (arith, size)))
              ∙ sym (part_front n (runs_at n) work (omega (arith, same, p.measurable.room))) ∙ h.runs

          marks : (k : ℕ) → k ≤ n → marked n work' k ≡ is_in (grid_points_in r segment settings values flags levels) k
          marks k l =
              subst (λ (j : ℕ). marked j work' k ≡ is_in (grid_points (is_blocked settings.gap g s (silences_held silences work)) (levels_held j workf) s.block ends.first ends.last) k) size
              (ap (λ (w : List ℕ). marked g.frames w k) m ∙ mark_is settings.gap g s span work workf measured_markable k (omega (arith, size, l)))
              ∙ rw (spacing_is, eg, h.listed, h.leveled, found.1, found.2)

          -- the span is held
          pub measured_ready : (x : Context) → x ≡ context_with r settings s.padding → SpanReady r segment settings values flags levels x g span work' workf
          measured_ready x ex = record {
            some = found.0;
            context = ex ∙ ap (context_with r settings) padded;
            grid = eg;
            starts = found.1;
            stops = found.2;
            holds = record {
              counted = h.counted;
              listed = stays (2 * silences) (omega (arith, apart, size)) ∙ h.listed;
              runs = runs-stay;
              leveled = h.leveled;
            };
            marks = marks;
          }
