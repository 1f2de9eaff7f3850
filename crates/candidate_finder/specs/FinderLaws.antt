-- The candidates of a recording as they stand in work memory: none in an empty span, and else what the walk over a span that is held leaves.
use Rattle.std.specs.Prelude.{◌≡◌, true, Float, take, drop}
use Rattle.std.proofs.Math.Path.{refl, ap}
use Rattle.std.proofs.Common.{sym, ◌∙◌, arith, length-append}
use mathlib.Core.List.{List, []}
use Prim.Native.Nat.{ℕ, suc, ◌+◌, ◌-◌, ◌*◌, ◌≤◌, ◌<◌}
use Rattle.std.proofs.Math.ListN.{length, length-drop}
use Rattle.std.proofs.Math.Seq.{length-take-le}
use Rattle.base_terms.specs.Layout.{side, runs_at, entries_at, costs_at}
use Rattle.grid.specs.declared.boundary.FrameGrid.{FrameGrid}
use Rattle.grid.specs.declared.validate.Recording.{Recording}
use Rattle.silence_list.specs.Silences.{silences_in}
use Rattle.silence_list.specs.declared.config.SegmentConfig.{SegmentConfig}
use Rattle.plan_settings.specs.declared.config.PlanConfig.{PlanConfig}
use Rattle.candidate_span.specs.Kept.{boundaries, passing}
use Rattle.candidate_span.specs.SpanLaws.{Spanned, span-frames, ends_order}
use Rattle.candidate_span.specs.declared.held.HeldSpan.{HeldSpan}
use Rattle.candidate_points.specs.Placed.{placed}
use Rattle.candidate_points.specs.PlacedLaws.{placed_part}
use Rattle.candidate_points.specs.Points.{is_in}
use Rattle.candidates.specs.Entries.{entries_of, costs_of}
use Rattle.candidates.specs.EntriesLaws.{entries_length, costs_length}
use Rattle.candidates.specs.Same.{candidates_same}
use Rattle.candidates.specs.declared.candidate.Candidate.{Candidate}
use Rattle.candidates.specs.declared.context.Context.{Context}
use Rattle.candidate_walk.specs.Held.{marked}
use Rattle.candidate_walk.specs.Collect.{collected}
use Rattle.candidate_walk.specs.CollectLaws.{Collectable}
use Rattle.candidate_walk.specs.CollectStep.{marked_in}
use Rattle.candidate_finder.specs.SpanIn.{padding_in, empty_in, first_in, last_in}
use Rattle.candidate_finder.specs.CandidatesIn.{runs_in, boundary_levels_in, context_of, grid_points_in, candidates_in}
use Rattle.candidate_finder.specs.Holds.{silences_are, silences-before}
use Rattle.candidate_finder.specs.Prepare.{Plannable, SpanReady}

-- so many candidates, and what is held of each
pub record Stands (n k : ℕ) (cs : List Candidate) (work : List ℕ) (workf : List Float) : Type 0 where
  pub number : k ≡ length cs
  pub entries : take (3 * k) (drop (entries_at n) work) ≡ entries_of cs
  pub costs : take k (drop (costs_at n) workf) ≡ costs_of cs

-- what was written is what stands there
placed-held : {A : Type 0} (base k : ℕ) (p xs ys : List A) → ys ≡ placed base p xs → length ys ≡ length xs → base ≤ length xs → k ≡ length p → take k (drop base ys) ≡ p
placed-held base k p xs ys e l h s =
    let long : length (placed base p xs) ≡ base + (length p + (length xs - (base + length p))) = unfold placed in simp (length-append, length-drop, length-take-le base xs h) in
    let fits : base + length p ≤ length xs = omega (arith, long, ap length e, l) in
    rw e (placed_part base p xs fits k s)

-- an empty span has none
pub found_none : (r : Recording) (segment : SegmentConfig) (settings : PlanConfig) (values : List Float) (flags : List ℕ) (levels : List Float) (work : List ℕ) (workf : List Float)
    → empty_in r segment settings values flags ≡ true → Stands (length values) 0 (candidates_in r segment settings values flags levels) work workf
found_none r segment settings values flags levels work workf e = rw none (record { number = refl; entries = unfold entries_of in refl; costs = unfold costs_of in refl })
  where
    none : candidates_in r segment settings values flags levels ≡ []
    none = unfold candidates_in in rw e

-- ---- a span that is held

module _ (r : Recording) (segment : SegmentConfig) (settings : PlanConfig) (values : List Float) (flags : List ℕ) (levels : List Float) (n32 nf : ℕ)
    (p : Plannable r segment settings values flags levels n32 nf) (x : Context) (g : FrameGrid) (span : HeldSpan) (work : List ℕ) (workf : List Float)
    (q : SpanReady r segment settings values flags levels x g span work workf) (same : length work ≡ n32) (samef : length workf ≡ nf)
  where
    abbrev n : ℕ
    n = length values

    abbrev ss : List ℕ
    ss = silences_in r segment values flags

    spanned : Spanned settings.gap n ss
    spanned = record { listed = silences_are r segment values flags p.measurable.sounds.flagged; some = q.some }

    apart : 2 * span.silences ≤ runs_at n
    apart = omega (arith, q.holds.counted, silences-before r segment values flags p.measurable.sounds.flagged)

    -- the walk can be made
    pub found_collectable : Collectable x span work workf
    found_collectable = rw q.context record {
      holding = record {
        listed = rw q.holds.listed spanned.listed;
        apart = apart;
        some = span-frames settings.gap n ss q.some;
        few = p.max_spaced.bounded.frames;
        room = omega (arith, same, p.measurable.room);
        roomf = omega (arith, samef, p.measurable.roomf);
      };
      prepared = rw q.holds.listed record {
        spanned = spanned;
        few = p.max_spaced.bounded.frames;
        held = omega (arith, length-take-le (side n) workf (omega (arith, samef, p.measurable.roomf)));
        ratio = p.ratio;
      };
      starts = rw q.holds.listed q.starts;
      stops = rw q.holds.listed q.stops;
    }

    -- and finds document 01's candidates
    found_are : collected x span work workf ≡ candidates_in r segment settings values flags levels
    unfolding collected candidates_in
    found_are =
        rw (q.some, q.context, q.starts, q.stops, q.holds.listed, q.holds.runs, q.holds.leveled)
        (candidates_same (context_of r segment settings n) ss (runs_in r segment values flags) (boundary_levels_in r segment values flags levels)
        (passing (marked n work) (boundaries from (to - suc from))) (grid_points_in r segment settings values flags levels) from to points)
      where
        from : ℕ
        from = first_in r segment settings values flags

        to : ℕ
        to = last_in r segment settings values flags

        points : (k : ℕ) → from < k → k < to → is_in (passing (marked n work) (boundaries from (to - suc from))) k ≡ is_in (grid_points_in r segment settings values flags levels) k
        points k a b =
            let o = ends_order settings.gap (padding_in r segment settings n) ss spanned in
            marked_in (marked n work) from (to - suc from) k a (omega arith) ∙ q.marks k (omega (arith, o.1))

    -- after the walk document 01's candidates stand in work memory
    pub found-stands : (k : ℕ) (work' : List ℕ) (workf' : List Float) → k ≡ length (collected x span work workf)
        → work' ≡ placed (entries_at x.padding.frames) (entries_of (collected x span work workf)) work
        → workf' ≡ placed (costs_at x.padding.frames) (costs_of (collected x span work workf)) workf
        → length work' ≡ length work → length workf' ≡ length workf → Stands n k (candidates_in r segment settings values flags levels) work' workf'
    found-stands k work' workf' number entries costs long longf = record {
      number = number ∙ ap length found_are;
      entries =
          placed-held (entries_at n) (3 * k) (entries_of cs) work work' (rw (found_are, size) at entries) long (omega (arith, same, p.measurable.room))
          (omega (arith, number ∙ ap length found_are, entries_length cs));
      costs =
          placed-held (costs_at n) k (costs_of cs) workf workf' (rw (found_are, size) at costs) longf (omega (arith, samef, p.measurable.roomf))
          (number ∙ ap length found_are ∙ sym (costs_length cs));
    }
      where
        size : x.padding.frames ≡ n
        size = ap (λ (y : Context). y.padding.frames) q.context

        cs : List Candidate
        cs = candidates_in r segment settings values flags levels
