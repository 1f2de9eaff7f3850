-- What a walk over the boundaries leaves, and what completion by length needs on its way and leaves.
use Rattle.std.specs.Prelude.{◌≡◌, ℕ, suc, ◌+◌, ◌-◌, ◌*◌, ◌≤◌, ◌<◌, Float, length, take, drop}
use Rattle.std.proofs.Common.{sym, ap, subst, ◌∙◌, arith}
use mathlib.Core.List.{List, [], Memᴰ}
use Rattle.base_terms.specs.Layout.{side, marks_at, entries_at, costs_at}
use Rattle.grid.specs.declared.boundary.FrameGrid.{FrameGrid}
use Rattle.candidate_span.specs.Gaps.{Cut}
use Rattle.candidate_span.specs.Span.{Span, span_of, span_in}
use Rattle.candidate_span.specs.declared.held.HeldSpan.{HeldSpan}
use Rattle.candidate_points.specs.Placed.{placed}
use Rattle.candidate_points.specs.PlacedLaws.{placed-take, placed_part}
use Rattle.division.specs.Division.{Place}
use Rattle.candidates.specs.declared.candidate.Candidate.{Candidate}
use Rattle.candidates.specs.declared.context.Context.{Context}
use Rattle.candidates.specs.Candidates.{candidates_of}
use Rattle.candidates.specs.Entries.{entries_of, costs_of}
use Rattle.candidates.specs.EntriesLaws.{entries_length, costs_length}
use Rattle.candidates.specs.Order.{candidates_some, candidates_few, candidate_within}
use Rattle.candidate_walk.specs.Held.{silences_held, runs_held, levels_held}
use Rattle.candidate_walk.specs.Collect.{collected}
use Rattle.candidate_walk.specs.CollectLaws.{Collectable}
use Rattle.candidate_finder.specs.FinderLaws.{Stands}
use Rattle.completion.specs.Complete.{bridges_of}
use Rattle.completion.specs.CompleteLaws.{Completable}
use Rattle.completion_reach.specs.Cuts.{marking}
use Rattle.plan_division.specs.Along.{ends_at}
use Rattle.plan_division.specs.Across.{Across}
use Rattle.plan_division.specs.AcrossLaws.{planned_across}
use Rattle.plan_division.specs.Added.{added_by_length}
use Rattle.plan_division.proofs.CompletedLaws.{places_by_length}
use Rattle.plan_division.specs.HeldLaws.{left_held_lem, right_held_lem, steps_held}
use Rattle.plan_steps.specs.Held.{front_of, points_held, held_with, SpanHeld, CollectRoom}
use Rattle.plan_steps.specs.Complete.{bridged_held}
use Rattle.plan_steps.specs.HeldLaws.{span_order, span_same, with_none, marking-front, more-with, more-held, held_collectable, held-collected}

-- candidates stand in work memory, and its fronts are as they were
pub record CollectedIn (frames : ℕ) (cs : List Candidate) (k : ℕ) (work : List ℕ) (workf : List Float) (work' : List ℕ) (workf' : List Float) : Type 0 where
  pub stands : Stands frames k cs work' workf'
  pub front : front_of frames work' ≡ front_of frames work
  pub levels : levels_held frames workf' ≡ levels_held frames workf
  pub some : 2 ≤ length cs
  pub few : length cs ≤ side frames

module _ (x : Context) (g : FrameGrid) (span : HeldSpan) (work : List ℕ) (workf : List Float)
    (h : SpanHeld x g span (front_of x.padding.frames work) (levels_held x.padding.frames workf)) (room : CollectRoom x.padding.frames (length work) (length workf))
  where
    abbrev n : ℕ
    n = x.padding.frames

    -- the candidates of what is held
    abbrev cs : List Candidate
    cs = held_with x span (front_of n work) (levels_held n workf) []

    abbrev ss : List ℕ
    ss = silences_held span.silences (front_of n work)

    abbrev runs : List ℕ
    runs = runs_held n (front_of n work)

    abbrev ks : List ℕ
    ks = points_held n span (front_of n work)

    none : cs ≡ candidates_of x ss runs (levels_held n workf) ks span.first span.last
    none = with_none x g span (front_of n work) (levels_held n workf) h

    some : 2 ≤ length cs
    some = rw none (candidates_some x ss runs (levels_held n workf) ks span.first span.last)

    few : length cs ≤ side n
    few =
        let o = span_order x g span (front_of n work) (levels_held n workf) h in
        omega (arith, candidates_few x ss runs (levels_held n workf) ks span.first span.last o.0, o.1, ap length none)

    across : Across (span_of x.gap x.padding ss) cs
    across = subst (Across (span_of x.gap x.padding ss)) (sym none) (planned_across x ss runs (levels_held n workf) ks span.first span.last h.planned)

    left_within : (i : ℕ) → i < length cs → (ends_at cs i).left ≤ span.last
    left_within =
        subst (λ (ds : List Candidate). (i : ℕ) → i < length ds → (ends_at ds i).left ≤ span.last) (sym none)
        (λ i l. let w = candidate_within x ss runs (levels_held n workf) ks span.first span.last h.planned i l in omega (arith, w.1, w.2))

    -- the walk can be made
    pub collectable : Collectable x span work workf
    collectable = held_collectable x g span work workf h room.u32s room.f64s

    -- what the walk leaves
    pub collected_in : (k : ℕ) (work' : List ℕ) (workf' : List Float) → k ≡ length (collected x span work workf)
        → work' ≡ placed (entries_at n) (entries_of (collected x span work workf)) work
        → workf' ≡ placed (costs_at n) (costs_of (collected x span work workf)) workf
        → CollectedIn n cs k work workf work' workf'
    collected_in k work' workf' number entries costs = record {
      stands = record {
        number = number ∙ ap length is;
        entries = ap (λ (xs : List ℕ). take (3 * k) (drop (entries_at n) xs)) entries_are ∙ placed_part (entries_at n) (entries_of cs) work fits (3 * k) (omega (arith, number ∙ ap length is, entries_length cs));
        costs = ap (λ (xs : List Float). take k (drop (costs_at n) xs)) costs_are ∙ placed_part (costs_at n) (costs_of cs) workf fitsf k (number ∙ ap length is ∙ sym (costs_length cs));
      };
      front = ap (front_of n) entries_are ∙ placed-take (entries_at n) (entries_of cs) work fits (entries_at n) (omega arith);
      levels = ap (levels_held n) costs_are ∙ placed-take (costs_at n) (costs_of cs) workf fitsf (costs_at n) (omega arith);
      some = some;
      few = few;
    }
      where
        is : collected x span work workf ≡ cs
        is = held-collected x g span work workf h room.u32s room.f64s

        fits : entries_at n + length (entries_of cs) ≤ length work
        fits = omega (arith, entries_length cs, few, room.u32s)

        fitsf : costs_at n + length (costs_of cs) ≤ length workf
        fitsf = omega (arith, costs_length cs, few, room.f64s)

        entries_are : work' ≡ placed (entries_at n) (entries_of cs) work
        entries_are = entries ∙ ap (λ (ds : List Candidate). placed (entries_at n) (entries_of ds) work) is

        costs_are : workf' ≡ placed (costs_at n) (costs_of cs) workf
        costs_are = costs ∙ ap (λ (ds : List Candidate). placed (costs_at n) (costs_of ds) workf) is

    -- ---- by length

    -- the points between neighbours are places
    pub length-placed : (most : ℕ) (j : Cut) → Memᴰ j (added_by_length g most cs) → Place (span_in x.gap x.padding span (silences_held span.silences (front_of n work))) j
    length-placed most j m =
        subst (λ (s : Span). Place s j) (sym (span_same x g span (front_of n work) (levels_held n workf) h))
        (places_by_length x ss runs (levels_held n workf) ks span.first span.last h.planned g most j (subst (λ (ds : List Candidate). Memᴰ j (added_by_length g most ds)) none m))

    -- once the candidates stand in work memory

    module _ (most k : ℕ) (work' : List ℕ) (workf' : List Float) (c : CollectedIn n cs k work workf work' workf') (same : length work' ≡ length work) where
      entries_in_lem : take (3 * length cs) (drop (entries_at n) work') ≡ entries_of cs
      entries_in_lem = ap (λ (j : ℕ). take (3 * j) (drop (entries_at n) work')) (sym c.stands.number) ∙ c.stands.entries

      -- marks and candidates by their places in work memory
      module _ (marks entries : ℕ) (marks-at : marks ≡ marks_at n) (entries_start : entries ≡ entries_at n) where
        -- points between neighbours can be marked
        pub completable : Completable g marks entries (k - 1) work'
        completable = rw (marks-at, entries_start) record {
          accepted = h.sampled.accepted;
          apart = omega (arith, h.sampled.same);
          room = omega (arith, c.stands.number, few, some, same, room.u32s);
          rises = λ i l.
              rw (right_held_lem (entries_at n) work' cs entries_in_lem i (omega (arith, l, c.stands.number)), left_held_lem (entries_at n) work' cs entries_in_lem (suc i) (omega (arith, l, c.stands.number)))
              (across.apart i (suc i) (omega arith) (omega (arith, l, c.stands.number)));
          within = λ i l.
              rw (left_held_lem (entries_at n) work' cs entries_in_lem (suc i) (omega (arith, l, c.stands.number)))
              (omega (arith, left_within (suc i) (omega (arith, l, c.stands.number)), (span_order x g span (front_of n work) (levels_held n workf) h).1, h.sampled.same));
        }

        abbrev added : List Cut
        added = added_by_length g most cs

        abbrev front : List ℕ
        front = front_of n work

        -- ---- once they are marked

        module _ (work'' : List ℕ) (marked : work'' ≡ marking marks (bridges_of g most entries work' (k - 1)) work') where
          bridges : bridges_of g most (entries_at n) work' (k - 1) ≡ added
          bridges = ap (λ (j : ℕ). bridges_of g most (entries_at n) work' (j - 1)) c.stands.number ∙ steps_held (entries_at n) work' cs entries_in_lem g most (omega (arith, some))

          front_is : front_of n work'' ≡ marking (marks_at n) added front
          front_is =
              ap (front_of n) marked
              ∙ ap (λ (b : ℕ). front_of n (marking b (bridges_of g most entries work' (k - 1)) work')) marks-at
              ∙ ap (λ (e : ℕ). front_of n (marking (marks_at n) (bridges_of g most e work' (k - 1)) work')) entries_start
              ∙ marking-front (entries_at n) (marks_at n) (bridges_of g most (entries_at n) work' (k - 1)) work' (omega (arith, same, room.u32s))
              ∙ ap (λ (js : List Cut). marking (marks_at n) js (front_of n work')) bridges ∙ ap (marking (marks_at n) added) c.front

          -- the span is still held
          pub bridged_held_lem : SpanHeld x g span (front_of n work'') (levels_held n workf')
          bridged_held_lem = rw (front_is, c.levels) (more-held x g span front (levels_held n workf) h added (length-placed most))

          -- and its candidates are those with the points between neighbours
          pub bridged-with : held_with x span (front_of n work'') (levels_held n workf') [] ≡ bridged_held x g most span work workf
          bridged-with = rw (front_is, c.levels) (more-with x g span front (levels_held n workf) h added (length-placed most))

-- the candidates of a span that is held, by another name for them
pub named_stands : (x : Context) (g : FrameGrid) (span : HeldSpan) (work : List ℕ) (workf : List Float)
    → (h : SpanHeld x g span (front_of x.padding.frames work) (levels_held x.padding.frames workf)) → CollectRoom x.padding.frames (length work) (length workf)
    → (ds : List Candidate) → held_with x span (front_of x.padding.frames work) (levels_held x.padding.frames workf) [] ≡ ds
    → (k : ℕ) (work' : List ℕ) (workf' : List Float) → k ≡ length (collected x span work workf)
    → work' ≡ placed (entries_at x.padding.frames) (entries_of (collected x span work workf)) work
    → workf' ≡ placed (costs_at x.padding.frames) (costs_of (collected x span work workf)) workf
    → Stands x.padding.frames k ds work' workf'
named_stands x g span work workf h room ds e k work' workf' a b c =
    subst (λ (es : List Candidate). Stands x.padding.frames k es work' workf') e (collected_in x g span work workf h room k work' workf' a b c).stands
