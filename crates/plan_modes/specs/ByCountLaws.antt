-- The plan by count, step by step: the path over candidates under a limit, of the first list and of the completed one, and each end of both functions.
use Rattle.std.specs.Prelude.{◌≡◌, refl, Bool, true, false, ◌&&◌, ℕ, suc, ◌+◌, ◌-◌, ◌*◌, ◌≤◌, ◌<◌, min, Float, length, take, Err}
use Rattle.std.proofs.Math.Path.{sym, ap, subst}
use Rattle.std.proofs.Common.{◌∙◌, arith, take-take}
use mathlib.Core.List.Memᴰ
use mathlib.Core.List.{List, [], Memᴰ}
use Rattle.std.proofs.Math.Dec.{eqb}
use borrow.Author.Tests.{leb-true}
use Rattle.base_terms.specs.Layout.{side, entries_at, search_at, scores_at}
use Rattle.grid.specs.declared.boundary.FrameGrid.{FrameGrid}
use Rattle.path_pieces.specs.Domain.{Preferred}
use Rattle.path_pieces.specs.Limits.{max_index}
use Rattle.path_pieces.specs.declared.lengths.Lengths.{Lengths}
use Rattle.path_rules.specs.Paths.{AllowedByCount, Path, last_candidate}
use Rattle.path_by_count.specs.Theorems.{count_allowed}
use Rattle.path_rules.specs.declared.solved.Solved.{Solved}
use Rattle.plan_settings.specs.declared.config.PlanConfig.{PlanConfig}
use Rattle.candidate_span.specs.Gaps.{Cut}
use Rattle.candidate_span.specs.Span.{Span, span_in}
use Rattle.candidate_span.specs.declared.held.HeldSpan.{HeldSpan}
use Rattle.division.specs.Division.{Place}
use Rattle.candidates.specs.declared.candidate.Candidate.{Candidate}
use Rattle.candidates.specs.declared.context.Context.{Context}
use Rattle.candidates.specs.Samples.{lefts_of, rights_of}
use Rattle.candidate_walk.specs.Held.{silences_held, levels_held}
use Rattle.candidate_finder.specs.FinderLaws.{Stands}
use Rattle.completion_reach.specs.Reach.{reach_of}
use Rattle.plan_lengths.specs.PlanLengths.{maximum_in, lengths_with, lengths_by_count}
use Rattle.plan_pieces.specs.Along.{reasons_in, pieces_along_numbers, cuts_along_numbers}
use Rattle.plan_pieces.specs.Output.{Output, Handed, handed_of, handed_out_of}
use Rattle.plan_pieces.specs.declared.answer.Error.TheVariants.{ShortParent}
use Rattle.plan_lists.specs.Positions.{entries_in}
use Rattle.plan_path.specs.Search.{lefts_in, rights_in}
use Rattle.plan_division.specs.Best.{best_path_over_by_count, overs_of}
use Rattle.plan_steps.specs.AlongLaws.{with_searchable, with_few, with-held, with_asked, along-room, along-handed}
use Rattle.plan_steps.specs.HeldLaws.{room_collects, room_stays}
use Rattle.plan_steps.specs.CountLaws.{count_placed}
use Rattle.plan_steps.specs.Hand.{path_in, HandRoom}
use Rattle.plan_steps.specs.Held.{front_of, held_with, SpanHeld, SpanRoom}
use Rattle.plan_modes.specs.Lengths.{AskedByCount}
use Rattle.plan_steps.specs.Steps.{plan_along, cuts_added}
use Rattle.plan_lists.specs.Parents.{has_parents}
use Rattle.plan_modes.specs.Plan.{path_by_count, suffices, planned_under, completed_by_count, planned_after, plan_by_count}
use Rattle.plan_steps.specs.Search.{AskedOver, PathOver, SearchedByCount}

module _ (x : Context) (g : FrameGrid) (settings : PlanConfig) (count : ℕ) (span : HeldSpan) (work positions : List ℕ) (workf : List Float)
    (h : SpanHeld x g span (front_of x.padding.frames work) (levels_held x.padding.frames workf)) (room : SpanRoom x.padding.frames (length work) (length positions) (length workf))
    (q : AskedByCount g settings span.first span.last count)
  where
    abbrev front : List ℕ
    front = front_of x.padding.frames work

    abbrev levels : List Float
    levels = levels_held x.padding.frames workf

    abbrev s : Span
    s = span_in x.gap x.padding span (silences_held span.silences front)

    abbrev with : List Cut → List Candidate
    with = held_with x span front levels

    -- ---- candidates with points added, under a limit

    module _ (added : List Cut) (placed : (k : Cut) → Memᴰ k added → Place s k) (k : ℕ) (work₁ : List ℕ) (workf₁ : List Float)
        (stands : Stands x.padding.frames k (with added) work₁ workf₁) (same : length work₁ ≡ length work) (samef : length workf₁ ≡ length workf)
      where
        abbrev cs : List Candidate
        cs = with added

        room₁ : SpanRoom x.padding.frames (length work₁) (length positions) (length workf₁)
        room₁ = room_stays room same refl samef

        -- there are some candidates, few enough that pieces times candidates can be worked out
        pub under_few : (0 < k) × (k ≤ suc max_index)
        under_few =
            let f = with_few x g span front levels h added placed in
            (omega (arith, f.0, stands.number), omega (arith, f.1, stands.number, h.sampled.same, h.planned.prepared.few))

        -- 14 is said of the candidates that there are
        pub under_parents : (b : Bool) (parents : ℕ) → b ≡ has_parents count k parents → has_parents count (length cs) parents ≡ b
        under_parents b parents e = ap (λ (m : ℕ). has_parents count m parents) (sym stands.number) ∙ sym e

        -- the list is long enough for the search
        pub under_enough : (b : Bool) (parents : ℕ) → b ≡ has_parents count k parents → b ≡ true → (0 < count) × (min count (k - 1) * k ≤ parents)
        unfolding has_parents
        under_enough b parents e t = (q.some, leb-true (min count (k - 1) * k) parents (sym e ∙ t))

        module _ (limit : ℕ) (l : Lengths) (prefers : l ≡ lengths_by_count g settings span.first span.last count limit) where
          preferred : Preferred l
          preferred = subst Preferred (sym prefers) (q.preferred limit)

          -- the path can be sought
          pub under_asked : AskedOver g k l work₁ positions workf₁
          under_asked = with_asked x g span front levels h added placed k work₁ positions workf₁ stands room₁ l preferred

          -- once the path is found
          module _ (work₂ positions₂ : List ℕ) (workf₂ : List Float) (answer : Solved) (found : SearchedByCount g k l count work₁ positions workf₁ work₂ positions₂ workf₂ answer)
              (same₂ : length work₂ ≡ length work₁) (same64 : length positions₂ ≡ length positions)
            where
              abbrev path : List ℕ
              path = best_path_over_by_count g l cs count

              over : PathOver g cs path work₁ work₂ positions₂ workf₁ workf₂ answer
              over = found.over cs stands.number (with-held x g span front levels h added placed k work₁ positions workf₁ stands room₁)

              allowed : Path (AllowedByCount l.limit (lefts_of g cs) (rights_of g cs)) path (last_candidate (lefts_of g cs))
              allowed = (count_allowed (with_searchable x g span front levels h added placed l preferred) count q.some).0

              -- the plan along it can be handed out
              pub under-room : HandRoom g.frames k answer.len work₂ positions₂
              under-room =
                  along-room x g span front levels h added placed k work₁ positions workf₁ stands room₁ (AllowedByCount l.limit (lefts_of g cs) (rights_of g cs))
                  (λ i j a. a.0) l preferred path allowed work₂ positions₂ workf₂ answer over same₂ same64

              -- what is handed out
              pub under-handed : (most : ℕ) (is : most ≡ maximum_in g settings) (out : Output) (now : Handed)
                  → now ≡ handed_out_of (answer.len - 1)
                  (pieces_along_numbers (lefts_in k positions₂) (rights_in g.frames k positions₂) l.min most (path_in g.frames answer.len work₂))
                  (cuts_along_numbers (lefts_in k positions₂) (rights_in g.frames k positions₂) (reasons_in (entries_in g.frames k work₂)) (path_in g.frames answer.len work₂)) out
                  → now ≡ plan_along g settings cs (path_by_count g settings s count limit cs) out
              unfolding lengths_with
              under-handed most is out now e =
                  along-handed x g span front levels h added placed k work₁ positions workf₁ stands room₁
                  (AllowedByCount l.limit (lefts_of g cs) (rights_of g cs)) (λ i j a. a.0) l preferred path allowed work₂ positions₂ workf₂ answer over same₂ same64
                  settings l.min most out now (ap (λ (t : Lengths). t.min) prefers) is e
                  ∙ ap (λ (t : Lengths). plan_along g settings cs (best_path_over_by_count g t cs count) out) prefers

              -- whether it suffices
              pub under-suffices : (b : Bool) → b ≡ (eqb answer.len (suc count) && eqb answer.score.over 0) → suffices g settings s count limit cs ≡ b
              unfolding suffices
              under-suffices b e =
                  sym (ap (λ (t : Lengths). eqb (length (best_path_over_by_count g t cs count)) (suc count) && eqb (overs_of g t cs count) 0) prefers)
                  ∙ sym (rw (over.len, found.overs cs stands.number (with-held x g span front levels h added placed k work₁ positions workf₁ stands room₁)) at e)

              -- the fronts are as they were
              pub under-front : front_of x.padding.frames work₂ ≡ front_of x.padding.frames work₁
              under-front =
                  sym (take-take (entries_at x.padding.frames) (search_at x.padding.frames) work₂ (omega arith))
                  ∙ ap (take (entries_at x.padding.frames)) (subst (λ (m : ℕ). take (search_at m) work₂ ≡ take (search_at m) work₁) h.sampled.same over.before)
                  ∙ take-take (entries_at x.padding.frames) (search_at x.padding.frames) work₁ (omega arith)

              -- and so are the levels
              pub under-levels : levels_held x.padding.frames workf₂ ≡ levels_held x.padding.frames workf₁
              under-levels =
                  sym (take-take (side x.padding.frames) (scores_at x.padding.frames) workf₂ (omega arith))
                  ∙ ap (take (side x.padding.frames)) (subst (λ (m : ℕ). take (scores_at m) workf₂ ≡ take (scores_at m) workf₁) h.sampled.same over.beforef)
                  ∙ take-take (side x.padding.frames) (scores_at x.padding.frames) workf₁ (omega arith)

    -- where the fronts are as they were
    module _ (work₂ : List ℕ) (workf₂ : List Float) (fronts : front_of x.padding.frames work₂ ≡ front) (same-levels : levels_held x.padding.frames workf₂ ≡ levels) where
      -- the span is still held
      pub kept_held : SpanHeld x g span (front_of x.padding.frames work₂) (levels_held x.padding.frames workf₂)
      kept_held = rw (fronts, same-levels) h

      -- and what is planned of it is the same
      pub kept_after : (parents parents₂ : ℕ) → parents₂ ≡ parents → (out : Output) (now : Handed)
          → now ≡ planned_after g settings (span_in x.gap x.padding span (silences_held span.silences (front_of x.padding.frames work₂)))
          (held_with x span (front_of x.padding.frames work₂) (levels_held x.padding.frames workf₂)) count parents₂ out
          → now ≡ planned_after g settings s with count parents out
      kept_after parents parents₂ e out now d = rw (fronts, same-levels, e) at d

    -- no point is added to the first candidates
    pub none-placed : (k : Cut) → Memᴰ k [] → Place s k
    none-placed k m = absurd (Memᴰ.not-nil m)

    -- ---- the ends of planning under the reach

    module _ (most : ℕ) (is : most ≡ maximum_in g settings) (limit : ℕ) (reach : limit ≡ reach_of g s count most) where
      abbrev ds : List Candidate
      ds = completed_by_count g settings s with count limit

      -- the cuts that are added are places
      pub after-placed : (k : Cut) → Memᴰ k (cuts_added g s count limit) → Place s k
      after-placed = count_placed x g span work workf h (room_collects room) most count limit q.some reach

      module _ (parents : ℕ) (out : Output) where
        -- what is planned under the limit is what is planned under the reach
        under-reach : planned_under g settings s count limit ds parents out ≡ planned_after g settings s with count parents out
        under-reach =
            ap (λ (l : ℕ). planned_under g settings s count l (completed_by_count g settings s with count l) parents out) (reach ∙ ap (reach_of g s count) is)

        -- the parent list is too short: 14
        pub after-short : has_parents count (length ds) parents ≡ false → handed_of (Err ShortParent) out ≡ planned_after g settings s with count parents out
        unfolding planned_under
        after-short b = sym (rw b) ∙ under-reach

        -- the plan along the second path
        pub after-planned : has_parents count (length ds) parents ≡ true → (now : Handed) → now ≡ plan_along g settings ds (path_by_count g settings s count limit ds) out
            → now ≡ planned_after g settings s with count parents out
        unfolding planned_under
        after-planned b now d = d ∙ sym (rw b) ∙ under-reach

    -- ---- the ends of the whole

    module _ (most : ℕ) (is : most ≡ maximum_in g settings) (parents : ℕ) (out : Output) where
      -- the parent list is too short for the first path: 14
      pub count_short : has_parents count (length (with [])) parents ≡ false → handed_of (Err ShortParent) out ≡ plan_by_count g settings s with count parents out
      unfolding plan_by_count
      count_short b = rw b

      module _ (fits : has_parents count (length (with [])) parents ≡ true) where
        -- the plan along the first path, which suffices
        pub count_first : suffices g settings s count most (with []) ≡ true → (now : Handed) → now ≡ plan_along g settings (with []) (path_by_count g settings s count most (with [])) out
            → now ≡ plan_by_count g settings s with count parents out
        unfolding plan_by_count
        count_first b now d =
            d ∙ ap (λ (m : ℕ). plan_along g settings (with []) (path_by_count g settings s count m (with [])) out) is
            ∙ sym (rw (fits, subst (λ (m : ℕ). suffices g settings s count m (with []) ≡ true) is b))

        -- else what is planned once the reach was sought
        pub count_second : suffices g settings s count most (with []) ≡ false
            → (now : Handed) → now ≡ planned_after g settings s with count parents out → now ≡ plan_by_count g settings s with count parents out
        unfolding plan_by_count
        count_second b now d = d ∙ sym (rw (fits, subst (λ (m : ℕ). suffices g settings s count m (with []) ≡ false) is b))
