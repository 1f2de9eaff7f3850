-- Completion by count in work memory: what the search for the reach and the marks need of a span that is held, and what they leave.
use Rattle.std.specs.Prelude.{◌≡◌, ℕ, ◌*◌, ◌≤◌, ◌<◌, Float, length, take}
use Rattle.std.proofs.Common.{sym, ap, subst, ◌∙◌, arith}
use mathlib.Core.List.{List, [], Memᴰ}
use Rattle.base_terms.specs.Layout.{marks_at, entries_at}
use Rattle.grid.specs.Limits.{max_frames}
use Rattle.grid.specs.BoundaryLaws.{Accepted}
use Rattle.grid.specs.declared.boundary.FrameGrid.{FrameGrid}
use Rattle.candidate_span.specs.Gaps.{Cut, Spread}
use Rattle.candidate_span.specs.Span.{Span, span_of, span_in}
use Rattle.candidate_span.specs.declared.held.HeldSpan.{HeldSpan}
use Rattle.division.specs.Division.{pieces_asked, Place}
use Rattle.division.specs.Reach.{IsReach}
use Rattle.division.specs.SpanLaws.{span_spread}
use Rattle.candidates.specs.declared.context.Context.{Context}
use Rattle.candidate_walk.specs.Held.{silences_held, runs_held, levels_held}
use Rattle.completion_reach.specs.declared.ground.Ground.{Ground}
use Rattle.completion_reach.specs.GroundLaws.{Founded}
use Rattle.completion_reach.specs.Cuts.{cuts_of, marking}
use Rattle.completion.specs.CutsLaws.{MarkRoom}
use Rattle.completion_reach.specs.Reach.{reach_of}
use Rattle.completion_reach.specs.ReachLaws.{is_reach}
use Rattle.plan_division.proofs.CompletedLaws.{places_by_count}
use Rattle.plan_division.specs.HeldLaws.{far_greedy}
use Rattle.plan_steps.specs.Steps.{cuts_added}
use Rattle.plan_steps.specs.Held.{front_of, points_held, held_with, SpanHeld, CollectRoom}
use Rattle.plan_steps.specs.HeldLaws.{span_order, span_same, held_spread, marking-front, more-with, more-held, same_silences}

module _ (x : Context) (g : FrameGrid) (span : HeldSpan) (work : List ℕ) (workf : List Float)
    (h : SpanHeld x g span (front_of x.padding.frames work) (levels_held x.padding.frames workf)) (room : CollectRoom x.padding.frames (length work) (length workf))
  where
    abbrev n : ℕ
    n = x.padding.frames

    abbrev front : List ℕ
    front = front_of n work

    abbrev levels : List Float
    levels = levels_held n workf

    abbrev s : Span
    s = span_in x.gap x.padding span (silences_held span.silences front)

    -- what code divides
    abbrev ground : Ground
    ground = record { grid = g; gap = x.gap; padding = x.padding; span = span }

    silences_in_lem : silences_held span.silences front ≡ take (2 * span.silences) work
    silences_in_lem = same_silences x g span work workf h room.u32s room.f64s

    -- the span that code divides is the one that is held
    pub ground-span : span_in x.gap x.padding span (take (2 * span.silences) work) ≡ s
    ground-span = rw silences_in_lem

    -- it can be divided
    pub ground_founded : Founded ground (take (2 * span.silences) work)
    ground_founded = record {
      accepted = h.sampled.accepted;
      listed = rw (← silences_in_lem) h.planned.prepared.spanned.listed;
      spread = subst (λ (t : Span). Spread t.first t.gaps t.last) (sym ground-span) (held_spread x g span front levels h);
    }

    -- cuts can be marked
    pub ground-room : MarkRoom ground (marks_at g.frames) work
    ground-room =
        let o = span_order x g span front levels h in
        record {
          founded = ground_founded;
          held = omega (arith, h.apart, room.u32s);
          apart = omega (arith, h.apart, h.sampled.same);
          room = omega (arith, o.1, h.sampled.same, room.u32s);
        }

    -- its last boundary is at most the greatest number of frames
    pub ground_few : span.last ≤ max_frames
    ground_few = omega (arith, (span_order x g span front levels h).1, h.planned.prepared.few)

    -- what the search finds is the reach
    pub sought_is : (most count limit : ℕ) → limit ≡ reach_of g (span_in x.gap x.padding span (take (2 * span.silences) work)) count most → limit ≡ reach_of g s count most
    sought_is most count limit e = e ∙ ap (λ (t : Span). reach_of g t count most) ground-span

    -- ---- under the reach

    module _ (most count limit : ℕ) (some : 0 < count) (sought : limit ≡ reach_of g s count most) where
      -- the cuts that are added are places
      pub count_placed : (k : Cut) → Memᴰ k (cuts_added g s count limit) → Place s k
      count_placed =
          subst (λ (t : Span). (k : Cut) → Memᴰ k (cuts_added g t count limit) → Place t k) (sym same)
          (places_by_count x (silences_held span.silences front) (runs_held n front) levels (points_held n span front) span.first span.last h.planned g ok count some most limit
          (cuts_of g whole limit (pieces_asked whole count)) reach (far_greedy g ok whole spread count most limit reach))
        where
          same : s ≡ span_of x.gap x.padding (silences_held span.silences front)
          same = span_same x g span front levels h

          whole : Span
          whole = span_of x.gap x.padding (silences_held span.silences front)

          ok : Accepted g
          ok = h.sampled.accepted

          spread : Spread whole.first whole.gaps whole.last
          spread = span_spread x.gap x.padding (silences_held span.silences front) h.planned.prepared.spanned

          reach : IsReach g whole count most limit
          reach = rw (sought ∙ ap (λ (t : Span). reach_of g t count most) same) (is_reach g whole spread count some most)

      module _ (work' : List ℕ) (marks : work' ≡ marking (marks_at g.frames) (cuts_added g (span_in x.gap x.padding span (take (2 * span.silences) work)) count limit) work) where
        front_is : front_of n work' ≡ marking (marks_at n) (cuts_added g s count limit) front
        front_is =
            ap (front_of n) marks ∙ ap (λ (t : Span). front_of n (marking (marks_at g.frames) (cuts_added g t count limit) work)) ground-span
            ∙ ap (λ (m : ℕ). front_of n (marking (marks_at m) (cuts_added g s count limit) work)) h.sampled.same
            ∙ marking-front (entries_at n) (marks_at n) (cuts_added g s count limit) work (omega (arith, room.u32s))

        -- the span is still held
        pub count_held : SpanHeld x g span (front_of n work') levels
        count_held = rw front_is (more-held x g span front levels h (cuts_added g s count limit) count_placed)

        -- and its candidates are those with the cuts that are added
        pub count_with : held_with x span (front_of n work') levels [] ≡ held_with x span front levels (cuts_added g s count limit)
        count_with = rw front_is (more-with x g span front levels h (cuts_added g s count limit) count_placed)
