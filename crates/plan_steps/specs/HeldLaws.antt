-- The candidates of what is held can be collected; marks that are added give the candidates with those points, and leave a span that is held.
use Rattle.std.specs.Prelude.{◌≡◌, refl, Bool, true, false, not, ◌||◌, cond, ℕ, suc, ◌+◌, ◌-◌, ◌*◌, ◌≤◌, ◌<◌, eqb, Float, length, take, drop, set}
use Rattle.std.proofs.Math.Path.{sym, ap}
use Rattle.std.proofs.Common.{subst, ◌∙◌, inl, inr, arith, take-take, get_or-take, length-take-le}
use mathlib.Core.List.{List, [], ◌∷◌, ◌++◌, append-nil, Memᴰ}
use Rattle.std.proofs.Math.Seq.{take-set-lt, set_out}
use Rattle.std.proofs.lemmas.List.{take-set-le}
use Rattle.base_terms.specs.Layout.{runs_at, marks_at, entries_at, search_at, scores_at}
use Rattle.base_laws.specs.Tests.{lt_or_le}
use Rattle.grid.specs.declared.boundary.FrameGrid.{FrameGrid}
use Rattle.candidate_span.specs.Gaps.{Cut, Spread, gaps_of}
use Rattle.candidate_span.specs.Span.{Span, first_of, last_of, span_of, span_in}
use Rattle.candidate_span.specs.SpanLaws.{span-frames}
use Rattle.candidate_span.specs.ListedLaws.{Listed}
use Rattle.candidate_span.specs.declared.held.HeldSpan.{HeldSpan}
use Rattle.candidate_cuts.specs.CutsLaws.{CutReady}
use Rattle.candidate_points.specs.Points.{is_in}
use Rattle.division.specs.Division.{Place}
use Rattle.division.specs.SpanLaws.{span_spread}
use Rattle.candidates.specs.declared.context.Context.{Context}
use Rattle.candidates.specs.Candidates.{candidates_of}
use Rattle.candidates.specs.Same.{candidates_same}
use Rattle.candidates.specs.Sources.{Planned}
use Rattle.candidates.specs.Order.{span-ends}
use Rattle.candidate_walk.specs.Held.{silences_held, runs_held, levels_held, marked}
use Rattle.candidate_walk.specs.Collect.{collected}
use Rattle.candidate_walk.specs.CollectLaws.{Collectable}
use Rattle.candidate_walk.specs.CollectStep.{marked_in}
use Rattle.completion_reach.specs.Cuts.{mark_cut, marking, points_in}
use Rattle.completion.specs.MarkingLaws.{marking-length, marking_stays, marking_is}
use Rattle.plan_path.specs.SearchLaws.{part_of}
use Rattle.plan_division.specs.AddedLaws.{planned-completed}
use Rattle.plan_division.specs.HeldLaws.{in_append, completed_same}
use Rattle.plan_steps.specs.Held.{front_of, points_held, held_with, SpanHeld, CollectRoom, SpanRoom}

-- ---- room

-- room for the search is room to collect
pub room_collects : {frames n32 n64 nf : ℕ} → SpanRoom frames n32 n64 nf → CollectRoom frames n32 nf
room_collects r = record { u32s = omega (arith, r.u32s); f64s = omega (arith, r.f64s) }

-- and stays where lengths do
pub room_stays : {frames n32 n64 nf m32 m64 mf : ℕ} → SpanRoom frames n32 n64 nf → m32 ≡ n32 → m64 ≡ n64 → mf ≡ nf → SpanRoom frames m32 m64 mf
room_stays r a b c = record { u32s = omega (arith, r.u32s, a); u64s = omega (arith, r.u64s, b); f64s = omega (arith, r.f64s, c) }

-- ---- the front of a list

-- a number set in a list, seen from its front
take-set : (n : ℕ) (xs : List ℕ) (i v : ℕ) → n ≤ length xs → take n (set xs i v) ≡ set (take n xs) i v
take-set n xs i v l = elim (lt_or_le i n) [
  | inl h ↦ take-set-lt n xs i v h
  | inr h ↦ take-set-le n xs i v h ∙ sym (set_out (take n xs) i v (omega (arith, h, length-take-le n xs l)))
]

take_mark : (n base : ℕ) (k : Cut) (xs : List ℕ) → n ≤ length xs → take n (mark_cut base k xs) ≡ mark_cut base k (take n xs)
take_mark n base k xs l = go (eqb k.left k.right)
  where
    go : (b : Bool) → take n (cond b (set xs (base + k.left) 1) xs) ≡ cond b (set (take n xs) (base + k.left) 1) (take n xs)
    go true = take-set n xs (base + k.left) 1 l
    go false = refl

-- marks set in a list, seen from its front
pub marking-front : (n base : ℕ) (ks : List Cut) (xs : List ℕ) → n ≤ length xs → take n (marking base ks xs) ≡ marking base ks (take n xs)
unfolding marking
marking-front n base [] xs l = refl
marking-front n base (k ∷ ks) xs l =
    marking-front n base ks (mark_cut base k xs) (rw (marking-length base (k ∷ []) xs) l) ∙ ap (marking base ks) (take_mark n base k xs l)

-- ---- what is held

module _ (x : Context) (g : FrameGrid) (span : HeldSpan) (front : List ℕ) (levels : List Float) (h : SpanHeld x g span front levels) where
  abbrev n : ℕ
  n = x.padding.frames

  abbrev ss : List ℕ
  ss = silences_held span.silences front

  abbrev runs : List ℕ
  runs = runs_held n front

  abbrev ks : List ℕ
  ks = points_held n span front

  -- its ends are in order and within the frames
  pub span_order : (span.first < span.last) × (span.last ≤ n)
  span_order = span-ends x ss runs levels ks span.first span.last h.planned

  -- the span is that of the recording
  pub span_same : span_in x.gap x.padding span (silences_held span.silences front) ≡ span_of x.gap x.padding ss
  span_same = rw (h.planned.starts, h.planned.stops)

  -- the dropped gaps lie strictly inside it and apart
  pub held_spread : Spread span.first (gaps_of x.gap x.padding ss) span.last
  held_spread =
      subst (λ (s : Span). Spread s.first s.gaps s.last) (sym span_same) (span_spread x.gap x.padding ss h.planned.prepared.spanned)

  -- without any added, these are the candidates with the points held
  pub with_none : held_with x span front levels [] ≡ candidates_of x ss runs levels ks span.first span.last
  unfolding points_in
  with_none = ap (λ (js : List ℕ). candidates_of x ss runs levels js span.first span.last) (append-nil ks)

  -- a boundary strictly inside the span is among the points where it is marked
  point-marked : (other : List ℕ) (k : ℕ) → span.first < k → k < span.last → is_in (points_held n span other) k ≡ marked n other k
  point-marked other k a b = marked_in (marked n other) span.first (span.last - suc span.first) k a (omega arith)

  -- ---- marks that are added at places

  module _ (added : List Cut) (placed : (k : Cut) → Memᴰ k added → Place (span_in x.gap x.padding span (silences_held span.silences front)) k) where
    abbrev more : List ℕ
    more = marking (marks_at n) added front

    more_long : length more ≡ length front
    more_long = marking-length (marks_at n) added front

    more-silences : silences_held span.silences more ≡ ss
    more-silences = marking_stays (marks_at n) (2 * span.silences) added front (omega (arith, h.apart))

    more-runs : runs_held n more ≡ runs
    more-runs =
        sym (part_of (runs_at n) n (marks_at n) more (omega arith) (omega (arith, more_long, h.long)))
        ∙ ap (λ (xs : List ℕ). take n (drop (runs_at n) xs)) (marking_stays (marks_at n) (marks_at n) added front (omega arith))
        ∙ part_of (runs_at n) n (marks_at n) front (omega arith) (omega (arith, h.long))

    more-points : (k : ℕ) → span.first < k → k < span.last → is_in (points_held n span more) k ≡ (is_in ks k || is_in (points_in added) k)
    more-points k a b =
        point-marked more k a b ∙ marking_is (marks_at n) added front k (omega (arith, h.long, span_order))
        ∙ ap (λ (t : Bool). t || is_in (points_in added) k) (sym (point-marked front k a b))

    -- they give the candidates with those points
    pub more-with : held_with x span more levels [] ≡ held_with x span front levels added
    more-with =
        rw (more-silences, more-runs)
        (unfold points_in in ap (λ (js : List ℕ). candidates_of x ss runs levels js span.first span.last) (append-nil (points_held n span more)))
        ∙ completed_same x ss runs levels ks (points_held n span more) added span.first span.last more-points

    -- and leave a span that is held
    pub more-held : SpanHeld x g span more levels
    more-held = record {
      planned = rw more-silences again;
      sampled = h.sampled;
      costed = rw more-runs h.costed;
      apart = h.apart;
      long = more_long ∙ h.long;
      longf = h.longf;
    }
      where
        completed : Planned x ss levels (ks ++ points_in added) span.first span.last
        completed = planned-completed x ss runs levels ks added span.first span.last h.planned (subst (λ (s : Span). (k : Cut) → Memᴰ k added → Place s k) span_same placed)

        again : Planned x ss levels (points_held n span more) span.first span.last
        again = record {
          prepared = h.planned.prepared;
          starts = h.planned.starts;
          stops = h.planned.stops;
          clear = λ k t a b. completed.clear k (in_append ks (points_in added) k ∙ sym (more-points k a b) ∙ t) a b;
        }

-- ---- in work memory

module _ (x : Context) (g : FrameGrid) (span : HeldSpan) (work : List ℕ) (workf : List Float)
    (h : SpanHeld x g span (front_of x.padding.frames work) (levels_held x.padding.frames workf)) (enough : search_at x.padding.frames ≤ length work)
    (enoughf : scores_at x.padding.frames ≤ length workf)
  where
    abbrev front : List ℕ
    front = front_of x.padding.frames work

    -- the silences of the list are those of its front
    pub same_silences : silences_held span.silences front ≡ silences_held span.silences work
    same_silences = take-take (2 * span.silences) (entries_at x.padding.frames) work (omega (arith, h.apart))

    same_runs : runs_held x.padding.frames front ≡ runs_held x.padding.frames work
    same_runs = part_of (runs_at x.padding.frames) x.padding.frames (entries_at x.padding.frames) work (omega arith) (omega arith)

    same_marks : (k : ℕ) → span.first < k → k < span.last
        → is_in (points_held x.padding.frames span work) k ≡ is_in (points_held x.padding.frames span front) k
    same_marks k a b =
        let o = span_order x g span front (levels_held x.padding.frames workf) h in
        marked_in (marked x.padding.frames work) span.first (span.last - suc span.first) k a (omega arith)
        ∙ ap (λ (j : ℕ). not (eqb j 0)) (sym (get_or-take (entries_at x.padding.frames) work (marks_at x.padding.frames + k) 0 (omega (arith, o))))
        ∙ sym (marked_in (marked x.padding.frames front) span.first (span.last - suc span.first) k a (omega arith))

    -- the candidates can be collected
    pub held_collectable : Collectable x span work workf
    held_collectable =
        let p = h.planned.prepared in
        record {
          holding = record {
            listed = subst (Listed x.padding.frames) same_silences p.spanned.listed;
            apart = h.apart;
            some = span-frames x.gap x.padding.frames (silences_held span.silences front) p.spanned.some;
            few = p.few;
            room = enough;
            roomf = enoughf;
          };
          prepared = subst (CutReady x.gap x.placement x.padding.frames (levels_held x.padding.frames workf)) same_silences p;
          starts = h.planned.starts ∙ ap (first_of x.gap x.padding) same_silences;
          stops = h.planned.stops ∙ ap (last_of x.gap x.padding) same_silences;
        }

    -- and are those of what is held
    pub held-collected : collected x span work workf ≡ held_with x span front (levels_held x.padding.frames workf) []
    unfolding collected
    held-collected =
        rw (← same_silences, ← same_runs)
        (candidates_same x (silences_held span.silences front) (runs_held x.padding.frames front) (levels_held x.padding.frames workf) (points_held x.padding.frames span work)
        (points_held x.padding.frames span front) span.first span.last same_marks)
        ∙ sym (with_none x g span front (levels_held x.padding.frames workf) h)
