-- A boundary is among the marked ones exactly where it is marked.
-- What holds of the walk at each boundary: so far the survivors at the boundaries before are written, and the next silence is the first whose own candidate does not start before.
-- What is written at the boundary is the survivor there.
use Rattle.std.specs.Prelude.{◌≡◌, Bool, cond, List, ◌∷◌, [], ◌++◌, Option, Some, None, is_some, Float, length}
use Rattle.std.proofs.Math.Path.{refl}
use Rattle.std.proofs.Common.{sym, ap, subst, ◌∙◌, eq-or-lt_of_le, length-take-le}
use Rattle.std.proofs.Math.Logic.{inl, inr}
use Rattle.std.proofs.Math.Bool.{true, false}
use Prim.Native.Nat.{ℕ, zero, suc, ◌+◌, ◌≤◌, ◌<◌, ◌-◌, ◌*◌}
use native.Mathlib.Omega.{arith}
use borrow.Author.Tests.{eq-eqb, ne_eqb, lt-ltb, le-ltb}
use Rattle.base_laws.specs.Tests.{lt_or_le, holds}
use Rattle.base_terms.specs.Layout.{entries_at, costs_at}
use Rattle.candidate_span.specs.declared.held.HeldSpan.{HeldSpan}
use Rattle.candidate_span.specs.Kept.{boundaries, passing}
use Rattle.candidate_points.specs.Points.{is_in}
use Rattle.candidate_span.specs.Listed.{silence_count}
use Rattle.candidate_span.specs.ListedLaws.{Listed}
use Rattle.candidate_span.specs.SpanLaws.{ends_order}
use Rattle.candidate_points.specs.Placed.{placed}
use Rattle.candidate_points.specs.PlacedLaws.{placed-length}
use Rattle.candidate_cuts.specs.CutsLaws.{InnerAt, inner_cut}
use Rattle.candidates.specs.declared.candidate.Candidate.{Candidate}
use Rattle.candidates.specs.declared.context.Context.{Context}
use Rattle.candidate_walk.specs.declared.collect.Walk.{Walk}
use Rattle.candidates.specs.Candidates.{own_at, with_left, cheapest, survivors}
use Rattle.candidates.specs.SurvivorsLaws.{IsOwn, left_at, survivor_point, survivor_own}
use Rattle.candidates.specs.Sources.{Planned, own_inside, own_apart}
use Rattle.candidates.specs.Entries.{entries_of, costs_of}
use Rattle.candidate_walk.specs.Held.{silences_held, runs_held, levels_held, marked}
use Rattle.candidates.specs.EntriesLaws.{entries_length, costs_length}
use Rattle.candidate_walk.specs.HeldLaws.{silences-stay, marks_stay, runs-stay, levels-stay}
use Rattle.candidate_walk.specs.Collect.{starting_at, own_here, with_point, point_held, next_own, here_by, here_of, marks_held, listed_held, inside_held}
use Rattle.candidate_walk.specs.CollectLaws.{AtSilence, Passing, Collectable, candidate_or, told, started, own_parts}

module _ (p : ℕ → Bool) where
  before-step : (b c : Bool) (k j : ℕ) (ks : List ℕ) → (j ≡ k → ⊥) → is_in ks k ≡ c → is_in (cond b (j ∷ ks) ks) k ≡ c
  unfolding is_in
  before-step true c k j ks n e = rw (ne_eqb j k n) e
  before-step false c k j ks n e = e

  marked-before : (a m k : ℕ) → k ≤ a → is_in (passing p (boundaries a m)) k ≡ false
  unfolding boundaries passing
  marked-before a zero k h = unfold is_in in refl
  marked-before a (suc m) k h = before-step (p (suc a)) false k (suc a) (passing p (boundaries (suc a) m)) (λ e. omega arith) (marked-before (suc a) m k (omega arith))

  here-step : (b : Bool) (k : ℕ) (ks : List ℕ) → is_in ks k ≡ false → is_in (cond b (k ∷ ks) ks) k ≡ b
  unfolding is_in
  here-step true k ks e = rw (eq-eqb k k refl)
  here-step false k ks e = e

  -- a boundary is among those that pass a test where it passes
  pub marked_in : (a m k : ℕ) → a < k → k ≤ a + m → is_in (passing p (boundaries a m)) k ≡ p k
  unfolding boundaries passing
  marked_in a zero k h l = absurd (omega arith)
  marked_in a (suc m) k h l = elim (lt_or_le (suc a) k) [
    | inl q ↦ before-step (p (suc a)) (p k) k (suc a) (passing p (boundaries (suc a) m)) (λ e. omega arith) (marked_in (suc a) m k q (omega arith))
    | inr q ↦
        let e : k ≡ suc a = omega arith in
        rw e (here-step (p (suc a)) (suc a) (passing p (boundaries (suc a) m)) (marked-before (suc a) m (suc a) (omega arith)))
  ]

-- the silences with sound on both sides are those from `from` up to `stop`
pub record InnerRange (x : Context) (ss : List ℕ) (from stop : ℕ) : Type 0 where
  pub stops : stop ≤ silence_count ss
  pub inner : (j : ℕ) → from ≤ j → j < stop → InnerAt x.padding.frames ss j
  pub only : (j : ℕ) → InnerAt x.padding.frames ss j → (from ≤ j) × (j < stop)

in_none_lem : (k : ℕ) → is_in [] k ≡ true → ⊥
unfolding is_in
in_none_lem k t = holds t

-- where silence j's own candidate has its left end
abbrev left_held : Context → HeldSpan → List ℕ → List Float → ℕ → ℕ
left_held x span work workf j = left_at x (silences_held span.silences work) (levels_held x.padding.frames workf) j

-- what holds of the walk at boundary k, with the lists as they were before it and as they are
pub record WalkHolds (x : Context) (span : HeldSpan) (stop from : ℕ) (work₀ : List ℕ) (workf₀ : List Float) (k : ℕ) (w : Walk)
    (work : List ℕ) (workf : List Float) : Type 0 where
  pub so_far : List Candidate
  pub after : span.first < k
  pub within : k ≤ span.last
  pub held : work ≡ placed (entries_at x.padding.frames + 3) (entries_of so_far) work₀
  pub costs : workf ≡ placed (costs_at x.padding.frames + 1) (costs_of so_far) workf₀
  pub number : w.written ≡ length so_far + 1
  pub few : length so_far + span.first < k
  pub rest : so_far ++ survivors (listed_held x span work₀ workf₀) (boundaries (k - 1) (span.last - k)) ≡ inside_held x span work₀ workf₀
  pub begun : from ≤ w.silence
  pub before : (j : ℕ) → j < w.silence → InnerAt x.padding.frames (silences_held span.silences work₀) j → left_held x span work₀ workf₀ j < k
  pub ahead : (j : ℕ) → w.silence ≤ j → InnerAt x.padding.frames (silences_held span.silences work₀) j → k ≤ left_held x span work₀ workf₀ j
  pub own : w.own ≡ next_own x span.silences stop work₀ workf₀ w.silence

module _ {x : Context} {span : HeldSpan} {stop from : ℕ} {work₀ : List ℕ} {workf₀ : List Float} (c : Collectable x span work₀ workf₀)
    (r : InnerRange x (silences_held span.silences work₀) from stop) where
  abbrev n : ℕ
  n = x.padding.frames

  abbrev ss : List ℕ
  ss = silences_held span.silences work₀

  abbrev levels : List Float
  levels = levels_held n workf₀

  planned : Planned x ss levels [] span.first span.last
  planned = record { prepared = c.prepared; starts = c.starts; stops = c.stops; clear = λ (k : ℕ) (t : is_in [] k ≡ true) a b. absurd (in_none_lem k t) }

  -- the span ends with the recording at the latest
  pub last_in_lem : span.last ≤ n
  last_in_lem = rw c.stops (ends_order x.gap x.padding ss c.prepared.spanned).1

  -- its ends are in order
  pub first_below : span.first < span.last
  first_below = rw (c.starts, c.stops) (ends_order x.gap x.padding ss c.prepared.spanned).0

  -- every own candidate starts after the span's first boundary
  pub own-after : (j : ℕ) → InnerAt n ss j → span.first < left_at x ss levels j
  own-after j a = (own_inside x ss [] levels [] span.first span.last planned j a).0

  -- the lists are as long as they were
  pub walk_lengths : {k : ℕ} {w : Walk} {work : List ℕ} {workf : List Float} → WalkHolds x span stop from work₀ workf₀ k w work workf
      → (length work ≡ length work₀) × (length workf ≡ length workf₀)
  walk_lengths g = (
    rw g.held (placed-length (entries_at n + 3) (entries_of g.so_far) work₀ (omega (arith, entries_length g.so_far, g.few, g.within, last_in_lem, c.holding.room))),
    rw g.costs (placed-length (costs_at n + 1) (costs_of g.so_far) workf₀ (omega (arith, costs_length g.so_far, g.few, g.within, last_in_lem, c.holding.roomf))),
  )

  module _ {k : ℕ} {w : Walk} {work : List ℕ} {workf : List Float} (g : WalkHolds x span stop from work₀ workf₀ k w work workf) (more : k < span.last) where
    fits : entries_at n + 3 + length (entries_of g.so_far) ≤ length work₀
    fits = omega (arith, entries_length g.so_far, g.few, last_in_lem, c.holding.room)

    fitsf : costs_at n + 1 + length (costs_of g.so_far) ≤ length workf₀
    fitsf = omega (arith, costs_length g.so_far, g.few, last_in_lem, c.holding.roomf)

    -- ---- what candidates are made from is as it was

    silences_same : silences_held span.silences work ≡ ss
    silences_same = rw g.held (silences-stay n work₀ (entries_of g.so_far) (entries_at n + 3) (omega arith) fits span.silences c.holding.apart)

    runs_same : runs_held n work ≡ runs_held n work₀
    runs_same = rw g.held (runs-stay n work₀ (entries_of g.so_far) (entries_at n + 3) (omega arith) fits)

    marks_same : marked n work k ≡ marked n work₀ k
    marks_same = rw g.held (marks_stay n work₀ (entries_of g.so_far) (entries_at n + 3) (omega arith) fits k (omega (arith, last_in_lem)))

    levels_same : levels_held n workf ≡ levels
    levels_same = rw g.costs (levels-stay n workf₀ (costs_of g.so_far) (costs_at n + 1) (omega arith) fitsf)

    -- ---- the next silence

    next_is : w.silence < stop → ◌≡◌ {A = Option Candidate} w.own (Some (own_at x ss levels w.silence))
    next_is h = g.own ∙ unfold next_own in rw (lt-ltb w.silence stop h)

    none_is : stop ≤ w.silence → ◌≡◌ {A = Option Candidate} w.own None
    none_is h = g.own ∙ unfold next_own in rw (le-ltb w.silence stop h)

    -- where an own candidate is held, it is that of the next silence
    own_is : (d : Candidate) → ◌≡◌ {A = Option Candidate} w.own (Some d) → (w.silence < stop) × (d ≡ own_at x ss levels w.silence)
    own_is d e = elim (lt_or_le w.silence stop) [
      | inl h ↦ (h, ap (candidate_or d) (sym e ∙ next_is h))
      | inr h ↦ absurd (holds (ap is_some (sym (none_is h) ∙ e)))
    ]

    -- it has sound on both sides
    pub next_inner : w.silence < stop → InnerAt n ss w.silence
    next_inner h = r.inner w.silence g.begun h

    -- ---- the step may be taken

    -- what `pass` asks holds
    pub walk_passing : Passing x span.silences stop k w work workf
    walk_passing = record {
      holding = record {
        listed = subst (Listed n) (sym silences_same) c.holding.listed;
        apart = c.holding.apart;
        some = c.holding.some;
        few = c.holding.few;
        room = omega (arith, (walk_lengths g).0, c.holding.room);
        roomf = omega (arith, (walk_lengths g).1, c.holding.roomf);
      };
      within = omega (arith, last_in_lem);
      inside = omega (arith, g.number, g.few, last_in_lem);
      stops = omega (arith, r.stops, length-take-le (2 * span.silences) work₀ (omega (arith, c.holding.apart, c.holding.room)));
      ahead = silent;
      own_listed = λ (d : Candidate) (e : ◌≡◌ {A = Option Candidate} w.own (Some d)). (own_is d e).0;
      left_in = λ (d : Candidate) (e : ◌≡◌ {A = Option Candidate} w.own (Some d)). (own_ends d e).0;
      right_in = λ (d : Candidate) (e : ◌≡◌ {A = Option Candidate} w.own (Some d)). (own_ends d e).1;
    }
      where
        own_ends : (d : Candidate) → ◌≡◌ {A = Option Candidate} w.own (Some d) → (d.left ≤ n) × (d.right ≤ n)
        own_ends d e =
            let p = own_is d e in
            let q = own_inside x ss [] levels [] span.first span.last planned w.silence (next_inner p.0) in
            rw p.1 (omega (arith, last_in_lem, q), omega (arith, last_in_lem, q))

        silent : (j : ℕ) → w.silence < j → j < stop → AtSilence x span.silences work workf j
        silent j a b =
            let i = r.inner j (omega (arith, g.begun)) b in
            record { cuttable = rw (silences_same, levels_same) (record { listed = i.listed; inner = inner_cut x.gap x.placement x.padding levels ss c.prepared j i }) }

    -- ---- what is written is the survivor

    point_same : point_held x span.silences work workf k ≡ point_held x span.silences work₀ workf₀ k
    point_same = rw (silences_same, runs_same, levels_same)

    -- a silence's own candidate is as it was
    pub own_same : (i : ℕ) → next_own x span.silences stop work workf i ≡ next_own x span.silences stop work₀ workf₀ i
    unfolding next_own
    own_same i = rw (silences_same, levels_same)

    -- k is among the marked boundaries where it is marked
    mark_is : is_in (marks_held x span work₀) k ≡ marked n work₀ k
    mark_is = marked_in (marked n work₀) span.first (span.last - suc span.first) k g.after (omega arith)

    -- later silences have their own candidates at later left ends
    pub later : (i j : ℕ) → i < j → InnerAt n ss i → InnerAt n ss j → left_at x ss levels i < left_at x ss levels j
    later i j h a b =
        let p = own_apart x ss [] levels [] span.first span.last planned i j h a b in
        let q = own_inside x ss [] levels [] span.first span.last planned i a in
        omega (arith, p, q)

    inner-at : (j : ℕ) → j < silence_count ss → IsOwn x ss levels j → InnerAt n ss j
    inner-at j h t = record { listed = h; inner = t }

    -- the next silence's own candidate stands here
    module _ (own : Candidate) (o : ◌≡◌ {A = Option Candidate} (own_here w k) (Some own)) where
      abbrev i : ℕ
      i = w.silence

      -- it is one of those before `stop`
      pub below : i < stop
      below = (own_is own (own_parts w k own o).0).0

      is : own ≡ own_at x ss levels i
      is = (own_is own (own_parts w k own o).0).1

      -- its left end is k
      pub own_starts : left_at x ss levels i ≡ k
      own_starts = ap (λ (d : Candidate). d.left) (sym is) ∙ (own_parts w k own o).1

      here-own : here_of x span.silences k (marked n work k) w work workf ≡ cheapest (with_left k (listed_held x span work₀ workf₀))
      unfolding here_by with_point
      here-own =
          rw (o, point_same, marks_same, is, ← mark_is)
          (sym (survivor_own x ss (runs_held n work₀) levels (marks_held x span work₀) k i (next_inner below).listed (next_inner below).inner own_starts
          (λ (j : ℕ) (h : j < i) (t : IsOwn x ss levels j) (e : left_at x ss levels j ≡ k). absurd (omega (arith, e, g.before j h (inner-at j (omega (arith, below, r.stops)) t))))
          (λ (j : ℕ) (h : i < j) (l : j < silence_count ss) (t : IsOwn x ss levels j) (e : left_at x ss levels j ≡ k). absurd (omega (arith, e, own_starts, later i j h (next_inner below) (inner-at j l t))))))

    -- it does not
    module _ (o : ◌≡◌ {A = Option Candidate} (own_here w k) None) where
      not_next : w.silence < stop → left_at x ss levels w.silence ≡ k → ⊥
      not_next h e = holds (ap is_some (sym o ∙ ap (starting_at k) (next_is h) ∙ started k (own_at x ss levels w.silence) e))

      -- nor does any other
      pub none-own : (j : ℕ) → InnerAt n ss j → left_at x ss levels j ≡ k → ⊥
      none-own j a e = elim (lt_or_le j w.silence) [
        | inl h ↦ absurd (omega (arith, e, g.before j h a))
        | inr h ↦
            elim (eq-or-lt_of_le h) [
              | inl q ↦ not_next (omega (arith, q, (r.only j a).1)) (ap (left_at x ss levels) q ∙ e)
              | inr q ↦
                  let b = next_inner (omega (arith, q, (r.only j a).1)) in
                  absurd (omega (arith, e, g.ahead w.silence (omega arith) b, later w.silence j q b a))
            ]
      ]

      here_other : here_of x span.silences k (marked n work k) w work workf ≡ cheapest (with_left k (listed_held x span work₀ workf₀))
      unfolding here_by
      here_other =
          rw (o, point_same, marks_same, ← mark_is)
          (sym (survivor_point x ss (runs_held n work₀) levels (marks_held x span work₀) k (λ (j : ℕ) (l : j < silence_count ss) (t : IsOwn x ss levels j) (e : left_at x ss levels j ≡ k). none-own j (inner-at j l t) e)))

    -- what is written at boundary k is the survivor there, or nothing where none is
    pub here_is : here_of x span.silences k (marked n work k) w work workf ≡ cheapest (with_left k (listed_held x span work₀ workf₀))
    here_is = elim (told (own_here w k)) [ inl p ↦ here-own p.0 p.1 | inr o ↦ here_other o ]
