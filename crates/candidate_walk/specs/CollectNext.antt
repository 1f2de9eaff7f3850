-- A step of the walk keeps what holds of it; where it starts and ends.
use Rattle.std.specs.Prelude.{◌≡◌, refl, Bool, false, ◌||◌, Option, Some, None, is_some, Float, length}
use Rattle.std.proofs.Math.Path.{sym, ap}
use Rattle.std.proofs.Common.{◌∙◌, eq-or-lt_of_le, length-append}
use Rattle.std.proofs.Math.Logic.{inl, inr}
use mathlib.Core.List.{List, [], ◌∷◌, ◌++◌, append_assoc, append-nil}
use Prim.Native.Nat.{ℕ, suc, ◌+◌, ◌-◌, ◌*◌, ◌≤◌, ◌<◌}
use native.Mathlib.Omega.{arith}
use Rattle.base_laws.specs.Tests.{lt_or_le, tested, neither, holds}
use Rattle.base_terms.specs.Layout.{entries_at, costs_at}
use Rattle.candidate_span.specs.declared.held.HeldSpan.{HeldSpan}
use Rattle.candidate_span.specs.Kept.{boundaries}
use Rattle.candidate_points.specs.Placed.{placed}
use Rattle.candidate_cuts.specs.CutsLaws.{InnerAt}
use Rattle.candidates.specs.declared.candidate.Candidate.{Candidate}
use Rattle.candidates.specs.declared.context.Context.{Context}
use Rattle.candidate_walk.specs.declared.collect.Walk.{Walk}
use Rattle.candidates.specs.Candidates.{with_left, cheapest, survivors}
use Rattle.candidates.specs.SurvivorsLaws.{left_at}
use Rattle.candidates.specs.Entries.{entries_of, costs_of}
use Rattle.candidate_walk.specs.Held.{silences_held, levels_held, marked}
use Rattle.candidates.specs.EntriesLaws.{entries_length, costs_length, entries_append, costs_append}
use Rattle.candidate_walk.specs.HeldLaws.{placed-more, placed-none}
use Rattle.candidate_walk.specs.Collect.{own_here, next_own, here_by, here_of, walk_by, walk_of, listed_held, inside_held}
use Rattle.candidate_walk.specs.CollectLaws.{Collectable, told, none_entries, none_costs, none_walk}
use Rattle.candidate_walk.specs.CollectStep.{InnerRange, WalkHolds, last_in_lem, first_below, own-after, here_is, own_same, below, own_starts, later, next_inner, none-own}

-- ---- what a step changes

module _ (x : Context) (silences stop k : ℕ) (mark : Bool) (w : Walk) (work : List ℕ) (workf : List Float) where
  -- one candidate more, or none
  pub step-written : ((walk_of x silences stop k mark w work workf).written ≡ w.written + length (here_of x silences k mark w work workf))
      × (length (here_of x silences k mark w work workf) ≤ 1)
  unfolding walk_by here_by
  step-written = elim (told (own_here w k)) [
    | inl p ↦ rw p.1 (refl, omega arith)
    | inr e ↦ rw e (elim (tested mark) [ inl f ↦ rw f (refl, omega arith) | inr f ↦ rw f (omega arith, omega arith) ])
  ]

  -- past a silence's own candidate the next silence's is held
  pub step-own : (own : Candidate) → ◌≡◌ {A = Option Candidate} (own_here w k) (Some own)
      → ((walk_of x silences stop k mark w work workf).silence ≡ w.silence + 1)
      × ((walk_of x silences stop k mark w work workf).own ≡ next_own x silences stop work workf (w.silence + 1))
  unfolding walk_by
  step-own own o = (rw o, rw o)

  -- else the silence and its candidate are as they were
  pub step_other : ◌≡◌ {A = Option Candidate} (own_here w k) None
      → ((walk_of x silences stop k mark w work workf).silence ≡ w.silence)
      × ((walk_of x silences stop k mark w work workf).own ≡ w.own)
  unfolding walk_by
  step_other o = rw o (elim (tested mark) [ inl f ↦ rw f (refl, refl) | inr f ↦ rw f (refl, refl) ])

-- ---- the next boundary

module _ {x : Context} {span : HeldSpan} {stop from : ℕ} {work₀ : List ℕ} {workf₀ : List Float} (c : Collectable x span work₀ workf₀)
    (r : InnerRange x (silences_held span.silences work₀) from stop) {k : ℕ} {w : Walk} {work : List ℕ} {workf : List Float}
    (g : WalkHolds x span stop from work₀ workf₀ k w work workf) (more : k < span.last)
    {mark : Bool} (read : mark ≡ marked x.padding.frames work k) where
  abbrev n : ℕ
  n = x.padding.frames

  abbrev ss : List ℕ
  ss = silences_held span.silences work₀

  abbrev levels : List Float
  levels = levels_held n workf₀

  abbrev here : List Candidate
  here = here_of x span.silences k mark w work workf

  abbrev listed : List Candidate
  listed = listed_held x span work₀ workf₀

  survives : here ≡ cheapest (with_left k listed)
  survives = rw read (here_is c r g more)

  steps : boundaries (k - 1) (span.last - k) ≡ k ∷ boundaries k (span.last - suc k)
  unfolding boundaries
  steps = let e : k ≡ suc (k - 1) = omega (arith, g.after) in let f : span.last - k ≡ suc (span.last - suc k) = omega arith in rw (f, ← e)

  moved : (g.so_far ++ here) ++ survivors listed (boundaries (k + 1 - 1) (span.last - (k + 1))) ≡ inside_held x span work₀ workf₀
  moved =
      let ends : cheapest (with_left k listed) ++ survivors listed (boundaries (k + 1 - 1) (span.last - (k + 1))) ≡ survivors listed (boundaries (k - 1) (span.last - k)) =
      let e : k + 1 - 1 ≡ k = omega arith in let f : span.last - (k + 1) ≡ span.last - suc k = omega arith in rw (steps, e, f) (unfold survivors in refl) in
      append_assoc g.so_far here (survivors listed (boundaries (k + 1 - 1) (span.last - (k + 1))))
      ∙ ap (λ (t : List Candidate). g.so_far ++ t) (ap (λ (h : List Candidate). h ++ survivors listed (boundaries (k + 1 - 1) (span.last - (k + 1)))) survives ∙ ends) ∙ g.rest

  size : length (g.so_far ++ here) ≡ length g.so_far + length here
  size = length-append g.so_far here

  module _ {w' : Walk} {work' : List ℕ} {workf' : List Float} (is : w' ≡ walk_of x span.silences stop k mark w work workf)
      (written : work' ≡ placed (entries_at n + 3 * w.written) (entries_of here) work) (priced : workf' ≡ placed (costs_at n + w.written) (costs_of here) workf) where
    held' : work' ≡ placed (entries_at n + 3) (entries_of (g.so_far ++ here)) work₀
    held' =
        written ∙ ap (placed (entries_at n + 3 * w.written) (entries_of here)) g.held
        ∙ placed-more (entries_at n + 3) (entries_of g.so_far) (entries_of here) work₀ (entries_at n + 3 * w.written) (omega (arith, g.number, entries_length g.so_far))
        (omega (arith, g.number, g.few, last_in_lem c r, c.holding.room))
        ∙ ap (λ (p : List ℕ). placed (entries_at n + 3) p work₀) (sym (entries_append g.so_far here))

    costs' : workf' ≡ placed (costs_at n + 1) (costs_of (g.so_far ++ here)) workf₀
    costs' =
        priced ∙ ap (placed (costs_at n + w.written) (costs_of here)) g.costs
        ∙ placed-more (costs_at n + 1) (costs_of g.so_far) (costs_of here) workf₀ (costs_at n + w.written) (omega (arith, g.number, costs_length g.so_far))
        (omega (arith, g.number, g.few, last_in_lem c r, c.holding.roomf))
        ∙ ap (λ (p : List Float). placed (costs_at n + 1) p workf₀) (sym (costs_append g.so_far here))

    number' : w'.written ≡ length (g.so_far ++ here) + 1
    number' = rw (is, size) (omega (arith, (step-written x span.silences stop k mark w work workf).0, g.number))

    few' : length (g.so_far ++ here) + span.first < k + 1
    few' = rw size (omega (arith, (step-written x span.silences stop k mark w work workf).1, g.few))

    next_holds : from ≤ w'.silence → ((j : ℕ) → j < w'.silence → InnerAt n ss j → left_at x ss levels j < k + 1)
        → ((j : ℕ) → w'.silence ≤ j → InnerAt n ss j → k + 1 ≤ left_at x ss levels j) → w'.own ≡ next_own x span.silences stop work₀ workf₀ w'.silence
        → WalkHolds x span stop from work₀ workf₀ (k + 1) w' work' workf'
    next_holds b before ahead own = record {
      so_far = g.so_far ++ here;
      after = omega (arith, g.after);
      within = omega arith;
      held = held';
      costs = costs';
      number = number';
      few = few';
      rest = moved;
      begun = b;
      before = before;
      ahead = ahead;
      own = own;
    }

    -- the next silence's own candidate stood here
    module _ (own : Candidate) (o : ◌≡◌ {A = Option Candidate} (own_here w k) (Some own)) where
      passed : w'.silence ≡ w.silence + 1
      passed = rw is (step-own x span.silences stop k mark w work workf own o).0

      starts : left_at x ss levels w.silence ≡ k
      starts = own_starts c r g more own o

      inner : InnerAt n ss w.silence
      inner = next_inner c r g more (below c r g more own o)

      before-own : (j : ℕ) → j < w'.silence → InnerAt n ss j → left_at x ss levels j < k + 1
      before-own j h a = elim (lt_or_le j w.silence) [
        | inl q ↦ omega (arith, g.before j q a)
        | inr q ↦ let e : j ≡ w.silence = omega (arith, passed) in rw (e, starts) (omega arith)
      ]

      ahead_own : (j : ℕ) → w'.silence ≤ j → InnerAt n ss j → k + 1 ≤ left_at x ss levels j
      ahead_own j h a = omega (arith, starts, later c r g more w.silence j (omega (arith, passed)) inner a)

      next_own_lem : WalkHolds x span stop from work₀ workf₀ (k + 1) w' work' workf'
      next_own_lem =
          next_holds (omega (arith, passed, g.begun)) before-own ahead_own
          (rw is (step-own x span.silences stop k mark w work workf own o).1 ∙ own_same c r g more (w.silence + 1)
          ∙ ap (next_own x span.silences stop work₀ workf₀) (sym passed))

    -- it did not
    module _ (o : ◌≡◌ {A = Option Candidate} (own_here w k) None) where
      waits : w'.silence ≡ w.silence
      waits = rw is (step_other x span.silences stop k mark w work workf o).0

      ahead_other : (j : ℕ) → w'.silence ≤ j → InnerAt n ss j → k + 1 ≤ left_at x ss levels j
      ahead_other j h a = elim (eq-or-lt_of_le (g.ahead j (omega (arith, waits)) a)) [
        | inl e ↦ absurd (none-own c r g more o j a (sym e))
        | inr l ↦ omega (arith, l)
      ]

      next_other : WalkHolds x span stop from work₀ workf₀ (k + 1) w' work' workf'
      next_other =
          next_holds (omega (arith, waits, g.begun)) (λ j h a. omega (arith, g.before j (omega (arith, waits)) a)) ahead_other
          (rw is (step_other x span.silences stop k mark w work workf o).1 ∙ g.own ∙ ap (next_own x span.silences stop work₀ workf₀) (sym waits))

    -- what holds at boundary k holds at the next one after the step
    pub walk_next : WalkHolds x span stop from work₀ workf₀ (k + 1) w' work' workf'
    walk_next = elim (told (own_here w k)) [ inl p ↦ next_own_lem p.0 p.1 | inr o ↦ next_other o ]

  -- and without a step where nothing stands at boundary k
  pub walk_none : (mark || is_some (own_here w k)) ≡ false → WalkHolds x span stop from work₀ workf₀ (k + 1) w work workf
  walk_none e =
      let p = neither mark (is_some (own_here w k)) e in
      let none : ◌≡◌ {A = Option Candidate} (own_here w k) None = elim (told (own_here w k)) [ inl q ↦ absurd (holds (sym p.1 ∙ ap is_some q.1)) | inr q ↦ q ] in
      walk_next (none_walk x span.silences stop k mark w work workf none p.0)
      (none_entries x span.silences stop k mark w work workf none p.0) (none_costs x span.silences stop k mark w work workf none p.0)

-- ---- start and end

module _ {x : Context} {span : HeldSpan} {stop from : ℕ} {work₀ : List ℕ} {workf₀ : List Float} (c : Collectable x span work₀ workf₀)
    (r : InnerRange x (silences_held span.silences work₀) from stop) where
  abbrev all_listed : List Candidate
  all_listed = listed_held x span work₀ workf₀

  -- it holds at the first boundary inside the span, before anything is written
  pub walk_start : {w : Walk} → w.silence ≡ from → w.own ≡ next_own x span.silences stop work₀ workf₀ from → w.written ≡ 1
      → WalkHolds x span stop from work₀ workf₀ (span.first + 1) w work₀ workf₀
  walk_start {w = w} e f h = record {
    so_far = [];
    after = omega arith;
    within = omega (arith, first_below c r);
    held = unfold entries_of in sym (placed-none (entries_at x.padding.frames + 3) work₀);
    costs = unfold costs_of in sym (placed-none (costs_at x.padding.frames + 1) workf₀);
    number = h;
    few = omega arith;
    rest = rest (span.first + 1 - 1) (span.last - (span.first + 1)) (omega arith) (omega arith);
    begun = omega (arith, e);
    before = λ (j : ℕ) (l : j < w.silence) (a : InnerAt x.padding.frames (silences_held span.silences work₀) j). absurd (omega (arith, e, l, (r.only j a).0));
    ahead = λ (j : ℕ) (l : w.silence ≤ j) (a : InnerAt x.padding.frames (silences_held span.silences work₀) j). omega (arith, own-after c r j a);
    own = f ∙ ap (next_own x span.silences stop work₀ workf₀) (sym e);
  }
    where
      rest : (a b : ℕ) → a ≡ span.first → b ≡ span.last - suc span.first → survivors all_listed (boundaries a b) ≡ survivors all_listed (boundaries span.first (span.last - suc span.first))
      rest a b p q = rw (p, q)

  -- at the last boundary all survivors are written
  pub walk_done : {k : ℕ} {w : Walk} {work : List ℕ} {workf : List Float} → span.last ≤ k → WalkHolds x span stop from work₀ workf₀ k w work workf
      → (w.written ≡ length (inside_held x span work₀ workf₀) + 1)
      × (work ≡ placed (entries_at x.padding.frames + 3) (entries_of (inside_held x span work₀ workf₀)) work₀)
      × (workf ≡ placed (costs_at x.padding.frames + 1) (costs_of (inside_held x span work₀ workf₀)) workf₀)
  walk_done {k = k} h g =
      let none : (a b : ℕ) → b ≡ 0 → survivors all_listed (boundaries a b) ≡ [] = λ a b e. rw e (unfold boundaries in unfold survivors in refl) in
      let all : g.so_far ≡ inside_held x span work₀ workf₀ =
      sym (append-nil g.so_far) ∙ ap (λ (t : List Candidate). g.so_far ++ t) (sym (none (k - 1) (span.last - k) (omega arith))) ∙ g.rest in
      (rw (← all) g.number, rw (← all) g.held, rw (← all) g.costs)
