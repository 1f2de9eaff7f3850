-- What the functions of the walk need of work memory.
-- One law for each end of the step at a boundary: at a silence's own candidate, at a point, and at neither.
use Rattle.std.specs.Prelude.{◌≡◌, ℕ, ◌+◌, ◌-◌, ◌*◌, ◌≤◌, ◌<◌, Float, length, take, drop, Option, Some, None, is_some, Bool, true, false, cond, eqb, ◌⊎◌}
use Rattle.std.proofs.Math.Path.{refl, sym, ap}
use Rattle.std.proofs.Common.{◌∙◌, arith, length-drop, length-take-le, eqb-true, eq-eqb}
use mathlib.Core.List.{List, [], ◌∷◌}
use Rattle.std.specs.Float.Ieee.{lt}
use Rattle.base_terms.specs.Layout.{side, runs_at, entries_at, search_at, costs_at, scores_at}
use Rattle.grid.specs.Limits.{max_frames}
use Rattle.candidate_span.specs.declared.held.HeldSpan.{HeldSpan}
use Rattle.candidate_span.specs.ListedLaws.{Listed}
use Rattle.candidate_span.specs.Span.{first_of, last_of}
use Rattle.candidate_points.specs.Placed.{placed}
use Rattle.candidate_cuts.specs.CutsLaws.{CutReady}
use Rattle.candidates.specs.declared.context.Context.{Context}
use Rattle.candidate_walk.specs.declared.collect.Walk.{Walk}
use Rattle.candidate_walk.specs.Held.{silences_held, runs_held, levels_held}
use Rattle.candidates.specs.PointLaws.{Heard, Stretched, Cuttable}
use Rattle.base_laws.specs.Tests.{holds, tested}
use Rattle.std.proofs.Math.Logic.{inl, inr}
use Rattle.candidates.specs.declared.candidate.Candidate.{Candidate}
use Rattle.candidates.specs.Candidates.{point_at, cheaper}
use Rattle.candidates.specs.Entries.{entries_of, costs_of}
use Rattle.candidate_walk.specs.Collect.{starting_at, own_here, with_point, point_held, next_own, here_by, here_of, entries_here, costs_here, walk_by, walk_of}
use Rattle.candidate_walk.specs.HeldLaws.{placed-none, Puttable}

-- so many silences, and room for all that candidates are made from and for themselves
pub record Holding (x : Context) (silences : ℕ) (work : List ℕ) (workf : List Float) : Type 0 where
  pub listed : Listed x.padding.frames (silences_held silences work)
  pub apart : 2 * silences ≤ runs_at x.padding.frames
  pub some : 0 < x.padding.frames
  pub few : x.padding.frames ≤ max_frames
  pub room : search_at x.padding.frames ≤ length work
  pub roomf : scores_at x.padding.frames ≤ length workf

-- boundary k is one of the recording
pub record AtBoundary (x : Context) (k : ℕ) : Type 0 where
  pub within : k ≤ x.padding.frames

-- silence i is one of those held, with sound on both sides
pub record AtSilence (x : Context) (silences : ℕ) (work : List ℕ) (workf : List Float) (i : ℕ) : Type 0 where
  pub cuttable : Cuttable x (silences_held silences work) (levels_held x.padding.frames workf) i

-- the walk at boundary k: the silences from the next one up to `stop` have sound on both sides
pub record Passing (x : Context) (silences stop k : ℕ) (w : Walk) (work : List ℕ) (workf : List Float) : Type 0 where
  pub holding : Holding x silences work workf
  pub within : k ≤ x.padding.frames
  pub inside : w.written ≤ x.padding.frames
  pub stops : stop ≤ silences
  pub ahead : (j : ℕ) → w.silence < j → j < stop → AtSilence x silences work workf j
  pub own_listed : (c : Candidate) → ◌≡◌ {A = Option Candidate} w.own (Some c) → w.silence < stop
  pub left_in : (c : Candidate) → ◌≡◌ {A = Option Candidate} w.own (Some c) → c.left ≤ x.padding.frames
  pub right_in : (c : Candidate) → ◌≡◌ {A = Option Candidate} w.own (Some c) → c.right ≤ x.padding.frames

-- what a whole walk needs: the span of a recording whose silences can be cut
pub record Collectable (x : Context) (span : HeldSpan) (work : List ℕ) (workf : List Float) : Type 0 where
  pub holding : Holding x span.silences work workf
  pub prepared : CutReady x.gap x.placement x.padding.frames (levels_held x.padding.frames workf) (silences_held span.silences work)
  pub starts : span.first ≡ first_of x.gap x.padding (silences_held span.silences work)
  pub stops : span.last ≡ last_of x.gap x.padding (silences_held span.silences work)

-- ---- the parts of work memory, as they are lent

module _ (x : Context) (silences : ℕ) (work : List ℕ) (workf : List Float) (h : Holding x silences work workf) where
  abbrev n : ℕ
  n = x.padding.frames

  -- a level for each boundary
  module _ (size : ℕ) (is : size ≡ side n) where
    -- they are the levels
    pub lent-levels : take size workf ≡ levels_held n workf
    lent-levels = rw is

    -- a point may be made with them
    pub lent_heard : (k : ℕ) → k ≤ n → Heard x (silences_held silences work) (take size workf) k
    lent_heard k l = record { listed = h.listed; held = omega (arith, is, length-take-le size workf (omega (arith, is, h.roomf))) }

    -- and a silence's own candidate
    pub lent_cuttable : (i : ℕ) → AtSilence x silences work workf i → Cuttable x (silences_held silences work) (take size workf) i
    lent_cuttable i a = rw lent-levels a.cuttable

  -- a stretch for each frame
  module _ (at : ℕ) (is : at ≡ runs_at n) where
    -- they are the stretches
    pub lent_runs : take (at + n - at) (drop at work) ≡ runs_held n work
    lent_runs = let width : at + n - at ≡ n = omega arith in rw (width, is)

    -- a point may be made with them
    pub lent_stretched : (k : ℕ) → k ≤ n → Stretched (take (at + n - at) (drop at work)) k
    lent_stretched k l =
        let size : length (runs_held n work) ≡ n = length-take-le n (drop (runs_at n) work) (simp length-drop (omega (arith, h.room))) in
        rw lent_runs (record { some = omega (arith, size, h.some); within = omega (arith, size) })

-- ---- the step at a boundary

-- both ends of a candidate are boundaries of a recording of n frames
abbrev Inside : ℕ → Candidate → Type 0
Inside n c = (c.left ≤ n) × (c.right ≤ n)

-- there is one, or there is none
pub told : (o : Option Candidate) → ((c : Candidate) × (◌≡◌ {A = Option Candidate} o (Some c))) ⊎ (◌≡◌ {A = Option Candidate} o None)
told None = inr refl
told (Some c) = inl (c, refl)

-- where one starts at boundary k, it is that one
pub started : (k : ℕ) (c : Candidate) → c.left ≡ k → ◌≡◌ {A = Option Candidate} (starting_at k (Some c)) (Some c)
unfolding starting_at
started k c e = rw (eq-eqb c.left k e)

-- the candidate, or d where there is none
abbrev pub candidate_or : Candidate → Option Candidate → Candidate
candidate_or d None = d
candidate_or d (Some c) = c

parts : (k : ℕ) (o : Option Candidate) (c : Candidate) → ◌≡◌ {A = Option Candidate} (starting_at k o) (Some c) → (◌≡◌ {A = Option Candidate} o (Some c)) × (c.left ≡ k)
unfolding starting_at
parts k None c e = absurd (holds (ap is_some e))
parts k (Some d) c e = elim (tested (eqb d.left k)) [
  | inl t ↦ let same : d ≡ c = ap (candidate_or d) (rw t at e) in (ap Some same, ap (λ (b : Candidate). b.left) (sym same) ∙ eqb-true d.left k t)
  | inr t ↦ absurd (holds (ap is_some (rw t at e)))
]

-- where the next silence's own candidate stands at boundary k: it is held, and its left end is k
pub own_parts : (w : Walk) (k : ℕ) (c : Candidate) → ◌≡◌ {A = Option Candidate} (own_here w k) (Some c) → (◌≡◌ {A = Option Candidate} w.own (Some c)) × (c.left ≡ k)
own_parts w k c e = parts k w.own c e

point_inside : (x : Context) (silences k : ℕ) (work : List ℕ) (workf : List Float) → k ≤ x.padding.frames → Inside x.padding.frames (point_held x silences work workf k)
unfolding point_at
point_inside x silences k work workf h = (h, h)

pick_inside : (n : ℕ) (b : Bool) (c d : Candidate) → Inside n c → Inside n d → Inside n (cond b c d)
pick_inside n true c d p q = p
pick_inside n false c d p q = q

with_inside : (n : ℕ) (b : Bool) (c d : Candidate) → Inside n c → Inside n d → Inside n (with_point b c d)
unfolding with_point cheaper
with_inside n b c d p q = pick_inside n b (cond (lt d.cost c.cost) d c) c (pick_inside n (lt d.cost c.cost) d c q p) p

module _ (x : Context) (silences stop k : ℕ) (mark : Bool) (w : Walk) (work : List ℕ) (workf : List Float) where
  puttable : (c : Candidate) → Passing x silences stop k w work workf → Inside x.padding.frames c → Puttable c w.written x.padding.frames work workf
  puttable c p i = record { few = p.holding.few; inside = p.inside; left_in = i.0; right_in = i.1; room = p.holding.room; roomf = p.holding.roomf }

  -- ---- at a silence's own candidate

  module _ (own : Candidate) (here : ◌≡◌ {A = Option Candidate} (own_here w k) (Some own)) (c : Candidate) (is : c ≡ with_point mark own (point_held x silences work workf k)) where
    -- it may be written
    pub own_puttable : Passing x silences stop k w work workf → Puttable c w.written x.padding.frames work workf
    own_puttable p =
        let q = (own_parts w k own here).0 in
        puttable c p
        (rw is (with_inside x.padding.frames mark own (point_held x silences work workf k)
        (p.left_in own q, p.right_in own q) (point_inside x silences k work workf p.within)))

    -- it is what is written there
    pub own_here_lem : c ∷ [] ≡ here_of x silences k mark w work workf
    unfolding here_by
    own_here_lem = rw (here, is)

    -- the walk goes on with the next silence
    pub own_walk : (next : Option Candidate) → next ≡ next_own x silences stop work workf (w.silence + 1)
        → record { silence = w.silence + 1; own = next; written = w.written + 1 } ≡ walk_of x silences stop k mark w work workf
    unfolding walk_by
    own_walk next e = rw (here, e)

  -- ---- at a point

  module _ (other : ◌≡◌ {A = Option Candidate} (own_here w k) None) (set : mark ≡ true) (c : Candidate) (is : c ≡ point_held x silences work workf k) where
    -- the point may be written
    pub point_puttable : Passing x silences stop k w work workf → Puttable c w.written x.padding.frames work workf
    point_puttable p = puttable c p (rw is (point_inside x silences k work workf p.within))

    -- it is what is written there
    pub point-here : c ∷ [] ≡ here_of x silences k mark w work workf
    unfolding here_by
    point-here = rw (other, set, is)

    -- the walk goes on with the same silence
    pub point_walk : record { silence = w.silence; own = w.own; written = w.written + 1 } ≡ walk_of x silences stop k mark w work workf
    unfolding walk_by
    point_walk = rw (other, set)

  -- ---- at neither

  module _ (other : ◌≡◌ {A = Option Candidate} (own_here w k) None) (unset : mark ≡ false) where
    none_here : [] ≡ here_of x silences k mark w work workf
    unfolding here_by
    none_here = rw (other, unset)

    -- nothing is written in the u32 list
    pub none_entries : work ≡ entries_here x silences k mark w work workf
    unfolding entries_of
    none_entries =
        sym (placed-none (entries_at x.padding.frames + 3 * w.written) work)
        ∙ ap (λ (cs : List Candidate). placed (entries_at x.padding.frames + 3 * w.written) (entries_of cs) work) none_here

    -- nor in the f64 list
    pub none_costs : workf ≡ costs_here x silences k mark w work workf
    unfolding costs_of
    none_costs =
        sym (placed-none (costs_at x.padding.frames + w.written) workf)
        ∙ ap (λ (cs : List Candidate). placed (costs_at x.padding.frames + w.written) (costs_of cs) workf) none_here

    -- the walk is as it was
    pub none_walk : w ≡ walk_of x silences stop k mark w work workf
    unfolding walk_by
    none_walk = rw (other, unset)
