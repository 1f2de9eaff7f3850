-- What the functions that write the flags of blocked boundaries need, and what holds while one silence after another is marked.
use Rattle.std.specs.Prelude.{◌≡◌, true, false, length, drop, get_or, replicate}
use Rattle.std.proofs.Math.Path.{sym, ap}
use Rattle.std.proofs.Common.{◌∙◌, add-one, ext_get_or, le-leb, take-take, drop-drop}
use mathlib.Core.List.{List, ◌++◌}
use Prim.Native.Nat.{ℕ, suc, ◌+◌, ◌*◌, ◌≤◌, ◌<◌}
use native.Mathlib.Omega.{arith}
use Rattle.std.proofs.Math.ListN.{take, length-replicate}
use Rattle.std.proofs.lemmas.List.{get_or-replicate}
use Rattle.std.proofs.lemmas.Bool.{lt-leb}
use Rattle.grid.specs.Boundary.{Bounded}
use Rattle.grid.specs.declared.boundary.FrameGrid.{FrameGrid}
use Rattle.silence_runs.specs.Runs.{put_run}
use Rattle.plan_settings.specs.declared.config.Gap.{Gap}
use Rattle.candidate_span.specs.Listed.{silence_count, start_at, end_at}
use Rattle.candidate_span.specs.ListedLaws.{Listed, listed-own, listed-within, pair_at}
use Rattle.std.specs.Simd.{first_chunks}
use Rattle.candidate_span.specs.Bounds.{low_of, high_of, bounds_of}
use Rattle.candidate_span.specs.BoundsLaws.{high_within}
use Rattle.candidate_span.specs.declared.bounds.Bounds.{Bounds}
use Rattle.candidate_span.specs.declared.spacing.Spacing.{Spacing}
use Rattle.candidate_points.specs.FlagsLaws.{flag_no}
use Rattle.candidate_points.specs.Placed.{placed}
use Rattle.candidate_points.specs.PlacedLaws.{put_length}
use Rattle.candidate_points.specs.Blocked.{gets_grid, flags_by, blocked_of, shut_by}
use Rattle.candidate_points.specs.BlockedLaws.{flags-length, flags_at_lem, flags_next, blocked_none, blocked_length}

-- a silence inside the recording, and the flags of all boundaries
pub record Silent (g : FrameGrid) (start end : ℕ) (flags : List ℕ) : Type 0 where
  pub bounded : Bounded g
  pub own : start ≤ end
  pub within : end ≤ g.frames
  pub size : length flags ≡ suc g.frames

-- the silences stand in front of the flags, in one list; the spacing is one of this grid
pub record FlagRoom (g : FrameGrid) (s : Spacing) (silences base : ℕ) (work : List ℕ) : Type 0 where
  pub bounded : Bounded g
  pub size : s.padding.frames ≡ g.frames
  pub apart : 2 * silences ≤ base
  pub fits : base + suc g.frames ≤ length work
  pub listed : Listed g.frames (take (2 * silences) work)

-- silences of a recording and a spacing of its grid, and no boundary is blocked yet
pub record Unmarked (g : FrameGrid) (s : Spacing) (ss flags : List ℕ) : Type 0 where
  pub bounded : Bounded g
  pub size : s.padding.frames ≡ g.frames
  pub listed : Listed g.frames ss
  pub zeros : flags ≡ replicate (suc g.frames) 0

-- ---- one silence

-- b are the silence's bounds, xs' are the flags with the whole silence blocked
module _ (gap : Gap) (g : FrameGrid) (s : Spacing) (start end : ℕ) (xs xs' : List ℕ) (b : Bounds) (p : b ≡ bounds_of s.padding start end) (e : xs' ≡ put_run start (end + 1) 1 xs) where
  -- its bounds leave nothing
  pub shut_crossed : b.hi < b.lo → xs' ≡ shut_by gap g s start end xs
  unfolding shut_by
  shut_crossed h = rw (lt-leb (low_of s.padding start) (high_of s.padding end) (rw p at h)) e

  -- it gets no grid points
  pub shut_whole : b.lo ≤ b.hi → gets_grid gap g s.edge_limit start end ≡ false → xs' ≡ shut_by gap g s start end xs
  unfolding shut_by
  shut_whole h k = rw (le-leb (low_of s.padding start) (high_of s.padding end) (rw p at h), k) e

  -- it gets grid points inside its bounds
  pub shut_inside : b.lo ≤ b.hi → gets_grid gap g s.edge_limit start end ≡ true → (xs'' : List ℕ) → xs'' ≡ put_run b.lo (b.hi + 1) 0 xs' → xs'' ≡ shut_by gap g s start end xs
  unfolding shut_by
  shut_inside h k xs'' f =
      rw (le-leb (low_of s.padding start) (high_of s.padding end) (rw p at h), k)
      (rw p at f ∙ ap (put_run (low_of s.padding start) (high_of s.padding end + 1) 0) e)

  -- its bounds lie inside the list
  pub shut_room : Silent g start end xs → b.lo ≤ b.hi → (b.lo ≤ b.hi + 1) × (b.hi + 1 ≤ length xs')
  shut_room r h =
      let m : b.hi ≤ end = rw p (high_within s.padding end) in
      (omega arith, omega (arith, m, r.own, r.within, r.size, ap length e ∙ put_length start (end + 1) 1 xs (omega (arith, r.own)) (omega (arith, r.within, r.size))))

-- ---- one silence after another

module _ (gap : Gap) (g : FrameGrid) (s : Spacing) (ss flags₀ : List ℕ) (m : Unmarked g s ss flags₀) where
  -- before the first silence no flag is set
  pub marking_start : flags₀ ≡ flags_by gap g s ss 0
  marking_start =
      let zero_at : (k : ℕ) → k < suc g.frames → get_or (flags_by gap g s ss 0) k 0 ≡ get_or (replicate (suc g.frames) 0) k 0 =
      λ k h. flags_at_lem gap g s ss 0 k (omega arith) ∙ rw (blocked_none gap g s ss 0 k (λ (j : ℕ) (d : j < 0). absurd (omega arith))) flag_no
      ∙ sym (get_or-replicate (suc g.frames) k 0 0 h) in
      m.zeros ∙ sym
      (ext_get_or 0 (flags_by gap g s ss 0) (replicate (suc g.frames) 0) (flags-length gap g s ss 0 ∙ sym (length-replicate (suc g.frames) 0))
      (λ (k : ℕ) (h : k < length (flags_by gap g s ss 0)). zero_at k (omega (arith, flags-length gap g s ss 0))))

  module _ (pairs : List (List ℕ)) (d : List ℕ) (flags : List ℕ) (i : ℕ) (is : pairs ≡ first_chunks 2 (silence_count ss) ss) (h : i < silence_count ss) (f : flags ≡ flags_by gap g s ss i) where
    start : get_or (get_or pairs i d) 0 0 ≡ start_at ss i
    start = let even : 2 * i + 0 ≡ 2 * i = omega arith in rw (is, ← even) (pair_at (silence_count ss) ss i 0 d h (omega arith) (omega arith))

    end : get_or (get_or pairs i d) 1 0 ≡ end_at ss i
    end = rw is (pair_at (silence_count ss) ss i 1 d h (omega arith) (omega arith))

    -- the silence of the next pair lies inside the recording
    pub marking_silent : Silent g (get_or (get_or pairs i d) 0 0) (get_or (get_or pairs i d) 1 0) flags
    marking_silent = record {
      bounded = m.bounded;
      own = omega (arith, start, end, listed-own m.listed i h);
      within = omega (arith, end, listed-within m.listed i h);
      size = rw f (flags-length gap g s ss i);
    }

    -- with it marked the flags are those of one silence more
    pub marking_next : (flags' : List ℕ) → flags' ≡ shut_by gap g s (get_or (get_or pairs i d) 0 0) (get_or (get_or pairs i d) 1 0) flags → flags' ≡ flags_by gap g s ss (i + 1)
    marking_next flags' e = e ∙ rw (start, end, f) (flags_next gap g s ss m.size m.listed i h ∙ ap (flags_by gap g s ss) (sym (add-one i)))

  -- after the last one the flags are those of all silences
  pub marking_done : (flags : List ℕ) (i : ℕ) → i ≤ silence_count ss → silence_count ss ≤ i → flags ≡ flags_by gap g s ss i → flags ≡ blocked_of gap g s ss
  unfolding blocked_of
  marking_done flags i a b f = f ∙ ap (flags_by gap g s ss) (omega arith)

-- ---- the flags behind the silences

-- the flags of all silences, put back behind the front of a list
pub marked_behind : (gap : Gap) (g : FrameGrid) (s : Spacing) (silences base side : ℕ) (work front back flags : List ℕ) → FlagRoom g s silences base work
    → front ≡ take base work → back ≡ drop base work → side ≡ g.frames + 1 → flags ≡ blocked_of gap g s (take (2 * silences) front)
    → front ++ (flags ++ drop side back) ≡ placed base (blocked_of gap g s (take (2 * silences) work)) work
unfolding placed
marked_behind gap g s silences base side work front back flags r a b c e =
    let blocked = blocked_of gap g s (take (2 * silences) work) in
    let is : flags ≡ blocked = e ∙ ap (blocked_of gap g s) (ap (take (2 * silences)) a ∙ take-take (2 * silences) base work r.apart) in
    let long : side ≡ length blocked = c ∙ add-one g.frames ∙ sym (blocked_length gap g s (take (2 * silences) work)) in
    rw (is, a, b, drop-drop, long)
