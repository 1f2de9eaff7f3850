-- Filling the flags of one silence after another gives the flags by all: a boundary lies in one silence at most, so a later silence never opens what an earlier one blocks.
use Rattle.std.specs.Prelude.{◌≡◌, ◌⊎◌, Bool, false, not, ◌&&◌, cond, List, leb, eqb, length, get_or}
use Rattle.std.proofs.Math.Path.{refl}
use Rattle.std.proofs.Common.{sym, ◌∙◌, arith, ext_get_or}
use Rattle.std.proofs.Math.Logic.{inl, inr}
use Rattle.std.proofs.Math.Bool.{true, and-false, or-false, or-true}
use Prim.Native.Nat.{ℕ, zero, suc, ◌+◌, ◌≤◌, ◌<◌}
use borrow.Author.Tests.{le-leb, lt-leb, leb-true, leb-false}
use Rattle.base_laws.specs.Tests.{lt_or_le, both}
use Rattle.base_code.specs.FrontLaws.{tabulate-at, tabulate-length}
use Rattle.grid.specs.declared.boundary.FrameGrid.{FrameGrid}
use Rattle.silence_runs.specs.Runs.{put_run}
use Rattle.plan_settings.specs.declared.config.Gap.{Gap}
use Rattle.candidate_span.specs.Listed.{silence_count, start_at, end_at}
use Rattle.candidate_span.specs.ListedLaws.{Listed, listed-own, listed_apart, listed-within}
use Rattle.candidate_span.specs.Bounds.{low_of, high_of}
use Rattle.candidate_span.specs.BoundsLaws.{low-within, high_within}
use Rattle.candidate_span.specs.declared.spacing.Spacing.{Spacing}
use Rattle.candidate_points.specs.Flags.{flag_of}
use Rattle.candidate_points.specs.FlagsLaws.{flag_yes, flag_no, flag_set}
use Rattle.candidate_points.specs.PlacedLaws.{put_length, put_before, put_in, put_after}
use Rattle.candidate_points.specs.Blocked.{gets_grid, touches, opens, blocks_at, blocked_by, is_blocked, flag_by, flags_by, blocked_of, shut_by}

-- ---- in a silence

module _ (start end k : ℕ) where
  -- a boundary from its start to its end is in it
  pub touches_in : start ≤ k → k ≤ end → touches start end k ≡ true
  unfolding touches
  touches_in h l = rw (le-leb start k h, le-leb k end l)

  -- one before it or after it is not
  pub touches-out : (k < start) ⊎ (end < k) → touches start end k ≡ false
  unfolding touches
  touches-out h = elim h [ inl l ↦ rw (lt-leb start k l) | inr l ↦ rw (lt-leb k end l) (and-false (leb start k)) ]

-- ---- the flags of one silence

module _ (start end lo hi : ℕ) (xs : List ℕ) (own : start ≤ end) (fits : end < length xs) (above : start ≤ lo) (below : hi ≤ end) where
  shut : List ℕ
  shut = put_run start (end + 1) 1 xs

  long : length shut ≡ length xs
  unfolding shut
  long = put_length start (end + 1) 1 xs (omega arith) (omega arith)

  one : (k : ℕ) → start ≤ k → k ≤ end → get_or shut k 0 ≡ 1
  unfolding shut
  one k h l = put_in start (end + 1) 1 xs (omega arith) (omega arith) k 0 h (omega arith)

  kept : (k : ℕ) → (k < start) ⊎ (end < k) → get_or shut k 0 ≡ get_or xs k 0
  unfolding shut
  kept k h = elim h [
    | inl l ↦ put_before start (end + 1) 1 xs (omega arith) (omega arith) k 0 l
    | inr l ↦ put_after start (end + 1) 1 xs (omega arith) (omega arith) k 0 (omega arith)
  ]

  range_length : (b : Bool) → (b ≡ true → lo ≤ hi) → length (cond b (put_run lo (hi + 1) 0 shut) shut) ≡ length xs
  range_length true f = put_length lo (hi + 1) 0 shut (omega (arith, f refl)) (omega (arith, long)) ∙ long
  range_length false f = long

  range_out : (b : Bool) → (b ≡ true → lo ≤ hi) → (k : ℕ) → (k < start) ⊎ (end < k) → get_or (cond b (put_run lo (hi + 1) 0 shut) shut) k 0 ≡ get_or xs k 0
  range_out true f k h = elim h [
    | inl l ↦ put_before lo (hi + 1) 0 shut (omega (arith, f refl)) (omega (arith, long)) k 0 (omega arith) ∙ kept k (inl l)
    | inr l ↦ put_after lo (hi + 1) 0 shut (omega (arith, f refl)) (omega (arith, long)) k 0 (omega arith) ∙ kept k (inr l)
  ]
  range_out false f k h = kept k h

  -- in the silence: 0 where it gets grid points and k is inside its bounds
  range_in : (grid : Bool) (k : ℕ) → start ≤ k → k ≤ end → get_or (cond (leb lo hi && grid) (put_run lo (hi + 1) 0 shut) shut) k 0 ≡ flag_of (not (grid && touches lo hi k))
  range_in false k h l = rw (and-false (leb lo hi), flag_yes) (one k h l)
  range_in true k h l = go (leb lo hi) (leb-true lo hi) (leb-false lo hi)
    where
      outside : (k < lo) ⊎ (hi < k) → flag_of (not (touches lo hi k)) ≡ 1
      outside o = rw (touches-out lo hi k o) flag_yes

      inside : lo ≤ k → k ≤ hi → flag_of (not (touches lo hi k)) ≡ 0
      inside a b = rw (touches_in lo hi k a b) flag_no

      either : hi < lo → (k < lo) ⊎ (hi < k)
      either q = elim (lt_or_le k lo) [ inl a ↦ inl a | inr a ↦ inr (omega arith) ]

      go : (b : Bool) → (b ≡ true → lo ≤ hi) → (b ≡ false → hi < lo) → get_or (cond (b && true) (put_run lo (hi + 1) 0 shut) shut) k 0 ≡ flag_of (not (touches lo hi k))
      go true f q = elim (lt_or_le k lo) [
        | inl a ↦ put_before lo (hi + 1) 0 shut (omega (arith, f refl)) (omega (arith, long)) k 0 a ∙ one k h l ∙ sym (outside (inl a))
        | inr a ↦ elim (lt_or_le hi k) [
          | inl b ↦ put_after lo (hi + 1) 0 shut (omega (arith, f refl)) (omega (arith, long)) k 0 (omega arith) ∙ one k h l ∙ sym (outside (inr b))
          | inr b ↦ put_in lo (hi + 1) 0 shut (omega (arith, f refl)) (omega (arith, long)) k 0 a (omega arith) ∙ sym (inside a b)
        ]
      ]
      go false f q = one k h l ∙ sym (outside (either (q refl)))

-- the same of a silence's own bounds
module _ (gap : Gap) (g : FrameGrid) (s : Spacing) (start end : ℕ) (xs : List ℕ) (own : start ≤ end) (within : end ≤ g.frames) (size : length xs ≡ suc g.frames) (same : s.padding.frames ≡ g.frames) where
  lo_above : start ≤ low_of s.padding start
  lo_above = (low-within s.padding start (omega arith)).0

  some : (grid : Bool) → (leb (low_of s.padding start) (high_of s.padding end) && grid) ≡ true → low_of s.padding start ≤ high_of s.padding end
  some grid t = leb-true (low_of s.padding start) (high_of s.padding end) (both (leb (low_of s.padding start) (high_of s.padding end)) grid t).0

  -- there are as many flags as before
  pub shut_length : length (shut_by gap g s start end xs) ≡ length xs
  shut_length = unfold shut_by in unfold shut in
      range_length start end (low_of s.padding start) (high_of s.padding end) xs own (omega arith) lo_above (high_within s.padding end)
      (leb (low_of s.padding start) (high_of s.padding end) && gets_grid gap g s.edge_limit start end) (some (gets_grid gap g s.edge_limit start end))

  -- outside the silence a flag stays
  pub shut_out : (k : ℕ) → (k < start) ⊎ (end < k) → get_or (shut_by gap g s start end xs) k 0 ≡ get_or xs k 0
  shut_out = unfold shut_by in unfold shut in
      range_out start end (low_of s.padding start) (high_of s.padding end) xs own (omega arith) lo_above (high_within s.padding end)
      (leb (low_of s.padding start) (high_of s.padding end) && gets_grid gap g s.edge_limit start end) (some (gets_grid gap g s.edge_limit start end))

  -- in it the flag says whether it is blocked
  pub shut_in : (k : ℕ) → start ≤ k → k ≤ end → get_or (shut_by gap g s start end xs) k 0 ≡ flag_of (not (opens gap g s start end k))
  shut_in = unfold shut_by in unfold shut in unfold opens in
      range_in start end (low_of s.padding start) (high_of s.padding end) xs own (omega arith) lo_above (high_within s.padding end)
      (gets_grid gap g s.edge_limit start end)

-- ---- all silences

module _ (gap : Gap) (g : FrameGrid) (s : Spacing) (ss : List ℕ) where
  -- there is a flag for each boundary
  pub flags-length : (i : ℕ) → length (flags_by gap g s ss i) ≡ suc g.frames
  unfolding flags_by
  flags-length i = tabulate-length (flag_by gap g s ss i) (suc g.frames)

  -- which says whether one of the first i silences blocks it
  pub flags_at_lem : (i k : ℕ) → k ≤ g.frames → get_or (flags_by gap g s ss i) k 0 ≡ flag_of (blocked_by gap g s ss i k)
  unfolding flags_by flag_by
  flags_at_lem i k h = tabulate-at (flag_by gap g s ss i) (suc g.frames) k 0 (omega arith)

  -- silences that end before k do not block it
  pub blocked_none : (i k : ℕ) → ((j : ℕ) → j < i → end_at ss j < k) → blocked_by gap g s ss i k ≡ false
  unfolding blocked_by blocks_at
  blocked_none zero k f = refl
  blocked_none (suc i) k f = rw (blocked_none i k (λ (j : ℕ) (h : j < i). f j (omega arith)), touches-out (start_at ss i) (end_at ss i) k (inr (f i (omega arith))))

  -- the flags of one more silence
  pub flags_next : s.padding.frames ≡ g.frames → Listed g.frames ss → (i : ℕ) → i < silence_count ss → shut_by gap g s (start_at ss i) (end_at ss i) (flags_by gap g s ss i) ≡ flags_by gap g s ss (suc i)
  flags_next same l i h = ext_get_or 0 next (flags_by gap g s ss (suc i)) (size ∙ sym (flags-length (suc i))) each
    where
      own : start_at ss i ≤ end_at ss i
      own = omega (arith, listed-own l i h)

      within : end_at ss i ≤ g.frames
      within = listed-within l i h

      next : List ℕ
      next = shut_by gap g s (start_at ss i) (end_at ss i) (flags_by gap g s ss i)

      size : length next ≡ suc g.frames
      size = (shut_length gap g s (start_at ss i) (end_at ss i) (flags_by gap g s ss i) own within (flags-length i) same ∙ flags-length i)

      -- outside this silence the earlier ones decide
      outside : (k : ℕ) → k ≤ g.frames → (k < start_at ss i) ⊎ (end_at ss i < k) → get_or next k 0 ≡ flag_of (blocked_by gap g s ss (suc i) k)
      outside k m o = unfold blocked_by in unfold blocks_at in
          rw (touches-out (start_at ss i) (end_at ss i) k o, or-false)
          (shut_out gap g s (start_at ss i) (end_at ss i) (flags_by gap g s ss i) own within (flags-length i) same k o ∙ flags_at_lem i k m)

      -- in it the earlier ones have ended
      inside : (k : ℕ) → start_at ss i ≤ k → k ≤ end_at ss i → get_or next k 0 ≡ flag_of (blocked_by gap g s ss (suc i) k)
      inside k a b = unfold blocked_by in unfold blocks_at in
          rw (blocked_none i k (λ (j : ℕ) (d : j < i). omega (arith, listed_apart l j i d h)), touches_in (start_at ss i) (end_at ss i) k a b)
          (shut_in gap g s (start_at ss i) (end_at ss i) (flags_by gap g s ss i) own within (flags-length i) same k a b)

      at : (k : ℕ) → k ≤ g.frames → get_or next k 0 ≡ flag_of (blocked_by gap g s ss (suc i) k)
      at k m = elim (lt_or_le k (start_at ss i)) [
        | inl a ↦ outside k m (inl a)
        | inr a ↦ elim (lt_or_le (end_at ss i) k) [ inl b ↦ outside k m (inr b) | inr b ↦ inside k a b ]
      ]

      each : (k : ℕ) → k < length next → get_or next k 0 ≡ get_or (flags_by gap g s ss (suc i)) k 0
      each k m = at k (omega (arith, size)) ∙ sym (flags_at_lem (suc i) k (omega (arith, size)))

  -- ---- the flags say what is blocked

  -- there is a flag for each boundary
  pub blocked_length : length (blocked_of gap g s ss) ≡ suc g.frames
  unfolding blocked_of
  blocked_length = flags-length (silence_count ss)

  -- which is not 0 exactly where the boundary is blocked
  pub blocked_at : (k : ℕ) → k ≤ g.frames → not (eqb (get_or (blocked_of gap g s ss) k 0) 0) ≡ is_blocked gap g s ss k
  unfolding blocked_of is_blocked
  blocked_at k h = rw (flags_at_lem (silence_count ss) k h) (flag_set (blocked_by gap g s ss (silence_count ss) k))

  -- a boundary in a silence is blocked where it is not open to grid points
  pub blocked_in_lem : (i k : ℕ) → i < silence_count ss → touches (start_at ss i) (end_at ss i) k ≡ true → opens gap g s (start_at ss i) (end_at ss i) k ≡ false → is_blocked gap g s ss k ≡ true
  unfolding is_blocked
  blocked_in_lem i k h t o = go (silence_count ss) h
    where
      here : blocks_at gap g s (start_at ss i) (end_at ss i) k ≡ true
      here = unfold blocks_at in rw (t, o)

      earlier : (m : ℕ) → blocked_by gap g s ss m k ≡ true → blocked_by gap g s ss (suc m) k ≡ true
      earlier m e = unfold blocked_by in rw e

      this : (m : ℕ) → m ≡ i → blocked_by gap g s ss (suc m) k ≡ true
      this m e = unfold blocked_by in rw (e, here) (or-true (blocked_by gap g s ss i k))

      go : (m : ℕ) → i < m → blocked_by gap g s ss m k ≡ true
      go zero l = absurd (omega arith)
      go (suc m) l = elim (lt_or_le i m) [ inl d ↦ earlier m (go m d) | inr d ↦ this m (omega arith) ]
