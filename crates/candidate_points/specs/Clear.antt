-- The grid points of a plan: the flags that are written say what silences block, and no point lies in a dropped gap.
use Rattle.std.specs.Prelude.{◌≡◌, ◌⊎◌, Bool, ltb, Float, length, get_or}
use Rattle.std.proofs.Math.Path.{refl, ap}
use Rattle.std.proofs.Common.{◌∙◌, inl, inr, arith, ltb-true}
use Rattle.std.proofs.Math.Bool.{true, false, cond}
use mathlib.Core.List.Memᴰ
use mathlib.Core.List.{List, [], ◌∷◌, Memᴰ}
use Prim.Native.Nat.{ℕ, zero, suc, ◌-◌, ◌≤◌, ◌<◌}
use Rattle.base_laws.specs.Tests.{lt_or_le}
use Rattle.base_code.specs.FrontLaws.{tabulate-at}
use Rattle.grid.specs.declared.boundary.FrameGrid.{FrameGrid}
use Rattle.plan_settings.specs.declared.config.Gap.{Gap}
use Rattle.plan_settings.specs.declared.config.Gap.TheVariants.{Keep, Drop}
use Rattle.candidate_span.specs.Listed.{start_at, end_at}
use Rattle.candidate_span.specs.ListedLaws.{Listed, listed-own, listed-within}
use Rattle.candidate_span.specs.Bounds.{low_of, high_of}
use Rattle.candidate_span.specs.BoundsLaws.{low-within, high_within}
use Rattle.candidate_span.specs.Gaps.{Cut, gaps_of}
use Rattle.candidate_span.specs.GapsFrom.{GapAt, gap_from}
use Rattle.candidate_span.specs.Kept.{kept_boundaries}
use Rattle.candidate_span.specs.KeptIn.{Outside, kept_in_lem}
use Rattle.candidate_span.specs.declared.spacing.Spacing.{Spacing}
use Rattle.candidate_costs.specs.Quietest.{quietest_of}
use Rattle.candidate_points.specs.Flags.{flag_of}
use Rattle.candidate_points.specs.FlagsLaws.{not_both}
use Rattle.candidate_points.specs.Blocked.{gets_grid, opens, is_blocked, blocked_of}
use Rattle.candidate_points.specs.BlockedLaws.{touches_in, blocked_at, blocked_in_lem, blocked_length}
use Rattle.candidate_points.specs.Points.{block_end, points_from, grid_points, is_in, is_point, is_set, mark_at, marks_of}
use Rattle.candidate_points.specs.BlocksLaws.{end_same, end-from}
use Rattle.candidate_points.specs.Theorems.{point_inside, point_open}

-- ---- only what is blocked strictly inside the span matters

module _ (blocked other : ℕ → Bool) (levels : List Float) (block last : ℕ) where
  same_from : (fuel k : ℕ) → ((j : ℕ) → k ≤ j → j < last → other j ≡ blocked j) → points_from other levels block last fuel k ≡ points_from blocked levels block last fuel k
  unfolding points_from
  same_from zero k f = refl
  same_from (suc fuel) k f =
      go (ltb k last) (ltb-true k last) (same_from fuel (suc k) (λ (j : ℕ) (h : suc k ≤ j) (l : j < last). f j (omega arith) l))
      (same_from fuel (block_end blocked block last k) (λ (j : ℕ) (h : block_end blocked block last k ≤ j) (l : j < last). f j (omega (arith, end-from blocked block last k)) l))
    where
      go : (b : Bool) → (b ≡ true → k < last) → points_from other levels block last fuel (suc k) ≡ points_from blocked levels block last fuel (suc k)
          → points_from other levels block last fuel (block_end blocked block last k) ≡ points_from blocked levels block last fuel (block_end blocked block last k)
          → cond b (cond (other k) (points_from other levels block last fuel (suc k)) (quietest_of levels k (block_end other block last k) ∷ points_from other levels block last fuel (block_end other block last k))) []
          ≡ cond b (cond (blocked k) (points_from blocked levels block last fuel (suc k)) (quietest_of levels k (block_end blocked block last k) ∷ points_from blocked levels block last fuel (block_end blocked block last k))) []
      go true y p q = rw (f k (omega arith) (y refl), end_same blocked block last k other f, p, q)
      go false y p q = refl

  -- two tests that agree there give the same grid points
  pub points_same : (first : ℕ) → ((j : ℕ) → first < j → j < last → other j ≡ blocked j) → grid_points other levels block first last ≡ grid_points blocked levels block first last
  unfolding grid_points
  points_same first f = same_from (last - suc first) (suc first) f

-- ---- dropped gaps

-- with gaps dropped no silence gets grid points
drop_shut : (g : FrameGrid) (s : Spacing) (start end k : ℕ) → opens Drop g s start end k ≡ false
unfolding opens gets_grid
drop_shut g s start end k = refl

-- a gap lies inside its silence, whose boundaries are all blocked
clear_one : (g : FrameGrid) (s : Spacing) (ss : List ℕ) → Listed s.padding.frames ss → (p : ℕ) → is_blocked Drop g s ss p ≡ false → (c : Cut) → GapAt s.padding ss c
    → (p < c.left) ⊎ (c.right < p)
clear_one g s ss l p e c a =
    let start : ℕ = start_at ss a.number in
    let end : ℕ = end_at ss a.number in
    let low : ℕ = low_of s.padding start in
    let high : ℕ = high_of s.padding end in
    let shut : low ≤ p → p ≤ high → is_blocked Drop g s ss p ≡ true =
    λ h k. blocked_in_lem Drop g s ss a.number p a.listed
    (touches_in start end p (omega (arith, low-within s.padding start (omega (arith, listed-own l a.number a.listed, listed-within l a.number a.listed))))
    (omega (arith, high_within s.padding end)))
    (drop_shut g s start end p) in
    elim (lt_or_le p low) [
      | inl h ↦ inl (rw a.is h)
      | inr h ↦ elim (lt_or_le high p) [ inl k ↦ inr (rw a.is k) | inr k ↦ absurd (not_both (shut h k) e) ]
    ]

clear : (gap : Gap) (g : FrameGrid) (s : Spacing) (ss : List ℕ) → Listed s.padding.frames ss → (p : ℕ) → is_blocked gap g s ss p ≡ false → Outside (gaps_of gap s.padding ss) p
unfolding gaps_of
clear Keep g s ss l p e c m = absurd (Memᴰ.not-nil m)
clear Drop g s ss l p e c m = clear_one g s ss l p e c (gap_from s.padding ss c m)

-- ---- the marks of a plan

module _ (gap : Gap) (g : FrameGrid) (s : Spacing) (ss : List ℕ) (levels : List Float) (block first last : ℕ) where
  -- the marks that are made of the flags of blocked boundaries stand at the grid points
  pub marks_are : last ≤ suc g.frames → (k : ℕ) → k ≤ g.frames
      → get_or (marks_of levels block first last (blocked_of gap g s ss)) k 0 ≡ flag_of (is_point (is_blocked gap g s ss) levels block first last k)
  unfolding marks_of mark_at is_point
  marks_are h k l =
      tabulate-at (mark_at levels block first last (blocked_of gap g s ss)) (length (blocked_of gap g s ss)) k 0 (omega (arith, blocked_length gap g s ss))
      ∙ ap (λ (ps : List ℕ). flag_of (is_in ps k))
      (points_same (is_blocked gap g s ss) (is_set (blocked_of gap g s ss)) levels block last first (λ (j : ℕ) (a : first < j) (b : j < last). blocked_at gap g s ss j (omega arith)))

  -- document 01: "In a plan no other candidate, found or added later, lies in a dropped gap, edges included"
  pub point_clear : 1 ≤ block → Listed s.padding.frames ss → (p : ℕ) → is_point (is_blocked gap g s ss) levels block first last p ≡ true → Outside (gaps_of gap s.padding ss) p
  point_clear b l p e = clear gap g s ss l p (point_open (is_blocked gap g s ss) levels block last b first p e)

  -- so every grid point is a kept frame boundary
  pub point_kept : 1 ≤ block → Listed s.padding.frames ss → (p : ℕ) → is_point (is_blocked gap g s ss) levels block first last p ≡ true
      → Memᴰ p (kept_boundaries first (gaps_of gap s.padding ss) last)
  point_kept b l p e =
      let i = point_inside (is_blocked gap g s ss) levels block last b first p e in
      kept_in_lem first (gaps_of gap s.padding ss) last p i.0 i.1 (point_clear b l p e)
