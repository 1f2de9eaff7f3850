-- What holds of the grid points: where they lie, that they are the quietest of their blocks, and that every open boundary has one near.
use Rattle.std.specs.Prelude.{◌≡◌, refl, Bool, true, false, not, ◌||◌, List, ◌∷◌, ℕ, suc, ◌+◌, ◌≤◌, ◌<◌, T, eqb, Float, length, get_or}
use Rattle.std.proofs.Common.{sym, subst, ◌∙◌, inl, inr, arith, eqb-true, eq-eqb}
use Rattle.std.proofs.Math.Bool.{or-true}
use Rattle.std.specs.Float.{nan}
use Rattle.std.specs.Float.Ieee.{is_nan}
use Rattle.base_laws.specs.Tests.{lt_or_le, holds}
use Rattle.candidate_costs.specs.Quietest.{quietest_of}
use Rattle.candidate_costs.specs.QuietestLaws.{Quietest, quietest_within, quietest_is}
use Rattle.candidate_points.specs.FlagsLaws.{not_both}
use Rattle.candidate_points.specs.Points.{block_end, grid_points, is_in, is_point}
use Rattle.candidate_points.specs.BlocksLaws.{end_within_lem, end_after_lem, end_open, StartsAt, here, past, next, starts_inside, starts_open, starts_from, starts_apart}
use Rattle.candidate_points.specs.PointsLaws.{PointWalk, ended, passed, opened, points_walk}

-- the level at each boundary up to n is a number
pub record Levels (n : ℕ) (levels : List Float) : Type 0 where
  pub size : length levels ≡ suc n
  pub numbers : (k : ℕ) → k ≤ n → T (not (is_nan (get_or levels k nan)))

-- the block that a walk from boundary k on starts at `start`; p is its point
pub record Block (blocked : ℕ → Bool) (levels : List Float) (block last k start p : ℕ) : Type 0 where
  pub starts : StartsAt blocked block last k start
  pub point : p ≡ quietest_of levels start (block_end blocked block last start)

-- p is the point of some block
pub record PointOf (blocked : ℕ → Bool) (levels : List Float) (block last k p : ℕ) : Type 0 where
  pub start : ℕ
  pub own : Block blocked levels block last k start p

-- boundary j lies in a block, whose point is one of ps
pub record InBlock (blocked : ℕ → Bool) (levels : List Float) (block last k : ℕ) (ps : List ℕ) (j : ℕ) : Type 0 where
  pub start : ℕ
  pub point : ℕ
  pub own : Block blocked levels block last k start point
  pub listed : is_in ps point ≡ true
  pub inside : (start ≤ j) × (j < block_end blocked block last start)

module _ (blocked : ℕ → Bool) (levels : List Float) (block last : ℕ) (some : 1 ≤ block) where
  -- ---- each point has its block

  past_of : {k p : ℕ} → k < last → blocked k ≡ true → PointOf blocked levels block last (suc k) p → PointOf blocked levels block last k p
  past_of h f r = record { start = r.start; own = record { starts = past h f r.own.starts; point = r.own.point } }

  next_of : {k p : ℕ} → k < last → blocked k ≡ false → PointOf blocked levels block last (block_end blocked block last k) p → PointOf blocked levels block last k p
  next_of h f r = record { start = r.start; own = record { starts = next h f r.own.starts; point = r.own.point } }

  opened_of : (k q : ℕ) → k < last → blocked k ≡ false → q ≡ quietest_of levels k (block_end blocked block last k) → (p : ℕ) (a b : Bool) → (a ≡ true → q ≡ p)
      → (a || b) ≡ true → (b ≡ true → PointOf blocked levels block last (block_end blocked block last k) p) → PointOf blocked levels block last k p
  opened_of k q h f s p true b y e g = record { start = k; own = record { starts = here h f refl; point = sym (y refl) ∙ s } }
  opened_of k q h f s p false b y e g = next_of h f (g e)

  walk_of : {k : ℕ} {ps : List ℕ} → PointWalk blocked levels block last k ps → (p : ℕ) → is_in ps p ≡ true → PointOf blocked levels block last k p
  unfolding is_in
  walk_of (ended h) p e = absurd (holds e)
  walk_of (passed h f w) p e = past_of h f (walk_of w p e)
  walk_of {k = k} (opened {p = q} {ps = ps} h f s w) p e = opened_of k q h f s p (eqb q p) (is_in ps p) (eqb-true q p) e (walk_of w p)

  -- every grid point is the point of some block
  pub point_of : (first p : ℕ) → is_point blocked levels block first last p ≡ true → PointOf blocked levels block last (suc first) p
  unfolding is_point
  point_of first p e = walk_of (points_walk blocked levels block last some first) p e

  -- ---- what a block's point is

  module _ {k start p : ℕ} (b : Block blocked levels block last k start p) where
    -- the block has a boundary at least
    pub block_some : start < block_end blocked block last start
    block_some = end_after_lem blocked block last start some (starts_inside b.starts) (starts_open b.starts)

    -- its point is one of its boundaries
    pub block_point : (start ≤ p) × (p < block_end blocked block last start)
    block_point = rw b.point (quietest_within levels start (block_end blocked block last start) block_some)

    -- as quiet as each of them, and the first such
    pub block_quietest : (n : ℕ) → Levels n levels → last ≤ suc n → Quietest levels start (block_end blocked block last start) p
    block_quietest n l m =
        rw b.point
        (quietest_is levels start (block_end blocked block last start)
        (λ (j : ℕ) (a : start ≤ j) (c : j < block_end blocked block last start). l.numbers j (omega (arith, end_within_lem blocked block last start (starts_inside b.starts)))) block_some)

  -- ---- the points

  module _ (first p : ℕ) (e : is_point blocked levels block first last p ≡ true) where
    -- every point lies strictly inside the span
    pub point_inside : (first < p) × (p < last)
    point_inside =
        let o = point_of first p e in
        (omega (arith, starts_from some o.own.starts, block_point o.own), omega (arith, block_point o.own, end_within_lem blocked block last o.start (starts_inside o.own.starts)))

    -- and is not blocked
    pub point_open : blocked p ≡ false
    point_open = let o = point_of first p e in end_open blocked block last o.start p (block_point o.own).0 (block_point o.own).1

    -- document 01's "(quietest, the first of equals)": it is at most as loud as each boundary of its block, and quieter than each of them before it
    pub point_quietest : (n : ℕ) → Levels n levels → last ≤ suc n → Quietest levels (point_of first p e).start (block_end blocked block last (point_of first p e).start) p
    point_quietest n l m = block_quietest (point_of first p e).own n l m

  -- ---- every open boundary has its block

  past_in : {k j : ℕ} {ps : List ℕ} → k < last → blocked k ≡ true → InBlock blocked levels block last (suc k) ps j → InBlock blocked levels block last k ps j
  past_in h f r = record { start = r.start; point = r.point; own = record { starts = past h f r.own.starts; point = r.own.point }; listed = r.listed; inside = r.inside }

  next_in : {k j : ℕ} (q : ℕ) {ps : List ℕ} → k < last → blocked k ≡ false → InBlock blocked levels block last (block_end blocked block last k) ps j → InBlock blocked levels block last k (q ∷ ps) j
  unfolding is_in
  next_in q h f r = record {
    start = r.start;
    point = r.point;
    own = record { starts = next h f r.own.starts; point = r.own.point };
    listed = rw r.listed (or-true (eqb q r.point));
    inside = r.inside;
  }

  here_in : {k j : ℕ} (q : ℕ) {ps : List ℕ} → k < last → blocked k ≡ false → q ≡ quietest_of levels k (block_end blocked block last k) → k ≤ j → j < block_end blocked block last k
      → InBlock blocked levels block last k (q ∷ ps) j
  unfolding is_in
  here_in {k = k} q h f s g d = record { start = k; point = q; own = record { starts = here h f refl; point = s }; listed = rw (eq-eqb q q refl); inside = (g, d) }

  same : (i m : ℕ) → i ≤ m → m ≤ i → m ≡ i
  same i m u v = omega arith

  walk_in : {k : ℕ} {ps : List ℕ} → PointWalk blocked levels block last k ps → (j : ℕ) → k ≤ j → j < last → blocked j ≡ false → InBlock blocked levels block last k ps j
  walk_in (ended h) j g l e = absurd (omega arith)
  walk_in {k = k} (passed h f w) j g l e = elim (lt_or_le k j) [
    | inl d ↦ past_in h f (walk_in w j d l e)
    | inr d ↦ absurd (not_both f (subst (λ (i : ℕ). blocked i ≡ false) (same k j g d) e))
  ]
  walk_in {k = k} (opened {p = q} {ps = ps} h f s w) j g l e = elim (lt_or_le j (block_end blocked block last k)) [
    | inl d ↦ here_in q h f s g d
    | inr d ↦ next_in q h f (walk_in w j d l e)
  ]

  -- every open boundary strictly inside the span lies in a block
  pub open_in : (first j : ℕ) → first < j → j < last → blocked j ≡ false → InBlock blocked levels block last (suc first) (grid_points blocked levels block first last) j
  open_in first j h l e = walk_in (points_walk blocked levels block last some first) j h l e

  -- and one only
  pub block_only : (k i m j : ℕ) → StartsAt blocked block last k i → StartsAt blocked block last k m → i ≤ j → j < block_end blocked block last i → m ≤ j → j < block_end blocked block last m → i ≡ m
  block_only k i m j s t a b c d = elim (lt_or_le i m) [
    | inl h ↦ absurd (omega (arith, starts_apart some s t h))
    | inr h ↦ elim (lt_or_le m i) [ inl g ↦ absurd (omega (arith, starts_apart some t s g)) | inr g ↦ omega arith ]
  ]

  -- a point is less than `block` boundaries away
  pub point-near : (first j : ℕ) (h : first < j) (l : j < last) (e : blocked j ≡ false)
      → (is_point blocked levels block first last (open_in first j h l e).point ≡ true) × ((open_in first j h l e).point < j + block) × (j < (open_in first j h l e).point + block)
  unfolding is_point
  point-near first j h l e =
      let r = open_in first j h l e in
      let w = end_within_lem blocked block last r.start (starts_inside r.own.starts) in
      let p = block_point r.own in
      (r.listed, omega (arith, w, p, r.inside), omega (arith, w, p, r.inside))
