-- Where a block ends.
-- Where blocks start, as a rule: the first block of a walk starts at its first open boundary, each next one at the first open boundary from the end of the block before on.
use Rattle.std.specs.Prelude.{◌≡◌, Bool}
use Rattle.std.proofs.Math.Path.{refl}
use Rattle.std.proofs.Math.Logic.{inl, inr}
use Rattle.std.proofs.Math.Bool.{true, false, cond}
use Prim.Native.Nat.{ℕ, zero, suc, ◌+◌, ◌-◌, ◌≤◌, ◌<◌, min}
use native.Mathlib.Omega.{arith}
use Rattle.base_laws.specs.Tests.{lt_or_le, tested}
use Rattle.candidate_points.specs.Points.{open_to, block_end}
use Rattle.candidate_points.specs.FlagsLaws.{not_both}

-- ---- the first blocked boundary

module _ (blocked : ℕ → Bool) where
  -- it is one of those looked at, or the boundary after them
  pub open_within : (left k : ℕ) → (k ≤ open_to blocked left k) × (open_to blocked left k ≤ k + left)
  unfolding open_to
  open_within zero k = (omega arith, omega arith)
  open_within (suc left) k = elim (tested (blocked k)) [
    | inl e ↦ rw e (omega (arith, open_within left (suc k)), omega (arith, open_within left (suc k)))
    | inr e ↦ rw e (omega (arith, open_within left (suc k)), omega (arith, open_within left (suc k)))
  ]

  -- all before it are open
  pub open_before : (left k j : ℕ) → k ≤ j → j < open_to blocked left k → blocked j ≡ false
  unfolding open_to
  open_before zero k j h l = absurd (omega arith)
  open_before (suc left) k j h l = go (blocked k) refl l (open_before left (suc k) j)
    where
      go : (b : Bool) → blocked k ≡ b → j < cond b k (open_to blocked left (suc k)) → (suc k ≤ j → j < open_to blocked left (suc k) → blocked j ≡ false) → blocked j ≡ false
      go true e m f = absurd (omega arith)
      go false e m f = elim (lt_or_le k j) [ inl q ↦ f (omega arith) m | inr q ↦ let s : j ≡ k = omega arith in rw s e ]

  -- a blocked boundary is where it ends
  pub open_shut : (left k : ℕ) → blocked k ≡ true → open_to blocked left k ≡ k
  unfolding open_to
  open_shut zero k e = refl
  open_shut (suc left) k e = rw e

  -- an open one is passed
  pub open_pass : (left k : ℕ) → blocked k ≡ false → open_to blocked (suc left) k ≡ open_to blocked left (suc k)
  unfolding open_to
  open_pass left k e = rw e

  -- only what is blocked from k on matters
  pub open_same : (other : ℕ → Bool) (left k : ℕ) → ((j : ℕ) → k ≤ j → j < k + left → other j ≡ blocked j) → open_to other left k ≡ open_to blocked left k
  unfolding open_to
  open_same other zero k f = refl
  open_same other (suc left) k f =
      rw (f k (omega arith) (omega arith), open_same other left (suc k) (λ (j : ℕ) (h : suc k ≤ j) (l : j < suc k + left). f j (omega arith) (omega arith)))

-- ---- a block's end

module _ (blocked : ℕ → Bool) (block last k : ℕ) where
  -- it is not after the span's last boundary, nor more than `block` boundaries away
  pub end_within_lem : k < last → (block_end blocked block last k ≤ last) × (block_end blocked block last k ≤ k + block)
  unfolding block_end
  end_within_lem h = let p = open_within blocked (min (k + block) last - k) k in (omega arith, omega arith)

  -- it is not before the block's start
  pub end-from : k ≤ block_end blocked block last k
  unfolding block_end
  end-from = (open_within blocked (min (k + block) last - k) k).0

  -- a block has a boundary at least
  pub end_after_lem : 1 ≤ block → k < last → blocked k ≡ false → k < block_end blocked block last k
  unfolding block_end
  end_after_lem s h e = go (min (k + block) last - k) (omega arith)
    where
      go : (left : ℕ) → 0 < left → k < open_to blocked left k
      go zero l = absurd (omega arith)
      go (suc left) l = rw (open_pass blocked left k e) (open_within blocked left (suc k)).0

  -- and all of its boundaries are open
  pub end_open : (j : ℕ) → k ≤ j → j < block_end blocked block last k → blocked j ≡ false
  unfolding block_end
  end_open j h l = open_before blocked (min (k + block) last - k) k j h l

  -- only what is blocked from the block's start to the span's last boundary matters
  pub end_same : (other : ℕ → Bool) → ((j : ℕ) → k ≤ j → j < last → other j ≡ blocked j) → block_end other block last k ≡ block_end blocked block last k
  unfolding block_end
  end_same other f = open_same blocked other (min (k + block) last - k) k (λ (j : ℕ) (h : k ≤ j) (l : j < k + (min (k + block) last - k)). f j h (omega arith))

-- a walk from boundary k on starts a block at boundary j
pub data StartsAt (blocked : ℕ → Bool) (block last : ℕ) : ℕ → ℕ → Type 0 where
  here : {k j : ℕ} → k < last → blocked k ≡ false → j ≡ k → StartsAt blocked block last k j
  past : {k j : ℕ} → k < last → blocked k ≡ true → StartsAt blocked block last (suc k) j → StartsAt blocked block last k j
  next : {k j : ℕ} → k < last → blocked k ≡ false → StartsAt blocked block last (block_end blocked block last k) j → StartsAt blocked block last k j

module _ {blocked : ℕ → Bool} {block last : ℕ} where
  -- before the span's last boundary
  pub starts_inside : {k j : ℕ} → StartsAt blocked block last k j → j < last
  starts_inside (here h e p) = omega arith
  starts_inside (past h e s) = starts_inside s
  starts_inside (next h e s) = starts_inside s

  -- at an open one
  pub starts_open : {k j : ℕ} → StartsAt blocked block last k j → blocked j ≡ false
  starts_open (here h e p) = rw p e
  starts_open (past h e s) = starts_open s
  starts_open (next h e s) = starts_open s

  module _ (some : 1 ≤ block) where
    -- not before the walk
    pub starts_from : {k j : ℕ} → StartsAt blocked block last k j → k ≤ j
    starts_from (here h e p) = omega arith
    starts_from (past h e s) = omega (arith, starts_from s)
    starts_from {k = k} (next h e s) = omega (arith, starts_from s, end_after_lem blocked block last k some h e)

    -- a block ends before a later one starts
    pub starts_apart : {k i j : ℕ} → StartsAt blocked block last k i → StartsAt blocked block last k j → i < j → block_end blocked block last i ≤ j
    starts_apart (here h e p) (here g f q) l = absurd (omega arith)
    starts_apart (here h e p) (past g f t) l = absurd (not_both f e)
    starts_apart (here h e p) (next g f t) l = rw p (starts_from t)
    starts_apart (past h e s) (here g f q) l = absurd (not_both e f)
    starts_apart (past h e s) (past g f t) l = starts_apart s t l
    starts_apart (past h e s) (next g f t) l = absurd (not_both e f)
    starts_apart {k = k} (next h e s) (here g f q) l = absurd (omega (arith, starts_from s, end_after_lem blocked block last k some h e))
    starts_apart (next h e s) (past g f t) l = absurd (not_both f e)
    starts_apart (next h e s) (next g f t) l = starts_apart s t l
