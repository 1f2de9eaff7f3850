-- Lengths grow with the end of a piece, so a search by halves finds the last boundary within the limit.
use Rattle.std.specs.Prelude.{◌≡◌, refl, Bool, true, false, cond, ℕ, zero, suc, ◌+◌, ◌-◌, ◌≤◌, ◌<◌, leb}
use Rattle.std.proofs.Common.{subst, inl, inr, arith, leb-true, leb-false}
use Rattle.base_laws.specs.Tests.{lt_or_le}
use Rattle.grid.specs.BoundaryLaws.{Accepted, boundary_mono}
use Rattle.grid.specs.declared.boundary.FrameGrid.{FrameGrid}
use Rattle.division.specs.Pieces.{piece_from, length_of}
use Rattle.completion_reach.specs.Reachable.{reachable_in, reachable_of}

-- k is the last of the n boundaries after a within the limit, or a itself
pub record Reached (g : FrameGrid) (limit a n k : ℕ) : Type 0 where
  pub low : a ≤ k
  pub high : k ≤ a + n
  pub within : length_of g (piece_from a k) ≤ limit
  pub beyond : (j : ℕ) → k < j → j ≤ a + n → limit < length_of g (piece_from a j)

-- what `reachable_in` gives is so
pub reached : (g : FrameGrid) (limit a n : ℕ) → Reached g limit a n (reachable_in g limit a n)
unfolding reachable_in
reached g limit a zero = record { low = omega arith; high = omega arith; within = omega arith; beyond = λ (j : ℕ) (h : a < j) (l : j ≤ a + 0). absurd (omega arith) }
reached g limit a (suc n) =
    go (leb (length_of g (piece_from a (a + suc n))) limit) (leb-true (length_of g (piece_from a (a + suc n))) limit) (leb-false (length_of g (piece_from a (a + suc n))) limit)
    (reached g limit a n)
  where
    go : (b : Bool) → (b ≡ true → length_of g (piece_from a (a + suc n)) ≤ limit) → (b ≡ false → limit < length_of g (piece_from a (a + suc n)))
        → Reached g limit a n (reachable_in g limit a n) → Reached g limit a (suc n) (cond b (a + suc n) (reachable_in g limit a n))
    go true f f' r = record { low = omega arith; high = omega arith; within = f refl; beyond = λ (j : ℕ) (h : a + suc n < j) (l : j ≤ a + suc n). absurd (omega arith) }
    go false f f' r = record { low = r.low; high = omega (arith, r.high); within = r.within; beyond = beyond }
      where
        beyond : (j : ℕ) → reachable_in g limit a n < j → j ≤ a + suc n → limit < length_of g (piece_from a j)
        beyond j h l = elim (lt_or_le (a + n) j) [
          | inl q ↦
              let e : a + suc n ≡ j = omega arith in
              subst (λ (i : ℕ). limit < length_of g (piece_from a i)) e (f' refl)
          | inr q ↦ r.beyond j h q
        ]

-- there is only one
pub reached-one : (g : FrameGrid) (limit a n j k : ℕ) → Reached g limit a n j → Reached g limit a n k → j ≡ k
reached-one g limit a n j k r t = elim (lt_or_le j k) [
  | inl h ↦ absurd (omega (arith, r.beyond k h t.high, t.within))
  | inr h ↦ elim (lt_or_le k j) [ inl l ↦ absurd (omega (arith, t.beyond j l r.high, r.within)) | inr l ↦ omega arith ]
]

-- ---- the search

-- `low` is within the limit, and what lies above both `low` and `high` is not
pub record Halving (g : FrameGrid) (limit a z low high : ℕ) : Type 0 where
  pub from : a ≤ low
  pub under : low ≤ a + (z - a)
  pub most : high ≤ a + (z - a)
  pub within : length_of g (piece_from a low) ≤ limit
  pub beyond : (j : ℕ) → low < j → high < j → j ≤ a + (z - a) → limit < length_of g (piece_from a j)

module _ (g : FrameGrid) (limit a z : ℕ) where
  module _ (low high middle : ℕ) (s : Halving g limit a z low high) (above : low < middle) (upto : middle ≤ high) where
    -- the middle is within the limit: the search goes on from it
    pub halving_up : length_of g (piece_from a middle) ≤ limit → Halving g limit a z middle high
    halving_up w =
        record {
          from = omega (arith, s.from);
          under = omega (arith, s.most);
          most = s.most;
          within = w;
          beyond = λ (j : ℕ) (h : middle < j) (l : high < j) (m : j ≤ a + (z - a)). s.beyond j (omega arith) l m;
        }

    -- the middle is beyond it: the search ends before it
    pub halving_down : Accepted g → limit < length_of g (piece_from a middle) → Halving g limit a z low (middle - 1)
    halving_down ok w =
        record {
          from = s.from;
          under = s.under;
          most = omega (arith, s.most);
          within = s.within;
          beyond = λ (j : ℕ) (h : low < j) (l : middle - 1 < j) (m : j ≤ a + (z - a)). omega (arith, w, boundary_mono g ok middle j (omega arith));
        }

  -- where nothing is left between, `low` is as far as a piece reaches
  pub halving_done : (low high : ℕ) → Halving g limit a z low high → high ≤ low → low ≡ reachable_of g limit a z
  halving_done low high s h =
      reached-one g limit a (z - a) low (reachable_of g limit a z)
      (record { low = s.from; high = s.under; within = s.within; beyond = λ (j : ℕ) (l : low < j) (m : j ≤ a + (z - a)). s.beyond j l (omega arith) m })
      (reached g limit a (z - a))
