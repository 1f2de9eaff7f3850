-- The quietest boundary is at most as loud as each, and quieter than each before it: a boundary gives way only to a quieter one, and only that one can be the first.
use Rattle.std.specs.Prelude.{◌≡◌, Bool, true, not, cond, List, Float, get_or}
use Rattle.std.proofs.Math.Path.{refl, sym, subst}
use Rattle.std.proofs.Common.{◌∙◌, le_antisymm, T_not}
use Rattle.std.proofs.Math.Logic.{inl, inr}
use Rattle.std.proofs.Math.Bool.{false}
use Prim.Native.Nat.{ℕ, zero, suc, ◌+◌, ◌-◌, ◌≤◌, ◌<◌}
use Rattle.std.proofs.Math.Numerals.{add-one}
use native.Mathlib.Omega.{arith}
use Rattle.std.proofs.Math.Dec.{T}
use Rattle.std.specs.Float.{nan}
use Rattle.std.specs.Float.Ieee.{le, lt, is_nan}
use Rattle.base_laws.specs.Tests.{lt_or_le, holds, tested}
use Rattle.base_laws.specs.Order.{float_le_refl, float_lt-le, float_lt_is, float_le_not_lt, float_lt-le_trans}
use Rattle.candidate_costs.specs.Quietest.{quieter, quietest_in, quietest_of}

module _ (levels : List Float) where
  quiet_within : (from left b k : ℕ) → from ≤ b → b < k → (from ≤ quietest_in levels left b k) × (quietest_in levels left b k < k + left)
  unfolding quietest_in quieter
  quiet_within from zero b k h l = (h, omega arith)
  quiet_within from (suc left) b k h l = elim (tested (le (get_or levels b nan) (get_or levels k nan))) [
    | inl t ↦ let p = quiet_within from left b (suc k) h (omega arith) in rw t (p.0, omega (arith, p.1))
    | inr t ↦ let p = quiet_within from left k (suc k) (omega arith) (omega arith) in rw t (p.0, omega (arith, p.1))
  ]

  -- it is one of them
  pub quietest_within : (from to : ℕ) → from < to → (from ≤ quietest_of levels from to) × (quietest_of levels from to < to)
  unfolding quietest_of
  quietest_within from to h = let p = quiet_within from (to - suc from) from (suc from) (omega arith) (omega arith) in (omega arith, omega arith)

  -- boundary q is at most as loud as each of from..to, and quieter than each before it
  pub record Quietest (from to q : ℕ) : Type 0 where
    pub within : (from ≤ q) × (q < to)
    pub least : (j : ℕ) → from ≤ j → j < to → T (le (get_or levels q nan) (get_or levels j nan))
    pub earliest : (j : ℕ) → from ≤ j → j < q → T (lt (get_or levels q nan) (get_or levels j nan))

  module _ (from to : ℕ) (numbers : (k : ℕ) → from ≤ k → k < to → T (not (is_nan (get_or levels k nan)))) where
    one : from < to → Quietest from (suc from) from
    one h =
        let same : (j : ℕ) → j ≡ from → T (le (get_or levels from nan) (get_or levels j nan)) = λ j e. rw e (float_le_refl (get_or levels from nan) (numbers from (omega arith) h)) in
        record {
          within = (omega arith, omega arith);
          least = λ (j : ℕ) (a : from ≤ j) (b : j < suc from). same j (omega arith);
          earliest = λ (j : ℕ) (a : from ≤ j) (b : j < from). absurd (omega arith);
        }

    step : (b k : ℕ) → k < to → Quietest from k b → Quietest from (suc k) (quieter levels b k)
    unfolding quieter
    step b k h q = go (le (get_or levels b nan) (get_or levels k nan)) refl
      where
        lower : le (get_or levels b nan) (get_or levels k nan) ≡ false → T (lt (get_or levels k nan) (get_or levels b nan))
        lower e = rw (float_lt_is (get_or levels k nan) (get_or levels b nan) (numbers k (omega (arith, q.within)) h) (numbers b q.within.0 (omega (arith, q.within))), e) tt

        go : (t : Bool) → le (get_or levels b nan) (get_or levels k nan) ≡ t → Quietest from (suc k) (cond t b k)
        go true e =
            let at : (j : ℕ) → j ≡ k → T (le (get_or levels b nan) (get_or levels j nan)) = λ j s. rw s (holds e) in
            record {
              within = (q.within.0, omega (arith, q.within));
              least = λ (j : ℕ) (a : from ≤ j) (l : j < suc k). elim (lt_or_le j k) [
                | inl m ↦ q.least j a m
                | inr m ↦ at j (omega arith)
              ];
              earliest = q.earliest;
            }
        go false e =
            let below : (j : ℕ) → from ≤ j → j < k → T (lt (get_or levels k nan) (get_or levels j nan)) =
            λ j a m. float_lt-le_trans (get_or levels k nan) (get_or levels b nan) (get_or levels j nan) (lower e) (q.least j a m) in
            let at : (j : ℕ) → j ≡ k → T (le (get_or levels k nan) (get_or levels j nan)) = λ j s. rw s (float_le_refl (get_or levels k nan) (numbers k (omega (arith, q.within)) h)) in
            record {
              within = (omega (arith, q.within), omega arith);
              least = λ (j : ℕ) (a : from ≤ j) (l : j < suc k). elim (lt_or_le j k) [
                | inl m ↦ float_lt-le (get_or levels k nan) (get_or levels j nan) (below j a m)
                | inr m ↦ at j (omega arith)
              ];
              earliest = below;
            }

    steps : (left b k : ℕ) → k + left ≡ to → Quietest from k b → Quietest from to (quietest_in levels left b k)
    unfolding quietest_in
    steps zero b k e q = let s : k ≡ to = omega arith in subst (λ (m : ℕ). Quietest from m b) s q
    steps (suc left) b k e q = steps left (quieter levels b k) (suc k) (omega arith) (step b k (omega arith) q)

    -- the quietest boundary is one, the first of equals
    pub quietest_is : from < to → Quietest from to (quietest_of levels from to)
    unfolding quietest_of
    quietest_is h = steps (to - suc from) from (suc from) (omega arith) (one h)

-- there is only one
pub quietest_only : (levels : List Float) (from to q r : ℕ) → Quietest levels from to q → Quietest levels from to r → q ≡ r
quietest_only levels from to q r a b = le_antisymm (not_after q r a b) (not_after r q b a)
  where
    not_after : (i j : ℕ) → Quietest levels from to i → Quietest levels from to j → i ≤ j
    not_after i j c d = elim (lt_or_le j i) [
      | inl h ↦
          absurd (T_not (lt (get_or levels i nan) (get_or levels j nan))
          (float_le_not_lt (get_or levels i nan) (get_or levels j nan) (d.least i c.within.0 c.within.1)) (c.earliest j d.within.0 h))
      | inr h ↦ h
    ]

-- ---- while it is sought

-- best is the quietest boundary of those before k
pub record Seeking (levels : List Float) (from to best k : ℕ) : Type 0 where
  pub within : k ≤ to
  pub below : best < k
  pub left : quietest_in levels (to - k) best k ≡ quietest_of levels from to

module _ (levels : List Float) (from to : ℕ) where
  -- of one boundary that one is the quietest
  pub seeking_start : from < to → Seeking levels from to from (from + 1)
  seeking_start h = record { within = omega arith; below = omega arith; left = unfold quietest_of in rw add-one }

  lesser : (t : Bool) (b k : ℕ) → b < k → cond t b k < k + 1
  lesser true b k h = omega arith
  lesser false b k h = omega arith

  module _ (best k : ℕ) (w : Seeking levels from to best k) where
    -- one boundary more: the quieter of the two goes on
    pub seeking_next : (r : ℕ) → k < to → r ≡ quieter levels best k → Seeking levels from to r (k + 1)
    unfolding quieter
    seeking_next r h e =
        let more : to - k ≡ suc (to - suc k) = omega arith in
        let moved : quietest_in levels (to - suc k) r (suc k) ≡ quietest_in levels (to - k) best k = rw more (unfold quietest_in in unfold quieter in rw e) in
        record { within = omega arith; below = rw e (lesser (le (get_or levels best nan) (get_or levels k nan)) best k w.below); left = rw add-one (moved ∙ w.left) }

    -- after the last one it is the quietest of all
    pub seeking_done : to ≤ k → best ≡ quietest_of levels from to
    seeking_done h =
        let whole : (left : ℕ) → left ≡ 0 → quietest_in levels left best k ≡ best = λ left e. unfold quietest_in in rw e in
        sym (whole (to - k) (omega arith)) ∙ w.left
