-- The least level of neighbouring boundaries is at most each of them, and from 0 to 1 where they are: a boundary more can only lower it.
use Rattle.std.specs.Prelude.{◌≡◌, false, List, [], ◌∷◌, ◌++◌, T, Float, length, take, drop, get_or}
use Rattle.std.specs.List.{fold}
use Rattle.std.proofs.Math.Path.{refl, ap, subst}
use Rattle.std.proofs.Common.{◌∙◌, inl, inr, le_refl, drop-cons}
use Rattle.std.proofs.lemmas.Grind.{fold-append}
use Prim.Native.Nat.{ℕ, zero, suc, ◌+◌, ◌-◌, ◌≤◌, ◌<◌}
use native.Mathlib.Omega.{arith}
use Rattle.std.specs.Float.{nan, inf}
use Rattle.std.specs.Float.Ieee.{le}
use Rattle.base_terms.specs.Floats.{nonneg, min_of}
use Rattle.base_laws.specs.Tests.{lt_or_le}
use Rattle.base_laws.specs.Order.{float_le_trans}
use Rattle.base_laws.specs.Nonneg.{nonneg-number}
use Rattle.base_laws.specs.Clamp.{min-one, min_below}
use Rattle.candidate_costs.specs.Normalize.{unit}
use Rattle.candidate_costs.specs.NormalizeLaws.{OnScale}
use Rattle.candidate_cuts.specs.Cut.{least_level_from, least_level}

-- ---- it is what folding the levels of the silence gives

-- the least of a and of m levels from boundary k on
least_part : (levels : List Float) (m k : ℕ) (a : Float) → k + m ≤ length levels → fold min_of a (take m (drop k levels)) ≡ least_level_from levels a k m
unfolding least_level_from
least_part levels zero k a h = refl
least_part levels (suc m) k a h =
    ap (λ (l : List Float). fold min_of a (take (suc m) l)) (drop-cons levels k nan (omega arith)) ∙ least_part levels m (suc k) (min_of a (get_or levels k nan)) (omega arith)

-- of all of them
pub least_folds : (levels : List Float) (start end : ℕ) → start ≤ end → end < length levels → fold min_of (inf false) (take (end + 1 - start) (drop start levels)) ≡ least_level levels start end
unfolding least_level
least_folds levels start end h l = least_part levels (end + 1 - start) start (inf false) (omega arith)

-- one level more
pub least_step : (ys : List Float) (a x b : Float) → a ≡ fold min_of (inf false) ys → b ≡ min_of a x → b ≡ fold min_of (inf false) (ys ++ (x ∷ []))
least_step ys a x b e q = rw (fold-append min_of (inf false) ys (x ∷ []), ← e) q

-- ---- what it is

module _ (levels : List Float) (start end : ℕ) (order : start ≤ end) (scale : (k : ℕ) → k ≤ end → OnScale (get_or levels k nan)) where
  -- not negative, and at most the levels before boundary j
  abbrev Least : Float → ℕ → Type 0
  Least a j = T (nonneg a) × ((i : ℕ) → start ≤ i → i < j → T (le a (get_or levels i nan)))

  least_next : (a : Float) (j : ℕ) → j ≤ end → Least a j → Least (min_of a (get_or levels j nan)) (suc j)
  least_next a j h p =
      let x = get_or levels j nan in
      let s = scale j h in
      let b = min_below a x (nonneg-number a p.0) (nonneg-number x s.low) in (
        elim (min-one a x) [ inl e ↦ rw e p.0 | inr e ↦ rw e s.low ],
        λ i l m. elim (lt_or_le i j) [
          | inl q ↦ float_le_trans (min_of a x) a (get_or levels i nan) b.0 (p.1 i l q)
          | inr q ↦ let e : i ≡ j = omega arith in rw e b.1
        ],
      )

  least_from : (m k : ℕ) (a : Float) → k + m ≡ end + 1 → Least a k → Least (least_level_from levels a k m) (end + 1)
  unfolding least_level_from
  least_from zero k a e p = let s : k ≡ end + 1 = omega arith in subst (Least a) s p
  least_from (suc m) k a e p = least_from m (suc k) (min_of a (get_or levels k nan)) (omega arith) (least_next a k (omega arith) p)

  least_all : Least (least_level levels start end) (end + 1)
  unfolding least_level le
  least_all = least_from (end + 1 - start) start (inf false) (omega arith) (tt, λ i l m. absurd (omega arith))

  -- the least level is at most each of them
  pub least_below : (k : ℕ) → start ≤ k → k ≤ end → T (le (least_level levels start end) (get_or levels k nan))
  least_below k l h = least_all.1 k l (omega arith)

  -- and from 0 to 1
  pub least_within : OnScale (least_level levels start end)
  least_within =
      record {
        low = least_all.0;
        high = float_le_trans (least_level levels start end) (get_or levels start nan) unit (least_below start (le_refl start) order) (scale start order).high;
      }
