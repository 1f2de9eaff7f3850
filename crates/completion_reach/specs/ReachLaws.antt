-- A limit as long as the span is feasible, and limits above a feasible one are: so the reach is found there or below, one limit after another or by halves.
use Rattle.std.specs.Prelude.{◌≡◌, Bool, true, cond}
use Rattle.std.proofs.Math.Path.{refl}
use Rattle.std.proofs.Common.{sym, ◌∙◌, arith}
use Rattle.std.proofs.Math.Logic.{inl, inr}
use Rattle.std.proofs.Math.Bool.{false}
use Prim.Native.Nat.{ℕ, zero, suc, ◌+◌, ◌-◌, ◌≤◌, ◌<◌}
use Rattle.base_laws.specs.Tests.{lt_or_le, unmet}
use Rattle.grid.specs.declared.boundary.FrameGrid.{FrameGrid}
use Rattle.candidate_span.specs.Gaps.{Spread}
use Rattle.candidate_span.specs.Span.{Span}
use Rattle.division.specs.Divisions.{is_feasible}
use Rattle.division.specs.DivisionsLaws.{feasible_true, true_feasible}
use Rattle.division.specs.Reach.{Feasible, IsReach, span_length}
use Rattle.division.specs.ReachLaws.{feasible_above, reach-one, span_feasible}
use Rattle.completion_reach.specs.Reach.{least_limit_from, reach_of}

-- ---- the search by halves

-- the reach lies above `low`, which is too low, and at `high`, which is enough, or below
pub record Bracket (g : FrameGrid) (s : Span) (count maximum low high : ℕ) : Type 0 where
  -- both are at or above the maximum, in order
  pub above : maximum ≤ low
  pub order : low < high
  -- the lower one is too low
  pub under : Feasible g s count low → ⊥
  -- and the upper one enough
  pub enough : Feasible g s count high

module _ (g : FrameGrid) (s : Span) (count maximum : ℕ) where
  -- between the maximum, which is too low, and a limit that is enough
  pub bracket_start : (enough : ℕ) → (Feasible g s count maximum → ⊥) → Feasible g s count enough → Bracket g s count maximum maximum enough
  bracket_start enough never f = record { above = omega arith; order = order; under = never; enough = f }
    where
      order : maximum < enough
      order = elim (lt_or_le maximum enough) [ inl h ↦ h | inr h ↦ absurd (never (feasible_above g s count enough maximum h f)) ]

  module _ (low high middle : ℕ) (b : Bracket g s count maximum low high) (from : low < middle) (below : middle < high) where
    -- the middle is enough: the reach is no higher
    pub bracket_down : Feasible g s count middle → Bracket g s count maximum low middle
    bracket_down f = record { above = b.above; order = from; under = b.under; enough = f }

    -- the middle is too low: the reach is above it
    pub bracket_up : (Feasible g s count middle → ⊥) → Bracket g s count maximum middle high
    bracket_up never = record { above = omega (arith, b.above); order = below; under = never; enough = b.enough }

  -- where no limit lies between the two, the upper one is the reach
  pub bracket_done : (low high : ℕ) → Bracket g s count maximum low high → high ≤ low + 1 → IsReach g s count maximum high
  bracket_done low high b h = record { above = omega (arith, b.above, b.order); feasible = b.enough; least = least }
    where
      least : (l : ℕ) → maximum ≤ l → Feasible g s count l → high ≤ l
      least l from f = elim (lt_or_le low l) [ inl m ↦ omega arith | inr m ↦ absurd (b.under (feasible_above g s count l low m f)) ]

-- ---- one limit after another

module _ (g : FrameGrid) (s : Span) (spread : Spread s.first s.gaps s.last) (count : ℕ) (some : 0 < count) (maximum : ℕ) where
  -- from `limit` on, where none below it is feasible and n limits further on is the span's length or above
  least_is : (n limit : ℕ) → maximum ≤ limit → ((l : ℕ) → maximum ≤ l → Feasible g s count l → limit ≤ l) → span_length g s ≤ limit + n
      → IsReach g s count maximum (least_limit_from g s count limit n)
  unfolding least_limit_from
  least_is zero limit from under h = record { above = from; feasible = span_feasible g s spread count some limit (omega (arith, h)); least = under }
  least_is (suc n) limit from under h = go (is_feasible g s count limit) refl (λ f. least_is n (suc limit) (omega arith) f (omega (arith, h)))
    where
      past : is_feasible g s count limit ≡ false → (l : ℕ) → maximum ≤ l → Feasible g s count l → suc limit ≤ l
      past e l k f = elim (lt_or_le limit l) [
        | inl m ↦ m
        | inr m ↦ unmet (sym e ∙ feasible_true s spread g count limit (feasible_above g s count l limit m f))
      ]

      go : (b : Bool) → is_feasible g s count limit ≡ b
          → (((l : ℕ) → maximum ≤ l → Feasible g s count l → suc limit ≤ l) → IsReach g s count maximum (least_limit_from g s count (suc limit) n))
          → IsReach g s count maximum (cond (is_feasible g s count limit) limit (least_limit_from g s count (suc limit) n))
      go true e f = rw e (record { above = from; feasible = true_feasible s spread g count limit e; least = under })
      go false e f = rw e (f (past e))

  -- what `reach_of` gives is the reach
  pub is_reach : IsReach g s count maximum (reach_of g s count maximum)
  unfolding reach_of
  is_reach = least_is (span_length g s - maximum) maximum (omega arith) (λ l h f. h) (omega arith)

  -- and where a limit is the reach, `reach_of` gives it
  pub reach_of_lem : (l : ℕ) → IsReach g s count maximum l → l ≡ reach_of g s count maximum
  reach_of_lem l r = reach-one g s count maximum l (reach_of g s count maximum) r is_reach
