-- A limit above a feasible one is feasible, and the greedy division tells whether a limit is: so the feasible limits from the maximum up have a least one, if there is any.
-- There is: a limit as long as the span is feasible, since one piece is a division and a piece at least is asked for.
use Rattle.std.specs.Prelude.{◌≡◌, ℕ, ◌≤◌, ◌<◌}
use Rattle.std.proofs.Common.{arith}
use mathlib.Core.List.Memᴰ
use mathlib.Core.List.{[], Memᴰ}
use Rattle.grid.specs.declared.boundary.FrameGrid.{FrameGrid}
use Rattle.candidate_span.specs.Gaps.{Cut, Spread}
use Rattle.candidate_span.specs.GapsLaws.{spread_ends}
use Rattle.candidate_span.specs.KeptLaws.{spread_some}
use Rattle.candidate_span.specs.Span.{Span}
use Rattle.division.specs.Division.{pieces_asked}
use Rattle.division.specs.Reach.{Feasible, IsReach, span_length}

-- a limit above a feasible one is feasible
pub feasible_above : (g : FrameGrid) (s : Span) (count l m : ℕ) → l ≤ m → Feasible g s count l → Feasible g s count m
feasible_above g s count l m h f = record { cuts = f.cuts; divides = f.divides; few = f.few; within = omega (arith, h, f.within) }

-- there is one reach at most
pub reach-one : (g : FrameGrid) (s : Span) (count maximum l m : ℕ) → IsReach g s count maximum l → IsReach g s count maximum m → l ≡ m
reach-one g s count maximum l m r t = omega (arith, r.least m t.above t.feasible, t.least l r.above r.feasible)

-- the maximum is the reach where it is feasible itself
pub reach-maximum : (g : FrameGrid) (s : Span) (count maximum : ℕ) → Feasible g s count maximum → IsReach g s count maximum maximum
reach-maximum g s count maximum f = record { above = omega arith; feasible = f; least = λ l h e. h }

-- a piece at least is asked for: a span that is not empty keeps a frame (`spread_some`)
pub asked_some : (s : Span) → Spread s.first s.gaps s.last → (count : ℕ) → 0 < count → 0 < pieces_asked s count
asked_some s spread count some = omega (arith, some, spread_some s.first s.gaps s.last spread)

-- document 02: "A limit as long as the whole span always divides it, into one piece."
pub span_feasible : (g : FrameGrid) (s : Span) → Spread s.first s.gaps s.last → (count : ℕ) → 0 < count → (limit : ℕ) → span_length g s ≤ limit → Feasible g s count limit
span_feasible g s spread count some limit h = record {
  cuts = [];
  divides = record { rises = spread_ends s.first s.gaps s.last spread; placed = λ (k : Cut) (m : Memᴰ k []). absurd (Memᴰ.not-nil m) };
  few = omega (arith, asked_some s spread count some);
  within = omega (arith, h);
}
