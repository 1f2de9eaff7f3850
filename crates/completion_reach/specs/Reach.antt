-- Document 01's "reach": "the least limit, at or above the maximum, for which a division of the span has at most min(N, kept frames) pieces and none longer than that limit".
-- It is a number with no second case: one limit after another is tried, from the maximum up, and this cannot run out. A limit as long as the span divides it, into one piece
-- (document 02's S-8; `span_feasible` of division/specs/ReachLaws), and a piece at least is asked for: a count of 0 is refused by 8 before any reach is sought.
use Rattle.std.specs.Prelude.{cond, ℕ, zero, suc, ◌-◌}
use Rattle.grid.specs.declared.boundary.FrameGrid.{FrameGrid}
use Rattle.candidate_span.specs.Span.{Span}
use Rattle.division.specs.Divisions.{is_feasible}
use Rattle.division.specs.Reach.{span_length}

-- the least limit from `limit` on that a division keeps: n of them are tried, and the one behind these needs no trial where it is known to be kept
unfoldable pub least_limit_from : FrameGrid → Span → ℕ → ℕ → ℕ → ℕ
least_limit_from g s count limit zero = limit
least_limit_from g s count limit (suc n) = cond (is_feasible g s count limit) limit (least_limit_from g s count (suc limit) n)

-- document 01's "reach", where N is `count`. The limit that needs no trial is the longer of the span and the maximum: one piece keeps it
unfoldable pub reach_of : FrameGrid → Span → ℕ → ℕ → ℕ
reach_of g s count maximum = least_limit_from g s count maximum (span_length g s - maximum)
