-- One step of the division that goes as far as it can, as the Rust's `count_path` takes it.
use Rattle.std.specs.Prelude.{cond, ℕ, eqb}
use Rattle.grid.specs.declared.boundary.FrameGrid.{FrameGrid}
use Rattle.candidate_span.specs.Gaps.{Cut}
use Rattle.candidate_span.specs.Span.{Span}
use Rattle.completion_reach.specs.declared.next.Next.{Next}
use Rattle.completion_reach.specs.declared.next.Next.TheVariants.{Whole, Stuck, To}
use Rattle.completion_reach.specs.Reachable.{reachable_of}
use Rattle.completion_reach.specs.Place.{place_at, held_cut}

-- the piece ends at a cut
abbrev pub to_cut : Cut → Next
to_cut k = To (held_cut k)

-- from boundary a, where a piece reaches boundary k
unfoldable pub next_at : Span → ℕ → ℕ → Next
next_at s a k = cond (eqb k s.last) Whole (cond (eqb k a) Stuck (to_cut (place_at s.gaps k)))

-- the step from boundary a
abbrev pub next_cut_of : FrameGrid → Span → ℕ → ℕ → Next
next_cut_of g s limit a = next_at s a (reachable_of g limit a s.last)
