-- Whether the division that goes as far as it can at each step has few enough pieces.
use Rattle.std.specs.Prelude.{Bool, true, false, ℕ, zero, suc}
use Rattle.grid.specs.declared.boundary.FrameGrid.{FrameGrid}
use Rattle.candidate_span.specs.Span.{Span}
use Rattle.completion_reach.specs.declared.next.Next.{Next}
use Rattle.completion_reach.specs.declared.next.Next.TheVariants.{Whole, Stuck, To}
use Rattle.completion_reach.specs.Next.{next_cut_of}

-- whether a step leads to the end, given whether what starts at a boundary does
abbrev pub onward : Next → (ℕ → Bool) → Bool
onward Whole f = true
onward Stuck f = false
onward (To c) f = f c.right

-- whether it has n pieces at most from boundary a on
unfoldable pub fits_from : FrameGrid → Span → ℕ → ℕ → ℕ → Bool
fits_from g s limit zero a = false
fits_from g s limit (suc n) a = onward (next_cut_of g s limit a) (fits_from g s limit n)

-- whether it has n pieces at most
abbrev pub fits_of : FrameGrid → Span → ℕ → ℕ → Bool
fits_of g s limit n = fits_from g s limit n s.first
