-- The candidates with the points that are added by length, in order.
use Rattle.std.specs.Prelude.{List, [], ◌∷◌, ◌++◌, ℕ}
use Rattle.grid.specs.declared.boundary.FrameGrid.{FrameGrid}
use Rattle.candidate_span.specs.Gaps.{Cut}
use Rattle.candidate_span.specs.Span.{Span}
use Rattle.completion.specs.Bridge.{bridge_of}

-- from boundary a to boundary z, with candidates cs between
abbrev pub bridged_from : FrameGrid → ℕ → ℕ → List Cut → ℕ → List Cut
bridged_from g limit a [] z = bridge_of g limit a z
bridged_from g limit a (k ∷ cs) z = bridge_of g limit a k.left ++ (k ∷ bridged_from g limit k.right cs z)

-- over the span
abbrev pub bridged_in : FrameGrid → ℕ → Span → List Cut → List Cut
bridged_in g limit s cs = bridged_from g limit s.first cs s.last
