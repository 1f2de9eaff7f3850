-- Document 01: "By length, points are added until neighbouring candidates are within the maximum or one frame apart." One step from a candidate to its neighbour.
use Rattle.std.specs.Prelude.{cond, List, [], ◌∷◌, ℕ, zero, suc, ◌+◌, ◌-◌, max, ltb, eqb}
use Rattle.grid.specs.declared.boundary.FrameGrid.{FrameGrid}
use Rattle.candidate_span.specs.Gaps.{Cut}
use Rattle.division.specs.Pieces.{piece_from, length_of}
use Rattle.division.specs.Places.{cut_at}
use Rattle.completion_reach.specs.Reachable.{reachable_of}

-- the boundary that a piece from a can reach on the way to z, a frame on at least: a frame longer than the limit cannot be split
abbrev pub on_to : FrameGrid → ℕ → ℕ → ℕ → ℕ
on_to g limit z a = max (reachable_of g limit a z) (a + 1)

-- the points between boundary a and boundary z, n at most
unfoldable pub bridge_from : FrameGrid → ℕ → ℕ → ℕ → ℕ → List Cut
bridge_from g limit z zero a = []
bridge_from g limit z (suc n) a =
    cond (ltb limit (length_of g (piece_from a z)))
    (cond (eqb (on_to g limit z a) z) [] (cut_at (on_to g limit z a) ∷ bridge_from g limit z n (on_to g limit z a)))
    []

-- the points that are added between a candidate that ends at boundary a and the next, which starts at boundary z
abbrev pub bridge_of : FrameGrid → ℕ → ℕ → ℕ → List Cut
bridge_of g limit a z = bridge_from g limit z (z - a) a
