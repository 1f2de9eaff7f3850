-- How far a piece can reach: the Rust's `reachable`, "last frame boundary .. within max original samples".
use Rattle.std.specs.Prelude.{cond, ℕ, zero, suc, ◌+◌, ◌-◌, leb}
use Rattle.grid.specs.declared.boundary.FrameGrid.{FrameGrid}
use Rattle.division.specs.Pieces.{piece_from, length_of}

-- the last of the n boundaries after a that a piece from a reaches within the limit, or a itself
unfoldable pub reachable_in : FrameGrid → ℕ → ℕ → ℕ → ℕ
reachable_in g limit a zero = a
reachable_in g limit a (suc n) = cond (leb (length_of g (piece_from a (a + suc n))) limit) (a + suc n) (reachable_in g limit a n)

-- the last boundary from a to z that a piece from a reaches within the limit
abbrev pub reachable_of : FrameGrid → ℕ → ℕ → ℕ → ℕ
reachable_of g limit a z = reachable_in g limit a (z - a)
