-- The pieces of a division, and their lengths: document 01's "At a chosen gap one piece ends at its left end and the next starts at its right end; a gap not chosen
-- stays inside its piece. A piece's length is its end less its start, and a single frame is a piece from one boundary to the next."
use Rattle.std.specs.Prelude.{◌≡◌, cond, List, [], ◌∷◌, ℕ, suc, ◌+◌, ◌-◌, ◌≤◌, ◌<◌, max, ltb}
use Rattle.grid.specs.Boundary.{boundary_of}
use Rattle.grid.specs.declared.boundary.FrameGrid.{FrameGrid}
use Rattle.candidate_span.specs.Gaps.{Cut}
use Rattle.candidate_span.specs.Span.{Span}

-- a piece, from one boundary to another
pub record Piece : Type 0 where
  pub start : ℕ
  pub end : ℕ

-- the piece from boundary a to boundary z
abbrev pub piece_from : ℕ → ℕ → Piece
piece_from a z = record { start = a; end = z }

-- the pieces from boundary a to boundary z
abbrev pub pieces_from : ℕ → List Cut → ℕ → List Piece
pieces_from a [] z = piece_from a z ∷ []
pieces_from a (k ∷ ks) z = piece_from a k.left ∷ pieces_from k.right ks z

-- the pieces of a division
abbrev pub pieces_of : Span → List Cut → List Piece
pieces_of s cuts = pieces_from s.first cuts s.last

-- document 01's "single frame"
abbrev pub IsSingle : Piece → Type 0
IsSingle p = p.end ≡ suc p.start

-- ---- in samples

-- document 01: "A piece's length is its end less its start"
abbrev pub length_of : FrameGrid → Piece → ℕ
length_of g p = boundary_of g p.end - boundary_of g p.start

-- the length of the longest piece
abbrev pub longest : FrameGrid → List Piece → ℕ
longest g [] = 0
longest g (p ∷ ps) = max (length_of g p) (longest g ps)

-- how many pieces are longer than the limit
abbrev pub overs : FrameGrid → ℕ → List Piece → ℕ
overs g limit [] = 0
overs g limit (p ∷ ps) = cond (ltb limit (length_of g p)) 1 0 + overs g limit ps

-- the pieces' lengths together
abbrev pub total : FrameGrid → List Piece → ℕ
total g [] = 0
total g (p ∷ ps) = length_of g p + total g ps

-- what lies between the pieces: each chosen gap
abbrev pub between : FrameGrid → List Cut → ℕ
between g [] = 0
between g (k ∷ ks) = (boundary_of g k.right - boundary_of g k.left) + between g ks

-- pieces in order: each starts below its end, and at or after the end of the one before
abbrev pub InOrder : FrameGrid → List Piece → Type 0
InOrder g [] = Unit {0}
InOrder g (p ∷ []) = boundary_of g p.start < boundary_of g p.end
InOrder g (p ∷ (q ∷ ps)) = (boundary_of g p.start < boundary_of g p.end) × (boundary_of g p.end ≤ boundary_of g q.start) × InOrder g (q ∷ ps)
