-- Demand 3, of a division of a span: what the planner owes by count and by length. `count` is document 01's N.
use Rattle.std.specs.Prelude.{◌≡◌, ℕ, ◌≤◌, ◌<◌, length}
use mathlib.Core.List.{List, Memᴰ}
use Rattle.grid.specs.declared.boundary.FrameGrid.{FrameGrid}
use Rattle.candidate_span.specs.Gaps.{Cut}
use Rattle.candidate_span.specs.Span.{Span}
use Rattle.division.specs.Division.{pieces_asked, Division}
use Rattle.division.specs.Pieces.{Piece, pieces_of, IsSingle, length_of, longest}

-- one of the pieces is n samples long at least
abbrev pub HasPiece : FrameGrid → ℕ → List Piece → Type 0
HasPiece g n ps = (p : Piece) × Memᴰ p ps × (n ≤ length_of g p)

-- demand 3 by count: a division into exactly N pieces, or one for each kept frame if those are fewer;
-- if one of its pieces exceeds the maximum, every division of the span into at most that many pieces has a piece at least as long as its longest
pub record DemandByCount (g : FrameGrid) (s : Span) (count maximum : ℕ) (cuts : List Cut) : Type 0 where
  pub divides : Division s cuts
  pub number : length (pieces_of s cuts) ≡ pieces_asked s count
  pub least : (p : Piece) → Memᴰ p (pieces_of s cuts) → maximum < length_of g p
      → (others : List Cut) → Division s others → length (pieces_of s others) ≤ pieces_asked s count
      → HasPiece g (longest g (pieces_of s cuts)) (pieces_of s others)

-- demand 3 by length: a division of which every piece over the maximum is a single frame
pub record DemandByLength (g : FrameGrid) (s : Span) (maximum : ℕ) (cuts : List Cut) : Type 0 where
  pub divides : Division s cuts
  pub single : (p : Piece) → Memᴰ p (pieces_of s cuts) → maximum < length_of g p → IsSingle p
