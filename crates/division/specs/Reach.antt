-- Document 01's "reach": "the least limit, at or above the maximum, for which a division of the span has at most min(N, kept frames) pieces and none longer than that limit".
use Rattle.std.specs.Prelude.{◌≡◌, List, ℕ, ◌≤◌, max, length}
use Rattle.grid.specs.declared.boundary.FrameGrid.{FrameGrid}
use Rattle.candidate_span.specs.Gaps.{Cut}
use Rattle.candidate_span.specs.Span.{Span}
use Rattle.division.specs.Division.{pieces_asked, Division}
use Rattle.division.specs.Pieces.{piece_from, pieces_of, length_of, longest}

-- a division of the span has at most min(N, kept frames) pieces, where N is `count`, and none longer than the limit
pub record Feasible (g : FrameGrid) (s : Span) (count limit : ℕ) : Type 0 where
  -- the division, by its cuts
  pub cuts : List Cut
  pub divides : Division s cuts
  -- "at most min(N, kept frames) pieces"
  pub few : length (pieces_of s cuts) ≤ pieces_asked s count
  -- "and none longer than that limit"
  pub within : longest g (pieces_of s cuts) ≤ limit

-- `limit` is the reach
pub record IsReach (g : FrameGrid) (s : Span) (count maximum limit : ℕ) : Type 0 where
  -- "at or above the maximum"
  pub above : maximum ≤ limit
  -- such a limit
  pub feasible : Feasible g s count limit
  -- "the least"
  pub least : (l : ℕ) → maximum ≤ l → Feasible g s count l → limit ≤ l

-- the length of the span, in samples
abbrev pub span_length : FrameGrid → Span → ℕ
span_length g s = length_of g (piece_from s.first s.last)

-- document 02's S-8: there is a reach, at most the longer of the span and the maximum
pub record HasReach (g : FrameGrid) (s : Span) (count maximum : ℕ) : Type 0 where
  -- the reach
  pub limit : ℕ
  pub reach : IsReach g s count maximum limit
  -- it is not above the longer of the two
  pub most : limit ≤ max (span_length g s) maximum
  -- so a maximum as long as the span, or longer, is the reach itself
  pub long : span_length g s ≤ maximum → limit ≡ maximum
