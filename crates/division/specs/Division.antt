-- Document 01's "division": "A division runs from the span's start to its end, cut at any choice of kept frame boundaries, with or without a candidate there,
-- and of whole dropped gaps." Boundaries are numbers of the frame grid; where they stand in samples is a matter of the pieces' lengths (Pieces).
use Rattle.std.specs.Prelude.{◌≡◌, ℕ, ◌≤◌, ◌<◌, min}
use mathlib.Core.List.{List, [], ◌∷◌, Memᴰ}
use Rattle.candidate_span.specs.Gaps.{Cut}
use Rattle.candidate_span.specs.Span.{Span}
use Rattle.candidate_span.specs.Kept.{kept_frames, kept_boundaries}

-- document 01's "kept frames" of a span, counted
abbrev pub kept_in : Span → ℕ
kept_in s = kept_frames s.first s.gaps s.last

-- document 01's min(N, kept frames), where N is `count`
abbrev pub pieces_asked : Span → ℕ → ℕ
pieces_asked s count = min count (kept_in s)

-- where a division may be cut: at a kept frame boundary, where one piece ends and the next starts, or at a whole dropped gap
pub data Place (s : Span) : Cut → Type 0 where
  boundary : {k : Cut} → k.left ≡ k.right → Memᴰ k.left (kept_boundaries s.first s.gaps s.last) → Place s k
  gap : {k : Cut} → Memᴰ k s.gaps → Place s k

-- cuts in rising order, after boundary a and before boundary z, with a frame at least between one and the next
abbrev pub Row : ℕ → List Cut → ℕ → Type 0
Row a [] z = a < z
Row a (k ∷ ks) z = (a < k.left) × (k.left ≤ k.right) × Row k.right ks z

-- a division of the span, given by its cuts
pub record Division (s : Span) (cuts : List Cut) : Type 0 where
  pub rises : Row s.first cuts s.last
  pub placed : (k : Cut) → Memᴰ k cuts → Place s k

-- the second list has every cut of the first
abbrev pub Among : List Cut → List Cut → Type 0
Among ks cs = (k : Cut) → Memᴰ k ks → Memᴰ k cs
