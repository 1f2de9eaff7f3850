-- Document 01's "division that goes as far as it can at each step", under a limit on the length of a piece.
use Rattle.std.specs.Prelude.{List, [], ◌∷◌, ℕ, ◌≤◌, ◌<◌}
use Rattle.grid.specs.declared.boundary.FrameGrid.{FrameGrid}
use Rattle.candidate_span.specs.Gaps.{Cut}
use Rattle.candidate_span.specs.Span.{Span}
use Rattle.division.specs.Division.{Place}
use Rattle.division.specs.Pieces.{piece_from, length_of}

-- k is the farthest place for a piece that starts at boundary a: the piece is within the limit, and no place farther on is
pub record Farthest (g : FrameGrid) (s : Span) (limit a : ℕ) (k : Cut) : Type 0 where
  pub place : Place s k
  pub after : a < k.left
  pub within : length_of g (piece_from a k.left) ≤ limit
  pub last : (j : Cut) → Place s j → length_of g (piece_from a j.left) ≤ limit → j.left ≤ k.left

-- no place is within the limit for a piece that starts at boundary a
abbrev pub NoneWithin : FrameGrid → Span → ℕ → ℕ → Type 0
NoneWithin g s limit a = (j : Cut) → Place s j → a < j.left → limit < length_of g (piece_from a j.left)

-- from boundary a on: no cut where the rest is within the limit, else one at the farthest place, and so on from its right end
abbrev pub GreedyFrom : FrameGrid → Span → ℕ → ℕ → List Cut → Type 0
GreedyFrom g s limit a [] = length_of g (piece_from a s.last) ≤ limit
GreedyFrom g s limit a (k ∷ ks) = (limit < length_of g (piece_from a s.last)) × Farthest g s limit a k × GreedyFrom g s limit k.right ks

-- the cuts of the division that goes as far as it can at each step
abbrev pub Greedy : FrameGrid → Span → ℕ → List Cut → Type 0
Greedy g s limit cuts = GreedyFrom g s limit s.first cuts

-- the first division is nowhere behind the second: cut by cut it is as far or farther, and it has no more cuts
abbrev pub NowhereBehind : List Cut → List Cut → Type 0
NowhereBehind [] ks = Unit {0}
NowhereBehind (j ∷ js) [] = ⊥
NowhereBehind (j ∷ js) (k ∷ ks) = (k.left ≤ j.left) × (k.right ≤ j.right) × NowhereBehind js ks
