-- All divisions of a span, and whether one of them keeps a limit: what document 01's "reach" looks for.
use Rattle.std.specs.Prelude.{Bool, false, ◌&&◌, ◌||◌, List, [], ◌∷◌, ◌++◌, map, ℕ, leb, length}
use Rattle.grid.specs.declared.boundary.FrameGrid.{FrameGrid}
use Rattle.candidate_span.specs.Gaps.{Cut}
use Rattle.candidate_span.specs.Span.{Span}
use Rattle.division.specs.Division.{pieces_asked}
use Rattle.division.specs.Pieces.{pieces_of, longest}
use Rattle.division.specs.Places.{places_of}

-- every choice of some of the cuts, in their order
abbrev pub choices : List Cut → List (List Cut)
choices [] = [] ∷ []
choices (k ∷ ks) = choices ks ++ map (λ (c : List Cut). k ∷ c) (choices ks)

-- the divisions of a span, each by its cuts: "cut at any choice of kept frame boundaries, with or without a candidate there, and of whole dropped gaps"
unfoldable pub divisions_of : Span → List (List Cut)
divisions_of s = choices (places_of s)

-- whether a division "has at most min(N, kept frames) pieces and none longer than that limit", where N is `count`
unfoldable pub keeps : FrameGrid → Span → ℕ → ℕ → List Cut → Bool
keeps g s count limit cuts = leb (length (pieces_of s cuts)) (pieces_asked s count) && leb (longest g (pieces_of s cuts)) limit

-- some element of the list passes the test
unfoldable pub any_of : {A : Type 0} → (A → Bool) → List A → Bool
any_of p [] = false
any_of p (x ∷ xs) = p x || any_of p xs

-- whether some division of the span does so
unfoldable pub is_feasible : FrameGrid → Span → ℕ → ℕ → Bool
is_feasible g s count limit = any_of (keeps g s count limit) (divisions_of s)
