-- The place that a boundary stands for: the gap that holds it, or the cut at it.
use Rattle.std.specs.Prelude.{Bool, ◌&&◌, cond, List, [], ◌∷◌, ℕ, leb}
use Rattle.candidate_span.specs.declared.padding.Padding.{Padding}
use Rattle.candidate_span.specs.Bounds.{low_of, high_of}
use Rattle.candidate_span.specs.Gaps.{Cut, is_gap}
use Rattle.division.specs.Places.{cut_at}
use Rattle.completion_reach.specs.declared.place.HeldCut.{HeldCut}

-- a gap holds boundary k, its edges included
abbrev pub holds_boundary : Cut → ℕ → Bool
holds_boundary g k = leb g.left k && leb k g.right

-- the gap that holds boundary k, or the cut at k
unfoldable pub place_at : List Cut → ℕ → Cut
place_at [] k = cut_at k
place_at (g ∷ gs) k = cond (holds_boundary g k) g (place_at gs k)

-- a silence has a gap that holds boundary k
unfoldable pub is_held : Padding → ℕ → ℕ → ℕ → Bool
is_held p start end k = is_gap p start end && (leb (low_of p start) k && leb k (high_of p end))

-- a cut as code holds it
abbrev pub held_cut : Cut → HeldCut
held_cut k = record { left = k.left; right = k.right }

-- and what it holds, as a cut
abbrev pub cut_held : HeldCut → Cut
cut_held c = record { left = c.left; right = c.right }
