-- All places of a span in their order: the boundaries before the first gap, that gap, and so on to the span's end.
use Rattle.std.specs.Prelude.{List, [], ◌∷◌, ℕ, zero, suc, ◌-◌}
use Rattle.candidate_span.specs.Gaps.{Cut}
use Rattle.candidate_span.specs.Span.{Span}

-- the cut at a boundary
abbrev pub cut_at : ℕ → Cut
cut_at k = record { left = k; right = k }

-- the cuts at n boundaries after boundary a, and then ks
abbrev pub points : ℕ → ℕ → List Cut → List Cut
points a zero ks = ks
points a (suc n) ks = cut_at (suc a) ∷ points (suc a) n ks

-- the cuts at all places between boundary a and boundary z, with gaps gs between
abbrev pub places_from : ℕ → List Cut → ℕ → List Cut
places_from a [] z = points a (z - suc a) []
places_from a (g ∷ gs) z = points a (g.left - suc a) (g ∷ places_from g.right gs z)

-- the cuts at all places
abbrev pub places_of : Span → List Cut
places_of s = places_from s.first s.gaps s.last
