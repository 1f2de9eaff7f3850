-- Document 01's refusals 15 and 16: how many candidates are lent, and in which order their ends stand.
use Rattle.std.specs.Prelude.{ℕ, Bool, true, false, ◌&&◌, List, [], ◌∷◌, ltb, leb, eqb}
use Rattle.base_terms.specs.Limits.{max_len}
use Rattle.path_pieces.specs.Limits.{max_candidates}

-- 15: there are candidates, not too many, and a right end and a cost for each
unfoldable pub lists_ok : ℕ → ℕ → ℕ → Bool
lists_ok lefts rights costs = ltb 0 lefts && leb lefts max_candidates && eqb rights lefts && eqb costs lefts

-- 16, for one candidate: the right end before it is not above its left end, that is not above its right end, and that is within the bound
unfoldable pub end_ok : ℕ → ℕ → ℕ → Bool
end_ok last left right = leb last left && leb left right && leb right max_len

-- 16, for the candidates that follow the right end `last`
unfoldable pub ends_from : ℕ → List ℕ → List ℕ → Bool
ends_from last (l ∷ left) (r ∷ right) = end_ok last l r && ends_from r left right
ends_from last [] right = true
ends_from last (l ∷ left) [] = false

-- 16: the limit is within the bound, and the candidates are in order
unfoldable pub ends_ok : List ℕ → List ℕ → ℕ → Bool
ends_ok left right limit = leb limit max_len && ends_from 0 left right
