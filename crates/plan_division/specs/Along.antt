-- The division along a path of candidates: one piece from each candidate of the path to the next, cut at those between its ends.
-- A candidate's ends are boundaries of the frame grid; a path is a list of candidates' numbers, as in document 01's "path".
use Rattle.std.specs.Prelude.{List, [], ◌∷◌, ℕ, zero, suc, ◌-◌, ◌<◌, length, get_or}
use Rattle.path_rules.specs.Paths.{Path}
use Rattle.candidate_span.specs.Gaps.{Cut}
use Rattle.division.specs.Pieces.{Piece, piece_from}
use Rattle.candidates.specs.declared.candidate.Candidate.{Candidate}
use Rattle.candidates.specs.Candidates.{node}

-- both ends of candidate i
abbrev pub ends_at : List Candidate → ℕ → Cut
ends_at cs i = record { left = (get_or cs i (node 0)).left; right = (get_or cs i (node 0)).right }

-- ---- along a path

-- the cuts at some candidates, but for the last of them
abbrev pub cuts_at : List Candidate → List ℕ → List Cut
cuts_at cs [] = []
cuts_at cs (i ∷ []) = []
cuts_at cs (i ∷ (j ∷ rest)) = ends_at cs i ∷ cuts_at cs (j ∷ rest)

-- the cuts along a path: at its candidates between the first and the last
abbrev pub cuts_along : List Candidate → List ℕ → List Cut
cuts_along cs [] = []
cuts_along cs (i ∷ rest) = cuts_at cs rest

-- the piece from candidate i to candidate j
abbrev pub piece_between : List Candidate → ℕ → ℕ → Piece
piece_between cs i j = piece_from (ends_at cs i).right (ends_at cs j).left

-- the pieces of a path, from candidate i on
abbrev pub pieces_through : List Candidate → ℕ → List ℕ → List Piece
pieces_through cs i [] = []
pieces_through cs i (j ∷ rest) = piece_between cs i j ∷ pieces_through cs j rest

-- the pieces of a path
abbrev pub pieces_along : List Candidate → List ℕ → List Piece
pieces_along cs [] = []
pieces_along cs (i ∷ rest) = pieces_through cs i rest

-- a path from the first candidate to the last, with pieces of any length
abbrev pub RisingPath : List Candidate → List ℕ → Type 0
RisingPath cs path = Path (λ (i j : ℕ). i < j) path (length cs - 1)

-- ---- through every candidate

-- n numbers after a
abbrev pub numbers_after : ℕ → ℕ → List ℕ
numbers_after a zero = []
numbers_after a (suc n) = suc a ∷ numbers_after (suc a) n

-- from the first to the last, none left out
abbrev pub whole_path : List Candidate → List ℕ
whole_path cs = 0 ∷ numbers_after 0 (length cs - 1)

-- the cuts at all candidates between the ends
abbrev pub all_cuts : List Candidate → List Cut
all_cuts cs = cuts_along cs (whole_path cs)
