-- Candidates as numbers, which is how work memory and the operation's answer have them.
use Rattle.std.specs.Prelude.{ℕ, List, [], ◌∷◌, Float}
use Rattle.candidates.specs.declared.candidate.Candidate.{Candidate}
use Rattle.candidates.specs.Candidates.{reason_number}

-- left boundary, right boundary and reason of each candidate
unfoldable pub entries_of : List Candidate → List ℕ
entries_of [] = []
entries_of (c ∷ cs) = c.left ∷ (c.right ∷ (reason_number c.reason ∷ entries_of cs))

-- and its cost
unfoldable pub costs_of : List Candidate → List Float
costs_of [] = []
costs_of (c ∷ cs) = c.cost ∷ costs_of cs
