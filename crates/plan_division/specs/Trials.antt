-- The definitions at document 01's recording R, its silence a dropped gap from boundary 2 to boundary 5, and a point at boundary 6.
use Rattle.std.specs.Prelude.{◌≡◌, refl, List, [], ◌∷◌}
use Rattle.base_terms.specs.Floats.{nought}
use Rattle.candidate_span.specs.Gaps.{Cut}
use Rattle.division.specs.Places.{cut_at}
use Rattle.division.specs.Pieces.{piece_from}
use Rattle.candidates.specs.declared.candidate.Candidate.{Candidate}
use Rattle.candidates.specs.declared.candidate.Reason.TheVariants.{Silence}
use Rattle.candidates.specs.Candidates.{node}
use Rattle.plan_division.specs.Along.{cuts_along, pieces_along, all_cuts}

abbrev silence : Cut
silence = record { left = 2; right = 5 }

abbrev candidates : List Candidate
candidates = node 0 ∷ record { left = 2; right = 5; cost = nought; reason = Silence } ∷ node 6 ∷ node 7 ∷ []

-- at the gap one piece ends and the next starts, and the point that is not chosen stays inside its piece
gap_chosen : cuts_along candidates (0 ∷ 1 ∷ 3 ∷ []) ≡ silence ∷ []
gap_chosen = refl

pieces_two : pieces_along candidates (0 ∷ 1 ∷ 3 ∷ []) ≡ piece_from 0 2 ∷ piece_from 5 7 ∷ []
pieces_two = refl

-- a gap not chosen stays inside its piece
gap_inside : pieces_along candidates (0 ∷ 2 ∷ 3 ∷ []) ≡ piece_from 0 6 ∷ piece_from 6 7 ∷ []
gap_inside = refl

all_cuts_lem : all_cuts candidates ≡ silence ∷ cut_at 6 ∷ []
all_cuts_lem = refl

one_piece : cuts_along candidates (0 ∷ 3 ∷ []) ≡ []
one_piece = refl
