-- The definitions at document 01's recording R, seven frames of 100 samples: the plan as printed, with silence, the trial "maximum 300 ms and count 2", and short pieces.
use Rattle.std.specs.Prelude.{◌≡◌, refl, List, [], ◌∷◌, ℕ}
use Rattle.std.specs.Float.Ieee.{span, climb, size, odd, units, round, sum, add, neg, sub, div, lt, of_int}
use Rattle.grid.specs.Boundary.{boundary_of, start_of}
use Rattle.grid.specs.Durations.{samples_floor, samples_in}
use Rattle.grid.specs.declared.boundary.FrameGrid.{FrameGrid}
use Rattle.path_pieces.specs.Pieces.{piece_length}
use Rattle.candidates.specs.Candidates.{node}
use Rattle.candidates.specs.Samples.{lefts_of, rights_of}
use Rattle.candidates.specs.declared.candidate.Candidate.{Candidate}
use Rattle.candidates.specs.declared.candidate.Reason.TheVariants.{Silence}
use Rattle.base_terms.specs.Floats.{nought}
use Rattle.plan_pieces.specs.Flags.{is_tail, short_flag, long_flag, flags_of}
use Rattle.plan_pieces.specs.Along.{piece_numbers_from, pieces_along_numbers, cut_numbers_from, cuts_along_numbers}
use Rattle.plan_pieces.specs.PlanAlong.{reasons_of}

grid : FrameGrid
grid = record { sample_rate = 1000; frame_rate = 10; hop = 1; len = 700; frames = 7 }

-- the two ends, and a cut in the silence at boundary k
abbrev cut_in : ℕ → List Candidate
cut_in k = node 0 ∷ (record { left = k; right = k; cost = nought; reason = Silence } ∷ (node 7 ∷ []))

-- the pieces along some of them, for a minimum and a maximum in nanoseconds
abbrev along : ℕ → ℕ → ℕ → List ℕ → List ℕ
along k least most path = pieces_along_numbers (lefts_of grid (cut_in k)) (rights_of grid (cut_in k)) (samples_in 1000 least) (samples_floor 1000 most) path

-- from one end to the other by that cut, and without it
abbrev by_cut : List ℕ
by_cut = 0 ∷ (1 ∷ (2 ∷ []))

abbrev whole : List ℕ
whole = 0 ∷ (2 ∷ [])

-- pieces 0 to 400 and 400 to 700, without flags
printed : along 4 100000000 400000000 by_cut ≡ 0 ∷ (400 ∷ (0 ∷ (400 ∷ (700 ∷ (0 ∷ [])))))
unfolding span climb size odd units round sum add neg sub div lt of_int grid boundary_of start_of samples_floor samples_in piece_length is_tail short_flag long_flag flags_of piece_numbers_from pieces_along_numbers
printed = refl

-- and the cut between them, in silence
printed-cut : cuts_along_numbers (lefts_of grid (cut_in 4)) (rights_of grid (cut_in 4)) (reasons_of (cut_in 4)) by_cut ≡ 400 ∷ (400 ∷ (0 ∷ []))
unfolding grid boundary_of start_of cut_numbers_from cuts_along_numbers
printed-cut = refl

-- with a maximum of 300 ms the second piece of 0 to 300 and 300 to 700 is flagged long
long_second : along 3 100000000 300000000 by_cut ≡ 0 ∷ (300 ∷ (0 ∷ (300 ∷ (700 ∷ (2 ∷ [])))))
unfolding span climb size odd units round sum add neg sub div lt of_int grid boundary_of start_of samples_floor samples_in piece_length is_tail short_flag long_flag flags_of piece_numbers_from pieces_along_numbers
long_second = refl

-- ---- document 02's S-5: the tail

-- under a minimum of 200 ms the tail of 100 samples is not flagged
tail_after : along 6 200000000 600000000 by_cut ≡ 0 ∷ (600 ∷ (0 ∷ (600 ∷ (700 ∷ (0 ∷ [])))))
unfolding span climb size odd units round sum add neg sub div lt of_int grid boundary_of start_of samples_floor samples_in piece_length is_tail short_flag long_flag flags_of piece_numbers_from pieces_along_numbers
tail_after = refl

-- the first piece of 100 samples is
short-before : along 1 200000000 600000000 by_cut ≡ 0 ∷ (100 ∷ (1 ∷ (100 ∷ (700 ∷ (0 ∷ [])))))
unfolding span climb size odd units round sum add neg sub div lt of_int grid boundary_of start_of samples_floor samples_in piece_length is_tail short_flag long_flag flags_of piece_numbers_from pieces_along_numbers
short-before = refl

-- a plan of one piece is flagged as before
short_alone : along 6 800000000 800000000 whole ≡ 0 ∷ (700 ∷ (1 ∷ []))
unfolding span climb size odd units round sum add neg sub div lt of_int grid boundary_of start_of samples_floor samples_in piece_length is_tail short_flag long_flag flags_of piece_numbers_from pieces_along_numbers
short_alone = refl

-- a minimum above the maximum, as no plan has, gives both flags: of the tail `l` stands
both_before : along 4 800000000 100000000 by_cut ≡ 0 ∷ (400 ∷ (3 ∷ (400 ∷ (700 ∷ (2 ∷ [])))))
unfolding span climb size odd units round sum add neg sub div lt of_int grid boundary_of start_of samples_floor samples_in piece_length is_tail short_flag long_flag flags_of piece_numbers_from pieces_along_numbers
both_before = refl
