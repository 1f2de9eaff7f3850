-- The definitions at document 01's recording R: seven frames of 100 samples. Its silence, frames 2 to 4, is a dropped gap here, with no padding.
use Rattle.std.specs.Prelude.{◌≡◌, refl, true, false, [], ◌∷◌}
use Rattle.std.proofs.Common.{arith}
use Rattle.grid.specs.Boundary.{boundary_of, start_of}
use Rattle.grid.specs.declared.boundary.FrameGrid.{FrameGrid}
use Rattle.plan_settings.specs.declared.config.Gap.TheVariants.{Keep, Drop}
use Rattle.candidate_span.specs.declared.padding.Padding.{Padding}
use Rattle.candidate_span.specs.Bounds.{low_of, high_of, is_inner}
use Rattle.candidate_span.specs.Span.{Span, span_of, is_leading, is_trailing, first_of, last_of}
use Rattle.candidate_span.specs.Gaps.{Cut, is_gap, inner_gaps, gaps_of, dropped}
use Rattle.candidate_span.specs.Kept.{kept_frames}
use Rattle.division.specs.Division.{kept_in}
use Rattle.division.specs.Pieces.{piece_from, pieces_of, longest, overs}
use Rattle.division.specs.Places.{cut_at, places_of}
use Rattle.division.specs.Divisions.{divisions_of, keeps, any_of, is_feasible}
use Rattle.division.specs.Shares.{shares_of}
use Rattle.division.specs.Demand.{DemandByCount}

grid : FrameGrid
grid = record { sample_rate = 1000; frame_rate = 10; hop = 1; len = 700; frames = 7 }

-- no padding
abbrev bare : Padding
bare = record { frames = 7; pre = 0; tail = 0 }

-- the span with gaps kept, and with gaps dropped
abbrev whole : Span
whole = span_of Keep bare (2 ∷ 5 ∷ [])

abbrev parted : Span
parted = span_of Drop bare (2 ∷ 5 ∷ [])

abbrev silence : Cut
silence = record { left = 2; right = 5 }

-- document 01: "maximum 300 ms and count 2: pieces 0–300, 300–700 `l`"
pieces_two : pieces_of whole (cut_at 3 ∷ []) ≡ piece_from 0 3 ∷ piece_from 3 7 ∷ []
unfolding first_of last_of
pieces_two = refl

longest_two : longest grid (pieces_of whole (cut_at 3 ∷ [])) ≡ 400
unfolding first_of last_of grid boundary_of start_of
longest_two = refl

overs_two : overs grid 300 (pieces_of whole (cut_at 3 ∷ [])) ≡ 1
unfolding first_of last_of grid boundary_of start_of
overs_two = refl

-- no division into two pieces at most stays within 399 samples
too_short : is_feasible grid whole 2 399 ≡ false
unfolding first_of last_of gaps_of kept_frames dropped grid boundary_of start_of divisions_of keeps any_of is_feasible
too_short = refl

-- but one within 400
just_enough : is_feasible grid whole 2 400 ≡ true
unfolding first_of last_of gaps_of kept_frames dropped grid boundary_of start_of divisions_of keeps any_of is_feasible
just_enough = refl

-- demand 3 by count asks for exactly as many pieces: two are none of three
two_for_three : DemandByCount grid whole 3 300 (cut_at 3 ∷ []) → ⊥
unfolding first_of last_of gaps_of kept_frames dropped
two_for_three d = omega (arith, d.number)

-- "count 8: seven pieces"
kept_seven : kept_in whole ≡ 7
unfolding first_of last_of gaps_of kept_frames dropped
kept_seven = refl

-- with the gap dropped
all_places : places_of parted ≡ cut_at 1 ∷ silence ∷ cut_at 6 ∷ []
unfolding first_of last_of is_leading is_trailing gaps_of inner_gaps is_gap is_inner low_of high_of
all_places = refl

all_divisions : divisions_of parted
    ≡ [] ∷ (cut_at 6 ∷ []) ∷ (silence ∷ []) ∷ (silence ∷ cut_at 6 ∷ []) ∷ (cut_at 1 ∷ []) ∷ (cut_at 1 ∷ cut_at 6 ∷ []) ∷ (cut_at 1 ∷ silence ∷ []) ∷ (cut_at 1 ∷ silence ∷ cut_at 6 ∷ []) ∷ []
unfolding first_of last_of is_leading is_trailing gaps_of inner_gaps is_gap is_inner low_of high_of divisions_of
all_divisions = refl

kept_four : kept_in parted ≡ 4
unfolding first_of last_of is_leading is_trailing gaps_of inner_gaps is_gap is_inner low_of high_of kept_frames dropped
kept_four = refl

three-shares : shares_of parted 3 ≡ cut_at 1 ∷ silence ∷ []
unfolding first_of last_of is_leading is_trailing gaps_of inner_gaps is_gap is_inner low_of high_of kept_frames dropped
three-shares = refl
