-- The definitions at document 01's recording R, seven frames of 100 samples, with silence kept: for two pieces the reach is 400, which is what the trial "maximum 300 ms and count 2" shows.
use Rattle.std.specs.Prelude.{◌≡◌, refl, true, false, [], ◌∷◌}
use Rattle.grid.specs.Boundary.{boundary_of, start_of}
use Rattle.grid.specs.declared.boundary.FrameGrid.{FrameGrid}
use Rattle.candidate_span.specs.Gaps.{dropped}
use Rattle.candidate_span.specs.Kept.{kept_frames}
use Rattle.candidate_span.specs.Span.{Span}
use Rattle.division.specs.Places.{cut_at}
use Rattle.division.specs.Divisions.{divisions_of, keeps, any_of, is_feasible}
use Rattle.completion_reach.specs.Reachable.{reachable_in}
use Rattle.completion_reach.specs.Place.{place_at}
use Rattle.completion_reach.specs.Next.{next_at}
use Rattle.completion_reach.specs.Fits.{fits_from, fits_of}
use Rattle.completion_reach.specs.Reach.{least_limit_from, reach_of}
use Rattle.completion_reach.specs.Cuts.{greedy_cuts_from, cuts_of}
use Rattle.completion.specs.Bridge.{bridge_from, bridge_of}

grid : FrameGrid
grid = record { sample_rate = 1000; frame_rate = 10; hop = 1; len = 700; frames = 7 }

abbrev whole : Span
whole = record { first = 0; gaps = []; last = 7 }

-- two pieces do not fit in 399 samples each
too_short : fits_of grid whole 399 2 ≡ false
unfolding grid boundary_of start_of reachable_in place_at next_at fits_from
too_short = refl

-- but in 400
just_enough : fits_of grid whole 400 2 ≡ true
unfolding grid boundary_of start_of reachable_in place_at next_at fits_from
just_enough = refl

-- where the first piece goes as far as it can
far-cut : cuts_of grid whole 400 2 ≡ cut_at 4 ∷ []
unfolding grid boundary_of start_of reachable_in place_at next_at greedy_cuts_from
far-cut = refl

-- the least limit over all divisions
reach_two : reach_of grid whole 2 300 ≡ 400
unfolding grid boundary_of start_of kept_frames dropped divisions_of keeps any_of is_feasible least_limit_from reach_of
reach_two = refl

-- it is never below the maximum
reach-at-maximum : reach_of grid whole 2 500 ≡ 500
unfolding grid boundary_of start_of kept_frames dropped divisions_of keeps any_of is_feasible least_limit_from reach_of
reach-at-maximum = refl

-- one piece keeps the span's length, and nothing below it
reach-one_piece : reach_of grid whole 1 650 ≡ 700
unfolding grid boundary_of start_of kept_frames dropped divisions_of keeps any_of is_feasible least_limit_from reach_of
reach-one_piece = refl

-- with a maximum above the span the reach is the maximum
reach_above_span : reach_of grid whole 1 701 ≡ 701
unfolding grid boundary_of start_of kept_frames dropped divisions_of keeps any_of is_feasible least_limit_from reach_of
reach_above_span = refl

-- by length 300 samples are bridged by two points
bridged : bridge_of grid 300 0 7 ≡ cut_at 3 ∷ cut_at 6 ∷ []
unfolding grid boundary_of start_of reachable_in bridge_from
bridged = refl

-- and frames longer than the limit stay single
single_frames : bridge_of grid 50 0 3 ≡ cut_at 1 ∷ cut_at 2 ∷ []
unfolding grid boundary_of start_of reachable_in bridge_from
single_frames = refl
