-- The operation Plan at document 01's recording R, through its whole definition and whatever the lent lists held: the plan as printed, the two trials of R by count,
-- a count that the first path meets, a dropped gap, an empty span, and 14, 12 and 13. So what Made claims of plans by length, at the first path and with the reach,
-- of dropped gaps and of these ends is claimed of something. And two recordings whose plans cost more under a longer maximum.
use Rattle.std.specs.Prelude.{◌≡◌, refl, Bool, true, false, List, [], ◌∷◌, ℕ, ◌*◌, Float, length, replicate, Ok, Err}
use Rattle.std.specs.Float.{binary32, binary64}
use Rattle.std.specs.Float.Ieee.{span, climb, size, odd, units, round, sum, add, neg, sub, mul, div, lt, eq, le, is_nan, of_int, of_bits}
use Rattle.base_terms.specs.Floats.{min_of, max_of, clamp_of}
use Rattle.base_terms.specs.Lengths.{square, off_of, short, length_cost}
use Rattle.base_terms.specs.Lists.{filled, onto, tabulate, all_of}
use Rattle.base_terms.specs.Work.{work_of, work_ok}
use Rattle.grid.specs.Boundary.{start_of, boundary_of, covers}
use Rattle.grid.specs.Durations.{frames_in, frames_ceil, frames_floor, samples_floor, samples_in, seconds_of, frame_secs_of}
use Rattle.grid.specs.Validate.{grid_of, is_up_to, frame_step_ok, frames_ok, lists_ok, values_ok, length_ok, validity_of}
use Rattle.grid.specs.Values.{is_score, is_finite, is_unflagged}
use Rattle.silence_levels.specs.Keys.{with_signal}
use Rattle.silence_levels.specs.Levels.{levels_over, levels_of}
use Rattle.silence_levels.specs.Threshold.{auto_of, resolve_of, threshold_ok}
use Rattle.silence_runs.specs.Fill.{filled_as, fill_short}
use Rattle.silence_runs.specs.Hysteresis.{reached, sound_at, sounds_after, hysteresis}
use Rattle.silence_runs.specs.Quiet.{below_at, below_off, quiet_runs}
use Rattle.silence_runs.specs.Runs.{with_frame, runs, rewritten, rewritten_all, each_run}
use Rattle.silence_runs.specs.Silences.{silent_runs, silences_of}
use Rattle.silence_runs.specs.Sounds.{is_silent, any_sound, fill_silence, sounds_of}
use Rattle.silence_list.specs.Refusal.{durations_ok}
use Rattle.silence_list.specs.Silences.{sounds_in, silences_in}
use Rattle.path_pieces.specs.Least.{lowest_least, predecessor_of}
use Rattle.path_pieces.specs.Pieces.{is_within, piece_length, length_cost_of, over_of, may_start, with_piece, with_cut, with_cut_at}
use Rattle.path_pieces.specs.declared.score.Score.{Score}
use Rattle.path_rules.specs.Paths.{score_from, path_score}
use Rattle.path_by_length.specs.Table.{next_score, table_of, best_score, parent_of, way_back, best_path}
use Rattle.path_by_count.specs.Table.{best_with, parent_with, way_with, best_path_by_count, best_score_by_count}
use Rattle.path_tests.specs.Refusal.{is_count, count_ok}
use Rattle.plan_settings.specs.Tests.{ratio_ok, is_weight, is_cut_cost, is_reference, weights_ok}
use Rattle.candidate_span.specs.Bounds.{low_of, high_of, is_inner}
use Rattle.candidate_span.specs.Gaps.{Cut, is_gap, inner_gaps, gaps_of, dropped}
use Rattle.candidate_span.specs.Kept.{kept_frames, boundaries}
use Rattle.candidate_span.specs.Spacing.{block_of, padding_of, edge_limit_of, spacing_of}
use Rattle.candidate_span.specs.Span.{is_leading, is_trailing, all_silent, empty_span, first_of, last_of, Span, span_of}
use Rattle.candidate_finder.specs.SpanIn.{padding_in}
use Rattle.division.specs.Divisions.{divisions_of, keeps, any_of, is_feasible}
use Rattle.candidate_points.specs.Blocked.{gets_grid, touches, opens, blocks_at, blocked_by, is_blocked}
use Rattle.candidate_points.specs.Points.{open_to, block_end, points_from, grid_points}
use Rattle.candidate_cuts.specs.Cut.{split_point, least_level_from, least_level, open_cut, silence_cut}
use Rattle.candidate_cuts.specs.Place.{share_of, chosen_by}
use Rattle.candidate_costs.specs.Cost.{pause_of, cut_cost}
use Rattle.candidate_costs.specs.Level.{smoothed_at, frame_level, level_at, boundary_levels}
use Rattle.candidate_costs.specs.Normalize.{range_of, normalize_of}
use Rattle.candidate_costs.specs.Quietest.{quieter, quietest_in, quietest_of}
use Rattle.candidate_costs.specs.Stretch.{most_of, stretch_at, secs_of}
use Rattle.candidate_costs.specs.Window.{clipped, window_of, width_of, sum_from, sum_of, mean_of}
use Rattle.plan_tests.specs.Refusal.{piece_lengths_ok, all_durations_ok, first_refusal_of}
use Rattle.candidates.specs.Candidates.{pauses_by, in_pause, point_reason, point_at, own_at, own_from, all_listed, with_left, cheaper, cheapest_of, cheapest, survivors, candidates_of}
use Rattle.candidates.specs.Entries.{costs_of}
use Rattle.candidates.specs.Samples.{lefts_of, rights_of}
use Rattle.candidates.specs.declared.candidate.Candidate.{Candidate}
use Rattle.candidate_finder.specs.CandidatesIn.{runs_in, boundary_levels_in}
use Rattle.completion.specs.Bridge.{bridge_from}
use Rattle.completion_reach.specs.Cuts.{greedy_cuts_from, points_in}
use Rattle.completion_reach.specs.Next.{next_at}
use Rattle.completion_reach.specs.Place.{place_at}
use Rattle.completion_reach.specs.Reach.{least_limit_from, reach_of}
use Rattle.completion_reach.specs.Reachable.{reachable_in}
use Rattle.plan_lengths.specs.PlanLengths.{target_by_count, lengths_with, lengths_by_length, lengths_by_count}
use Rattle.plan_pieces.specs.Along.{piece_numbers_from, cut_numbers_from, pieces_along_numbers, cuts_along_numbers}
use Rattle.plan_pieces.specs.Flags.{is_tail, short_flag, long_flag, flags_of}
use Rattle.plan_pieces.specs.Output.{Output, output_of, has_room, handed_out_of}
use Rattle.plan_pieces.specs.PlanAlong.{plan_pieces, plan_cuts}
use Rattle.planner.specs.Operation.{End, end_of, candidates_with, planned_of, plan_of}
use Rattle.plan_lists.specs.Parents.{has_parents}
use Rattle.plan_modes.specs.Plan.{completed_by_length, path_by_length, plan_by_length, path_by_count, suffices, planned_under, completed_by_count, plan_by_count, plan_by}
use Rattle.grid.specs.declared.boundary.FrameGrid.{FrameGrid}
use Rattle.grid.specs.declared.validate.Recording.{Recording}
use Rattle.grid.specs.declared.validate.Domain.TheVariants.{Scores}
use Rattle.silence_levels.specs.declared.threshold.Threshold.TheVariants.{Auto}
use Rattle.silence_list.specs.declared.config.SegmentConfig.{SegmentConfig}
use Rattle.path_pieces.specs.declared.mode.Mode.{Mode}
use Rattle.path_pieces.specs.declared.mode.Mode.TheVariants.{ByLength, ByCount}
use Rattle.plan_settings.specs.declared.config.PlanConfig.{PlanConfig}
use Rattle.plan_settings.specs.declared.config.Gap.{Gap}
use Rattle.plan_settings.specs.declared.config.Gap.TheVariants.{Keep, Drop}
use Rattle.plan_settings.specs.declared.config.Placement.TheVariants.{Quietest}
use Rattle.plan_tests.specs.declared.refusal.Refusal.TheVariants.{ShortWork}
use Rattle.plan_pieces.specs.Answer.{Answer}
use Rattle.plan_pieces.specs.declared.answer.Error.TheVariants.{Refused, ShortParent, ShortOutput}

-- "1,000 Hz, 1 channel, frame rate 10, hop 1, length 700"
abbrev recording : Recording
recording = record { sample_rate = 1000; channels = 1; frame_rate = 10; hop = 1; len = 700; domain = Scores }

-- the Rust's default settings
abbrev defaults : SegmentConfig
defaults = record { threshold = Auto; min_silence = 250000000; min_sound = 100000000; pre = 100000000; tail = 200000000 }

-- with no padding kept beside sound, so that R's silence is a dropped gap from its first frame to its last
abbrev unpadded : SegmentConfig
unpadded = record { threshold = Auto; min_silence = 250000000; min_sound = 100000000; pre = 0; tail = 0 }

-- "scores 1 1 0 0 0 1 1"
abbrev one : Float
one = of_bits binary32 0x3f80_0000

abbrev none : Float
none = of_bits binary32 0

abbrev scores : List Float
scores = one ∷ one ∷ none ∷ none ∷ none ∷ one ∷ one ∷ []

-- "100, 300, 400 ms" or another maximum, and the default weights: 0.1 for a cut, 1 for level, pause and target, 4 for short
abbrev settings : Mode → ℕ → Gap → PlanConfig
settings mode most gap = record {
  min = 100000000;
  target = 300000000;
  max = most;
  mode = mode;
  gap = gap;
  placement = Quietest;
  weights = record {
    cut = of_bits binary64 0x3fb9_9999_9999_999a;
    level = of_bits binary64 0x3ff0_0000_0000_0000;
    pause = of_bits binary64 0x3ff0_0000_0000_0000;
    pause_ref = 500000000;
    target = of_bits binary64 0x3ff0_0000_0000_0000;
    short = of_bits binary64 0x4010_0000_0000_0000;
  };
}

-- two pieces of at most 400 ms, with what the first path goes over
abbrev plan2 : PlanConfig
plan2 = settings (ByCount 2) 400000000 Keep

abbrev grid2 : FrameGrid
grid2 = grid_of recording 7

abbrev span2 : Span
span2 = span_of plan2.gap (padding_in recording defaults plan2 7) (silences_in recording defaults scores (replicate 7 0))

-- ---- document 02, S-12: of a whole plan nothing is said, since with another maximum it makes other candidates

-- 1 Hz, 1 channel, frame rate 1, hop 1: frames of a second, one sample each
abbrev seconds : ℕ → Recording
seconds len = record { sample_rate = 1; channels = 1; frame_rate = 1; hop = 1; len = len; domain = Scores }

-- no minimum, target 1 s, a maximum in seconds, gaps kept, and the default weights
abbrev up_to : Mode → ℕ → PlanConfig
up_to mode most = record { min = 0; target = 1000000000; max = most * 1000000000; mode = mode; gap = Keep; placement = Quietest; weights = plan2.weights }

-- the candidates, with points added at some cuts
abbrev seconds_with : Mode → ℕ → List Float → List Cut → List Candidate
seconds_with mode most values = candidates_with (seconds (length values)) defaults (up_to mode most) values (replicate (length values) 0) []

-- the score of the path that the plan by length goes along: a second of silence and a second of sound
abbrev by_length_score : ℕ → Score
by_length_score most =
    let values = none ∷ one ∷ [] in
    let g = grid_of (seconds 2) 2 in
    let cs = completed_by_length g (up_to ByLength most) (seconds_with ByLength most values) in
    path_score (lengths_by_length g (up_to ByLength most)) (lefts_of g cs) (rights_of g cs) (costs_of cs) (path_by_length g (up_to ByLength most) (seconds_with ByLength most values))

-- by count 2: a second of sound and two of silence
abbrev three : List Float
three = one ∷ none ∷ none ∷ []

-- their grid
abbrev grid3 : FrameGrid
grid3 = grid_of (seconds 3) 3

-- and their span under a maximum
abbrev span3 : ℕ → Span
span3 most = span_of Keep (padding_in (seconds 3) defaults (up_to (ByCount 2) most) 3) (silences_in (seconds 3) defaults three (replicate 3 0))

-- whether the first path suffices
abbrev enough3 : ℕ → Bool
enough3 most = suffices grid3 (up_to (ByCount 2) most) (span3 most) 2 most (seconds_with (ByCount 2) most three [])

-- the score of the path over these candidates under the maximum
abbrev by_count_score : ℕ → List Candidate → Score
by_count_score most cs =
    let under = lengths_by_count grid3 (up_to (ByCount 2) most) (span3 most).first (span3 most).last 2 most in
    path_score under (lefts_of grid3 cs) (rights_of grid3 cs) (costs_of cs) (path_by_count grid3 (up_to (ByCount 2) most) (span3 most) 2 most cs)

-- ---- document 02, S-5: the tail

-- minimum and target 2 s, a maximum in seconds, and the default weights
abbrev from_two : Mode → Gap → ℕ → PlanConfig
from_two mode gap most = record { min = 2000000000; target = 2000000000; max = most * 1000000000; mode = mode; gap = gap; placement = Quietest; weights = plan2.weights }

-- a second of silence kept before sound, where there is room for it
abbrev padded : SegmentConfig
padded = record { threshold = Auto; min_silence = 250000000; min_sound = 100000000; pre = 1000000000; tail = 0 }

-- a is what the output held, b, c and x what the work lists held, and d what the parent list held; a work list has 128 entries, 16 for each of R's eight frame boundaries
module _ (a b c d : ℕ) (x : Float) where
  abbrev output : ℕ → ℕ → Output
  output pieces cuts = output_of (replicate pieces a) (replicate cuts a)

  -- a call whose output has so many numbers for pieces and cuts, and its parent list so many entries
  abbrev call_with : SegmentConfig → PlanConfig → List Float → ℕ → ℕ → ℕ → End
  call_with segment settings values pieces cuts parents =
      plan_of recording segment settings values (replicate 7 0) [] (output pieces cuts) (work_of (replicate 128 b) (replicate 128 c) (replicate 128 x)) (replicate parents d)

  abbrev call : PlanConfig → List Float → ℕ → ℕ → ℕ → End
  call = call_with defaults

  -- an end after the tests: every work list zeroed
  abbrev later : Answer → Output → ℕ → End
  later answer out parents = end_of answer out (work_of (replicate 128 0) (replicate 128 0) (replicate 128 (of_bits binary64 0))) (replicate parents 0)

  -- a call over frames of a second whose output has room for two pieces
  abbrev call_seconds_with : SegmentConfig → PlanConfig → List Float → ℕ → End
  call_seconds_with segment settings values parents =
      plan_of (seconds (length values)) segment settings values (replicate (length values) 0) [] (output 6 3) (work_of (replicate 64 b) (replicate 64 c) (replicate 64 x)) (replicate parents d)

  abbrev call_seconds : PlanConfig → List Float → ℕ → End
  call_seconds = call_seconds_with defaults

  -- and what it leaves
  abbrev later_seconds : ℕ → List ℕ → List ℕ → ℕ → End
  later_seconds n pieces cuts parents =
      end_of (Ok n) (output_of pieces cuts) (work_of (replicate 64 0) (replicate 64 0) (replicate 64 (of_bits binary64 0))) (replicate parents 0)

  -- document 01's trials of plans, and beside them the other ends of a call: an empty plan, 12, 13 and 14
  pub record PlanTrials : Type 0 where
    -- "piece 0 400 -, piece 400 700 -, cut 400 400 silence"; one number more in each list stays as it was
    pub printed : call (settings ByLength 400000000 Keep) scores 7 4 0
        ≡ later (Ok 2) (output_of (0 ∷ 400 ∷ 0 ∷ 400 ∷ 700 ∷ 0 ∷ a ∷ []) (400 ∷ 400 ∷ 0 ∷ a ∷ [])) 0
    -- "maximum 300 ms and count 2: pieces 0–300, 300–700 `l`; cut silence"
    pub count_two : call (settings (ByCount 2) 300000000 Keep) scores 6 3 16
        ≡ later (Ok 2) (output_of (0 ∷ 300 ∷ 0 ∷ 300 ∷ 700 ∷ 2 ∷ []) (300 ∷ 300 ∷ 0 ∷ [])) 16
    -- "count 8: seven pieces; reasons forced, quiet, quiet, silence, forced, forced"
    pub count_eight : call (settings (ByCount 8) 400000000 Keep) scores 21 18 56
        ≡ later (Ok 7)
        (output_of (0 ∷ 100 ∷ 0 ∷ 100 ∷ 200 ∷ 0 ∷ 200 ∷ 300 ∷ 0 ∷ 300 ∷ 400 ∷ 0 ∷ 400 ∷ 500 ∷ 0 ∷ 500 ∷ 600 ∷ 0 ∷ 600 ∷ 700 ∷ 0 ∷ [])
        (100 ∷ 100 ∷ 2 ∷ 200 ∷ 200 ∷ 1 ∷ 300 ∷ 300 ∷ 1 ∷ 400 ∷ 400 ∷ 0 ∷ 500 ∷ 500 ∷ 2 ∷ 600 ∷ 600 ∷ 2 ∷ [])) 56
    -- count 2 under 400 ms: the first path suffices
    pub sufficient : suffices grid2 plan2 span2 2 400 (candidates_with recording defaults plan2 scores (replicate 7 0) [] []) ≡ true
    -- and is the plan's, with two parents for each of five candidates
    pub first_suffices : call plan2 scores 6 3 10
        ≡ later (Ok 2) (output_of (0 ∷ 400 ∷ 0 ∷ 400 ∷ 700 ∷ 0 ∷ []) (400 ∷ 400 ∷ 0 ∷ [])) 10
    -- 14: one entry fewer, at the first path
    pub first_short : call plan2 scores 6 3 9 ≡ later (Err ShortParent) (output 6 3) 9
    -- the gap dropped: one piece ends at its left end and the next starts at its right end
    pub gap_dropped : call_with unpadded (settings ByLength 400000000 Drop) scores 6 3 0
        ≡ later (Ok 2) (output_of (0 ∷ 200 ∷ 0 ∷ 500 ∷ 700 ∷ 0 ∷ []) (200 ∷ 500 ∷ 0 ∷ [])) 0
    -- silence all through, with dropped gaps: the span is empty, and so is the plan
    pub silent : call (settings ByLength 400000000 Drop) (replicate 7 none) 0 0 0 ≡ later (Ok 0) (output 0 0) 0
    -- S-8, R in one piece under a maximum of 300 ms: the reach is the length of the whole span, and the piece is over-long
    pub count_one : call (settings (ByCount 1) 300000000 Keep) scores 3 0 8 ≡ later (Ok 1) (output_of (0 ∷ 700 ∷ 2 ∷ []) []) 8
    -- 14: one entry fewer, at the path over the completed candidates
    pub parents_short : call (settings (ByCount 8) 400000000 Keep) scores 21 18 55 ≡ later (Err ShortParent) (output 21 18) 55
    -- 12: one number fewer
    pub output_short : call (settings ByLength 400000000 Keep) scores 5 3 0 ≡ later (Err ShortOutput) (output 5 3) 0
    -- 13: one entry fewer in a work list; every list is as it was
    pub work_short : plan_of recording defaults (settings ByLength 400000000 Keep) scores (replicate 7 0) [] (output 6 3) (work_of (replicate 128 b) (replicate 128 c) (replicate 127 x)) (replicate 1 d)
        ≡ end_of (Err (Refused ShortWork)) (output 6 3) (work_of (replicate 128 b) (replicate 128 c) (replicate 127 x)) (replicate 1 d)
    -- S-12 of a plan by length, of two frames: two pieces under 2 s
    pub raised_from : call_seconds (up_to ByLength 2) (none ∷ one ∷ []) 0 ≡ later_seconds 2 (0 ∷ 1 ∷ 0 ∷ 1 ∷ 2 ∷ 0 ∷ []) (1 ∷ 1 ∷ 0 ∷ []) 0
    -- one piece under 3 s
    pub raised_to : call_seconds (up_to ByLength 3) (none ∷ one ∷ []) 0 ≡ later_seconds 1 (0 ∷ 2 ∷ 0 ∷ a ∷ a ∷ a ∷ []) (a ∷ a ∷ a ∷ []) 0
    -- the two cost 0.6
    pub score_from_lem : by_length_score 2 ≡ record { over = 0; cost = of_bits binary64 0x3fe3_3333_3333_3333 }
    -- and the one costs 1
    pub score_to : by_length_score 3 ≡ record { over = 0; cost = of_bits binary64 0x3ff0_0000_0000_0000 }
    -- by count 2, of three frames: cut at 2 under 3 s
    pub count_raised_from : call_seconds (up_to (ByCount 2) 3) three 8 ≡ later_seconds 2 (0 ∷ 2 ∷ 0 ∷ 2 ∷ 3 ∷ 0 ∷ []) (2 ∷ 2 ∷ 0 ∷ []) 8
    -- and at 1 under 4 s
    pub count_raised_to : call_seconds (up_to (ByCount 2) 4) three 8 ≡ later_seconds 2 (0 ∷ 1 ∷ 0 ∷ 1 ∷ 3 ∷ 0 ∷ []) (1 ∷ 1 ∷ 0 ∷ []) 8
    -- the first path suffices under 3 s, and not under 4 s
    pub count_enough : (enough3 3 ≡ true) × (enough3 4 ≡ false)
    -- so the score under 3 s is that over the first candidates, 0.32
    pub count_score_from : by_count_score 3 (seconds_with (ByCount 2) 3 three []) ≡ record { over = 0; cost = of_bits binary64 0x3fd4_9f49_f49f_49f4 }
    -- and under 4 s that over the completed ones, 0.82
    pub count_score_to : by_count_score 4 (completed_by_count grid3 (up_to (ByCount 2) 4) (span3 4) (seconds_with (ByCount 2) 4 three) 2 4)
        ≡ record { over = 0; cost = of_bits binary64 0x3fea_4fa4_fa4f_a4fa }
    -- S-5 by length, gaps kept: the tail of a second is not flagged
    pub tail_by_length : call_seconds (from_two ByLength Keep 2) three 0 ≡ later_seconds 2 (0 ∷ 2 ∷ 0 ∷ 2 ∷ 3 ∷ 0 ∷ []) (2 ∷ 2 ∷ 0 ∷ []) 0
    -- a first piece of a second is
    pub short_by_length : call_seconds (from_two ByLength Keep 2) (none ∷ none ∷ one ∷ []) 0 ≡ later_seconds 2 (0 ∷ 1 ∷ 1 ∷ 1 ∷ 3 ∷ 0 ∷ []) (1 ∷ 1 ∷ 0 ∷ []) 0
    -- by count 2, gaps dropped: both are below the minimum, and the first is flagged
    pub tail_by_count : call_seconds_with padded (from_two (ByCount 2) Drop 3) (none ∷ one ∷ []) 8 ≡ later_seconds 2 (0 ∷ 1 ∷ 1 ∷ 1 ∷ 2 ∷ 0 ∷ []) (1 ∷ 1 ∷ 2 ∷ []) 8
    -- under 2 s there is no room for the silence: a plan of one piece is flagged as before
    pub short_alone : call_seconds_with padded (from_two (ByCount 2) Drop 2) (none ∷ one ∷ []) 8 ≡ later_seconds 1 (1 ∷ 2 ∷ 1 ∷ a ∷ a ∷ a ∷ []) (a ∷ a ∷ a ∷ []) 8

  -- each by computation
  pub plan_trials : PlanTrials
  unfolding path_score score_from min_of max_of clamp_of square off_of short length_cost filled onto tabulate all_of work_ok start_of boundary_of covers frames_in frames_ceil frames_floor samples_floor samples_in seconds_of frame_secs_of is_up_to frame_step_ok frames_ok lists_ok values_ok length_ok validity_of is_score is_finite is_unflagged with_signal levels_over levels_of auto_of resolve_of threshold_ok filled_as fill_short reached sound_at sounds_after hysteresis below_at below_off quiet_runs with_frame runs rewritten rewritten_all each_run silent_runs silences_of is_silent any_sound fill_silence sounds_of durations_ok sounds_in silences_in lowest_least predecessor_of is_within piece_length length_cost_of over_of may_start with_piece with_cut with_cut_at next_score table_of best_score parent_of way_back best_path best_with parent_with way_with best_path_by_count best_score_by_count is_count count_ok ratio_ok is_weight is_cut_cost is_reference weights_ok low_of high_of is_inner is_gap inner_gaps gaps_of dropped kept_frames boundaries block_of padding_of edge_limit_of spacing_of is_leading is_trailing all_silent empty_span first_of last_of divisions_of keeps any_of is_feasible gets_grid touches opens blocks_at blocked_by is_blocked open_to block_end points_from grid_points split_point least_level_from least_level open_cut silence_cut share_of chosen_by pause_of cut_cost smoothed_at frame_level level_at boundary_levels range_of normalize_of quieter quietest_in quietest_of most_of stretch_at secs_of clipped window_of width_of sum_from sum_of mean_of piece_lengths_ok all_durations_ok first_refusal_of pauses_by in_pause point_reason point_at own_at own_from all_listed with_left cheaper cheapest_of cheapest survivors candidates_of costs_of runs_in boundary_levels_in bridge_from greedy_cuts_from points_in next_at place_at least_limit_from reach_of reachable_in target_by_count lengths_with cut_numbers_from piece_numbers_from pieces_along_numbers cuts_along_numbers is_tail short_flag long_flag flags_of has_room handed_out_of plan_pieces plan_cuts planned_of plan_of plan_by_length has_parents suffices planned_under plan_by_count plan_by span climb size odd units round sum add neg sub mul div lt eq le is_nan of_int of_bits
  plan_trials = record {
    printed = refl;
    count_two = refl;
    count_eight = refl;
    sufficient = refl;
    first_suffices = refl;
    first_short = refl;
    gap_dropped = refl;
    silent = refl;
    count_one = refl;
    parents_short = refl;
    output_short = refl;
    work_short = refl;
    raised_from = refl;
    raised_to = refl;
    score_from_lem = refl;
    score_to = refl;
    count_raised_from = refl;
    count_raised_to = refl;
    count_enough = (refl, refl);
    count_score_from = refl;
    count_score_to = refl;
    tail_by_length = refl;
    short_by_length = refl;
    tail_by_count = refl;
    short_alone = refl;
  }
