-- Document 01's ten starred trials in one table, each worked out by computation from the definitions: eight of the path, with the score of each, and two of the silences.
-- Beyond them it shows that no test refuses L or R, so that the domain of every theorem has a member, and what a whole call of either operation leaves.
use Rattle.std.specs.Prelude.{◌≡◌, refl, false, List, [], ◌∷◌, Result, Ok, Err, ℕ, pos, negsuc, Float, length, replicate}
use Rattle.std.specs.Float.{fin, binary32, binary64}
use Rattle.std.specs.Float.Ieee.{of_bits, span, climb, size, odd, units, round, sum, add, neg, sub, mul, div, lt, eq, le, of_int}
use Rattle.base_terms.specs.Lengths.{square, off_of, short, length_cost}
use Rattle.base_terms.specs.Lists.{all_of, filled, onto}
use Rattle.base_terms.specs.Work.{work_of, work_ok}
use Rattle.grid.specs.Durations.{frames_in, samples_floor, samples_in}
use Rattle.grid.specs.Boundary.{start_of, covers}
use Rattle.grid.specs.Values.{is_score, is_unflagged}
use Rattle.grid.specs.Validate.{frames_ok, values_ok, length_ok, validity_of}
use Rattle.grid.specs.Validate as grid
use Rattle.grid.specs.declared.validate.Refusal.{Refusal}
use Rattle.grid.specs.declared.validate.Refusal.TheVariants.{BadSampleRate, NotCovered}
use Rattle.grid.specs.declared.validate.Recording.{Recording}
use Rattle.grid.specs.declared.validate.Domain.TheVariants.{Scores}
use Rattle.silence_levels.specs.declared.threshold.Threshold.TheVariants.{Auto}
use Rattle.silence_levels.specs.Keys.{with_signal}
use Rattle.silence_levels.specs.Threshold.{auto_of, resolve_of, threshold_ok}
use Rattle.silence_levels.specs.Levels.{levels_over, levels_of}
use Rattle.silence_runs.specs.Hysteresis.{reached, sound_at, sounds_after, hysteresis}
use Rattle.silence_runs.specs.Runs.{with_frame, runs, rewritten, rewritten_all, each_run}
use Rattle.silence_runs.specs.Fill.{filled_as, fill_short}
use Rattle.silence_runs.specs.Sounds.{is_silent, any_sound, fill_silence, sounds_of}
use Rattle.silence_runs.specs.Silences.{silent_runs, silences_of}
use Rattle.silence_list.specs.Refusal.{durations_ok}
use Rattle.silence_list.specs.Refusal as silenceTests
use Rattle.silence_list.specs.Silences.{sounds_in, silences_in, silences_handed_out, silence_list_of}
use Rattle.silence_list.specs.Silences as silenceList
use Rattle.silence_list.specs.declared.config.SegmentConfig.{SegmentConfig}
use Rattle.path_pieces.specs.declared.lengths.Lengths.{Lengths}
use Rattle.path_pieces.specs.declared.mode.Mode.{Mode}
use Rattle.path_pieces.specs.declared.mode.Mode.TheVariants as mode
use Rattle.path_pieces.specs.Pieces.{length_weights, piece_length, over_of, length_cost_of, with_piece, with_cut, is_within, with_cut_at, may_start}
use Rattle.path_pieces.specs.Least.{lowest_least, predecessor_of}
use Rattle.path_rules.specs.Paths.{last_candidate}
use Rattle.path_by_length.specs.Table.{next_score, table_of, best_score, parent_of, way_back, best_path}
use Rattle.path_by_count.specs.Table.{best_with, parent_with, way_with, best_path_by_count, best_score_by_count}
use Rattle.path_tests.specs.Ends.{lists_ok, end_ok, ends_from, ends_ok}
use Rattle.path_tests.specs.Costs.{is_cost, is_target, is_min, lengths_ok}
use Rattle.path_tests.specs.Refusal.{is_count, count_ok, first_refusal_of}
use Rattle.path_list.specs.Answer.{Answer}
use Rattle.path_list.specs.Operation.{handed_out_of, sought_of, end_of, path_of}
use Rattle.path_list.specs.declared.search.Error.TheVariants.{ShortPath}

-- ---- the path

-- a float is a sign, a number and a power of two; one that is worked out has an odd number or 0
abbrev whole : ℕ → Float
whole n = fin false n (pos 0)

-- as many halves
abbrev halves : ℕ → Float
halves n = fin false n (negsuc 0)

-- "min 0, target 100, target weight 1, short 0", and a limit
abbrev within : ℕ → Lengths
within limit = record { min = whole 0; target = whole 100; limit = limit; weights = length_weights (whole 1) (whole 0) }

-- "lists L: left = right = 0, 100, 200, 300"
abbrev ends : List ℕ
ends = 0 ∷ 100 ∷ 200 ∷ 300 ∷ []

-- the best path and its score, the number of pieces over the limit and the cost, of candidates whose left end is the right end too
abbrev ByLength : ℕ → List ℕ → List Float → List ℕ → ℕ → Float → Type 0
ByLength limit at cut path over cost =
    (best_path (within limit) at at cut ≡ path) × (best_score (within limit) at at cut (last_candidate at) ≡ record { over = over; cost = cost })

abbrev ByCount : ℕ → ℕ → List ℕ → List Float → List ℕ → ℕ → Float → Type 0
ByCount count limit at cut path over cost =
    (best_path_by_count (within limit) at at cut count ≡ path) × (best_score_by_count (within limit) at at cut count ≡ record { over = over; cost = cost })

-- the inner cuts cost 0.5, those at the ends nothing
abbrev cuts : List Float
cuts = whole 0 ∷ halves 1 ∷ halves 1 ∷ whole 0 ∷ []

-- the operation on L by length or by count, with room for five candidates and work lists as long as 13 asks, whatever they held: the path found and its score,
-- the output beyond it untouched, and every other list zeroed
abbrev PathCall : Mode → List ℕ → List ℕ → ℕ → Float → Type 0
PathCall mode parent path over cost = (p a b : ℕ) (x : Float)
    → path_of (within 200) ends ends cuts mode (replicate 5 p) (work_of (replicate 64 a) (replicate 64 b) (replicate 64 x)) parent
    ≡ end_of (Ok (record { score = record { over = over; cost = cost }; len = length path })) (onto path (replicate 5 p))
    (work_of (replicate 64 0) (replicate 64 0) (replicate 64 (of_bits binary64 0))) (filled 0 parent)

-- ---- the silences

-- recording R's numbers, "1 channel, frame rate 10, hop 1", scores, at a sample rate and a length
abbrev recording_at : ℕ → ℕ → Recording
recording_at rate len = record { sample_rate = rate; channels = 1; frame_rate = 10; hop = 1; len = len; domain = Scores }

-- at R's own "1,000 Hz", with a length that as many frames cover
abbrev recording : ℕ → Recording
recording len = recording_at 1000 len

-- the Rust's default settings: automatic threshold, 250 ms of silence, 100 ms of sound, padding of 100 and 200 ms
abbrev defaults : SegmentConfig
defaults = record { threshold = Auto; min_silence = 250000000; min_sound = 100000000; pre = 100000000; tail = 200000000 }

-- the scores 1 and 0 as f32
abbrev one : Float
one = of_bits binary32 0x3f80_0000

abbrev none : Float
none = of_bits binary32 0

-- the first frame of each silence and the frame after its last, with no flag set
abbrev SilencesAre : ℕ → List Float → ℕ → List ℕ → Type 0
SilencesAre len scores frames answer = silences_in (recording len) defaults scores (replicate frames 0) ≡ answer

-- the scores of R
abbrev scores : List Float
scores = one ∷ one ∷ none ∷ none ∷ none ∷ one ∷ one ∷ []

-- ---- the table

-- whatever the cuts at the two ends cost: document 01 names the inner ones alone
pub record Trials (first last : Float) : Type 0 where
  -- "L by length: 0,1,2,3, score (0, 1)"
  pub by_length : ByLength 200 ends (first ∷ halves 1 ∷ halves 1 ∷ last ∷ []) (0 ∷ 1 ∷ 2 ∷ 3 ∷ []) 0 (whole 1)
  -- "L with cuts 2: 0,1,3, score (0, 3)"
  pub dear_cuts : ByLength 200 ends (first ∷ whole 2 ∷ whole 2 ∷ last ∷ []) (0 ∷ 1 ∷ 3 ∷ []) 0 (whole 3)
  -- "Ends 0, 300, 400: 0,1,2, score (1, 4.5)"
  pub over_long : ByLength 200 (0 ∷ 300 ∷ 400 ∷ []) (first ∷ halves 1 ∷ last ∷ []) (0 ∷ 1 ∷ 2 ∷ []) 1 (halves 9)
  -- "L by count 1: 0,3, (1, 4)"
  pub count_one : ByCount 1 200 ends (first ∷ halves 1 ∷ halves 1 ∷ last ∷ []) (0 ∷ 3 ∷ []) 1 (fin false 1 (pos 2))
  -- "Count 2: 0,1,3, (0, 1.5)"
  pub count_two : ByCount 2 200 ends (first ∷ halves 1 ∷ halves 1 ∷ last ∷ []) (0 ∷ 1 ∷ 3 ∷ []) 0 (halves 3)
  -- "Count 9: 0,1,2,3"
  pub count_nine : ByCount 9 200 ends (first ∷ halves 1 ∷ halves 1 ∷ last ∷ []) (0 ∷ 1 ∷ 2 ∷ 3 ∷ []) 0 (whole 1)
  -- "L, count 2, limit 50: 0,2,3, (2, 1.5), not 0,1,3"
  pub low_limit : ByCount 2 50 ends (first ∷ halves 1 ∷ halves 1 ∷ last ∷ []) (0 ∷ 2 ∷ 3 ∷ []) 2 (halves 3)
  -- "One candidate: path 0, score (0, 0)", by length and by count
  pub one_candidate : ByLength 200 (0 ∷ []) (first ∷ []) (0 ∷ []) 0 (whole 0) × ByCount 1 200 (0 ∷ []) (first ∷ []) (0 ∷ []) 0 (whole 0)
  -- "R's silence: frames 2, 3 and 4"
  pub one_silence : SilencesAre 700 scores 7 (2 ∷ 5 ∷ [])
  -- "1 1 0 0 1 1: none"
  pub no_silence : SilencesAre 600 (one ∷ one ∷ none ∷ none ∷ one ∷ one ∷ []) 6 []
  -- L passes the tests of its operation, 15 to 17 and the others
  pub lists_pass : first_refusal_of ends ends cuts (within 200) mode.ByLength 64 64 64 ≡ Ok tt
  -- R passes 1 to 6
  pub recording_passes : validity_of (recording 700) scores (replicate 7 0) [] ≡ Ok tt
  -- whole calls: L by length
  pub call_by_length : PathCall mode.ByLength [] (0 ∷ 1 ∷ 2 ∷ 3 ∷ []) 0 (whole 1)
  -- L by count 2
  pub call_by_count : (q : ℕ) → PathCall (mode.ByCount 2) (replicate 9 q) (0 ∷ 1 ∷ 3 ∷ []) 0 (halves 3)
  -- and R's silence list
  pub call_silences : (p a b : ℕ) (x : Float)
      → silence_list_of (recording 700) defaults scores (replicate 7 0) [] (replicate 3 p) (work_of (replicate 128 a) (replicate 128 b) (replicate 128 x))
      ≡ silenceList.end_of (Ok 1) (2 ∷ 5 ∷ p ∷ []) (work_of (replicate 128 0) (replicate 128 0) (replicate 128 (of_bits binary64 0)))

-- all of them hold, whatever the costs at the two ends
pub trials : (first last : Float) → Trials first last
unfolding best_path way_back parent_of best_score table_of next_score best_with parent_with way_with best_path_by_count best_score_by_count predecessor_of with_cut_at is_within may_start lowest_least with_piece with_cut over_of piece_length length_cost_of length_cost square off_of short span climb size odd units round sum add neg sub mul div lt eq le of_int of_bits silences_in sounds_in frames_in levels_of levels_over with_signal resolve_of auto_of silences_of silent_runs sounds_of fill_silence any_sound is_silent all_of hysteresis sounds_after sound_at reached fill_short filled_as each_run rewritten_all rewritten runs with_frame first_refusal_of lists_ok ends_ok ends_from end_ok is_cost lengths_ok is_target is_min count_ok is_count work_ok path_of sought_of handed_out_of onto filled validity_of grid.is_up_to frames_ok grid.lists_ok values_ok length_ok grid.frame_step_ok covers start_of is_score is_unflagged silence_list_of silences_handed_out silenceTests.first_refusal_of durations_ok threshold_ok
trials first last = record {
  by_length = (refl, refl);
  dear_cuts = (refl, refl);
  over_long = (refl, refl);
  count_one = (refl, refl);
  count_two = (refl, refl);
  count_nine = (refl, refl);
  low_limit = (refl, refl);
  one_candidate = ((refl, refl), (refl, refl));
  one_silence = refl;
  no_silence = refl;
  lists_pass = refl;
  recording_passes = refl;
  call_by_length = λ p a b x. refl;
  call_by_count = λ q p a b x. refl;
  call_silences = λ p a b x. refl;
}

-- beyond the table, "compared before the cut at the piece's end is added": at candidate 2 the way through 1 is cheaper by 0.5, which a cut of 2 ^ 60 swallows
pub before_the_cut : (first last : Float) → ByLength 200 (0 ∷ 100 ∷ 200 ∷ 400 ∷ []) (first ∷ halves 1 ∷ fin false 1 (pos 60) ∷ last ∷ []) (0 ∷ 1 ∷ 2 ∷ 3 ∷ []) 0 (fin false 1 (pos 60))
unfolding best_path way_back parent_of best_score table_of next_score predecessor_of with_cut_at is_within may_start lowest_least with_piece with_cut over_of piece_length length_cost_of length_cost square off_of short span climb size odd units round sum add neg sub mul div lt eq le of_int
before_the_cut first last = (refl, refl)

-- ---- document 02, S-12: by length a longer limit may need a longer output

-- five candidates
abbrev near : List ℕ
near = 0 ∷ 25 ∷ 75 ∷ 125 ∷ 150 ∷ []

-- the cut in the middle is dear
abbrev dear : List Float
dear = whole 0 ∷ whole 0 ∷ whole 2 ∷ whole 0 ∷ whole 0 ∷ []

-- the operation's answer over these by length, with an output of three entries, whatever the lists held
abbrev RoomForThree : ℕ → Answer → Type 0
RoomForThree limit answer = (p a b : ℕ) (x : Float)
    → (path_of (within limit) near near dear mode.ByLength (replicate 3 p) (work_of (replicate 80 a) (replicate 80 b) (replicate 80 x)) []).answer ≡ answer

-- limit 75: three candidates at 2.125. Limit 100: four at 1.125, which cost less and do not fit; counted against 75 their piece of 100 would be over-long, and the path after raising worse
pub longer_limit : RoomForThree 75 (Ok (record { score = record { over = 0; cost = fin false 17 (negsuc 2) }; len = 3 }))
    × RoomForThree 100 (Err ShortPath)
    × ByLength 75 near dear (0 ∷ 2 ∷ 4 ∷ []) 0 (fin false 17 (negsuc 2))
    × ByLength 100 near dear (0 ∷ 1 ∷ 3 ∷ 4 ∷ []) 0 (fin false 9 (negsuc 2))
unfolding best_path way_back parent_of best_score table_of next_score predecessor_of with_cut_at is_within may_start lowest_least with_piece with_cut over_of piece_length length_cost_of length_cost square off_of short span climb size odd units round sum add neg sub mul div lt eq le of_int first_refusal_of lists_ok ends_ok ends_from end_ok is_cost lengths_ok is_target is_min count_ok work_ok path_of sought_of handed_out_of onto all_of filled of_bits
longer_limit = (λ p a b x. refl, λ p a b x. refl, (refl, refl), (refl, refl))

-- ---- document 02, S-10: the rates of bat recorders

-- what the tests 1 to 6 answer to R at another sample rate and length
abbrev RatedAs : ℕ → ℕ → Result Unit Refusal → Type 0
RatedAs rate len answer = validity_of (recording_at rate len) scores (replicate 7 0) [] ≡ answer

-- "the trial with 192,001 becomes one with 768,001"; 192,001 is refused for R's length, and 768,000 is accepted with one that its frames cover
pub rates : RatedAs 768001 700 (Err BadSampleRate) × RatedAs 192001 700 (Err NotCovered) × RatedAs 768000 537600 (Ok tt)
unfolding span climb size odd units round lt eq le of_bits all_of validity_of grid.is_up_to frames_ok grid.lists_ok values_ok length_ok grid.frame_step_ok covers start_of is_score is_unflagged
rates = (refl, refl, refl)

-- at 768,000 Hz: 24 hours, whose product is beyond 64 bits, and two durations whose products lie halfway between two floats, of which the even one is below and above
pub fastest : (samples_floor 768000 86400000000000 ≡ 66355200000)
    × (samples_in 768000 86399999999998 ≡ fin false 4348654387199899 (negsuc 15))
    × (samples_in 768000 86399999999994 ≡ fin false 8697308774399397 (negsuc 16))
unfolding samples_floor samples_in span climb size odd units round div of_int
fastest = (refl, refl, refl)
