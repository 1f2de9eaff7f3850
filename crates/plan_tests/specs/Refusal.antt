-- Document 01's refusals of the operation Plan before 14: 1 to 11 and 13, in this order.
use Rattle.std.specs.Prelude.{ℕ, ◌+◌, Bool, ◌&&◌, cond, List, ltb, leb, Float, length, Result, Ok, Err}
use Rattle.base_terms.specs.Work.{work_ok}
use Rattle.grid.specs.Limits.{max_duration}
use Rattle.grid.specs.Validate as recording
use Rattle.grid.specs.declared.validate.Recording.{Recording}
use Rattle.grid.specs.declared.validate.Refusal as recording_refusal
use Rattle.silence_levels.specs.Threshold.{threshold_ok}
use Rattle.silence_list.specs.Refusal.{durations_ok}
use Rattle.silence_list.specs.declared.config.SegmentConfig.{SegmentConfig}
use Rattle.path_tests.specs.Refusal.{count_ok}
use Rattle.plan_settings.specs.Tests.{ratio_ok, weights_ok}
use Rattle.plan_settings.specs.declared.config.PlanConfig.{PlanConfig}
use Rattle.plan_tests.specs.declared.refusal.Refusal.{Refusal}
use Rattle.plan_tests.specs.declared.refusal.Refusal.TheVariants.{BadRecording, BadDurations, BadCount, BadRatio, BadWeights, BadThreshold, ShortWork}

-- 7, for what a piece should last: none is above 24 hours, the target is not 0, the minimum not above it, nor it above the maximum
unfoldable pub piece_lengths_ok : ℕ → ℕ → ℕ → Bool
piece_lengths_ok least target most =
    leb least max_duration && leb target max_duration && leb most max_duration && ltb 0 target && leb least target && leb target most

-- 7: the durations of both settings
unfoldable pub all_durations_ok : SegmentConfig → PlanConfig → Bool
all_durations_ok segment settings = durations_ok segment && piece_lengths_ok settings.min settings.target settings.max

-- ---- the chain

-- what the rest of the chain says where a recording is accepted, and else why it is not
abbrev pub or_recording : Result Unit recording_refusal.Refusal → Result Unit Refusal → Result Unit Refusal
or_recording (Ok u) rest = rest
or_recording (Err x) rest = Err (BadRecording x)

-- what the rest of the chain says where a test passes, and else why it does not
abbrev pub or_else : Bool → Refusal → Result Unit Refusal → Result Unit Refusal
or_else passes refusal rest = cond passes rest (Err refusal)

-- the first test that fails, in document 01's order
unfoldable pub first_refusal_of : Recording → SegmentConfig → PlanConfig → List Float → List ℕ → List Float → ℕ → ℕ → ℕ → Result Unit Refusal
first_refusal_of r segment settings values flags levels n32 n64 nf =
    or_recording (recording.validity_of r values flags levels)
    (or_else (all_durations_ok segment settings) BadDurations
    (or_else (count_ok settings.mode) BadCount
    (or_else (ratio_ok settings.placement) BadRatio
    (or_else (weights_ok settings.weights) BadWeights
    (or_else (threshold_ok segment.threshold) BadThreshold
    (or_else (work_ok (length values + 1) n32 n64 nf) ShortWork
    (Ok tt)))))))

-- document 01's number for each case
abbrev pub number_of : Refusal → ℕ
number_of (BadRecording x) = recording.number_of x
number_of BadDurations = 7
number_of BadCount = 8
number_of BadRatio = 9
number_of BadWeights = 10
number_of BadThreshold = 11
number_of ShortWork = 13
