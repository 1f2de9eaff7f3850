-- Document 01's refusals of the operation "silence list" before 12: 1 to 7, 11 and 13, in this order.
use Rattle.std.specs.Prelude.{ℕ, ◌+◌, Bool, ◌&&◌, cond, List, Float, length, Result, Ok, Err}
use Rattle.base_terms.specs.Work.{work_ok}
use Rattle.grid.specs.Durations.{duration_ok}
use Rattle.grid.specs.Validate as recording
use Rattle.grid.specs.declared.validate.Recording.{Recording}
use Rattle.grid.specs.declared.validate.Refusal as recording_refusal
use Rattle.silence_levels.specs.Threshold.{threshold_ok}
use Rattle.silence_list.specs.declared.config.SegmentConfig.{SegmentConfig}
use Rattle.silence_list.specs.declared.refusal.Refusal.{Refusal}
use Rattle.silence_list.specs.declared.refusal.Refusal.TheVariants.{BadRecording, LongDuration, BadThreshold, ShortWork}

-- 7: no duration is above 24 hours
unfoldable pub durations_ok : SegmentConfig → Bool
durations_ok c = duration_ok c.min_silence && duration_ok c.min_sound && duration_ok c.pre && duration_ok c.tail

-- what the rest of the chain says where a recording is accepted, and else why it is not
abbrev pub or_recording : Result Unit recording_refusal.Refusal → Result Unit Refusal → Result Unit Refusal
or_recording (Ok u) rest = rest
or_recording (Err x) rest = Err (BadRecording x)

-- what the rest of the chain says where a test passes, and else why it does not
abbrev pub or_else : Bool → Refusal → Result Unit Refusal → Result Unit Refusal
or_else passes refusal rest = cond passes rest (Err refusal)

-- the first test that fails, in document 01's order
unfoldable pub first_refusal_of : Recording → SegmentConfig → List Float → List ℕ → List Float → ℕ → ℕ → ℕ → Result Unit Refusal
first_refusal_of r c values flags levels n32 n64 nf =
    or_recording (recording.validity_of r values flags levels)
    (or_else (durations_ok c) LongDuration
    (or_else (threshold_ok c.threshold) BadThreshold
    (or_else (work_ok (length values + 1) n32 n64 nf) ShortWork
    (Ok tt))))

-- document 01's number for each case
abbrev pub number_of : Refusal → ℕ
number_of (BadRecording x) = recording.number_of x
number_of LongDuration = 7
number_of BadThreshold = 11
number_of ShortWork = 13
