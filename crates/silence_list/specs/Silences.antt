-- Document 01's operation "silence list": its answer, and what each lent list holds afterwards.
-- `silence_list_of` is what the entry point's contract cites; SilencesLaws has a law for each of its ends, Theorems what the list is.
use Rattle.std.specs.Prelude.{ℕ, ◌/◌, cond, List, leb, Float, length, Result, Ok, Err}
use Rattle.base_terms.specs.Lists.{onto}
use Rattle.base_terms.specs.Work.{Work, cleared}
use Rattle.grid.specs.Durations.{frames_in}
use Rattle.grid.specs.declared.validate.Recording.{Recording}
use Rattle.silence_levels.specs.Levels.{levels_of}
use Rattle.silence_runs.specs.Sounds.{sounds_of}
use Rattle.silence_runs.specs.Silences.{silences_of}
use Rattle.silence_list.specs.Refusal as tests
use Rattle.silence_list.specs.declared.config.SegmentConfig.{SegmentConfig}
use Rattle.silence_list.specs.declared.refusal.Refusal.{Refusal}
use Rattle.silence_list.specs.declared.list.Error.{Error}
use Rattle.silence_list.specs.declared.list.Error.TheVariants.{Refused, ShortOutput}

-- the sound flags of the frames: thresholds from the recording, minimum lengths in frames rounded half up
unfoldable pub sounds_in : Recording → SegmentConfig → List Float → List ℕ → List ℕ
sounds_in r c values flags =
    let levels = levels_of r.domain c.threshold values flags in
    let min_sound = frames_in r.frame_rate r.hop c.min_sound in
    let min_silence = frames_in r.frame_rate r.hop c.min_silence in
    sounds_of levels.on levels.off min_sound min_silence values flags

-- document 01's list of silences: "for each silence its first frame and the frame after its last", side by side
unfoldable pub silences_in : Recording → SegmentConfig → List Float → List ℕ → List ℕ
silences_in r c values flags = silences_of (sounds_in r c values flags)

-- what the operation answers: how many silences there are, or why none are written
abbrev pub Answer : Type 0
Answer = Result ℕ Error

-- document 01's number for each case; 0 where the list was made
abbrev pub number_of : Answer → ℕ
number_of (Ok n) = 0
number_of (Err (Refused r)) = tests.number_of r
number_of (Err ShortOutput) = 12

-- what a call leaves: its answer, and every list that was lent to be written
pub record End : Type 0 where
  pub answer : Answer
  pub out : List ℕ
  pub work : Work

-- what a call leaves, from its parts
abbrev pub end_of : Answer → List ℕ → Work → End
end_of answer out work = record { answer = answer; out = out; work = work }

-- 12, or the list at the front of the output, which is untouched beyond it: either way work memory is zeroed whole
unfoldable pub silences_handed_out : List ℕ → List ℕ → Work → End
silences_handed_out silences out work =
    cond (leb (length silences) (length out))
    (end_of (Ok (length silences / 2)) (onto silences out) (cleared work))
    (end_of (Err ShortOutput) out (cleared work))

-- a refusal before 12 leaves every list as it was; else the silences are handed out
abbrev pub end_after : Result Unit Refusal → List ℕ → List ℕ → Work → End
end_after (Ok u) silences out work = silences_handed_out silences out work
end_after (Err r) silences out work = end_of (Err (Refused r)) out work

-- document 01's "silence list": what a call of it leaves
unfoldable pub silence_list_of : Recording → SegmentConfig → List Float → List ℕ → List Float → List ℕ → Work → End
silence_list_of r c values flags levels out work =
    end_after
    (tests.first_refusal_of r c values flags levels (length work.u32s) (length work.u64s) (length work.f64s))
    (silences_in r c values flags) out work
