-- The reader of a job: document 01, "The job and the listing", with the tests of refusal 19 in the order of reading.
use Rattle.std.specs.Prelude.{ℕ, ◌+◌, ◌-◌, ◌*◌, ◌≤◌, ◌≡◌, cond, List, [], ltb, leb, Float, length, replicate, Result, Ok}
use Rattle.base_terms.specs.Lists.{tabulate}
use Rattle.numbers_in.specs.Numbers.{byte_at, u16_at, f32_at, f64_at}
use Rattle.grid.specs.declared.validate.Domain.{Domain}
use Rattle.grid.specs.declared.validate.Domain.TheVariants.{Decibels, Scores}
use Rattle.grid.specs.declared.validate.Recording.{Recording}
use Rattle.silence_list.specs.declared.config.SegmentConfig.{SegmentConfig}
use Rattle.plan_settings.specs.declared.config.PlanConfig.{PlanConfig}
use Rattle.job.specs.Limits.{most_bytes, most_frames}
use Rattle.job.specs.Fields.{refused, ◌>>=◌}
use Rattle.job.specs.Settings.{settings_at}
use Rattle.job.specs.Segment.{segment_at}
use Rattle.job.specs.Recorded.{recorded_at}
use Rattle.job.specs.declared.answer.Head.{Head}
use Rattle.job.specs.declared.answer.Fault.TheVariants.{TooLong, UnknownBit, CutShort, TooManyFrames, BytesAfter}
use Rattle.job.specs.declared.answer.Refusal.{Refusal}

-- ---- the numbers

-- behind the 16-bit map: the fields whose bit stands, then the recording; or the first kind that there is not
unfoldable pub numbers_of : (job : List ℕ) (map : ℕ) → Result Head Refusal
numbers_of job map = do
  asked ← settings_at job map 2
  heard ← segment_at job map asked.next
  recorded ← recorded_at job heard.next
  Ok (record {
    recording = recorded.value.recording;
    segment = heard.value;
    settings = asked.value;
    frames = recorded.value.frames;
    lists = recorded.next;
  })

-- ---- the tests

-- f32 values; for decibels flag bytes and f64 levels
abbrev pub lists_size : Domain → ℕ → ℕ
lists_size Decibels frames = 13 * frames
lists_size Scores frames = 4 * frames

-- the place behind the lists
abbrev pub end_of : Head → ℕ
end_of h = h.lists + lists_size h.recording.domain h.frames

-- cut short in the numbers, over 511 frames, cut short in the lists, followed by bytes: of this many bytes, and the numbers read from them
unfoldable pub fitted : ℕ → Head → Result Head Refusal
fitted len h =
    cond (ltb len h.lists) (refused CutShort len)
    (cond (ltb most_frames h.frames) (refused TooManyFrames (h.lists - 4))
    (cond (ltb len (end_of h)) (refused CutShort len)
    (cond (ltb (end_of h) len) (refused BytesAfter (end_of h))
    (Ok h))))

-- over 8,192 bytes, an unknown bit (12 to 15), an unknown kind, then the job's length
unfoldable pub read_of : List ℕ → Result Head Refusal
read_of job =
    cond (ltb most_bytes (length job)) (refused TooLong most_bytes)
    (cond (leb 4096 (u16_at job 0)) (refused UnknownBit 0)
    (numbers_of job (u16_at job 0) >>= fitted (length job)))

-- ---- the lists

-- what holds of a job that was read: few frames, and the lists end where the job does
pub record Within (job : List ℕ) (h : Head) : Type 0 where
  pub few_bytes : length job ≤ most_bytes
  pub few_frames : h.frames ≤ most_frames
  pub to_the_end : end_of h ≡ length job

-- a value for each frame, one behind another where the lists begin
unfoldable pub values_in : List ℕ → Head → List Float
values_in job h = tabulate (λ (i : ℕ). f32_at job (h.lists + 4 * i)) h.frames

-- for scores the flags are all 0
abbrev pub flags_for : List ℕ → Domain → ℕ → ℕ → List ℕ
flags_for job Decibels at frames = tabulate (λ (i : ℕ). byte_at job (at + 4 * frames + i)) frames
flags_for job Scores at frames = replicate frames 0

-- the flags of a job that was read
unfoldable pub flags_in : List ℕ → Head → List ℕ
flags_in job h = flags_for job h.recording.domain h.lists h.frames

-- for scores the levels are empty
abbrev pub levels_for : List ℕ → Domain → ℕ → ℕ → List Float
levels_for job Decibels at frames = tabulate (λ (i : ℕ). f64_at job (at + 5 * frames + 8 * i)) frames
levels_for job Scores at frames = []

-- its levels
unfoldable pub levels_in : List ℕ → Head → List Float
levels_in job h = levels_for job h.recording.domain h.lists h.frames

-- ---- the whole

-- a job: what Plan is asked with
pub record Asked : Type 0 where
  pub recording : Recording
  pub segment : SegmentConfig
  pub settings : PlanConfig
  pub values : List Float
  pub flags : List ℕ
  pub levels : List Float

-- what was read, with its lists
unfoldable pub with_lists : List ℕ → Head → Asked
with_lists job h =
    record {
      recording = h.recording;
      segment = h.segment;
      settings = h.settings;
      values = values_in job h;
      flags = flags_in job h;
      levels = levels_in job h;
    }

-- what bytes say as a job, or why they say none and where that shows
unfoldable pub job_of : List ℕ → Result Asked Refusal
job_of job = do
  head ← read_of job
  Ok (with_lists job head)
