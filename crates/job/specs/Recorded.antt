-- The numbers of the recording, which every job has.
use Rattle.std.specs.Prelude.{ℕ, ◌+◌, true, List, ltb, Result, Ok}
use Rattle.numbers_in.specs.Numbers.{u16_at, u32_at, u64_at}
use Rattle.kinds.specs.Flagged.{domain_of}
use Rattle.job.specs.Fields.{Field, field, ◌>>=◌, kind_field}
use Rattle.job.specs.declared.answer.Refusal.{Refusal}
use Rattle.job.specs.declared.recording.Recorded.{Recorded}

-- rate u32, channels u16, frame rate u32, hop u32, length u64, domain byte (0 scores, 1 decibels), frames u32
unfoldable pub recorded_at : (job : List ℕ) (at : ℕ) → Result (Field Recorded) Refusal
recorded_at job at = do
  domain ← kind_field job (at + 22) true 1
  Ok (field (record {
    recording = record {
      sample_rate = u32_at job at;
      channels = u16_at job (at + 4);
      frame_rate = u32_at job (at + 6);
      hop = u32_at job (at + 10);
      len = u64_at job (at + 14);
      domain = domain_of (ltb 0 domain.value);
    };
    frames = u32_at job (at + 23);
  }) (at + 27))
