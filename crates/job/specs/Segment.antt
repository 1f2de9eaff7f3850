-- Bits 7 to 11 of the map: how frame values become silence and sound.
use Rattle.std.specs.Prelude.{ℕ, List, ltb, Result, Ok}
use Rattle.silence_levels.specs.declared.threshold.Threshold.{Threshold}
use Rattle.silence_list.specs.declared.config.SegmentConfig.{SegmentConfig}
use Rattle.kinds.specs.Numbered.{threshold_of}
use Rattle.job.specs.Fields.{Field, field, ◌>>=◌, stands, u64_field, f32_field, kind_field}
use Rattle.job.specs.declared.answer.Refusal.{Refusal}

-- 7 threshold: 0 auto, 1 absolute, 2 below reference, the last two with an f32
unfoldable pub threshold_at : (job : List ℕ) (map at : ℕ) → Result (Field Threshold) Refusal
threshold_at job map at = do
  kind ← kind_field job at (stands map 7) 2
  let level = f32_field job kind.next (ltb 0 kind.value)
  Ok (field (threshold_of kind.value level.value) level.next)

-- 7, then 8 to 11 min silence, min sound, pre, tail: u64, else 250, 100, 100, 200 ms, the Rust's `SegmentConfig::default` (segment.rs)
unfoldable pub segment_at : (job : List ℕ) (map at : ℕ) → Result (Field SegmentConfig) Refusal
segment_at job map at = do
  threshold ← threshold_at job map at
  let silence = u64_field job threshold.next (stands map 8) 250000000
  let sound = u64_field job silence.next (stands map 9) 100000000
  let before = u64_field job sound.next (stands map 10) 100000000
  let after = u64_field job before.next (stands map 11) 200000000
  Ok (field (record {
    threshold = threshold.value;
    min_silence = silence.value;
    min_sound = sound.value;
    pre = before.value;
    tail = after.value;
  }) after.next)
