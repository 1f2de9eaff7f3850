-- A job written as bytes: every field is present, but for the count where the plan is by length. Each part is written in front of the rest.
use Rattle.std.specs.Prelude.{ℕ, ◌<◌, ◌≤◌, ◌≡◌, Bool, true, List, [], ◌∷◌, ◌++◌, T, ltb, Float, length, replicate}
use Rattle.std.specs.Float.{binary32, binary64}
use Rattle.std.specs.Float.Ieee.{fits}
use Rattle.base_terms.specs.Limits.{IsU64}
use Rattle.base_terms.specs.Lists.{all_of}
use Rattle.base_terms.specs.Bytes.{bytes_of}
use Rattle.numbers_in.specs.Bytes.{f32_bytes, f64_bytes, all_bytes}
use Rattle.grid.specs.declared.validate.Domain.{Domain}
use Rattle.grid.specs.declared.validate.Domain.TheVariants.{Decibels, Scores}
use Rattle.grid.specs.declared.validate.Recording.{Recording}
use Rattle.silence_levels.specs.declared.threshold.Threshold.{Threshold}
use Rattle.silence_levels.specs.declared.threshold.Threshold.TheVariants.{Auto, Abs, BelowRef}
use Rattle.silence_list.specs.declared.config.SegmentConfig.{SegmentConfig}
use Rattle.path_pieces.specs.declared.mode.Mode.{Mode}
use Rattle.path_pieces.specs.declared.mode.Mode.TheVariants.{ByLength, ByCount}
use Rattle.path_pieces.specs.declared.weights.Weights.{Weights}
use Rattle.plan_settings.specs.declared.config.Gap.{Gap}
use Rattle.plan_settings.specs.declared.config.Gap.TheVariants.{Keep, Drop}
use Rattle.plan_settings.specs.declared.config.Placement.{Placement}
use Rattle.plan_settings.specs.declared.config.Placement.TheVariants.{Quietest, Center, Ratio}
use Rattle.plan_settings.specs.declared.config.PlanConfig.{PlanConfig}
use Rattle.job.specs.Limits.{most_bytes, most_frames}
use Rattle.job.specs.Job.{Asked}

-- bits 0 to 11 stand, but for bit 3 by length
abbrev pub map_of : Mode → ℕ
map_of ByLength = 4087
map_of (ByCount count) = 4095

-- 0 min, 1 target, 2 max
abbrev pub lengths_then : PlanConfig → List ℕ → List ℕ
lengths_then p rest = bytes_of 8 p.min ++ (bytes_of 8 p.target ++ (bytes_of 8 p.max ++ rest))

-- 3 count
abbrev pub count_then : Mode → List ℕ → List ℕ
count_then ByLength rest = rest
count_then (ByCount count) rest = bytes_of 4 count ++ rest

-- 4 gap
abbrev pub gap_byte : Gap → ℕ
gap_byte Keep = 0
gap_byte Drop = 1

-- 5 placement
abbrev pub placement_then : Placement → List ℕ → List ℕ
placement_then Quietest rest = 0 ∷ rest
placement_then Center rest = 1 ∷ rest
placement_then (Ratio ratio) rest = 2 ∷ (f32_bytes ratio ++ rest)

-- 6 weights
abbrev pub weights_then : Weights → List ℕ → List ℕ
weights_then w rest =
    f64_bytes w.cut ++ (f64_bytes w.level ++ (f64_bytes w.pause ++ (bytes_of 8 w.pause_ref
    ++ (f64_bytes w.target ++ (f64_bytes w.short ++ rest)))))

-- 7 threshold
abbrev pub threshold_then : Threshold → List ℕ → List ℕ
threshold_then Auto rest = 0 ∷ rest
threshold_then (Abs level) rest = 1 ∷ (f32_bytes level ++ rest)
threshold_then (BelowRef level) rest = 2 ∷ (f32_bytes level ++ rest)

-- 8 to 11 min silence, min sound, pre, tail
abbrev pub durations_then : SegmentConfig → List ℕ → List ℕ
durations_then c rest = bytes_of 8 c.min_silence ++ (bytes_of 8 c.min_sound ++ (bytes_of 8 c.pre ++ (bytes_of 8 c.tail ++ rest)))

-- the domain: 0 scores, 1 decibels
abbrev pub domain_byte : Domain → ℕ
domain_byte Scores = 0
domain_byte Decibels = 1

-- rate, channels, frame rate, hop, length, domain, frames
abbrev pub recorded_then : Recording → ℕ → List ℕ → List ℕ
recorded_then r frames rest =
    bytes_of 4 r.sample_rate ++ (bytes_of 2 r.channels ++ (bytes_of 4 r.frame_rate ++ (bytes_of 4 r.hop
    ++ (bytes_of 8 r.len ++ (domain_byte r.domain ∷ (bytes_of 4 frames ++ rest))))))

-- for decibels the flags and levels
abbrev pub flags_and_levels : Domain → List ℕ → List Float → List ℕ
flags_and_levels Decibels flags levels = all_bytes (bytes_of 1) flags ++ all_bytes f64_bytes levels
flags_and_levels Scores flags levels = []

-- the values, and for decibels the flags and levels
abbrev pub lists_bytes : Asked → List ℕ
lists_bytes j = all_bytes f32_bytes j.values ++ flags_and_levels j.recording.domain j.flags j.levels

-- all that is behind the map
abbrev pub fields_bytes : Asked → List ℕ
fields_bytes j =
    let p = j.settings in
    lengths_then p (count_then p.mode (gap_byte p.gap ∷ placement_then p.placement (weights_then p.weights
    (threshold_then j.segment.threshold (durations_then j.segment
    (recorded_then j.recording (length j.values) (lists_bytes j)))))))

-- a whole job: the map and every field
unfoldable pub encode : Asked → List ℕ
encode j = bytes_of 2 (map_of j.settings.mode) ++ fields_bytes j

-- ---- the jobs that can be written

-- a number of 32 bits
abbrev pub IsU32 : ℕ → Type 0
IsU32 n = n < 4294967296

-- of 16 bits
abbrev pub IsU16 : ℕ → Type 0
IsU16 n = n < 65536

-- a byte
abbrev pub is_byte : ℕ → Bool
is_byte n = ltb n 256

-- a float of 32 bits
abbrev pub IsF32 : Float → Type 0
IsF32 x = T (fits binary32 x)

-- of 64 bits
abbrev pub IsF64 : Float → Type 0
IsF64 x = T (fits binary64 x)

-- the count fits its field, where there is one
abbrev pub CountFits : Mode → Type 0
CountFits ByLength = Unit {0}
CountFits (ByCount count) = IsU32 count

-- the ratio, where there is one
abbrev pub PlacementFits : Placement → Type 0
PlacementFits Quietest = Unit {0}
PlacementFits Center = Unit {0}
PlacementFits (Ratio ratio) = IsF32 ratio

-- the level, where there is one
abbrev pub ThresholdFits : Threshold → Type 0
ThresholdFits Auto = Unit {0}
ThresholdFits (Abs level) = IsF32 level
ThresholdFits (BelowRef level) = IsF32 level

-- every number of the settings fits its field
pub record SettingsFit (p : PlanConfig) : Type 0 where
  pub min_fits : IsU64 p.min
  pub target_fits : IsU64 p.target
  pub max_fits : IsU64 p.max
  pub count_fits : CountFits p.mode
  pub placement_fits : PlacementFits p.placement

-- every number of the weights fits its field
pub record WeightsFit (w : Weights) : Type 0 where
  pub cut_fits : IsF64 w.cut
  pub level_fits : IsF64 w.level
  pub pause_fits : IsF64 w.pause
  pub reference_fits : IsU64 w.pause_ref
  pub target_fits : IsF64 w.target
  pub short_fits : IsF64 w.short

-- every number of the segment settings fits its field
pub record SegmentFits (c : SegmentConfig) : Type 0 where
  pub threshold_fits : ThresholdFits c.threshold
  pub silence_fits : IsU64 c.min_silence
  pub sound_fits : IsU64 c.min_sound
  pub pre_fits : IsU64 c.pre
  pub tail_fits : IsU64 c.tail

-- every number of the recording fits its field
pub record RecordingFits (r : Recording) : Type 0 where
  pub rate_fits : IsU32 r.sample_rate
  pub channels_fit : IsU16 r.channels
  pub frame_rate_fits : IsU32 r.frame_rate
  pub hop_fits : IsU32 r.hop
  pub length_fits : IsU64 r.len

-- flags and levels are one a frame for decibels; for scores the flags are all 0 and the levels empty
abbrev pub ListsFit : Domain → ℕ → List ℕ → List Float → Type 0
ListsFit Decibels frames flags levels =
    (length flags ≡ frames) × (all_of is_byte flags ≡ true) × (length levels ≡ frames) × (all_of (fits binary64) levels ≡ true)
ListsFit Scores frames flags levels = (flags ≡ replicate frames 0) × (levels ≡ [])

-- within the limits of a job
pub record Encodable (j : Asked) : Type 0 where
  pub settings_fit : SettingsFit j.settings
  pub weights_fit : WeightsFit j.settings.weights
  pub segment_fits : SegmentFits j.segment
  pub recording_fits : RecordingFits j.recording
  pub few_frames : length j.values ≤ most_frames
  pub values_fit : all_of (fits binary32) j.values ≡ true
  pub lists_fit : ListsFit j.recording.domain (length j.values) j.flags j.levels
  pub few_bytes : length (encode j) ≤ most_bytes
