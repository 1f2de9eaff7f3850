-- Document 01's recording R as a job of 81 bytes, whole and damaged, read through the whole definition.
use Rattle.std.specs.Prelude.{◌≡◌, refl, false, List, [], ◌∷◌, ◌++◌, ℕ, pos, Float, take, set, replicate, Ok}
use Rattle.std.specs.Float.{fin}
use Rattle.std.specs.Float.Ieee.{of_bits}
use Rattle.base_terms.specs.Lists.{tabulate}
use Rattle.numbers_in.specs.Numbers.{number_of}
use Rattle.grid.specs.declared.validate.Domain.TheVariants.{Scores}
use Rattle.silence_levels.specs.declared.threshold.Threshold.TheVariants.{Auto}
use Rattle.path_pieces.specs.declared.mode.Mode.TheVariants.{ByLength}
use Rattle.plan_settings.specs.declared.config.Gap.TheVariants.{Keep}
use Rattle.plan_settings.specs.declared.config.Placement.TheVariants.{Quietest}
use Rattle.kinds.specs.Numbered.{threshold_of, placement_of}
use Rattle.job.specs.Fields.{refused, u64_field, f32_field, kind_field}
use Rattle.job.specs.Settings.{mode_at, gap_at, placement_at, default_weights, weights_at, settings_at}
use Rattle.job.specs.Segment.{threshold_at, segment_at}
use Rattle.job.specs.Recorded.{recorded_at}
use Rattle.job.specs.Job.{numbers_of, fitted, read_of, values_in, flags_in, levels_in, with_lists, job_of}
use Rattle.job.specs.declared.answer.Fault.TheVariants.{TooLong, UnknownBit, UnknownKind, CutShort, TooManyFrames, BytesAfter}

-- map 7; 100, 300, 400 ms; 1,000 Hz, 1 channel, frame rate 10, hop 1, length 700, scores, 7 frames; 1 1 0 0 0 1 1
abbrev pub job_r : List ℕ
job_r =
    7 ∷ 0 ∷
    0 ∷ 225 ∷ 245 ∷ 5 ∷ 0 ∷ 0 ∷ 0 ∷ 0 ∷
    0 ∷ 163 ∷ 225 ∷ 17 ∷ 0 ∷ 0 ∷ 0 ∷ 0 ∷
    0 ∷ 132 ∷ 215 ∷ 23 ∷ 0 ∷ 0 ∷ 0 ∷ 0 ∷
    232 ∷ 3 ∷ 0 ∷ 0 ∷
    1 ∷ 0 ∷
    10 ∷ 0 ∷ 0 ∷ 0 ∷
    1 ∷ 0 ∷ 0 ∷ 0 ∷
    188 ∷ 2 ∷ 0 ∷ 0 ∷ 0 ∷ 0 ∷ 0 ∷ 0 ∷
    0 ∷
    7 ∷ 0 ∷ 0 ∷ 0 ∷
    0 ∷ 0 ∷ 128 ∷ 63 ∷
    0 ∷ 0 ∷ 128 ∷ 63 ∷
    0 ∷ 0 ∷ 0 ∷ 0 ∷
    0 ∷ 0 ∷ 0 ∷ 0 ∷
    0 ∷ 0 ∷ 0 ∷ 0 ∷
    0 ∷ 0 ∷ 128 ∷ 63 ∷
    0 ∷ 0 ∷ 128 ∷ 63 ∷ []

abbrev one : Float
one = fin false 1 (pos 0)

abbrev none : Float
none = fin false 0 (pos 0)

-- every field that is not there has its default
pub reads_R : job_of job_r
    ≡ Ok (record {
      recording = record { sample_rate = 1000; channels = 1; frame_rate = 10; hop = 1; len = 700; domain = Scores };
      segment = record { threshold = Auto; min_silence = 250000000; min_sound = 100000000; pre = 100000000; tail = 200000000 };
      settings = record {
        min = 100000000;
        target = 300000000;
        max = 400000000;
        mode = ByLength;
        gap = Keep;
        placement = Quietest;
        weights = default_weights;
      };
      values = one ∷ one ∷ none ∷ none ∷ none ∷ one ∷ one ∷ [];
      flags = 0 ∷ 0 ∷ 0 ∷ 0 ∷ 0 ∷ 0 ∷ 0 ∷ [];
      levels = [];
    })
unfolding job_of with_lists read_of numbers_of fitted settings_at mode_at gap_at placement_of placement_at weights_at segment_at threshold_of threshold_at recorded_at u64_field f32_field kind_field values_in flags_in levels_in tabulate number_of of_bits
reads_R = refl

-- a byte more, a byte fewer in the lists and in the numbers, bit 12, domain 2, 512 frames, 8,193 bytes
pub damaged : (job_of (job_r ++ (0 ∷ [])) ≡ refused BytesAfter 81)
    × (job_of (take 80 job_r) ≡ refused CutShort 80)
    × (job_of (take 52 job_r) ≡ refused CutShort 52)
    × (job_of (set job_r 1 16) ≡ refused UnknownBit 0)
    × (job_of (set job_r 48 2) ≡ refused UnknownKind 48)
    × (job_of (set (set job_r 49 0) 50 2) ≡ refused TooManyFrames 49)
    × (job_of (replicate 8193 0) ≡ refused TooLong 8192)
unfolding job_of with_lists read_of numbers_of fitted settings_at mode_at gap_at placement_of placement_at weights_at segment_at threshold_of threshold_at recorded_at u64_field f32_field kind_field values_in flags_in levels_in tabulate number_of of_bits
damaged = (refl, refl, refl, refl, refl, refl, refl)
