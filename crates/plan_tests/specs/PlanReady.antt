-- What the tests of a plan leave for the work: bounded grids and durations, levels on their scale, room in the work lists.
use Rattle.std.specs.Prelude.{◌≡◌, true, ◌&&◌, List, ℕ, ◌+◌, ◌≤◌, ◌<◌, ltb, leb, Float, length, Ok}
use Rattle.std.proofs.Common.{sym, ap, ◌∙◌, ltb-true, leb-true}
use Rattle.base_laws.specs.Tests.{both}
use Rattle.base_code.specs.WorkLaws.{WorkIn, work_parts}
use Rattle.base_terms.specs.Limits.{max_len}
use Rattle.grid.specs.Limits.{max_frames, max_duration}
use Rattle.grid.specs.Durations.{InFrames}
use Rattle.grid.specs.BoundaryLaws.{Accepted}
use Rattle.grid.specs.Validate.{grid_of}
use Rattle.grid.specs.ValidateLaws as validity
use Rattle.grid.specs.ValuesLaws.{values_finite}
use Rattle.grid.specs.declared.validate.Recording.{Recording}
use Rattle.silence_levels.specs.Threshold.{threshold_ok}
use Rattle.silence_levels.specs.Levels.{levels_of}
use Rattle.silence_list.specs.Refusal.{durations_ok}
use Rattle.silence_list.specs.RefusalLaws as silences
use Rattle.silence_list.specs.declared.config.SegmentConfig.{SegmentConfig}
use Rattle.path_pieces.specs.declared.mode.Mode.TheVariants.{ByCount}
use Rattle.path_tests.specs.Refusal as tests
use Rattle.path_tests.specs.RefusalLaws as lent
use Rattle.plan_settings.specs.Tests.{ratio_ok, weights_ok}
use Rattle.plan_settings.specs.TestsLaws.{Weighed, weights_parts}
use Rattle.plan_settings.specs.declared.config.PlanConfig.{PlanConfig}
use Rattle.candidate_span.specs.Spacing.{block_of}
use Rattle.candidate_span.specs.SpacingLaws.{Spaced, passed_spaced, block_some}
use Rattle.candidate_costs.specs.Window.{smoothing, width_of}
use Rattle.candidate_costs.specs.NormalizeLaws.{Scaled}
use Rattle.candidate_costs.specs.LevelLaws.{Measured}
use Rattle.candidate_costs.specs.Within.{Levelled, levels_scaled, smoothing-frames, passed_measured, passed_levelled}
use Rattle.plan_tests.specs.Refusal.{piece_lengths_ok, all_durations_ok, first_refusal_of}
use Rattle.plan_tests.specs.Fitting.{Fitting}
use Rattle.plan_tests.specs.RefusalLaws.{TestsPassed, passed, valid_passed, valid_few}

-- test 7 for what a piece should last, taken apart
pub record Preferring (least target most : ℕ) : Type 0 where
  pub least_time : least ≤ max_duration
  pub target_time : target ≤ max_duration
  pub most_time : most ≤ max_duration
  pub target_some : 0 < target
  pub least_target : least ≤ target
  pub target_most : target ≤ most

-- which holds of durations that pass it
pub lengths_parts : (least target most : ℕ) → piece_lengths_ok least target most ≡ true → Preferring least target most
unfolding piece_lengths_ok
lengths_parts least target most e =
    let a = leb least max_duration in
    let b = leb target max_duration in
    let c = leb most max_duration in
    let d = ltb 0 target in
    let f = leb least target in
    let p4 = both (a && b && c && d && f) (leb target most) e in
    let p3 = both (a && b && c && d) f p4.0 in
    let p2 = both (a && b && c) d p3.0 in
    let p1 = both (a && b) c p2.0 in
    let p0 = both a b p1.0 in
    record {
      least_time = leb-true least max_duration p0.0;
      target_time = leb-true target max_duration p0.1;
      most_time = leb-true most max_duration p1.1;
      target_some = ltb-true 0 target p2.1;
      least_target = leb-true least target p3.1;
      target_most = leb-true target most p4.1;
    }

-- what each step of a plan asks of a request
pub record PlanReady (r : Recording) (segment : SegmentConfig) (settings : PlanConfig) (values : List Float) (flags : List ℕ) (levels : List Float) (n32 n64 nf : ℕ) : Type 0 where
  -- the recording, its grid and its frames
  pub recording : validity.AcceptedRecording r values flags levels
  pub accepted : Accepted (grid_of r (length values))
  pub length_bounded : r.len ≤ max_len
  pub few : length values ≤ max_frames
  -- the silences
  pub sounds : silences.SoundReady r segment values flags
  pub threshold : threshold_ok segment.threshold ≡ true
  -- the durations, and what is made of them on the grid
  pub preferring : Preferring settings.min settings.target settings.max
  pub pre_spaced : Spaced (grid_of r (length values)) segment.pre
  pub tail_spaced : Spaced (grid_of r (length values)) segment.tail
  pub min_spaced : Spaced (grid_of r (length values)) settings.min
  pub target_spaced : Spaced (grid_of r (length values)) settings.target
  pub max_spaced : Spaced (grid_of r (length values)) settings.max
  pub block_some : 1 ≤ block_of (grid_of r (length values)) settings.min settings.max
  -- the levels
  pub smoothed : InFrames r.frame_rate r.hop smoothing
  pub measured : Measured r.domain (width_of r.frame_rate r.hop) values levels
  pub scaled : Scaled (levels_of r.domain segment.threshold values flags)
  -- the settings
  pub counted : (count : ℕ) → settings.mode ≡ ByCount count → (0 < count) × (count ≤ tests.max_count)
  pub ratio : ratio_ok settings.placement ≡ true
  pub weights : weights_ok settings.weights ≡ true
  pub weighed : Weighed settings.weights
  -- 16 entries for each frame and one more, in each work list
  pub work : WorkIn (length values + 1) n32 n64 nf

module _ (r : Recording) (segment : SegmentConfig) (settings : PlanConfig) (values : List Float) (flags : List ℕ) (levels : List Float) (n32 n64 nf : ℕ) where
  -- tests that have passed leave what planning needs
  pub passed_ready : TestsPassed r segment settings values flags levels n32 n64 nf → PlanReady r segment settings values flags levels n32 n64 nf
  unfolding all_durations_ok
  passed_ready p =
      let q = valid_passed r values flags levels p.recording in
      let accepted = validity.passed_accepted r values flags levels q in
      let times = both (durations_ok segment) (piece_lengths_ok settings.min settings.target settings.max) p.durations in
      let d = silences.durations_parts segment times.0 in
      let l = lengths_parts settings.min settings.target settings.max times.1 in
      record {
        recording = q;
        accepted = accepted;
        length_bounded = validity.passed_length r values flags levels q;
        few = valid_few r values flags levels p.recording;
        sounds = silences.sound_ready r segment values flags levels (validity.valid_is _ p.recording) times.0;
        threshold = p.threshold;
        preferring = l;
        pre_spaced = passed_spaced r values flags levels q segment.pre d.2;
        tail_spaced = passed_spaced r values flags levels q segment.tail d.3;
        min_spaced = passed_spaced r values flags levels q settings.min l.least_time;
        target_spaced = passed_spaced r values flags levels q settings.target l.target_time;
        max_spaced = passed_spaced r values flags levels q settings.max l.most_time;
        block_some = block_some (grid_of r (length values)) settings.min settings.max;
        smoothed = smoothing-frames r.sample_rate r.frame_rate r.hop q.frames;
        measured = passed_measured r values flags levels q;
        scaled = levels_scaled r.domain segment.threshold values flags (values_finite r.domain values flags levels q.within);
        counted = λ (count : ℕ) (m : settings.mode ≡ ByCount count). lent.count_parts count (sym (ap tests.count_ok m) ∙ p.count);
        ratio = p.ratio;
        weights = p.weights;
        weighed = weights_parts settings.weights p.weights;
        work = work_parts (length values + 1) n32 n64 nf p.work;
      }

  -- so does a call in which no test fails
  pub fine_ready : first_refusal_of r segment settings values flags levels n32 n64 nf ≡ Ok tt → PlanReady r segment settings values flags levels n32 n64 nf
  fine_ready e = passed_ready (passed r segment settings values flags levels n32 n64 nf e)

  -- the levels are on their scale, where the lists hold what their types say
  pub ready_levelled : PlanReady r segment settings values flags levels n32 n64 nf → Fitting values levels
      → Levelled r.domain (levels_of r.domain segment.threshold values flags) (width_of r.frame_rate r.hop) values flags levels
  ready_levelled p f = passed_levelled r values flags levels p.recording segment.threshold f.values_fit f.levels_fit
