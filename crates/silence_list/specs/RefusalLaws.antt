-- The chain of the tests: which answer each end gives, what is left of a recording and its settings where none fails, and that no refusal has the number 0.
use Rattle.std.specs.Prelude.{◌≡◌, refl, true, false, ◌&&◌, List, ℕ, ◌+◌, ◌≤◌, Float, length, Result, Ok, Err}
use Rattle.std.proofs.Math.Path.{ap}
use Rattle.std.proofs.Common.{◌∙◌, arith, leb→le, eqb→eq}
use Rattle.base_laws.specs.Tests.{holds, both}
use Rattle.base_terms.specs.Lists.{all_of}
use Rattle.base_terms.specs.Work.{work_ok}
use Rattle.base_code.specs.WorkLaws.{WorkIn, work_parts}
use Rattle.grid.specs.Limits.{max_frame_rate, max_hop, max_frames, max_duration}
use Rattle.grid.specs.Durations.{duration_ok, InFrames}
use Rattle.grid.specs.Values.{is_finite}
use Rattle.grid.specs.ValuesLaws.{values_finite}
use Rattle.grid.specs.Validate.{validity_of, is_valid}
use Rattle.grid.specs.ValidateLaws.{passed, frames_parts, lists_parts, within_most, within_pos, valid_is, number_some}
use Rattle.grid.specs.declared.validate.Recording.{Recording}
use Rattle.grid.specs.declared.validate.Refusal as recording_refusal
use Rattle.silence_levels.specs.Threshold.{threshold_ok}
use Rattle.silence_list.specs.Refusal.{durations_ok, or_recording, first_refusal_of, number_of}
use Rattle.silence_list.specs.declared.config.SegmentConfig.{SegmentConfig}
use Rattle.silence_list.specs.declared.refusal.Refusal.{Refusal}
use Rattle.silence_list.specs.declared.refusal.Refusal.TheVariants.{BadRecording, LongDuration, BadThreshold, ShortWork}

-- test 7, taken apart
pub durations_parts : (c : SegmentConfig) → durations_ok c ≡ true
    → (c.min_silence ≤ max_duration) × (c.min_sound ≤ max_duration) × (c.pre ≤ max_duration) × (c.tail ≤ max_duration)
unfolding durations_ok
durations_parts c e =
    let p = both (duration_ok c.min_silence && duration_ok c.min_sound && duration_ok c.pre) (duration_ok c.tail) e in
    let q = both (duration_ok c.min_silence && duration_ok c.min_sound) (duration_ok c.pre) p.0 in
    let s = both (duration_ok c.min_silence) (duration_ok c.min_sound) q.0 in (
      leb→le c.min_silence max_duration (holds s.0),
      leb→le c.min_sound max_duration (holds s.1),
      leb→le c.pre max_duration (holds q.1),
      leb→le c.tail max_duration (holds p.1),
    )

-- what the sound flags of a recording are made from, once tests 1 to 7 have passed
pub record SoundReady (r : Recording) (c : SegmentConfig) (values : List Float) (flags : List ℕ) : Type 0 where
  pub few : length values ≤ max_frames
  pub flagged : length flags ≡ length values
  pub finite : all_of is_finite values ≡ true
  pub sound : InFrames r.frame_rate r.hop c.min_sound
  pub silence : InFrames r.frame_rate r.hop c.min_silence

-- a recording that 1 to 6 accept is ready, with settings that 7 accepts
pub sound_ready : (r : Recording) (c : SegmentConfig) (values : List Float) (flags : List ℕ) (levels : List Float)
    → validity_of r values flags levels ≡ Ok tt → durations_ok c ≡ true → SoundReady r c values flags
sound_ready r c values flags levels v d =
    let p = passed r values flags levels v in
    let f = frames_parts r.sample_rate r.frame_rate r.hop p.frames in
    let l = lists_parts r.domain (length values) (length flags) (length levels) p.lists in
    let t = durations_parts c d in
    let rate = within_most r.frame_rate max_frame_rate f.0 in
    let step = within_pos r.hop max_hop f.1 in
    let most = within_most r.hop max_hop f.1 in
    let finite = values_finite r.domain values flags levels p.within in
    search (leb→le (length values) max_frames (holds l.0), eqb→eq (length flags) (length values) (holds l.1))

-- "refused" is not "accepted"
refused_accepted : {A : Type 0} {x : A} → ◌≡◌ {A = Result Unit A} (Err x) (Ok tt) → ⊥
refused_accepted e = let z : ◌≡◌ {A = ℕ} 0 1 = cc in omega arith

-- a chain without refusal has accepted the recording, and its rest has none
recording_step : (v : Result Unit recording_refusal.Refusal) (rest : Result Unit Refusal) → or_recording v rest ≡ Ok tt → (v ≡ Ok tt) × (rest ≡ Ok tt)
recording_step (Ok u) rest e = (refl, e)
recording_step (Err x) rest e = absurd (refused_accepted e)

-- no refusal of a recording has the number 0; where the rest of the chain gives none of that number, the chain doesn't
other_recording : (v : Result Unit recording_refusal.Refusal) (rest : Result Unit Refusal) (x : Refusal) → (rest ≡ Err x → number_of x ≡ 0 → ⊥)
    → or_recording v rest ≡ Err x → number_of x ≡ 0 → ⊥
other_recording (Ok u) rest x g e z = g e z
other_recording (Err y) rest x g e z = let q : BadRecording y ≡ x = cc in number_some y (ap number_of q ∙ z)

-- ---- the five ends of the chain, each under what has passed before it

module _ (r : Recording) (c : SegmentConfig) (values : List Float) (flags : List ℕ) (levels : List Float) (n32 n64 nf : ℕ) where
  -- a recording's refusal comes first, with its own number
  pub fails_recording : (x : recording_refusal.Refusal) → validity_of r values flags levels ≡ Err x → Err (BadRecording x) ≡ first_refusal_of r c values flags levels n32 n64 nf
  unfolding first_refusal_of
  fails_recording x n = rw n

  module _ (v : is_valid (validity_of r values flags levels) ≡ true) where
    -- 7, where the recording is accepted
    pub fails_duration : durations_ok c ≡ false → Err LongDuration ≡ first_refusal_of r c values flags levels n32 n64 nf
    unfolding first_refusal_of
    fails_duration n = rw (valid_is (validity_of r values flags levels) v, n)

    module _ (d : durations_ok c ≡ true) where
      -- 11, where 7 passed too
      pub fails_threshold : threshold_ok c.threshold ≡ false → Err BadThreshold ≡ first_refusal_of r c values flags levels n32 n64 nf
      unfolding first_refusal_of
      fails_threshold n = rw (valid_is (validity_of r values flags levels) v, d, n)

      module _ (t : threshold_ok c.threshold ≡ true) where
        -- 13, where 11 passed too
        pub fails_work : work_ok (length values + 1) n32 n64 nf ≡ false → Err ShortWork ≡ first_refusal_of r c values flags levels n32 n64 nf
        unfolding first_refusal_of
        fails_work n = rw (valid_is (validity_of r values flags levels) v, d, t, n)

        -- no test fails, where 13 passes as well
        pub passes : work_ok (length values + 1) n32 n64 nf ≡ true → Ok tt ≡ first_refusal_of r c values flags levels n32 n64 nf
        unfolding first_refusal_of
        passes n = rw (valid_is (validity_of r values flags levels) v, d, t, n)

  -- ---- and back

  -- without a refusal the recording is ready, and the work lists are long enough; in which order 7, 11 and 13 come does not matter
  pub fine_ready : first_refusal_of r c values flags levels n32 n64 nf ≡ Ok tt → SoundReady r c values flags × WorkIn (length values + 1) n32 n64 nf
  unfolding first_refusal_of
  fine_ready e =
      let a = recording_step (validity_of r values flags levels) _ e in
      let d : durations_ok c ≡ true = grind (arith, a.1) in
      let w : work_ok (length values + 1) n32 n64 nf ≡ true = grind (arith, a.1) in
      (sound_ready r c values flags levels a.0 d, work_parts (length values + 1) n32 n64 nf w)

  -- no refusal that is given has the number 0, whatever the order of 7, 11 and 13
  pub fails_some : (x : Refusal) → first_refusal_of r c values flags levels n32 n64 nf ≡ Err x → number_of x ≡ 0 → ⊥
  unfolding first_refusal_of
  fails_some x = other_recording (validity_of r values flags levels) _ x (λ e z. grind (arith, e, z))
