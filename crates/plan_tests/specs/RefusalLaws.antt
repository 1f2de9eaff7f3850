-- The chain of the tests: which answer each end gives, what has passed where no test fails, and which numbers its refusals have.
use Rattle.std.specs.Prelude.{◌≡◌, refl, Bool, true, false, List, ℕ, ◌+◌, ◌≤◌, Float, length, Result, Ok, Err}
use Rattle.std.proofs.Common.{sym, ap, ◌∙◌, arith}
use Rattle.base_terms.specs.Work.{work_ok}
use Rattle.base_laws.specs.Tests.{unmet}
use Rattle.grid.specs.Limits.{max_frames}
use Rattle.grid.specs.Validate as recording
use Rattle.grid.specs.Validate.{validity_of, is_valid}
use Rattle.grid.specs.ValidateLaws as validity
use Rattle.grid.specs.declared.validate.Recording.{Recording}
use Rattle.grid.specs.declared.validate.Refusal as recording_refusal
use Rattle.grid.specs.declared.validate.Refusal.TheVariants.{BadSampleRate, NoChannels, BadFrames, BadLists, BadValue, NotCovered}
use Rattle.silence_levels.specs.Threshold.{threshold_ok}
use Rattle.silence_list.specs.declared.config.SegmentConfig.{SegmentConfig}
use Rattle.path_tests.specs.Refusal.{count_ok}
use Rattle.plan_settings.specs.Tests.{ratio_ok, weights_ok}
use Rattle.plan_settings.specs.declared.config.PlanConfig.{PlanConfig}
use Rattle.plan_tests.specs.Refusal.{all_durations_ok, or_recording, or_else, first_refusal_of, number_of}
use Rattle.plan_tests.specs.declared.refusal.Refusal.{Refusal}
use Rattle.plan_tests.specs.declared.refusal.Refusal.TheVariants.{BadRecording, BadDurations, BadCount, BadRatio, BadWeights, BadThreshold, ShortWork}

-- an accepted recording, as the grid's laws have it
pub valid_passed : (r : Recording) (values : List Float) (flags : List ℕ) (levels : List Float) → is_valid (validity_of r values flags levels) ≡ true → validity.AcceptedRecording r values flags levels
valid_passed r values flags levels e = validity.passed r values flags levels (validity.valid_is (validity_of r values flags levels) e)

-- its frames are within their limit
pub valid_few : (r : Recording) (values : List Float) (flags : List ℕ) (levels : List Float) → is_valid (validity_of r values flags levels) ≡ true → length values ≤ max_frames
valid_few r values flags levels e = (validity.passed_accepted r values flags levels (valid_passed r values flags levels e)).bounded.frames

-- ---- the eight ends of the chain, each under what has passed before it

module _ (r : Recording) (segment : SegmentConfig) (settings : PlanConfig) (values : List Float) (flags : List ℕ) (levels : List Float) (n32 n64 nf : ℕ) where
  -- a recording's refusal comes first, with its own number
  pub fails_recording : (x : recording_refusal.Refusal) → validity_of r values flags levels ≡ Err x → Err (BadRecording x) ≡ first_refusal_of r segment settings values flags levels n32 n64 nf
  unfolding first_refusal_of
  fails_recording x n = rw n

  module _ (a : is_valid (validity_of r values flags levels) ≡ true) where
    -- 7, where the recording is accepted
    pub fails_durations : all_durations_ok segment settings ≡ false → Err BadDurations ≡ first_refusal_of r segment settings values flags levels n32 n64 nf
    unfolding first_refusal_of
    fails_durations n = rw (validity.valid_is (validity_of r values flags levels) a, n)

    module _ (b : all_durations_ok segment settings ≡ true) where
      -- 8, where 7 passed too
      pub fails_count : count_ok settings.mode ≡ false → Err BadCount ≡ first_refusal_of r segment settings values flags levels n32 n64 nf
      unfolding first_refusal_of
      fails_count n = rw (validity.valid_is (validity_of r values flags levels) a, b, n)

      module _ (c : count_ok settings.mode ≡ true) where
        -- 9 comes before 10, 11 and 13: it is given where 1 to 8 pass and the ratio fails, whatever comes behind it
        pub fails_ratio : ratio_ok settings.placement ≡ false → Err BadRatio ≡ first_refusal_of r segment settings values flags levels n32 n64 nf
        unfolding first_refusal_of
        fails_ratio n = rw (validity.valid_is (validity_of r values flags levels) a, b, c, n)

        module _ (d : ratio_ok settings.placement ≡ true) where
          -- 10, where 9 passed too
          pub fails_weights : weights_ok settings.weights ≡ false → Err BadWeights ≡ first_refusal_of r segment settings values flags levels n32 n64 nf
          unfolding first_refusal_of
          fails_weights n = rw (validity.valid_is (validity_of r values flags levels) a, b, c, d, n)

          module _ (e : weights_ok settings.weights ≡ true) where
            -- 11, where 10 passed too
            pub fails_threshold : threshold_ok segment.threshold ≡ false → Err BadThreshold ≡ first_refusal_of r segment settings values flags levels n32 n64 nf
            unfolding first_refusal_of
            fails_threshold n = rw (validity.valid_is (validity_of r values flags levels) a, b, c, d, e, n)

            module _ (f : threshold_ok segment.threshold ≡ true) where
              -- 13, where 11 passed too
              pub fails_work : work_ok (length values + 1) n32 n64 nf ≡ false → Err ShortWork ≡ first_refusal_of r segment settings values flags levels n32 n64 nf
              unfolding first_refusal_of
              fails_work n = rw (validity.valid_is (validity_of r values flags levels) a, b, c, d, e, f, n)

              -- no test fails, where 13 passes as well
              pub passes : work_ok (length values + 1) n32 n64 nf ≡ true → Ok tt ≡ first_refusal_of r segment settings values flags levels n32 n64 nf
              unfolding first_refusal_of
              passes n = rw (validity.valid_is (validity_of r values flags levels) a, b, c, d, e, f, n)

-- ---- no test fails

-- "refused" is not "accepted"
refused_accepted : {A : Type 0} {x : A} → ◌≡◌ {A = Result Unit A} (Err x) (Ok tt) → ⊥
refused_accepted e = let z : ◌≡◌ {A = ℕ} 0 1 = cc in omega arith

-- a chain that is fine has accepted the recording, and its rest is fine
recording_step : (v : Result Unit recording_refusal.Refusal) {rest : Result Unit Refusal} → or_recording v rest ≡ Ok tt → (is_valid v ≡ true) × (rest ≡ Ok tt)
recording_step (Ok u) e = (refl, e)
recording_step (Err x) e = absurd (refused_accepted e)

-- and has passed its first test
step : (b : Bool) (refusal : Refusal) {rest : Result Unit Refusal} → or_else b refusal rest ≡ Ok tt → (b ≡ true) × (rest ≡ Ok tt)
step true refusal e = (refl, e)
step false refusal e = absurd (refused_accepted e)

-- what has passed: the tests 1 to 6, 7, 8, 9, 10, 11 and 13
pub record TestsPassed (r : Recording) (segment : SegmentConfig) (settings : PlanConfig) (values : List Float) (flags : List ℕ) (levels : List Float) (n32 n64 nf : ℕ) : Type 0 where
  pub recording : is_valid (validity_of r values flags levels) ≡ true
  pub durations : all_durations_ok segment settings ≡ true
  pub count : count_ok settings.mode ≡ true
  pub ratio : ratio_ok settings.placement ≡ true
  pub weights : weights_ok settings.weights ≡ true
  pub threshold : threshold_ok segment.threshold ≡ true
  pub work : work_ok (length values + 1) n32 n64 nf ≡ true

-- where no test fails, all of these have passed; in which order those from 9 on come does not matter
pub passed : (r : Recording) (segment : SegmentConfig) (settings : PlanConfig) (values : List Float) (flags : List ℕ) (levels : List Float) (n32 n64 nf : ℕ)
    → first_refusal_of r segment settings values flags levels n32 n64 nf ≡ Ok tt → TestsPassed r segment settings values flags levels n32 n64 nf
unfolding first_refusal_of
passed r segment settings values flags levels n32 n64 nf e =
    let p = recording_step (validity_of r values flags levels) e in
    let q = step (all_durations_ok segment settings) BadDurations p.1 in
    let s = step (count_ok settings.mode) BadCount q.1 in
    record {
      recording = p.0;
      durations = q.0;
      count = s.0;
      ratio = grind (arith, s.1);
      weights = grind (arith, s.1);
      threshold = grind (arith, s.1);
      work = grind (arith, s.1);
    }

-- ---- the number

-- that of a recording is at most 6
recording_most : (x : recording_refusal.Refusal) → recording.number_of x ≤ 6
recording_most BadSampleRate = omega arith
recording_most NoChannels = omega arith
recording_most BadFrames = omega arith
recording_most BadLists = omega arith
recording_most BadValue = omega arith
recording_most NotCovered = omega arith

-- a chain gives no refusal of a number that a recording's refusals don't have, and that its rest does not give
neither_recording : (n : ℕ) (v : Result Unit recording_refusal.Refusal) (rest : Result Unit Refusal) (x : Refusal)
    → ((y : recording_refusal.Refusal) → recording.number_of y ≡ n → ⊥) → (rest ≡ Err x → number_of x ≡ n → ⊥)
    → or_recording v rest ≡ Err x → number_of x ≡ n → ⊥
neither_recording n (Ok u) rest x f g e z = g e z
neither_recording n (Err y) rest x f g e z = let q : BadRecording y ≡ x = cc in f y (ap number_of q ∙ z)

-- a chain gives no refusal of a number that its first test has only where it passes, and that its rest does not give
neither : (n : ℕ) (b : Bool) (refusal : Refusal) (rest : Result Unit Refusal) (x : Refusal) → (number_of refusal ≡ n → b ≡ true) → (rest ≡ Err x → number_of x ≡ n → ⊥)
    → or_else b refusal rest ≡ Err x → number_of x ≡ n → ⊥
neither n true refusal rest x f g e z = g e z
neither n false refusal rest x f g e z = let q : refusal ≡ x = cc in unmet (f (ap number_of q ∙ z))

module _ (r : Recording) (segment : SegmentConfig) (settings : PlanConfig) (values : List Float) (flags : List ℕ) (levels : List Float) (n32 n64 nf : ℕ) (x : Refusal) where
  -- no refusal that is given has the number 0
  pub fails_some : first_refusal_of r segment settings values flags levels n32 n64 nf ≡ Err x → number_of x ≡ 0 → ⊥
  unfolding first_refusal_of
  fails_some =
      neither_recording 0 (validity_of r values flags levels) _ x validity.number_some
      (neither 0 (all_durations_ok segment settings) BadDurations _ x (λ e. absurd (omega (arith, e)))
      (neither 0 (count_ok settings.mode) BadCount _ x (λ e. absurd (omega (arith, e)))
      (neither 0 (ratio_ok settings.placement) BadRatio _ x (λ e. absurd (omega (arith, e)))
      (neither 0 (weights_ok settings.weights) BadWeights _ x (λ e. absurd (omega (arith, e)))
      (neither 0 (threshold_ok segment.threshold) BadThreshold _ x (λ e. absurd (omega (arith, e)))
      (neither 0 (work_ok (length values + 1) n32 n64 nf) ShortWork (Ok tt) x (λ e. absurd (omega (arith, e))) (λ e z. refused_accepted (sym e))))))))

  -- 13 is that of work lists which are too short alone
  pub never_work : work_ok (length values + 1) n32 n64 nf ≡ true → first_refusal_of r segment settings values flags levels n32 n64 nf ≡ Err x → number_of x ≡ 13 → ⊥
  unfolding first_refusal_of
  never_work t =
      neither_recording 13 (validity_of r values flags levels) _ x (λ y e. omega (arith, recording_most y, e))
      (neither 13 (all_durations_ok segment settings) BadDurations _ x (λ e. absurd (omega (arith, e)))
      (neither 13 (count_ok settings.mode) BadCount _ x (λ e. absurd (omega (arith, e)))
      (neither 13 (ratio_ok settings.placement) BadRatio _ x (λ e. absurd (omega (arith, e)))
      (neither 13 (weights_ok settings.weights) BadWeights _ x (λ e. absurd (omega (arith, e)))
      (neither 13 (threshold_ok segment.threshold) BadThreshold _ x (λ e. absurd (omega (arith, e)))
      (neither 13 (work_ok (length values + 1) n32 n64 nf) ShortWork (Ok tt) x (λ e. t) (λ e z. refused_accepted (sym e))))))))

-- 12 is not among them
pub never_output : (x : Refusal) → number_of x ≡ 12 → ⊥
never_output (BadRecording y) e = omega (arith, recording_most y, e)
never_output BadDurations e = omega (arith, e)
never_output BadCount e = omega (arith, e)
never_output BadRatio e = omega (arith, e)
never_output BadWeights e = omega (arith, e)
never_output BadThreshold e = omega (arith, e)
never_output ShortWork e = omega (arith, e)

-- the highest is 13
pub number_most : (x : Refusal) → number_of x ≤ 13
number_most (BadRecording y) = omega (arith, recording_most y)
number_most BadDurations = omega arith
number_most BadCount = omega arith
number_most BadRatio = omega arith
number_most BadWeights = omega arith
number_most BadThreshold = omega arith
number_most ShortWork = omega arith
