-- The chain of the tests: which answer each end gives, and what an accepted recording has passed.
use Rattle.std.specs.Prelude.{◌≡◌, refl, ◌↔◌, Bool, true, false, ◌&&◌, List, ℕ, ◌+◌, ◌*◌, ◌≤◌, ◌<◌, ltb, leb, eqb, Float, Result, Ok, Err}
use Rattle.std.proofs.Common.{sym, ap, ◌∙◌, le_trans, arith, ltb→lt, leb→le, lit≤, le-leb}
use Rattle.std.specs.Float.Ieee.Fits.{and_l, and_r}
use Rattle.std.proofs.Math.ListN.{length}
use Rattle.base_terms.specs.Limits.{max_len}
use Rattle.base_laws.specs.Tests.{holds, both, unmet}
use Rattle.grid.specs.Limits.{max_rate, max_frame_rate, max_hop, max_frames}
use Rattle.grid.specs.Boundary.{Bounded, boundary_of, covers}
use Rattle.grid.specs.BoundaryLaws.{Accepted, boundary_rises}
use Rattle.grid.specs.Validate.{is_up_to, rate_ok, channels_ok, frame_step_ok, frames_ok, level_count, lists_ok, values_ok, length_ok, grid_of, or_else, validity_of, is_valid, number_of, refusal_of}
use Rattle.grid.specs.declared.boundary.FrameGrid.{FrameGrid}
use Rattle.grid.specs.declared.validate.Domain.{Domain}
use Rattle.grid.specs.declared.validate.Recording.{Recording}
use Rattle.grid.specs.declared.validate.Refusal.{Refusal}
use Rattle.grid.specs.declared.validate.Refusal.TheVariants.{BadSampleRate, NoChannels, BadFrames, BadLists, BadValue, NotCovered}

-- what the six tests leave of a recording
pub record AcceptedRecording (r : Recording) (values : List Float) (flags : List ℕ) (levels : List Float) : Type 0 where
  pub rate : rate_ok r.sample_rate ≡ true
  pub channels : channels_ok r.channels ≡ true
  pub frames : frames_ok r.sample_rate r.frame_rate r.hop ≡ true
  pub lists : lists_ok r.domain (length values) (length flags) (length levels) ≡ true
  pub within : values_ok r.domain values flags levels ≡ true
  pub length : length_ok (grid_of r (length values)) ≡ true

-- ---- what a test that passed says of the numbers

-- a number within its limit is at most that
pub within_most : (x most : ℕ) → is_up_to x most ≡ true → x ≤ most
unfolding is_up_to
within_most x most e = leb→le x most (and_r (ltb 0 x) (leb x most) (holds e))

-- and it is above 0
pub within_pos : (x most : ℕ) → is_up_to x most ≡ true → 0 < x
unfolding is_up_to
within_pos x most e = ltb→lt 0 x (and_l (ltb 0 x) (leb x most) (holds e))

-- up to 192,000, the limit before request S-10, test 1 answers what it did; no other definition of an answer has the limit in it
pub old_rates : (rate : ℕ) → rate ≤ 192000 → rate_ok rate ≡ is_up_to rate 192000
unfolding is_up_to
old_rates rate h = ap (λ (b : Bool). ltb 0 rate && b) (le-leb rate max_rate (le_trans h (lit≤ tt)) ∙ sym (le-leb rate 192000 h))

-- test 3 of frame rate and hop, taken apart
pub step_parts : (frameRate hop : ℕ) → frame_step_ok frameRate hop ≡ true → (is_up_to frameRate max_frame_rate ≡ true) × (is_up_to hop max_hop ≡ true)
unfolding frame_step_ok
step_parts frameRate hop e = both (is_up_to frameRate max_frame_rate) (is_up_to hop max_hop) e

-- test 3, taken apart
pub frames_parts : (rate frameRate hop : ℕ) → frames_ok rate frameRate hop ≡ true
    → (is_up_to frameRate max_frame_rate ≡ true) × (is_up_to hop max_hop ≡ true) × (frameRate ≤ hop * rate)
unfolding frames_ok
frames_parts rate frameRate hop e =
    let p = both (frame_step_ok frameRate hop) (leb frameRate (hop * rate)) e in
    let q = step_parts frameRate hop p.0 in
    (q.0, q.1, leb→le frameRate (hop * rate) (holds p.1))

-- a chain that accepts has passed its first test, and its rest accepts
step : (b : Bool) (refusal : Refusal) {rest : Result Unit Refusal} → or_else b refusal rest ≡ Ok tt → (b ≡ true) × (rest ≡ Ok tt)
step true refusal e = (refl, e)
step false refusal e = unmet (ap is_valid e)

-- test 4, taken apart
pub lists_parts : (domain : Domain) (frames flags levels : ℕ) → lists_ok domain frames flags levels ≡ true
    → (leb frames max_frames ≡ true) × (eqb flags frames ≡ true) × (eqb levels (level_count domain frames) ≡ true)
unfolding lists_ok
lists_parts domain frames flags levels e =
    let p = both (leb frames max_frames && eqb flags frames) (eqb levels (level_count domain frames)) e in
    let q = both (leb frames max_frames) (eqb flags frames) p.0 in
    (q.0, q.1, p.1)

-- test 6, taken apart
pub length_parts : (g : FrameGrid) → length_ok g ≡ true → (leb g.len max_len ≡ true) × (covers g ≡ true)
unfolding length_ok
length_parts g e = both (leb g.len max_len) (covers g) e

-- ---- the number 0

-- only `Ok` accepts
pub valid_is : (v : Result Unit Refusal) → is_valid v ≡ true → v ≡ Ok tt
valid_is (Ok u) e = refl
valid_is (Err r) e = unmet e

-- no refusal has the number 0
pub number_some : (r : Refusal) → number_of r ≡ 0 → ⊥
number_some BadSampleRate e = omega arith
number_some NoChannels e = omega arith
number_some BadFrames e = omega arith
number_some BadLists e = omega arith
number_some BadValue e = omega arith
number_some NotCovered e = omega arith

-- the number is 0 exactly where the recording is accepted
pub refusal_none : (v : Result Unit Refusal) → (refusal_of v ≡ 0) ↔ (v ≡ Ok tt)
refusal_none v = (only v, λ e. ap refusal_of e)
  where
    only : (w : Result Unit Refusal) → refusal_of w ≡ 0 → w ≡ Ok tt
    only (Ok u) e = refl
    only (Err r) e = absurd (number_some r e)

-- ---- an accepted recording

module _ (r : Recording) (values : List Float) (flags : List ℕ) (levels : List Float) where
  -- tests 1, 3 and 4 bound the grid's numbers
  pub passed_bounded : rate_ok r.sample_rate ≡ true → frames_ok r.sample_rate r.frame_rate r.hop ≡ true
      → lists_ok r.domain (length values) (length flags) (length levels) ≡ true → Bounded (grid_of r (length values))
  passed_bounded a b c =
      let p = frames_parts r.sample_rate r.frame_rate r.hop b in
      record {
        rate = within_most r.sample_rate max_rate a;
        divisor = within_pos r.frame_rate max_frame_rate p.0;
        hop = within_most r.hop max_hop p.1;
        frames = leb→le (length values) max_frames (holds (lists_parts r.domain (length values) (length flags) (length levels) c).0);
      }

  -- an accepted recording has an accepted grid: its boundaries rise
  pub passed_accepted : AcceptedRecording r values flags levels → Accepted (grid_of r (length values))
  passed_accepted p =
      record {
        bounded = passed_bounded p.rate p.frames p.lists;
        spans = (frames_parts r.sample_rate r.frame_rate r.hop p.frames).2;
        covered = holds (length_parts (grid_of r (length values)) p.length).1;
      }

  -- its length is within the limit
  pub passed_length : AcceptedRecording r values flags levels → r.len ≤ max_len
  passed_length p = leb→le r.len max_len (holds (length_parts (grid_of r (length values)) p.length).0)

  -- ---- the seven ends of the chain, each under what has passed before it

  -- 1 is given where the sample rate is outside its limits
  pub fails_rate : rate_ok r.sample_rate ≡ false → Err BadSampleRate ≡ validity_of r values flags levels
  unfolding validity_of
  fails_rate n = rw n

  module _ (a : rate_ok r.sample_rate ≡ true) where
    -- 2, where there is no channel
    pub fails_channels : channels_ok r.channels ≡ false → Err NoChannels ≡ validity_of r values flags levels
    unfolding validity_of
    fails_channels n = rw (a, n)

    module _ (b : channels_ok r.channels ≡ true) where
      -- 3, where frame rate or hop is outside its limits, or a frame is shorter than a sample
      pub fails_frames : frames_ok r.sample_rate r.frame_rate r.hop ≡ false → Err BadFrames ≡ validity_of r values flags levels
      unfolding validity_of
      fails_frames n = rw (a, b, n)

      module _ (c : frames_ok r.sample_rate r.frame_rate r.hop ≡ true) where
        -- 4, where the lists do not have the lengths that go together
        pub fails_lists : lists_ok r.domain (length values) (length flags) (length levels) ≡ false → Err BadLists ≡ validity_of r values flags levels
        unfolding validity_of
        fails_lists n = rw (a, b, c, n)

        module _ (d : lists_ok r.domain (length values) (length flags) (length levels) ≡ true) where
          -- 5, where a value, flag or level is not one of its domain
          pub fails_values : values_ok r.domain values flags levels ≡ false → Err BadValue ≡ validity_of r values flags levels
          unfolding validity_of
          fails_values n = rw (a, b, c, d, n)

          -- 6, where the frames do not cover the length, or it is too long
          pub fails_length : values_ok r.domain values flags levels ≡ true → length_ok (grid_of r (length values)) ≡ false → Err NotCovered ≡ validity_of r values flags levels
          unfolding validity_of
          fails_length e n = rw (a, b, c, d, e, n)

  -- where all six pass, the recording is accepted
  pub passes : AcceptedRecording r values flags levels → Ok tt ≡ validity_of r values flags levels
  unfolding validity_of
  passes p = rw (p.rate, p.channels, p.frames, p.lists, p.within, p.length)

  -- ---- and back: what an accepted recording has passed

  -- only a recording that has passed all six is accepted; in which order the last three are tested does not matter
  pub passed : validity_of r values flags levels ≡ Ok tt → AcceptedRecording r values flags levels
  unfolding validity_of
  passed e =
      let p = step (rate_ok r.sample_rate) BadSampleRate e in
      let q = step (channels_ok r.channels) NoChannels p.1 in
      let s = step (frames_ok r.sample_rate r.frame_rate r.hop) BadFrames q.1 in
      record { rate = p.0; channels = q.0; frames = s.0; lists = grind (arith, s.1); within = grind (arith, s.1); length = grind (arith, s.1) }

  -- so its grid is accepted
  pub valid_accepted : validity_of r values flags levels ≡ Ok tt → Accepted (grid_of r (length values))
  valid_accepted e = passed_accepted (passed e)

  -- document 01: "in an accepted recording each boundary up to the frame count is above the one before"
  pub valid_rises : validity_of r values flags levels ≡ Ok tt → (k : ℕ) → k < length values → boundary_of (grid_of r (length values)) k < boundary_of (grid_of r (length values)) (k + 1)
  valid_rises e k h = boundary_rises (grid_of r (length values)) (valid_accepted e) k h
