-- What work memory holds once a recording is measured, and what measuring needs.
use Rattle.std.specs.Prelude.{◌≡◌, ℕ, suc, ◌+◌, ◌-◌, ◌*◌, ◌/◌, ◌≤◌, Float, drop}
use Rattle.std.proofs.Math.Path.{sym, ap, subst}
use Rattle.std.proofs.Common.{◌∙◌, add-one, arith, take_at}
use mathlib.Core.List.{List, ◌++◌}
use Rattle.std.proofs.Math.ListN.{length, take}
use borrow.Rule.Slice.PartMut.{put_mid}
use Rattle.base_terms.specs.Layout.{runs_at}
use Rattle.base_terms.specs.Lists.{onto}
use Rattle.base_terms.specs.Work.{work_length}
use Rattle.base_code.specs.FrontLaws.{onto-take, tabulate-length}
use Rattle.grid.specs.Durations.{InFrames, frames_in}
use Rattle.grid.specs.declared.validate.Recording.{Recording}
use Rattle.silence_levels.specs.declared.threshold.Levels.{Levels}
use Rattle.silence_runs.specs.Quiet.{below_off, quiet_runs}
use Rattle.silence_runs.specs.QuietLaws.{quiet_length, below_length}
use Rattle.silence_runs.specs.Sounds.{sounds_of}
use Rattle.silence_runs.specs.SoundsLaws.{sounds_length}
use Rattle.silence_runs.specs.Silences.{silences_of}
use Rattle.silence_runs.specs.SilencesLaws.{silences-length, silences-room}
use Rattle.silence_list.specs.Silences.{silences_in, sounds_in}
use Rattle.silence_list.specs.RefusalLaws.{SoundReady}
use Rattle.silence_list.specs.declared.config.SegmentConfig.{SegmentConfig}
use Rattle.candidate_span.specs.ListedLaws.{Listed, silences-listed}
use Rattle.candidate_points.specs.Placed.{placed}
use Rattle.candidate_points.specs.PlacedLaws.{placed-take, placed_part, placed_put}
use Rattle.candidate_costs.specs.Window.{smoothing, width_of}
use Rattle.candidate_costs.specs.NormalizeLaws.{Scaled}
use Rattle.candidate_costs.specs.Level.{boundary_levels}
use Rattle.candidate_costs.specs.LevelLaws.{Measured}
use Rattle.candidate_walk.specs.Held.{silences_held, runs_held, levels_held}
use Rattle.candidate_finder.specs.CandidatesIn.{recording_levels, runs_in, boundary_levels_in}
use Rattle.candidate_finder.specs.NeededLevels.{needed_levels, needed_on, needed_off, needed_levels_lem}

-- a recording that can be measured in lists of these lengths
pub record Measurable (r : Recording) (segment : SegmentConfig) (values : List Float) (flags : List ℕ) (levels : List Float) (n32 nf : ℕ) : Type 0 where
  pub sounds : SoundReady r segment values flags
  pub smoothed : InFrames r.frame_rate r.hop smoothing
  pub measured : Measured r.domain (width_of r.frame_rate r.hop) values levels
  pub scaled : Scaled (recording_levels r segment values flags)
  pub room : work_length (length values + 1) ≤ n32
  pub roomf : work_length (length values + 1) ≤ nf

-- a measured recording, with so many silences
pub record Holds (r : Recording) (segment : SegmentConfig) (values : List Float) (flags : List ℕ) (levels : List Float) (silences : ℕ) (work : List ℕ) (workf : List Float) : Type 0 where
  pub counted : 2 * silences ≡ length (silences_in r segment values flags)
  pub listed : silences_held silences work ≡ silences_in r segment values flags
  pub runs : runs_held (length values) work ≡ runs_in r segment values flags
  pub leveled : levels_held (length values) workf ≡ boundary_levels_in r segment values flags levels

-- ---- the silences

module _ (r : Recording) (segment : SegmentConfig) (values : List Float) (flags : List ℕ) (e : length flags ≡ length values) where
  sounds_size : length (sounds_in r segment values flags) ≡ length values
  unfolding sounds_in
  sounds_size = sounds_length _ _ _ _ values flags e

  -- they stand before the stretches
  pub silences-before : length (silences_in r segment values flags) ≤ length values + 1
  unfolding silences_in
  silences-before = omega (arith, silences-room (sounds_in r segment values flags), sounds_size)

  -- they are listed in order
  pub silences_are : Listed (length values) (silences_in r segment values flags)
  unfolding silences_in
  silences_are = subst (λ (n : ℕ). Listed n (silences_of (sounds_in r segment values flags))) sounds_size (silences-listed (sounds_in r segment values flags))

-- two numbers for each
pub silences_even : (r : Recording) (segment : SegmentConfig) (values : List Float) (flags : List ℕ) (numbers : ℕ) → numbers ≡ length (silences_in r segment values flags) → 2 * (numbers / 2) ≡ numbers
unfolding silences_in
silences_even r segment values flags numbers e = omega (arith, silences-length (sounds_in r segment values flags))

-- at the front of a list, found by these levels
module _ (r : Recording) (segment : SegmentConfig) (values : List Float) (flags : List ℕ) (l : Levels) (min_sound min_silence : ℕ) (e : l ≡ needed_levels r.domain (recording_levels r segment values flags))
    (f : min_sound ≡ frames_in r.frame_rate r.hop segment.min_sound) (g : min_silence ≡ frames_in r.frame_rate r.hop segment.min_silence)
  where
    silences_by : silences_of (sounds_of l.on l.off min_sound min_silence values flags) ≡ silences_in r segment values flags
    unfolding silences_in sounds_in
    silences_by = rw (e, f, g, needed_on r.domain (recording_levels r segment values flags), needed_off r.domain (recording_levels r segment values flags))

    -- they stand at the list's front, two numbers each
    pub silences-front : (list list₀ : List ℕ) (numbers : ℕ) → numbers ≡ length (silences_of (sounds_of l.on l.off min_sound min_silence values flags))
        → list ≡ silences_of (sounds_of l.on l.off min_sound min_silence values flags) ++ drop (length (silences_of (sounds_of l.on l.off min_sound min_silence values flags))) list₀
        → (2 * (numbers / 2) ≡ length (silences_in r segment values flags)) × (take (2 * (numbers / 2)) list ≡ silences_in r segment values flags)
    silences-front list list₀ numbers m h =
        let s = silences_of (sounds_of l.on l.off min_sound min_silence values flags) in
        let is : numbers ≡ length (silences_in r segment values flags) = m ∙ ap length silences_by in
        let even = silences_even r segment values flags numbers is in
        (even ∙ is, ap (λ (k : ℕ). take k list) even ∙ rw h (take_at s (drop (length s) list₀) numbers (sym m)) ∙ silences_by)

-- ---- all of it

module _ (r : Recording) (segment : SegmentConfig) (values : List Float) (flags : List ℕ) (levels : List Float) (n32 nf : ℕ) (m : Measurable r segment values flags levels n32 nf)
    (silences : ℕ) (l : Levels) (work : List ℕ) (is : l ≡ needed_levels r.domain (recording_levels r segment values flags))
    (counted : 2 * silences ≡ length (silences_in r segment values flags)) (front : take (2 * silences) work ≡ silences_in r segment values flags) (same : length work ≡ n32)
  where
    -- the stretches behind the silences, and the levels in the other list
    pub holds-all : (runs : List ℕ) (at width : ℕ) (workf workf' : List Float) → at ≡ runs_at (length values) → runs ≡ quiet_runs (below_off l.off values flags)
        → width ≡ width_of r.frame_rate r.hop → workf' ≡ onto (boundary_levels r.domain l width values levels) workf
        → Holds r segment values flags levels silences (put_mid at (at + length values - at) work runs) workf'
    holds-all runs at width workf workf' z e w h =
        let bl : List Float = boundary_levels r.domain l width values levels in
        let runs_are : runs ≡ runs_in r segment values flags = unfold runs_in in (e ∙ rw (is, needed_off r.domain (recording_levels r segment values flags))) in
        let size : length runs ≡ length values = ap length e ∙ quiet_length (below_off l.off values flags) ∙ below_length l.off values flags m.sounds.flagged in
        let fits : at + length runs ≤ length work = omega (arith, size, m.room, same, z) in
        let put : put_mid at (at + length values - at) work runs ≡ placed at runs work = placed_put at runs work fits (at + length values) (omega (arith, size)) in
        let levels_are : bl ≡ boundary_levels_in r segment values flags levels =
        unfold boundary_levels_in in (rw (is, w) (needed_levels_lem r.domain (recording_levels r segment values flags) (width_of r.frame_rate r.hop) values levels)) in
        let long : length bl ≡ length values + 1 =
        ap length levels_are ∙ (unfold boundary_levels_in in unfold boundary_levels in (tabulate-length _ (suc (length values)) ∙ sym (add-one (length values)))) in
        let stretches : take (length values) (drop at (put_mid at (at + length values - at) work runs)) ≡ runs_in r segment values flags =
        ap (λ (xs : List ℕ). take (length values) (drop at xs)) put ∙ placed_part at runs work fits (length values) (sym size) ∙ runs_are in
        record {
          counted = counted;
          listed =
              ap (take (2 * silences)) put
              ∙ placed-take at runs work fits (2 * silences) (omega (arith, z, counted, silences-before r segment values flags m.sounds.flagged)) ∙ front;
          runs = ap (λ (k : ℕ). take (length values) (drop k (put_mid at (at + length values - at) work runs))) (sym z) ∙ stretches;
          leveled = ap (take (length values + 1)) h ∙ ap (λ (k : ℕ). take k (onto bl workf)) (sym long) ∙ onto-take bl workf ∙ levels_are;
        }
