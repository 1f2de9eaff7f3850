-- What later steps use of the levels.
use Rattle.std.specs.Prelude.{◌≡◌, refl, Bool, true, false, not, List, [], ◌∷◌, ℕ, ◌<◌, pos, length, Float}
use Rattle.std.proofs.Math.Path.{ap}
use Rattle.std.proofs.Common.{subst, ◌∙◌, inl, inr, not-suc-le-zero, arith}
use Rattle.std.proofs.Math.Dec.{T}
use Rattle.std.specs.Float.{fin}
use Rattle.std.specs.Float.Ieee.{le, lt, eq, is_nan}
use Rattle.base_laws.specs.Tests.{lt_or_le}
use Rattle.base_terms.specs.Lists.{all_of}
use Rattle.grid.specs.Values.{is_finite}
use Rattle.grid.specs.declared.validate.Domain.{Domain}
use Rattle.silence_levels.specs.declared.threshold.Threshold.{Threshold}
use Rattle.silence_levels.specs.declared.threshold.Levels.{Levels}
use Rattle.silence_levels.specs.Keys.{with_signal, any_signal}
use Rattle.silence_levels.specs.KeysLaws.{with_signal-all, with_signal_same, signal_none, signal_some}
use Rattle.silence_levels.specs.Percentile.{percentile_of}
use Rattle.silence_levels.specs.PercentileLaws.{percentile_passes}
use Rattle.silence_levels.specs.Threshold.{no_signal, resolve_of, threshold_ok, is_fixed}
use Rattle.silence_levels.specs.ThresholdLaws.{resolve_floor, resolve_reference, resolve_numbers, fixed_same, fixed_order}
use Rattle.silence_levels.specs.Levels.{levels_over, levels_of, thresholds_in, thresholds_of}

-- ---- by whether there is a value

-- there is none: the levels of no signal
pub over_none : (domain : Domain) (threshold : Threshold) (values : List Float) → length values ≡ 0 → no_signal ≡ levels_over domain threshold values
unfolding levels_over
over_none domain threshold [] e = refl
over_none domain threshold (v ∷ vs) e = absurd (not-suc-le-zero {n = 0} (omega arith))

-- there is one: the setting's thresholds, from percentiles 10 and 99
pub over_some : (domain : Domain) (threshold : Threshold) (values : List Float) → 0 < length values
    → resolve_of domain threshold (percentile_of values 10) (percentile_of values 99) ≡ levels_over domain threshold values
unfolding levels_over
over_some domain threshold [] l = absurd (not-suc-le-zero l)
over_some domain threshold (v ∷ vs) l = refl

-- ---- of a recording

module _ (domain : Domain) (threshold : Threshold) where
  -- the levels of an accepted recording by whether a frame has signal
  by_count : (values : List Float) (P : Levels → Type 0) → (length values ≡ 0 → P no_signal)
      → (0 < length values → P (resolve_of domain threshold (percentile_of values 10) (percentile_of values 99))) → P (levels_over domain threshold values)
  by_count values P f g =
      elim (lt_or_le 0 (length values)) [
        | inl l ↦ subst P (over_some domain threshold values l) (g l)
        | inr l ↦ let e : length values ≡ 0 = omega arith in subst P (over_none domain threshold values e) (f e)
      ]

  module _ (values : List Float) (flags : List ℕ) where
    -- a test that 0 and every value pass is passed by floor and reference
    pub levels_pass : (test : Float → Bool) → test (fin false 0 (pos 0)) ≡ true → all_of test values ≡ true
        → (test (levels_of domain threshold values flags).floor ≡ true) × (test (levels_of domain threshold values flags).reference ≡ true)
    unfolding levels_of no_signal
    levels_pass test z h =
        let k = with_signal-all test values flags h in
        by_count (with_signal values flags) (λ (l : Levels). (test l.floor ≡ true) × (test l.reference ≡ true)) (λ e. (z, z))
        (λ l. (
          rw resolve_floor (percentile_passes test (with_signal values flags) 10 l (omega arith) k),
          rw resolve_reference (percentile_passes test (with_signal values flags) 99 l (omega arith) k),
        ))

    -- neither threshold is NaN
    pub levels_numbers : threshold_ok threshold ≡ true → all_of is_finite values ≡ true
        → T (not (is_nan (levels_of domain threshold values flags).on)) × T (not (is_nan (levels_of domain threshold values flags).off))
    unfolding levels_of no_signal is_nan
    levels_numbers t h =
        let k = with_signal-all is_finite values flags h in
        by_count (with_signal values flags) (λ (l : Levels). T (not (is_nan l.on)) × T (not (is_nan l.off))) (λ e. (tt, tt))
        (λ l. resolve_numbers domain threshold (percentile_of (with_signal values flags) 10) (percentile_of (with_signal values flags) 99) t
        (percentile_passes is_finite (with_signal values flags) 10 l (omega arith) k) (percentile_passes is_finite (with_signal values flags) 99 l (omega arith) k))

    -- fixed thresholds: sound ends no higher than it starts
    pub levels_order : is_fixed domain threshold ≡ true → threshold_ok threshold ≡ true
        → T (le (levels_of domain threshold values flags).off (levels_of domain threshold values flags).on)
    unfolding levels_of no_signal le lt eq
    levels_order e t =
        by_count (with_signal values flags) (λ (l : Levels). T (le l.off l.on)) (λ n. tt)
        (λ l. fixed_order domain threshold (percentile_of (with_signal values flags) 10) (percentile_of (with_signal values flags) 99) e t)

    -- and they are the same for other values of as many frames
    pub levels_same : (others : List Float) → length values ≡ length others → is_fixed domain threshold ≡ true
        → ((levels_of domain threshold values flags).on ≡ (levels_of domain threshold others flags).on)
        × ((levels_of domain threshold values flags).off ≡ (levels_of domain threshold others flags).off)
    unfolding levels_of
    levels_same others s e =
        let same = with_signal_same values others flags s in
        by_count (with_signal values flags)
        (λ (l : Levels). (l.on ≡ (levels_over domain threshold (with_signal others flags)).on) × (l.off ≡ (levels_over domain threshold (with_signal others flags)).off))
        (λ n. let o = over_none domain threshold (with_signal others flags) (omega arith) in (ap (λ (l : Levels). l.on) o, ap (λ (l : Levels). l.off) o))
        (λ l. let o = over_some domain threshold (with_signal others flags) (omega arith) in
        let f = fixed_same domain threshold (percentile_of (with_signal values flags) 10) (percentile_of (with_signal values flags) 99)
        (percentile_of (with_signal others flags) 10) (percentile_of (with_signal others flags) 99) e in
        (f.0 ∙ ap (λ (l : Levels). l.on) o, f.1 ∙ ap (λ (l : Levels). l.off) o))

-- ---- the thresholds alone

module _ (domain : Domain) (threshold : Threshold) (values : List Float) (flags : List ℕ) where
  -- they are those of the recording's levels
  pub thresholds_levels : (l : Levels) → l ≡ levels_of domain threshold values flags → thresholds_in l ≡ thresholds_of domain threshold values flags
  unfolding thresholds_of
  thresholds_levels l e = ap thresholds_in e

  -- no frame has signal
  pub thresholds_none : (l : Levels) → l ≡ no_signal → any_signal flags ≡ false → thresholds_in l ≡ thresholds_of domain threshold values flags
  unfolding levels_of
  thresholds_none l e h = thresholds_levels l (e ∙ over_none domain threshold (with_signal values flags) (signal_none values flags h))

  -- fixed ones: any floor and any reference give them
  pub thresholds_fixed : (l : Levels) (floor reference : Float) → l ≡ resolve_of domain threshold floor reference → length flags ≡ length values → is_fixed domain threshold ≡ true
      → any_signal flags ≡ true → thresholds_in l ≡ thresholds_of domain threshold values flags
  unfolding thresholds_of levels_of
  thresholds_fixed l floor reference e s f h =
      let o = over_some domain threshold (with_signal values flags) (signal_some values flags s h) in
      let t = fixed_same domain threshold floor reference (percentile_of (with_signal values flags) 10) (percentile_of (with_signal values flags) 99) f in
      rw (e, ← o, t.0, t.1)
