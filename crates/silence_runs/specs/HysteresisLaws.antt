-- The sound flags: each is 0 or 1, there is one for each frame, and each follows from its value, its flag byte and the flag before it.
use Rattle.std.specs.Prelude.{◌≡◌, eqb, Float, length, get_or, drop}
use Rattle.std.proofs.Math.Path.{refl, ap}
use Rattle.std.proofs.Common.{inl, inr}
use mathlib.Core.List.{List, [], ◌∷◌}
use Prim.Native.Nat.{ℕ, zero, suc, ◌≤◌, ◌<◌}
use native.Mathlib.Omega.{arith}
use Rattle.std.specs.Float.Ieee.{nan, le}
use Rattle.std.proofs.Math.Seq.{drop-cons}
use Rattle.base_laws.specs.Tests.{tested}
use Rattle.silence_runs.specs.Hysteresis.{reached, sound_at, sounds_after, hysteresis}

-- a flag is 0 or 1
reached_small : (threshold value : Float) → reached threshold value ≤ 1
unfolding reached
reached_small threshold value = elim (tested (le threshold value)) [ inl e ↦ rw e (omega arith) | inr e ↦ rw e (omega arith) ]

-- whether a frame sounds is 0 or 1
pub sound_small : (on off : Float) (before : ℕ) (value : Float) (flag : ℕ) → sound_at on off before value flag ≤ 1
unfolding sound_at
sound_small on off before value flag = elim (tested (eqb flag 1)) [
  | inl e ↦ rw e (omega arith)
  | inr e ↦ rw e (elim (tested (eqb before 0)) [ inl f ↦ rw f (reached_small on value) | inr f ↦ rw f (reached_small off value) ])
]

module _ (on off : Float) where
  -- the sound flags from frame i on: that of frame i, and those after it
  pub after_cons : (before : ℕ) (values : List Float) (flags : List ℕ) (i : ℕ) → i < length values → i < length flags
      → sounds_after on off before (drop i values) (drop i flags)
      ≡ sound_at on off before (get_or values i nan) (get_or flags i 0) ∷ sounds_after on off (sound_at on off before (get_or values i nan) (get_or flags i 0)) (drop (suc i) values) (drop (suc i) flags)
  unfolding sounds_after
  after_cons before values flags i l m = rw (drop-cons values i nan l, drop-cons flags i 0 m)

  after-length : (before : ℕ) (values : List Float) (flags : List ℕ) → length flags ≡ length values → length (sounds_after on off before values flags) ≡ length values
  unfolding sounds_after
  after-length before [] flags e = refl
  after-length before (v ∷ values) [] e = absurd (omega arith)
  after-length before (v ∷ values) (f ∷ flags) e = ap suc (after-length (sound_at on off before v f) values flags (omega arith))

  -- there is a flag for each frame
  pub hysteresis-length : (values : List Float) (flags : List ℕ) → length flags ≡ length values → length (hysteresis on off values flags) ≡ length values
  unfolding hysteresis
  hysteresis-length values flags e = after-length 0 values flags e

  after-flags : (before : ℕ) (values : List Float) (flags : List ℕ) (i : ℕ) → get_or (sounds_after on off before values flags) i 0 ≤ 1
  unfolding sounds_after
  after-flags before [] flags i = omega arith
  after-flags before (v ∷ values) [] i = omega arith
  after-flags before (v ∷ values) (f ∷ flags) zero = sound_small on off before v f
  after-flags before (v ∷ values) (f ∷ flags) (suc i) = after-flags (sound_at on off before v f) values flags i

  -- each is 0 or 1
  pub hysteresis-flags : (values : List Float) (flags : List ℕ) (i : ℕ) → get_or (hysteresis on off values flags) i 0 ≤ 1
  unfolding hysteresis
  hysteresis-flags values flags i = after-flags 0 values flags i
