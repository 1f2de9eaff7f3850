-- The law behind S-13, under the same two thresholds, minimum lengths and flags: louder frames never make a sounding frame silent, filling included.
-- It takes off ≤ on: each step from values to sound flags is then monotone. Where thresholds follow from the values, both sides must have the same.
use Rattle.std.specs.Prelude.{◌≡◌, refl, Bool, true, false, cond, T, eqb, Float, length, get_or}
use Rattle.std.proofs.Common.{sym, ap, subst, ◌∙◌, not-suc-le-zero}
use Rattle.std.proofs.Math.Logic.{inl, inr}
use mathlib.Core.List.{List, [], ◌∷◌}
use Prim.Native.Nat.{ℕ, zero, suc, ◌≤◌}
use native.Mathlib.Omega.{arith}
use Rattle.std.proofs.Math.Dec.{eqb-suc-zero}
use Rattle.std.specs.Float.Ieee.{le}
use Rattle.std.specs.Float.Ieee.Bits.{is_true}
use Rattle.std.proofs.Math.ListN.{get_or-eq_default}
use Rattle.base_laws.specs.Tests.{lt_or_le, tested, holds}
use Rattle.base_laws.specs.Order.{float_le_refl, float_le_trans, float_le_numbers}
use Rattle.base_terms.specs.Lists.{all_of}
use Rattle.silence_runs.specs.Hysteresis.{reached, sound_at, sounds_after, hysteresis}
use Rattle.silence_runs.specs.HysteresisLaws.{hysteresis-length, hysteresis-flags}
use Rattle.silence_runs.specs.Fill.{fill_short}
use Rattle.silence_runs.specs.FillLaws.{fill_length, fill_mono, fill_flags}
use Rattle.silence_runs.specs.Sounds.{is_silent, any_sound, fill_silence, sounds_of}

-- the second list is at least as loud in each frame
abbrev pub Louder : List Float → List Float → Type 0
Louder [] [] = Unit {0}
Louder [] (w ∷ ws) = ⊥
Louder (v ∷ vs) [] = ⊥
Louder (v ∷ vs) (w ∷ ws) = T (le v w) × Louder vs ws

reached_mono : (s t v w : Float) → T (le t s) → T (le v w) → reached s v ≤ reached t w
unfolding reached
reached_mono s t v w h k = elim (tested (le s v)) [
  | inl e ↦ rw (e, is_true (le t w) (float_le_trans t s w h (float_le_trans s v w (holds e) k))) (omega arith)
  | inr e ↦ rw e (omega arith)
]

louder_length : (vs ws : List Float) → Louder vs ws → length vs ≡ length ws
louder_length [] [] r = refl
louder_length [] (w ∷ ws) r = elim r [ ]
louder_length (v ∷ vs) [] r = elim r [ ]
louder_length (v ∷ vs) (w ∷ ws) r = ap suc (louder_length vs ws r.1)

-- ---- hysteresis

module _ (on off : Float) (order : T (le off on)) where
  chosen_mono : (b c : ℕ) (v w : Float) → b ≤ c → T (le v w) → cond (eqb b 0) (reached on v) (reached off v) ≤ cond (eqb c 0) (reached on w) (reached off w)
  chosen_mono zero zero v w l k = reached_mono on on v w (float_le_refl on (float_le_numbers off on order).1) k
  chosen_mono zero (suc c) v w l k = rw (eqb-suc-zero c) (reached_mono on off v w order k)
  chosen_mono (suc b) zero v w l k = absurd (not-suc-le-zero l)
  chosen_mono (suc b) (suc c) v w l k = rw (eqb-suc-zero b, eqb-suc-zero c) (reached_mono off off v w (float_le_refl off (float_le_numbers off on order).0) k)

  sound_mono : (b c : ℕ) (v w : Float) (flag : ℕ) → b ≤ c → T (le v w) → sound_at on off b v flag ≤ sound_at on off c w flag
  unfolding sound_at
  sound_mono b c v w flag l k = elim (tested (eqb flag 1)) [ inl e ↦ rw e (omega arith) | inr e ↦ rw e (chosen_mono b c v w l k) ]

  after_mono : (vs ws : List Float) (flags : List ℕ) (b c : ℕ) → b ≤ c → Louder vs ws → (i : ℕ) → get_or (sounds_after on off b vs flags) i 0 ≤ get_or (sounds_after on off c ws flags) i 0
  unfolding sounds_after
  after_mono [] [] flags b c l r i = omega arith
  after_mono [] (w ∷ ws) flags b c l r i = elim r [ ]
  after_mono (v ∷ vs) [] flags b c l r i = elim r [ ]
  after_mono (v ∷ vs) (w ∷ ws) [] b c l r i = omega arith
  after_mono (v ∷ vs) (w ∷ ws) (f ∷ flags) b c l r zero = sound_mono b c v w f l r.0
  after_mono (v ∷ vs) (w ∷ ws) (f ∷ flags) b c l r (suc i) = after_mono vs ws flags (sound_at on off b v f) (sound_at on off c w f) (sound_mono b c v w f l r.0) r.1 i

  -- before any filling, louder frames sound wherever softer ones do
  pub hysteresis_mono : (vs ws : List Float) (flags : List ℕ) → Louder vs ws → (i : ℕ) → get_or (hysteresis on off vs flags) i 0 ≤ get_or (hysteresis on off ws flags) i 0
  unfolding hysteresis
  hysteresis_mono vs ws flags r i = after_mono vs ws flags 0 0 (omega arith) r i

-- ---- filling

-- two lists of flags of one length, of which the second sounds wherever the first does
pub record SoundsUnder (xs ys : List ℕ) : Type 0 where
  pub same : length xs ≡ length ys
  pub low : (i : ℕ) → get_or xs i 0 ≤ 1
  pub high : (i : ℕ) → get_or ys i 0 ≤ 1
  pub under : (i : ℕ) → get_or xs i 0 ≤ get_or ys i 0

past_end : (xs : List ℕ) (i : ℕ) → length xs ≤ i → get_or xs i 0 ≡ 0
past_end xs i l = get_or-eq_default xs 0 {n = i} l

ordered_sound : (a b : ℕ) → a ≤ 1 → b ≤ 1 → (a ≡ 1 → b ≡ 1) → a ≤ b
ordered_sound zero b h k f = omega arith
ordered_sound (suc zero) b h k f = omega (arith, f refl)
ordered_sound (suc (suc a)) b h k f = absurd (omega arith)

ordered_silence : (a b : ℕ) → a ≤ 1 → b ≤ 1 → (b ≡ 0 → a ≡ 0) → a ≤ b
ordered_silence a zero h k f = omega (arith, f refl)
ordered_silence a (suc b) h k f = omega arith

-- filling short sound is monotone
pub fill_sound_mono : (min : ℕ) (xs ys : List ℕ) → SoundsUnder xs ys → SoundsUnder (fill_short 1 min xs) (fill_short 1 min ys)
fill_sound_mono min xs ys u = record {
  same = fill_length 1 min xs ∙ u.same ∙ sym (fill_length 1 min ys);
  low = fill_flags 1 min (omega arith) xs u.low;
  high = fill_flags 1 min (omega arith) ys u.high;
  under = λ i. elim (lt_or_le i (length xs)) [
    | inl l ↦
        ordered_sound (get_or (fill_short 1 min xs) i 0) (get_or (fill_short 1 min ys) i 0) (fill_flags 1 min (omega arith) xs u.low i) (fill_flags 1 min (omega arith) ys u.high i)
        (fill_mono 1 min (omega arith) xs ys u.same (λ j e. omega (arith, u.under j, u.high j)) i l)
    | inr l ↦ rw (past_end (fill_short 1 min xs) i (rw (fill_length 1 min xs) l)) (omega arith)
  ];
}

-- filling short silence is monotone
pub fill_silence_mono : (min : ℕ) (xs ys : List ℕ) → SoundsUnder xs ys → SoundsUnder (fill_short 0 min xs) (fill_short 0 min ys)
fill_silence_mono min xs ys u = record {
  same = fill_length 0 min xs ∙ u.same ∙ sym (fill_length 0 min ys);
  low = fill_flags 0 min (omega arith) xs u.low;
  high = fill_flags 0 min (omega arith) ys u.high;
  under = λ i. elim (lt_or_le i (length ys)) [
    | inl l ↦
        ordered_silence (get_or (fill_short 0 min xs) i 0) (get_or (fill_short 0 min ys) i 0) (fill_flags 0 min (omega arith) xs u.low i) (fill_flags 0 min (omega arith) ys u.high i)
        (fill_mono 0 min (omega arith) ys xs (sym u.same) (λ j e. omega (arith, u.under j)) i l)
    | inr l ↦ rw (past_end (fill_short 0 min xs) i (rw (fill_length 0 min xs, u.same) l)) (omega arith)
  ];
}

-- no frame sounds exactly where each is silent
none_sounds : (xs : List ℕ) → any_sound xs ≡ false → (i : ℕ) → get_or xs i 0 ≡ 0
unfolding any_sound all_of is_silent
none_sounds [] e i = refl
none_sounds (zero ∷ xs) e zero = refl
none_sounds (zero ∷ xs) e (suc i) = none_sounds xs e i
none_sounds (suc x ∷ xs) e i = let f : ◌≡◌ {A = Bool} true false = (rw (eqb-suc-zero x) at e) in absurd (subst T f tt)

all_silent_lem : (xs : List ℕ) → ((i : ℕ) → get_or xs i 0 ≡ 0) → any_sound xs ≡ false
unfolding any_sound all_of is_silent
all_silent_lem [] f = refl
all_silent_lem (x ∷ xs) f = rw (f 0) (all_silent_lem xs (λ i. f (suc i)))

-- filling short silence, if any sound is left, is monotone
pub silence_mono : (min : ℕ) (xs ys : List ℕ) → SoundsUnder xs ys → (i : ℕ) → get_or (fill_silence min xs) i 0 ≤ get_or (fill_silence min ys) i 0
unfolding fill_silence
silence_mono min xs ys u i = elim (tested (any_sound xs)) [
  | inl e ↦ elim (tested (any_sound ys)) [
    | inl f ↦ rw (e, f) ((fill_silence_mono min xs ys u).under i)
    | inr f ↦ absurd (subst T (sym e ∙ all_silent_lem xs (λ j. omega (arith, u.under j, none_sounds ys f j))) tt)
  ]
  | inr e ↦ rw (e, none_sounds xs e i) (omega arith)
]

-- a frame that sounds still sounds where frames are louder, by the same thresholds with off not above on, and with the same flags
pub sounds_mono : (on off : Float) → T (le off on) → (min_sound min_silence : ℕ) (vs ws : List Float) (flags : List ℕ) → length flags ≡ length vs → Louder vs ws
    → (i : ℕ) → get_or (sounds_of on off min_sound min_silence vs flags) i 0 ≤ get_or (sounds_of on off min_sound min_silence ws flags) i 0
unfolding sounds_of
sounds_mono on off order min_sound min_silence vs ws flags e r =
    silence_mono min_silence (fill_short 1 min_sound (hysteresis on off vs flags)) (fill_short 1 min_sound (hysteresis on off ws flags))
    (fill_sound_mono min_sound (hysteresis on off vs flags) (hysteresis on off ws flags) (record {
      same = hysteresis-length on off vs flags e ∙ louder_length vs ws r ∙ sym (hysteresis-length on off ws flags (e ∙ louder_length vs ws r));
      low = hysteresis-flags on off vs flags;
      high = hysteresis-flags on off ws flags;
      under = hysteresis_mono on off order vs ws flags r;
    }))
