-- Run by run: a sound that is too short is passed over, which is what filling short sound does; a silence between two long sounds is listed where it is long enough, which is what filling short silence leaves.
use Rattle.std.specs.Prelude.{◌≡◌, Bool, true, false, eqb, leb, Float, length, get_or}
use Rattle.std.proofs.Math.Path.{refl, sym, ap, subst}
use Rattle.std.proofs.Common.{◌∙◌, zero-add, add-suc, suc-ne-zero, arith}
use Rattle.std.proofs.Math.Logic.{inl, inr}
use Rattle.std.proofs.Math.Bool.{cond}
use mathlib.Core.List.{List, [], ◌∷◌, ◌++◌, append-nil}
use Prim.Native.Nat.{ℕ, zero, suc, ◌+◌, ◌-◌, ◌≤◌, ◌<◌}
use Rattle.std.proofs.Math.Nat.{add-zero, add-sub_cancel, add-sub_cancel_left}
use Rattle.std.proofs.Math.Dec.{eqb-suc-zero}
use Rattle.std.proofs.Math.ListN.{replicate}
use borrow.Author.Tests.{ne_eqb, lt-ltb, le-ltb, le-leb, lt-leb}
use Rattle.base_laws.specs.Tests.{lt_or_le, holds, tested}
use Rattle.base_terms.specs.Lists.{all_of}
use Rattle.silence_runs.specs.RunsLaws.{NotFirst, longer, by_runs}
use Rattle.silence_runs.specs.Hysteresis.{hysteresis}
use Rattle.silence_runs.specs.HysteresisLaws.{hysteresis-flags}
use Rattle.silence_runs.specs.FillLaws.{fill_flags, fill_none, fill_other, fill_run}
use Rattle.silence_runs.specs.Fill.{filled_as, fill_short}
use Rattle.silence_runs.specs.Sounds.{is_silent, any_sound, fill_silence, sounds_of}
use Rattle.silence_runs.specs.Silences.{silences_of}
use Rattle.silence_runs.specs.SilencesLaws.{is_edge, edges, one_on, silences-edges}
use Rattle.silence_runs.specs.OnePass.{lasts, silence_between, last_silence, silences_from}

-- ---- runs that last

-- no frame is no run
lasts-none : (min : ℕ) → lasts min 0 ≡ false
unfolding lasts
lasts-none min = elim (tested (leb min 0)) [ inl e ↦ rw e | inr e ↦ rw e ]

-- fewer frames than the minimum do not last
pub lasts-short : (min n : ℕ) → n < min → lasts min n ≡ false
unfolding lasts
lasts-short min n l = rw (lt-leb min n l)

lasts_long : (min n : ℕ) → min ≤ suc n → lasts min (suc n) ≡ true
unfolding lasts
lasts_long min n l = rw (le-leb min (suc n) l, lt-ltb 0 (suc n) (omega arith))

between-at : (min first n : ℕ) (b : Bool) → lasts min n ≡ b → silence_between min first (first + n) ≡ cond b (first ∷ ((first + n) ∷ [])) []
unfolding silence_between
between-at min first n b e = rw (add-sub_cancel_left first n, e)

between_none : (min first : ℕ) → silence_between min first first ≡ []
between_none min first = ap (silence_between min first) (sym (add-zero first)) ∙ between-at min first 0 false (lasts-none min)

-- a silence that lasts is listed by its two numbers
pub between_is : (min first end : ℕ) → lasts min (end - first) ≡ true → silence_between min first end ≡ first ∷ (end ∷ [])
unfolding silence_between
between_is min first end e = rw e

-- one that does not is left out
pub between_not : (min first end : ℕ) → lasts min (end - first) ≡ false → silence_between min first end ≡ []
unfolding silence_between
between_not min first end e = rw e

-- ---- the pass, run by run

module _ (min_sound min_silence : ℕ) where
  abbrev from : ℕ → ℕ → ℕ → List ℕ → List ℕ
  from k last held xs = silences_from min_sound min_silence k last held xs

  -- silent frames after silence
  pub from_zeros : (a k last : ℕ) (t : List ℕ) → from k last 0 (replicate a 0 ++ t) ≡ from (k + a) last 0 t
  unfolding silences_from
  from_zeros zero k last t = ap (λ (m : ℕ). from m last 0 t) (sym (add-zero k))
  from_zeros (suc a) k last t = rw (lasts-none min_sound) (from_zeros a (suc k) last t ∙ ap (λ (m : ℕ). from m last 0 t) (sym (one_on k a)))

  from_ones : (b k last o : ℕ) (t : List ℕ) → from k last o (replicate b 1 ++ t) ≡ from (k + b) last (o + b) t
  unfolding silences_from
  from_ones zero k last o t = rw (add-zero k, add-zero o)
  from_ones (suc b) k last o t = from_ones b (suc k) last (suc o) t ∙ rw (one_on k b, one_on o b)

  -- a silent frame after silence
  pub from_silent : (k last y : ℕ) (ys : List ℕ) → (y ≡ 1 → ⊥) → from k last 0 (y ∷ ys) ≡ from (suc k) last 0 ys
  unfolding silences_from
  from_silent k last y ys h = rw (ne_eqb y 1 h, lasts-none min_sound)

  -- no frame is left: the last silence, up to here
  pub from_end : (k last : ℕ) → from k last 0 [] ≡ last_silence min_silence last k
  unfolding silences_from
  from_end k last = rw (lasts-none min_sound)

  -- a run of sound, perhaps empty
  pub from-run : (n k last : ℕ) (t : List ℕ) → NotFirst 1 t → from k last 0 (replicate n 1 ++ t) ≡ cond (lasts min_sound n) (silence_between min_silence last k ++ from (k + n) (k + n) 0 t) (from (k + n) last 0 t)
  unfolding silences_from
  from-run n k last [] h = from_ones n k last 0 [] ∙ rw (zero-add n, add-sub_cancel k n, lasts-none min_sound)
  from-run n k last (y ∷ t) h = from_ones n k last 0 (y ∷ t) ∙ rw (zero-add n, add-sub_cancel k n, lasts-none min_sound, ne_eqb y 1 h)

-- ---- the same over frames whose short sound is filled

module _ (min_silence : ℕ) where
  silences_left : ℕ → ℕ → List ℕ → List ℕ
  silences_left last k [] = last_silence min_silence last k
  silences_left last k (x ∷ xs) = cond (eqb x 1) (silence_between min_silence last k ++ silences_left (suc k) (suc k) xs) (silences_left last (suc k) xs)

  left_zeros : (n last k : ℕ) (t : List ℕ) → silences_left last k (replicate n 0 ++ t) ≡ silences_left last (k + n) t
  unfolding silences_left
  left_zeros zero last k t = rw (add-zero k)
  left_zeros (suc n) last k t = left_zeros n last (suc k) t ∙ rw (one_on k n)

  left_ones : (n k : ℕ) (t : List ℕ) → silences_left k k (replicate n 1 ++ t) ≡ silences_left (k + n) (k + n) t
  unfolding silences_left
  left_ones zero k t = rw (add-zero k)
  left_ones (suc n) k t = rw (between_none min_silence k) (left_ones n (suc k) t ∙ rw (one_on k n))

  left_run : (min_sound n last k : ℕ) (t : List ℕ)
      → silences_left last k (replicate n (filled_as 1 min_sound n) ++ t) ≡ cond (lasts min_sound n) (silence_between min_silence last k ++ silences_left (k + n) (k + n) t) (silences_left last (k + n) t)
  unfolding filled_as silences_left
  left_run min_sound n last k t =
      elim (lt_or_le n min_sound) [
        | inl l ↦ rw (lt-ltb n min_sound l, lasts-short min_sound n l) (left_zeros n last k t)
        | inr l ↦ rw (le-ltb n min_sound l) (long n l)
      ]
    where
      long : (m : ℕ) → min_sound ≤ m → silences_left last k (replicate m 1 ++ t) ≡ cond (lasts min_sound m) (silence_between min_silence last k ++ silences_left (k + m) (k + m) t) (silences_left last (k + m) t)
      long zero l = rw (lasts-none min_sound, add-zero k)
      long (suc m) l = rw (lasts_long min_sound m l) (ap (λ (s : List ℕ). silence_between min_silence last k ++ s) (left_ones m (suc k) t ∙ rw (one_on k m)))

-- ---- filling short sound

module _ (min_sound min_silence : ℕ) where
  filled_left : (xs : List ℕ) (k last : ℕ) → silences_from min_sound min_silence k last 0 xs ≡ silences_left min_silence last k (fill_short 1 min_sound xs)
  unfolding silences_left
  filled_left =
      by_runs 1 (λ (xs : List ℕ). (k last : ℕ) → silences_from min_sound min_silence k last 0 xs ≡ silences_left min_silence last k (fill_short 1 min_sound xs)) base step
    where
      base : (n k last : ℕ) → silences_from min_sound min_silence k last 0 (replicate n 1 ++ []) ≡ silences_left min_silence last k (fill_short 1 min_sound (replicate n 1 ++ []))
      base n k last =
          from-run min_sound min_silence n k last [] tt ∙ rw (from_end min_sound min_silence (k + n) (k + n), from_end min_sound min_silence (k + n) last) refl
          ∙ sym (ap (silences_left min_silence last k) (fill_run 1 min_sound n [] tt ∙ ap (λ (l : List ℕ). replicate n (filled_as 1 min_sound n) ++ l) (fill_none 1 min_sound)) ∙ left_run min_silence min_sound n last k [])

      step : (n y : ℕ) (ys : List ℕ) → (y ≡ 1 → ⊥) → ((k last : ℕ) → silences_from min_sound min_silence k last 0 ys ≡ silences_left min_silence last k (fill_short 1 min_sound ys))
          → (k last : ℕ) → silences_from min_sound min_silence k last 0 (replicate n 1 ++ (y ∷ ys)) ≡ silences_left min_silence last k (fill_short 1 min_sound (replicate n 1 ++ (y ∷ ys)))
      step n y ys h p k last =
          let one : (l : ℕ) → silences_from min_sound min_silence (k + n) l 0 (y ∷ ys) ≡ silences_left min_silence l (k + n) (y ∷ fill_short 1 min_sound ys) =
          λ l. from_silent min_sound min_silence (k + n) l y ys h ∙ p (suc (k + n)) l ∙ rw (ne_eqb y 1 h) in
          from-run min_sound min_silence n k last (y ∷ ys) h
          ∙ rw (one (k + n), one last) refl
          ∙ sym (ap (silences_left min_silence last k) (fill_run 1 min_sound n (y ∷ ys) h ∙ ap (λ (l : List ℕ). replicate n (filled_as 1 min_sound n) ++ l) (fill_other 1 min_sound y ys h)) ∙ left_run min_silence min_sound n last k (y ∷ fill_short 1 min_sound ys))

-- ---- filling short silence

edges_ones : (z k : ℕ) (t : List ℕ) → edges k 1 (replicate z 1 ++ t) ≡ edges (k + z) 1 t
unfolding edges is_edge
edges_ones zero k t = rw (add-zero k)
edges_ones (suc z) k t = edges_ones z (suc k) t ∙ rw (one_on k z)

edges_zeros : (z k : ℕ) (t : List ℕ) → edges k 0 (replicate z 0 ++ t) ≡ edges (k + z) 0 t
unfolding edges is_edge
edges_zeros zero k t = rw (add-zero k)
edges_zeros (suc z) k t = edges_zeros z (suc k) t ∙ rw (one_on k z)

-- a silence ends where no silent frame follows
edges_close : (k : ℕ) (t : List ℕ) → NotFirst 0 t → edges k 0 t ≡ k ∷ edges k 1 t
unfolding edges is_edge
edges_close k [] h = refl
edges_close k (x ∷ t) h = rw (ne_eqb x 0 h)

edges-run : (min z last : ℕ) (t : List ℕ) → NotFirst 0 t → edges last 1 (replicate z (filled_as 0 min z) ++ t) ≡ silence_between min last (last + z) ++ edges (last + z) 1 t
unfolding filled_as edges is_edge
edges-run min z last t h =
    elim (lt_or_le z min) [
      | inl l ↦ rw (lt-ltb z min l, between-at min last z false (lasts-short min z l)) (edges_ones z last t)
      | inr l ↦ rw (le-ltb z min l) (long z l)
    ]
  where
    long : (m : ℕ) → min ≤ m → edges last 1 (replicate m 0 ++ t) ≡ silence_between min last (last + m) ++ edges (last + m) 1 t
    long zero l = rw (between-at min last 0 false (lasts-none min), add-zero last)
    long (suc m) l = rw (between-at min last (suc m) true (lasts_long min m l)) (ap (λ (e : List ℕ). last ∷ e) (edges_zeros m (suc last) t ∙ rw (← one_on last m) (edges_close (last + suc m) t h)))

-- frames that are all 0 or 1
abbrev Flags : List ℕ → Type 0
Flags xs = (i : ℕ) → get_or xs i 0 ≤ 1

module _ (min : ℕ) where
  -- after z silent frames, before which a sound ended
  closed_some : (ys : List ℕ) (z l : ℕ) → Flags ys → edges (suc l) 1 (fill_short 0 min (replicate z 0 ++ ys)) ≡ silences_left min (suc l) (suc l + z) ys
  unfolding silences_left last_silence edges is_edge
  closed_some [] z l f =
      rw (fill_run 0 min z [] tt, fill_none 0 min, eqb-suc-zero l) (edges-run min z (suc l) [] tt ∙ append-nil (silence_between min (suc l) (suc l + z)))
  closed_some (zero ∷ ys) z l f =
      rw (longer 0 z ys) (closed_some ys (suc z) l (λ i. f (suc i)) ∙ rw (add-suc (suc l) z))
  closed_some (suc zero ∷ ys) z l f =
      rw (fill_run 0 min z (1 ∷ ys) (suc-ne-zero 0), fill_other 0 min 1 ys (suc-ne-zero 0))
      (edges-run min z (suc l) (1 ∷ fill_short 0 min ys) (suc-ne-zero 0) ∙ ap (λ (t : List ℕ). silence_between min (suc l) (suc l + z) ++ t) (closed_some ys 0 (suc l + z) (λ i. f (suc i)) ∙ rw (add-zero (suc (suc l + z)))))
  closed_some (suc (suc x) ∷ ys) z l f = absurd (omega (arith, f 0))

  -- from the start, with some sound to come
  closed_first : (ys : List ℕ) (z : ℕ) → Flags ys → all_of is_silent ys ≡ false → edges 0 1 (fill_short 0 min (replicate z 0 ++ ys)) ≡ silences_left min 0 z ys
  unfolding silences_left edges is_edge all_of is_silent
  closed_first [] z f a = absurd (holds (sym a))
  closed_first (zero ∷ ys) z f a = rw (longer 0 z ys) (closed_first ys (suc z) (λ i. f (suc i)) a)
  closed_first (suc zero ∷ ys) z f a =
      rw (fill_run 0 min z (1 ∷ ys) (suc-ne-zero 0), fill_other 0 min 1 ys (suc-ne-zero 0))
      (edges-run min z 0 (1 ∷ fill_short 0 min ys) (suc-ne-zero 0) ∙ rw (zero-add z) (ap (λ (t : List ℕ). silence_between min 0 z ++ t) (closed_some ys 0 z (λ i. f (suc i)) ∙ rw (add-zero (suc z)))))
  closed_first (suc (suc x) ∷ ys) z f a = absurd (omega (arith, f 0))

  -- from the start, with no sound
  closed_none : (ys : List ℕ) (z : ℕ) → all_of is_silent ys ≡ true → edges 0 1 (replicate z 0 ++ ys) ≡ silences_left min 0 z ys
  unfolding silences_left last_silence edges all_of is_silent filled_as
  closed_none [] z a = subst (λ (b : Bool). edges 0 1 (replicate z (cond b 1 0) ++ []) ≡ silence_between 0 0 z) (le-ltb z 0 (omega arith)) (edges-run 0 z 0 [] tt ∙ rw (zero-add z) (append-nil (silence_between 0 0 z)))
  closed_none (zero ∷ ys) z a = rw (longer 0 z ys) (closed_none ys (suc z) a)
  closed_none (suc x ∷ ys) z a = absurd (holds (rw (eqb-suc-zero x) at a))

  closed_left : (ys : List ℕ) → Flags ys → silences_of (fill_silence min ys) ≡ silences_left min 0 0 ys
  unfolding fill_silence any_sound
  closed_left ys f = silences-edges (fill_silence min ys) ∙ elim (tested (all_of is_silent ys)) [
    | inl e ↦ rw e (closed_none ys 0 e)
    | inr e ↦ rw e (closed_first ys 0 f e)
  ]

-- ---- the whole pass

-- the pass lists the silences that are left where short sound is filled and then short silence
pub one_pass_filled : (on off : Float) (min_sound min_silence : ℕ) (values : List Float) (flags : List ℕ)
    → silences_from min_sound min_silence 0 0 0 (hysteresis on off values flags) ≡ silences_of (fill_silence min_silence (fill_short 1 min_sound (hysteresis on off values flags)))
one_pass_filled on off min_sound min_silence values flags =
    let xs = hysteresis on off values flags in
    filled_left min_sound min_silence xs 0 0 ∙ sym (closed_left min_silence (fill_short 1 min_sound xs) (fill_flags 1 min_sound (omega arith) xs (hysteresis-flags on off values flags)))

-- those are the silences of the sound flags
pub one_pass : (on off : Float) (min_sound min_silence : ℕ) (values : List Float) (flags : List ℕ)
    → silences_from min_sound min_silence 0 0 0 (hysteresis on off values flags) ≡ silences_of (sounds_of on off min_sound min_silence values flags)
unfolding sounds_of
one_pass on off min_sound min_silence values flags = one_pass_filled on off min_sound min_silence values flags

-- a silence takes two numbers, or none; there is a frame in it
pub between_small : (min first end : ℕ) → first ≤ end → (length (silence_between min first end) ≤ 2) × (first + length (silence_between min first end) ≤ end + 1)
unfolding silence_between lasts
between_small min first end l = elim (lt_or_le first end) [
  | inl m ↦ elim (tested (lasts min (end - first))) [ inl e ↦ rw e (omega arith, omega arith) | inr e ↦ rw e (omega arith, omega arith) ]
  | inr m ↦ (let e : end - first ≡ 0 = omega arith in rw (e, lasts-none min) (omega arith, omega arith))
]

-- a run that lasts has a frame
pub lasts_some : (min n : ℕ) → lasts min n ≡ true → 0 < n
lasts_some min zero e = absurd (holds (sym (lasts-none min) ∙ e))
lasts_some min (suc n) e = omega arith
