-- Of all silences only the first that does not end before a boundary can hold it.
use Rattle.std.specs.Prelude.{◌≡◌, Bool, ◌&&◌, List, leb}
use Rattle.std.proofs.Math.Path.{refl}
use Rattle.std.proofs.Common.{◌∙◌, le-leb}
use Rattle.std.proofs.Math.Logic.{inl, inr}
use Rattle.std.proofs.Math.Bool.{false, or-false}
use Prim.Native.Nat.{ℕ, zero, suc, ◌≤◌, ◌<◌}
use native.Mathlib.Omega.{arith}
use Rattle.std.proofs.lemmas.Bool.{lt-leb}
use Rattle.base_laws.specs.Tests.{lt_or_le}
use Rattle.candidate_span.specs.declared.bounds.Bounds.{Bounds}
use Rattle.candidate_span.specs.Bounds.{low_of, high_of, bounds_of}
use Rattle.candidate_span.specs.BoundsLaws.{low-within, high_within}
use Rattle.candidate_span.specs.Listed.{silence_count, start_at, end_at}
use Rattle.candidate_span.specs.Ending.{FirstEnding}
use Rattle.candidate_span.specs.ListedLaws.{Listed, listed-own, listed_apart, listed-within}
use Rattle.candidate_points.specs.Blocked.{touches}
use Rattle.candidate_points.specs.BlockedLaws.{touches-out}
use Rattle.candidates.specs.declared.context.Context.{Context}
use Rattle.candidates.specs.Candidates.{pauses_by, in_pause}

module _ (x : Context) (ss : List ℕ) (k : ℕ) where
  -- boundary k lies within the padded bounds of silence j
  abbrev at : ℕ → Bool
  at j = touches (low_of x.padding (start_at ss j)) (high_of x.padding (end_at ss j)) k

  by_none : (m : ℕ) → ((j : ℕ) → j < m → at j ≡ false) → pauses_by x ss m k ≡ false
  unfolding pauses_by
  by_none zero f = refl
  by_none (suc m) f = rw (by_none m (λ (j : ℕ) (h : j < m). f j (omega arith)), f m (omega arith))

  by_one : (i m : ℕ) → i < m → ((j : ℕ) → j < i → at j ≡ false) → ((j : ℕ) → i < j → j < m → at j ≡ false) → pauses_by x ss m k ≡ at i
  unfolding pauses_by
  by_one i zero h f g = absurd (omega arith)
  by_one i (suc m) h f g = elim (lt_or_le i m) [
    | inl l ↦ rw (by_one i m l f (λ (j : ℕ) (a : i < j) (b : j < m). g j a (omega arith)), g m l (omega arith)) (or-false (at i))
    | inr l ↦ let e : i ≡ m = omega arith in rw (by_none m (λ (j : ℕ) (a : j < m). f j (omega arith)), e)
  ]

  past : (j : ℕ) → end_at ss j < k → at j ≡ false
  past j h = touches-out (low_of x.padding (start_at ss j)) (high_of x.padding (end_at ss j)) k (inr (omega (arith, high_within x.padding (end_at ss j))))

  -- no silence is left
  pub pause_none : (i : ℕ) → FirstEnding ss k i → silence_count ss ≤ i → in_pause x ss k ≡ false
  unfolding in_pause
  pause_none i e h = by_none (silence_count ss) (λ (j : ℕ) (l : j < silence_count ss). past j (e.before j (omega arith)))

  -- it is that one or none
  pub pause_one : (i : ℕ) → Listed x.padding.frames ss → FirstEnding ss k i → i < silence_count ss → in_pause x ss k ≡ at i
  unfolding in_pause
  pause_one i l e h = by_one i (silence_count ss) h (λ (j : ℕ) (a : j < i). past j (e.before j a)) ahead
    where
      ahead : (j : ℕ) → i < j → j < silence_count ss → at j ≡ false
      ahead j a b = touches-out (low_of x.padding (start_at ss j)) (high_of x.padding (end_at ss j)) k
          (inl (omega (arith, e.from i (omega arith) h, listed_apart l i j a b, low-within x.padding (start_at ss j) (omega (arith, listed-own l j b, listed-within l j b)))))

  -- told from that silence's bounds b
  module _ (i start end : ℕ) (b : Bounds) (l : Listed x.padding.frames ss) (e : FirstEnding ss k i) (h : i < silence_count ss) (begins : start ≡ start_at ss i) (stops : end ≡ end_at ss i)
      (is : b ≡ bounds_of x.padding start end) where
    told : in_pause x ss k ≡ (leb b.lo k && leb k b.hi)
    told = rw (is, begins, stops) (pause_one i l e h ∙ unfold touches in refl)

    -- below the lower bound k is in no pause
    pub pause_before : k < b.lo → leb b.lo k ≡ in_pause x ss k
    pause_before m = rw (told, lt-leb b.lo k m)

    -- from there on it is in one up to the upper bound
    pub pause_from : b.lo ≤ k → leb k b.hi ≡ in_pause x ss k
    pause_from m = rw (told, le-leb b.lo k m)
