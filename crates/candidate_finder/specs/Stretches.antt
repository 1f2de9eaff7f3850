-- No stretch below off is longer than the recording.
use Rattle.std.specs.Prelude.{◌≡◌, ◌||◌, List, [], ◌∷◌, ◌++◌, ℕ, zero, suc, ◌+◌, ◌≤◌, eqb, Float, length, get_or, replicate}
use Rattle.std.proofs.Common.{inl, inr, arith, length-append}
use Rattle.std.specs.Float.Ieee.{lt}
use Rattle.std.proofs.lemmas.List.{length-replicate}
use Rattle.base_laws.specs.Tests.{tested}
use Rattle.silence_runs.specs.Runs.{each_run}
use Rattle.silence_runs.specs.RunsLaws.{by_runs, each_none, each_other, each_run_lem}
use Rattle.silence_runs.specs.Quiet.{below_at, below_off, own, quiet_runs}

-- every number of a list is at most b
abbrev pub Most : ℕ → List ℕ → Type 0
Most b xs = (i : ℕ) → get_or xs i 0 ≤ b

module _ (b : ℕ) where
  most_none : Most b []
  most_none i = omega arith

  most_cons : (y : ℕ) (ys : List ℕ) → y ≤ b → Most b ys → Most b (y ∷ ys)
  most_cons y ys h m zero = h
  most_cons y ys h m (suc i) = m i

  most_run : (n v : ℕ) (ys : List ℕ) → v ≤ b → Most b ys → Most b (replicate n v ++ ys)
  most_run zero v ys h m = m
  most_run (suc n) v ys h m = most_cons v (replicate n v ++ ys) h (most_run n v ys h m)

  most_rest : (n v : ℕ) (ys : List ℕ) → Most b (replicate n v ++ ys) → Most b ys
  most_rest zero v ys m = m
  most_rest (suc n) v ys m = most_rest n v ys (λ (i : ℕ). m (suc i))

  run-size : (n v : ℕ) (ys : List ℕ) → length (replicate n v ++ ys) ≡ n + length ys
  run-size n v ys = simp (length-append, length-replicate)

  -- flags at most b in a list no longer than b: so are the lengths of its runs
  runs_most : (xs : List ℕ) → length xs ≤ b → Most b xs → Most b (each_run 1 own xs)
  runs_most = by_runs 1 (λ (xs : List ℕ). length xs ≤ b → Most b xs → Most b (each_run 1 own xs)) base step
    where
      base : (n : ℕ) → length {A = ℕ} (replicate n 1 ++ []) ≤ b → Most b (replicate n 1 ++ []) → Most b (each_run 1 own (replicate n 1 ++ []))
      base n h m = rw (each_run_lem 1 own n [] tt, each_none 1 own) (most_run n n [] (omega (arith, h, run-size n 1 [])) most_none)

      step : (n y : ℕ) (ys : List ℕ) → (y ≡ 1 → ⊥) → (length ys ≤ b → Most b ys → Most b (each_run 1 own ys)) → length (replicate n 1 ++ (y ∷ ys)) ≤ b → Most b (replicate n 1 ++ (y ∷ ys))
          → Most b (each_run 1 own (replicate n 1 ++ (y ∷ ys)))
      step n y ys o f h m =
          let r = most_rest n 1 (y ∷ ys) m in
          rw (each_run_lem 1 own n (y ∷ ys) o, each_other 1 own y ys o)
          (most_run n n (y ∷ each_run 1 own ys) (omega (arith, h, run-size n 1 (y ∷ ys)))
          (most_cons y (each_run 1 own ys) (r 0) (f (omega (arith, h, run-size n 1 (y ∷ ys))) (λ (i : ℕ). r (suc i)))))

below_most : (off : Float) (values : List Float) (flags : List ℕ) → Most 1 (below_off off values flags)
unfolding below_off below_at
below_most off [] flags i = omega arith
below_most off (v ∷ values) [] i = omega arith
below_most off (v ∷ values) (f ∷ flags) zero = elim (tested (eqb f 1 || lt v off)) [ inl e ↦ rw e (omega arith) | inr e ↦ rw e (omega arith) ]
below_most off (v ∷ values) (f ∷ flags) (suc i) = below_most off values flags i

-- the lengths of the stretches are at most b where the recording is no longer
pub stretches_most : (b : ℕ) (off : Float) (values : List Float) (flags : List ℕ) → 1 ≤ b → length (below_off off values flags) ≤ b → Most b (quiet_runs (below_off off values flags))
unfolding quiet_runs
stretches_most b off values flags s h = runs_most b (below_off off values flags) h (λ (i : ℕ). omega (arith, below_most off values flags i))
