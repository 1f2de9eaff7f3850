-- A run ends where another flag follows, or the list ends. A frame of another kind stays, and a whole run of the kind is rewritten by its length.
use Rattle.std.specs.Prelude.{◌≡◌, Bool, true, false, eqb, length, replicate}
use Rattle.std.proofs.Math.Path.{refl, ap}
use Rattle.std.proofs.Common.{sym, ◌∙◌, arith, length-append}
use Rattle.std.proofs.Math.Logic.{inl, inr}
use mathlib.Core.List.{List, [], ◌∷◌, ◌++◌}
use Prim.Native.Nat.{ℕ, zero, suc}
use Rattle.std.proofs.lemmas.List.{length-replicate}
use borrow.Author.Tests.{eq-eqb, ne_eqb, eqb-true, eqb-false}
use Rattle.base_laws.specs.Tests.{tested}
use Rattle.silence_runs.specs.Runs.{Run, run, with_frame, runs, rewritten, rewritten_all, each_run}

-- the list does not start with the flag k
abbrev pub NotFirst : ℕ → List ℕ → Type 0
NotFirst k [] = Unit {0}
NotFirst k (x ∷ xs) = x ≡ k → ⊥

joined_same : (k n : ℕ) (rs : List Run) → with_frame k (run k n ∷ rs) ≡ run k (suc n) ∷ rs
unfolding with_frame
joined_same k n rs = rw (eq-eqb k k refl)

joined_new : (k x : ℕ) (rs : List Run) → (x ≡ k → ⊥) → with_frame k (with_frame x rs) ≡ run k 1 ∷ with_frame x rs
unfolding with_frame
joined_new k x [] h = rw (ne_eqb k x (λ e. h (sym e)))
joined_new k x (r ∷ rs) h = elim (tested (eqb x r.flag)) [ inl t ↦ rw (t, ne_eqb k x (λ e. h (sym e))) | inr t ↦ rw (t, ne_eqb k x (λ e. h (sym e))) ]

-- equal flags that no further one follows are one run
pub runs-run : (n k : ℕ) (ys : List ℕ) → NotFirst k ys → runs (replicate (suc n) k ++ ys) ≡ run k (suc n) ∷ runs ys
unfolding runs with_frame
runs-run zero k [] h = refl
runs-run zero k (y ∷ ys) h = joined_new k y (runs ys) h
runs-run (suc n) k ys h = ap (with_frame k) (runs-run n k ys h) ∙ joined_same k (suc n) (runs ys)

-- one more of the same flag
pub longer : (k n : ℕ) (t : List ℕ) → replicate n k ++ (k ∷ t) ≡ replicate (suc n) k ++ t
longer k zero t = refl
longer k (suc n) t = ap (λ (l : List ℕ). k ∷ l) (longer k n t)

-- induction run by run: every list is a run of the kind, perhaps empty, and then nothing, or a frame of another kind and a list
pub by_runs : (kind : ℕ) (P : List ℕ → Type 0) → ((n : ℕ) → P (replicate n kind ++ [])) → ((n y : ℕ) (ys : List ℕ) → (y ≡ kind → ⊥) → P ys → P (replicate n kind ++ (y ∷ ys))) → (xs : List ℕ) → P xs
by_runs kind P base step xs = go xs 0
  where
    go : (ys : List ℕ) (n : ℕ) → P (replicate n kind ++ ys)
    go [] n = base n
    go (y ∷ ys) n = split (eqb y kind) refl (go ys (suc n)) (go ys 0)
      where
        split : (b : Bool) → eqb y kind ≡ b → P (replicate (suc n) kind ++ ys) → P ys → P (replicate n kind ++ (y ∷ ys))
        split true e p q = rw (eqb-true y kind e, longer kind n ys) p
        split false e p q = step n y ys (eqb-false y kind e) q

module _ (kind : ℕ) (v : ℕ → ℕ) where
  other_joined : (y : ℕ) (rs : List Run) → (y ≡ kind → ⊥) → rewritten_all kind v (with_frame y rs) ≡ y ∷ rewritten_all kind v rs
  unfolding rewritten_all rewritten with_frame
  other_joined y [] h = rw (ne_eqb y kind h)
  other_joined y (r ∷ rs) h = elim (tested (eqb y r.flag)) [ inl e ↦ rw (e, ← eqb-true y r.flag e, ne_eqb y kind h) | inr e ↦ rw (e, ne_eqb y kind h) ]

  -- where there is no frame, nothing is rewritten
  pub each_none : each_run kind v [] ≡ []
  unfolding each_run runs rewritten_all
  each_none = refl

  -- a frame of another kind stays
  pub each_other : (y : ℕ) (ys : List ℕ) → (y ≡ kind → ⊥) → each_run kind v (y ∷ ys) ≡ y ∷ each_run kind v ys
  unfolding each_run runs
  each_other y ys h = other_joined y (runs ys) h

  -- a run of the kind is rewritten by its length
  pub each_run_lem : (n : ℕ) (ys : List ℕ) → NotFirst kind ys → each_run kind v (replicate n kind ++ ys) ≡ replicate n (v n) ++ each_run kind v ys
  unfolding each_run rewritten_all rewritten
  each_run_lem zero ys h = refl
  each_run_lem (suc n) ys h = rw (runs-run n kind ys h, eq-eqb kind kind refl)

  joined_length : (x : ℕ) (rs : List Run) → length (rewritten_all kind v (with_frame x rs)) ≡ suc (length (rewritten_all kind v rs))
  unfolding rewritten_all rewritten with_frame
  joined_length x [] = refl
  joined_length x (r ∷ rs) = elim (tested (eqb x r.flag)) [ inl e ↦ rw e (simp (length-append, length-replicate) (omega arith)) | inr e ↦ rw e ]

  -- the number of frames stays
  pub each_length : (xs : List ℕ) → length (each_run kind v xs) ≡ length xs
  unfolding each_run runs rewritten_all
  each_length [] = refl
  each_length (x ∷ xs) = joined_length x (runs xs) ∙ ap suc (each_length xs)
