-- Laws of the way back: one step at a time, it ends at its candidate, and it looks at nothing but the parents on the way.
use Rattle.std.specs.Prelude.{◌≡◌, length}
use Rattle.std.proofs.Math.Path.{refl, ap}
use Rattle.std.proofs.Common.{◌∙◌, le_refl, arith, length-append}
use mathlib.Core.List.{List, [], ◌∷◌, ◌++◌}
use Prim.Native.Nat.{ℕ, zero, suc, ◌≤◌, ◌<◌}
use Rattle.path_by_length.specs.Table.{way_back, way_to, Falling}

module _ (parent : ℕ → ℕ) where
  -- the number of steps does not matter where it suffices
  way_enough : (n m j : ℕ) → j ≤ n → j ≤ m → Falling parent j → way_back parent n j ≡ way_back parent m j
  unfolding way_back
  way_enough zero zero j h g f = refl
  way_enough zero (suc m) zero h g f = refl
  way_enough zero (suc m) (suc j) h g f = absurd (omega arith)
  way_enough (suc n) zero zero h g f = refl
  way_enough (suc n) zero (suc j) h g f = absurd (omega arith)
  way_enough (suc n) (suc m) zero h g f = refl
  way_enough (suc n) (suc m) (suc j) h g f =
      let b : parent (suc j) < suc j = f (suc j) (omega arith) (le_refl (suc j)) in
      ap (λ (p : List ℕ). p ++ (suc j ∷ [])) (way_enough n m (parent (suc j)) (omega arith) (omega arith) (λ k u v. f k u (omega arith)))

  -- the way to the first candidate is that candidate alone
  pub way_first : way_to parent 0 ≡ 0 ∷ []
  unfolding way_back
  way_first = refl

  -- it goes to the parent, and then to its candidate
  pub way_step : (j : ℕ) → 0 < j → Falling parent j → way_to parent j ≡ way_to parent (parent j) ++ (j ∷ [])
  unfolding way_back
  way_step zero h f = absurd (omega arith)
  way_step (suc j) h f =
      let b : parent (suc j) < suc j = f (suc j) (omega arith) (le_refl (suc j)) in
      ap (λ (p : List ℕ). p ++ (suc j ∷ [])) (way_enough j (parent (suc j)) (parent (suc j)) (omega arith) (le_refl (parent (suc j))) (λ k u v. f k u (omega arith)))

  -- so it has one candidate more
  pub way_length : (j : ℕ) → 0 < j → Falling parent j → length (way_to parent j) ≡ suc (length (way_to parent (parent j)))
  way_length j h f = ap length (way_step j h f) ∙ simp length-append (omega arith)

  -- and at least one
  pub way_some : (j : ℕ) → Falling parent j → 0 < length (way_to parent j)
  way_some zero f = rw way_first (omega arith)
  way_some (suc j) f = rw (way_length (suc j) (omega arith) f) (omega arith)

  -- and more than one where its candidate is not the first
  pub way_later : (j : ℕ) → Falling parent j → 1 < length (way_to parent j) → 0 < j
  way_later zero f h = let e = ap length way_first in omega (arith, e)
  way_later (suc j) f h = omega arith

  -- else it is the first
  pub way_only : (j : ℕ) → Falling parent j → length (way_to parent j) ≤ 1 → j ≤ 0
  way_only zero f h = omega arith
  way_only (suc j) f h = let e = way_length (suc j) (omega arith) f in absurd (omega (arith, e, way_some (parent (suc j)) (λ k u v. f k u (omega (arith, f (suc j) (omega arith) (le_refl (suc j)))))))

-- ---- it looks at the parents on the way alone

-- parents that agree up to j give the same way to j
pub way_same : (parent parent' : ℕ → ℕ) (j : ℕ) → Falling parent j → ((k : ℕ) → k ≤ j → parent k ≡ parent' k) → way_to parent j ≡ way_to parent' j
unfolding way_back
way_same parent parent' j f e = go j j (le_refl j)
  where
    go : (n k : ℕ) → k ≤ j → way_back parent n k ≡ way_back parent' n k
    go zero k h = refl
    go (suc n) zero h = refl
    go (suc n) (suc k) h =
        let b : parent (suc k) < suc k = f (suc k) (omega arith) h in
        ap (λ (p : List ℕ). p ++ (suc k ∷ [])) (go n (parent (suc k)) (omega arith) ∙ ap (way_back parent' n) (e (suc k) h))
