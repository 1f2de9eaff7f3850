-- What an iterator's `all` answers is the test of every element.
use Rattle.std.specs.Prelude.{◌≡◌, refl, ℕ, zero, suc, ◌<◌, Bool, true, false, List, [], ◌∷◌, length}
use Rattle.std.proofs.Common.{sym, arith, inl, inr}
use Rattle.std.specs.Bool.{MatchBool}
use Rattle.std.specs.List.{AllWithin, HoldsAt}
use Rattle.base_laws.specs.Tests.{tested}
use Rattle.base_terms.specs.Lists.{all_of}

module _ {A : Type 0} (p : A → Bool) where
  -- where each passes, the test of all does
  all_pass : (xs : List A) → AllWithin (λ x. p x ≡ true) xs 0 (length xs) → all_of p xs ≡ true
  unfolding all_of
  all_pass [] h = refl
  all_pass (x ∷ xs) h =
      let a : p x ≡ true = h 0 x (omega arith) (omega arith) in
      rw (a, all_pass xs (λ k d l m. h (suc k) d (omega arith) (omega arith)))

  -- where one fails, the test of all does not
  one_fails : (xs : List A) (k : ℕ) → k < length xs → HoldsAt (λ x. p x ≡ false) xs k → all_of p xs ≡ false
  unfolding all_of
  one_fails [] k l h = absurd (omega arith)
  one_fails (x ∷ xs) zero l h = let a : p x ≡ false = h x in rw a
  one_fails (x ∷ xs) (suc k) l h = elim (tested (p x)) [ inl e ↦ rw (e, one_fails xs k (omega arith) h) | inr e ↦ rw e ]

  -- so what such a call answers is the test of every element
  pub told_all : (xs : List A) (r : Bool) → MatchBool r (AllWithin (λ x. p x ≡ true) xs 0 (length xs)) ((k : ℕ) × (k < length xs) × HoldsAt (λ x. p x ≡ false) xs k)
      → r ≡ all_of p xs
  told_all xs true h = sym (all_pass xs h)
  told_all xs false h = sym (one_fails xs h.0 h.1 h.2)
