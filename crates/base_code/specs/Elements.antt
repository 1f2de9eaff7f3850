-- What a test of every element says of one of them, and of the list's head and rest.
use Rattle.std.specs.Prelude.{◌≡◌, ℕ, zero, suc, ◌<◌, Bool, true, List, [], ◌∷◌, length, slice_index_or}
use Rattle.std.proofs.Math.Path.{refl}
use Rattle.std.proofs.Common.{not-suc-le-zero, le_of_suc-le-suc}
use Rattle.base_laws.specs.Tests.{both}
use Rattle.base_terms.specs.Lists.{all_of}

module _ {A : Type 0} (p : A → Bool) where
  -- the head passes, and so does every element of the rest
  pub all_parts : (x : A) (xs : List A) → all_of p (x ∷ xs) ≡ true → (p x ≡ true) × (all_of p xs ≡ true)
  unfolding all_of
  all_parts x xs h = both (p x) (all_of p xs) h

  -- the element at i passes
  pub all-at : (xs : List A) (i : ℕ) (z : A) → i < length xs → all_of p xs ≡ true → p (slice_index_or xs i z) ≡ true
  all-at [] i z l h = absurd (not-suc-le-zero l)
  all-at (x ∷ xs) zero z l h = (all_parts x xs h).0
  all-at (x ∷ xs) (suc i) z l h = all-at xs i z (le_of_suc-le-suc l) (all_parts x xs h).1

  -- a test that is passed by whatever passes another
  pub all_weaker : (q : A → Bool) → ((x : A) → p x ≡ true → q x ≡ true) → (xs : List A) → all_of p xs ≡ true → all_of q xs ≡ true
  unfolding all_of
  all_weaker q f [] h = refl
  all_weaker q f (x ∷ xs) h =
      let a = all_parts x xs h in
      rw (f x a.0, all_weaker q f xs a.1)
