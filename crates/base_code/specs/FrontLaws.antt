-- Lists that are written in part: at the front, from the left or from the back, with nothing touched beyond.
use Rattle.std.specs.Prelude.{◌≡◌, ℕ, zero, suc, ◌<◌, ◌≤◌, List, [], ◌∷◌, ◌++◌, length, take, drop, set, replicate, slice_index_or, slice_set}
use Rattle.std.proofs.Math.Path.{refl, sym, ap}
use Rattle.std.proofs.Common.{◌∙◌, append_assoc, append-nil, le_of_lt, length-drop, drop-cons, drop-set-lt, take-suc, length-take-le}
use Rattle.std.proofs.Math.Logic.{inl, inr}
use Rattle.std.proofs.Math.Numerals.{add-one}
use native.Mathlib.Omega.{arith}
use Rattle.std.proofs.Math.ListN.{length-append, replicate-append-replicate, get_or-append}
use Rattle.std.proofs.Math.Seq.{drop-length, take_at, set_at}
use Rattle.std.proofs.lemmas.List.{get_or_at}
use Rattle.base_terms.specs.Lists.{onto, tabulate}
use Rattle.base_laws.specs.Tests.{lt_or_le}

-- ---- what is at the front, and what is beyond it

module _ {A : Type 0} where
  -- where no element is written, the list stays
  pub onto_nil : (xs : List A) → onto [] xs ≡ xs
  unfolding onto
  onto_nil xs = refl

  -- the list is as long as it was
  pub onto-length : (p xs : List A) → length p ≤ length xs → length (onto p xs) ≡ length xs
  unfolding onto
  onto-length p xs h = simp (length-append, length-drop) (omega arith)

  -- the front is what was written
  pub onto-at : (p xs : List A) (k : ℕ) (z : A) → k < length p → slice_index_or (onto p xs) k z ≡ slice_index_or p k z
  unfolding onto
  onto-at p xs k z h = get_or-append p (drop (length p) xs) z k h

  -- taken off again, it is what was written
  pub onto-take : (p xs : List A) → take (length p) (onto p xs) ≡ p
  unfolding onto
  onto-take p xs = take_at p (drop (length p) xs) (length p) refl

  -- nothing is left beyond it
  pub onto-all : (p xs : List A) → length xs ≡ length p → onto p xs ≡ p
  unfolding onto
  onto-all p xs e = rw (← e, drop-length, append-nil)

  -- what stood at the front does not matter
  pub onto-set : (p xs : List A) (i : ℕ) (v : A) → i < length p → onto p (slice_set xs i v) ≡ onto p xs
  unfolding onto
  onto-set p xs i v h = rw (drop-set-lt (length p) xs i v h)

  -- one more is written
  pub onto_next : (p xs : List A) (n : ℕ) (v : A) → length p ≡ n → n < length xs → slice_set (onto p xs) n v ≡ onto (p ++ (v ∷ [])) xs
  unfolding onto
  onto_next p xs n v e h =
      let f : length (p ++ (v ∷ [])) ≡ suc n = simp length-append (omega arith) in
      ap (λ (k : ℕ). set (p ++ drop k xs) n v) e ∙ ap (λ (d : List A). set (p ++ d) n v) (drop-cons xs n v h)
      ∙ set_at p (slice_index_or xs n v) (drop (suc n) xs) v n e ∙ ap (λ (k : ℕ). p ++ (v ∷ drop k xs)) (sym f)
      ∙ sym (append_assoc p (v ∷ []) (drop (length (p ++ (v ∷ []))) xs))

  -- ---- the values of a function

  -- there are n of them
  pub tabulate-length : (f : ℕ → A) (n : ℕ) → length (tabulate f n) ≡ n
  unfolding tabulate
  tabulate-length f zero = refl
  tabulate-length f (suc n) = simp length-append (omega (arith, tabulate-length f n))

  -- the one at k is the function's value there
  pub tabulate-at : (f : ℕ → A) (n k : ℕ) (z : A) → k < n → slice_index_or (tabulate f n) k z ≡ f k
  unfolding tabulate
  tabulate-at f zero k z h = absurd (omega arith)
  tabulate-at f (suc n) k z h = elim (lt_or_le k n) [
    | inl l ↦ get_or-append (tabulate f n) (f n ∷ []) z k (rw tabulate-length l) ∙ tabulate-at f n k z l
    | inr g ↦ let e : k ≡ n = omega arith in rw e (get_or_at (tabulate f n) (f n) [] z n (tabulate-length f n))
  ]

  -- one more: the first value stands in front of the others
  pub tabulate-first : (f : ℕ → A) (n : ℕ) → tabulate f (suc n) ≡ f 0 ∷ tabulate (λ (i : ℕ). f (suc i)) n
  unfolding tabulate
  tabulate-first f zero = refl
  tabulate-first f (suc n) = ap (λ (xs : List A). xs ++ (f (suc n) ∷ [])) (tabulate-first f n)

  -- where every value is v, they are v so many times
  pub tabulate_same : (v : A) (n : ℕ) → tabulate (λ (i : ℕ). v) n ≡ replicate n v
  unfolding tabulate
  tabulate_same v zero = refl
  tabulate_same v (suc n) = ap (λ (xs : List A). xs ++ (v ∷ [])) (tabulate_same v n) ∙ replicate-append-replicate n 1 v ∙ rw add-one

  -- one more is written
  pub onto-tabulate_next : (f : ℕ → A) (xs : List A) (n : ℕ) → n < length xs → slice_set (onto (tabulate f n) xs) n (f n) ≡ onto (tabulate f (suc n)) xs
  unfolding tabulate
  onto-tabulate_next f xs n h = onto_next (tabulate f n) xs n (f n) (tabulate-length f n) h

  -- what stood where they are written does not matter
  pub onto-tabulate-set : (f : ℕ → A) (xs : List A) (n i : ℕ) (v : A) → i < n → onto (tabulate f n) (slice_set xs i v) ≡ onto (tabulate f n) xs
  onto-tabulate-set f xs n i v h = onto-set (tabulate f n) xs i v (rw tabulate-length h)

  -- the first is written
  pub onto-tabulate-one : (f : ℕ → A) (xs : List A) (v : A) → 0 < length xs → v ≡ f 0 → slice_set xs 0 v ≡ onto (tabulate f 1) xs
  unfolding tabulate
  onto-tabulate-one f xs v h e = ap (λ (x : A). set xs 0 x) e ∙ ap (λ (l : List A). set l 0 (f 0)) (sym (onto_nil xs)) ∙ onto-tabulate_next f xs 0 h

  -- ---- writing from the back: the first n are as they were, the others are new

  -- one more is new
  pub back_next : (old new : List A) (n : ℕ) (z : A) → n < length old → length new ≡ length old
      → slice_set (take (suc n) old ++ drop (suc n) new) n (slice_index_or new n z) ≡ take n old ++ drop n new
  back_next old new n z h e =
      rw (
        take-suc old n z h,
        append_assoc,
        set_at (take n old) (slice_index_or old n z) (drop (suc n) new) (slice_index_or new n z) n (length-take-le n old (le_of_lt h)),
        ← drop-cons new n z (omega arith),
      )
