-- Sorting keeps the elements, and the element at k of the sorted list is the one number with at most k elements below it and more than k at or below it.
use Rattle.std.specs.Prelude.{◌≡◌, Bool, true, false, ◌&&◌, cond, ltb, get_or}
use Rattle.std.proofs.Math.Path.{refl, ap}
use Rattle.std.proofs.Common.{◌∙◌, not-suc-le-zero, le_trans, arith, lt-ltb, le-ltb, le-leb}
use Rattle.std.proofs.Math.Logic.{inl, inr}
use mathlib.Core.List.{List, [], ◌∷◌, map}
use Prim.Native.Nat.{ℕ, zero, suc, ◌+◌, ◌≤◌, ◌<◌}
use Rattle.std.proofs.Math.ListN.{length}
use Rattle.std.proofs.lemmas.Bool.{lt-leb}
use Rattle.base_terms.specs.Lists.{all_of}
use Rattle.base_laws.specs.Tests.{lt_or_le}
use Rattle.silence_levels.specs.Sorted.{insert_by, sorted_by, sorted, count_of, belows}

-- ---- sorting keeps the elements

-- what holds of both ways to put x in place
by_key : {A : Type 0} (key : A → ℕ) (x y : A) (ys : List A) (P : List A → Type 0)
    → P (x ∷ y ∷ ys) → P (y ∷ insert_by key x ys) → P (insert_by key x (y ∷ ys))
unfolding insert_by
by_key key x y ys P a b =
    elim (lt_or_le (key y) (key x)) [
      | inl l ↦ rw (lt-leb (key x) (key y) l) b
      | inr l ↦ rw (le-leb (key x) (key y) l) a
    ]

module _ {A : Type 0} (key : A → ℕ) where
  length-insert : (x : A) (ys : List A) → length (insert_by key x ys) ≡ suc (length ys)
  unfolding insert_by
  length-insert x [] = refl
  length-insert x (y ∷ ys) = by_key key x y ys (λ (l : List A). length l ≡ suc (suc (length ys))) refl (ap suc (length-insert x ys))

  -- the sorted list is as long
  pub length-sorted : (xs : List A) → length (sorted_by key xs) ≡ length xs
  unfolding sorted_by
  length-sorted [] = refl
  length-sorted (x ∷ xs) = length-insert x (sorted_by key xs) ∙ ap suc (length-sorted xs)

  swap : (a b c : Bool) → (a && (b && c)) ≡ (b && (a && c))
  swap true b c = refl
  swap false true c = refl
  swap false false c = refl

  all_insert : (p : A → Bool) (x : A) (ys : List A) → all_of p (insert_by key x ys) ≡ (p x && all_of p ys)
  unfolding insert_by all_of
  all_insert p x [] = refl
  all_insert p x (y ∷ ys) =
      by_key key x y ys (λ (l : List A). all_of p l ≡ (p x && (p y && all_of p ys))) refl
      (ap (λ (b : Bool). p y && b) (all_insert p x ys) ∙ swap (p y) (p x) (all_of p ys))

  -- a test that every element passes is passed by every element of the sorted list
  pub all-sorted : (p : A → Bool) (xs : List A) → all_of p (sorted_by key xs) ≡ all_of p xs
  unfolding sorted_by all_of
  all-sorted p [] = refl
  all-sorted p (x ∷ xs) = all_insert p x (sorted_by key xs) ∙ ap (λ (b : Bool). p x && b) (all-sorted p xs)

  map-insert : (x : A) (ys : List A) → map key (insert_by key x ys) ≡ insert_by (λ (k : ℕ). k) (key x) (map key ys)
  unfolding insert_by
  map-insert x [] = refl
  map-insert x (y ∷ ys) =
      elim (lt_or_le (key y) (key x)) [
        | inl l ↦ rw (lt-leb (key x) (key y) l) (ap (λ (t : List ℕ). key y ∷ t) (map-insert x ys))
        | inr l ↦ rw (le-leb (key x) (key y) l)
      ]

  -- the keys of the sorted list are the sorted keys
  pub map-sorted : (xs : List A) → map key (sorted_by key xs) ≡ sorted (map key xs)
  unfolding sorted_by
  map-sorted [] = refl
  map-sorted (x ∷ xs) = map-insert x (sorted_by key xs) ∙ ap (insert_by (λ (k : ℕ). k) (key x)) (map-sorted xs)

-- ---- the order

-- every element is y or more
abbrev AtLeast : ℕ → List ℕ → Type 0
AtLeast y [] = Unit {0}
AtLeast y (x ∷ xs) = (y ≤ x) × AtLeast y xs

-- no element is below one before it
abbrev Rising : List ℕ → Type 0
Rising [] = Unit {0}
Rising (x ∷ xs) = AtLeast x xs × Rising xs

at_least_trans : (y z : ℕ) (xs : List ℕ) → y ≤ z → AtLeast z xs → AtLeast y xs
at_least_trans y z [] l a = tt
at_least_trans y z (x ∷ xs) l (a, b) = (le_trans l a, at_least_trans y z xs l b)

at_least_insert : (y x : ℕ) (xs : List ℕ) → y ≤ x → AtLeast y xs → AtLeast y (insert_by (λ (k : ℕ). k) x xs)
unfolding insert_by
at_least_insert y x [] l a = (l, tt)
at_least_insert y x (z ∷ zs) l (a, b) = by_key (λ (k : ℕ). k) x z zs (λ (t : List ℕ). AtLeast y t) (l, (a, b)) (a, at_least_insert y x zs l b)

rising_insert : (x : ℕ) (xs : List ℕ) → Rising xs → Rising (insert_by (λ (k : ℕ). k) x xs)
unfolding insert_by
rising_insert x [] r = (tt, tt)
rising_insert x (z ∷ zs) (a, r) =
    elim (lt_or_le z x) [
      | inl l ↦ rw (lt-leb x z l) (at_least_insert z x zs (omega arith) a, rising_insert x zs r)
      | inr l ↦ rw (le-leb x z l) ((l, at_least_trans x z zs l a), (a, r))
    ]

rising_sorted : (xs : List ℕ) → Rising (sorted xs)
unfolding sorted_by
rising_sorted [] = tt
rising_sorted (x ∷ xs) = rising_insert x (sorted xs) (rising_sorted xs)

-- ---- counting

count_insert : (p : ℕ → Bool) (x : ℕ) (ys : List ℕ) → count_of p (insert_by (λ (k : ℕ). k) x ys) ≡ cond (p x) 1 0 + count_of p ys
unfolding insert_by count_of
count_insert p x [] = refl
count_insert p x (y ∷ ys) =
    by_key (λ (k : ℕ). k) x y ys (λ (l : List ℕ). count_of p l ≡ cond (p x) 1 0 + (cond (p y) 1 0 + count_of p ys)) refl
    (let h = count_insert p x ys in omega arith)

-- sorting changes no count
count_sorted : (p : ℕ → Bool) (xs : List ℕ) → count_of p (sorted xs) ≡ count_of p xs
unfolding sorted_by count_of
count_sorted p [] = refl
count_sorted p (x ∷ xs) = count_insert p x (sorted xs) ∙ ap (λ (n : ℕ). cond (p x) 1 0 + n) (count_sorted p xs)

-- nothing is below v where every element is v or more
none_below : (v y : ℕ) (xs : List ℕ) → v ≤ y → AtLeast y xs → belows v xs ≡ 0
unfolding count_of
none_below v y [] l a = refl
none_below v y (x ∷ xs) l (a, b) = rw (le-ltb x v (le_trans l a)) (let h = none_below v y xs l b in omega arith)

-- the number with at most k elements below it and more than k at or below it
pub record Ranked (xs : List ℕ) (k v : ℕ) : Type 0 where
  pub below : belows v xs ≤ k
  pub reached : k < belows (suc v) xs

ranked_at : (ys : List ℕ) (k v : ℕ) → Rising ys → Ranked ys k v → get_or ys k 0 ≡ v
unfolding count_of
ranked_at [] k v r h = absurd (not-suc-le-zero h.reached)
ranked_at (y ∷ ys) zero v (a, r) h =
    elim (lt_or_le y v) [
      | inl l ↦ let b : 1 + belows v ys ≤ 0 = rw (lt-ltb y v l) at h.below in omega arith
      | inr l ↦ elim (lt_or_le v y) [
        | inl m ↦
            let e : belows (suc v) ys ≡ 0 = none_below (suc v) y ys m a in
            let c : 0 < 0 + belows (suc v) ys = rw (le-ltb y (suc v) m) at h.reached in omega arith
        | inr m ↦ omega arith
      ]
    ]
ranked_at (y ∷ ys) (suc k) v (a, r) h =
    elim (lt_or_le y v) [
      | inl l ↦
          let b : 1 + belows v ys ≤ suc k = rw (lt-ltb y v l) at h.below in
          let c : suc k < 1 + belows (suc v) ys = rw (lt-ltb y (suc v) (omega arith)) at h.reached in
          ranked_at ys k v r (record { below = omega arith; reached = omega arith })
      | inr l ↦ elim (lt_or_le v y) [
        | inl m ↦
            let e : belows (suc v) ys ≡ 0 = none_below (suc v) y ys m a in
            let c : suc k < 0 + belows (suc v) ys = rw (le-ltb y (suc v) m) at h.reached in omega arith
        | inr m ↦
            let e : belows v ys ≡ 0 = none_below v y ys l a in
            let c : suc k < 1 + belows (suc v) ys = rw (lt-ltb y (suc v) (omega arith)) at h.reached in
            ranked_at ys k v r (record { below = omega arith; reached = omega arith })
      ]
    ]

-- it is the element at k of the sorted list
pub ranked_sorted : (xs : List ℕ) (k v : ℕ) → Ranked xs k v → get_or (sorted xs) k 0 ≡ v
ranked_sorted xs k v h =
    ranked_at (sorted xs) k v (rising_sorted xs)
    (search (count_sorted (λ (x : ℕ). ltb x v) xs, count_sorted (λ (x : ℕ). ltb x (suc v)) xs))
