-- Lists of numbers of 64 bits: written at the front of zeros, three by three.
use Rattle.std.specs.Prelude.{◌≡◌, List, [], ◌∷◌, ◌++◌, ℕ, zero, suc, ◌+◌, ◌*◌, ◌/◌, ◌%◌, ◌<◌, length, get_or, take, drop, replicate}
use Rattle.std.proofs.Common.{sym, subst, inl, inr, arith}
use Rattle.base_terms.specs.Limits.{IsU64}
use Rattle.base_terms.specs.Lists.{onto}
use Rattle.base_laws.specs.Tests.{lt_or_le}
use Rattle.listing.specs.Rows.{AllWide}

wide_append : (xs ys : List ℕ) → ((i : ℕ) → IsU64 (get_or xs i 0)) → ((i : ℕ) → IsU64 (get_or ys i 0)) → (i : ℕ) → IsU64 (get_or (xs ++ ys) i 0)
wide_append [] ys f g i = g i
wide_append (x ∷ xs) ys f g zero = f zero
wide_append (x ∷ xs) ys f g (suc i) = wide_append xs ys (λ j. f (suc j)) g i

wide_zeros : (n i : ℕ) → IsU64 (get_or (replicate n 0) i 0)
wide_zeros zero i = omega arith
wide_zeros (suc n) zero = omega arith
wide_zeros (suc n) (suc i) = wide_zeros n i

wide_drop : (k : ℕ) (xs : List ℕ) → ((i : ℕ) → IsU64 (get_or xs i 0)) → (i : ℕ) → IsU64 (get_or (drop k xs) i 0)
wide_drop zero xs f i = f i
wide_drop (suc k) [] f i = omega arith
wide_drop (suc k) (x ∷ xs) f i = wide_drop k xs (λ j. f (suc j)) i

wide_take : (n : ℕ) (xs : List ℕ) → ((i : ℕ) → i < n → IsU64 (get_or xs i 0)) → (i : ℕ) → IsU64 (get_or (take n xs) i 0)
wide_take zero xs f i = omega arith
wide_take (suc n) [] f i = omega arith
wide_take (suc n) (x ∷ xs) f zero = f zero (omega arith)
wide_take (suc n) (x ∷ xs) f (suc i) = wide_take n xs (λ j h. f (suc j) (omega (arith, h))) i

-- the three numbers of each row
wide_threes : (xs : List ℕ) (n : ℕ) → ((k : ℕ) → k < n → IsU64 (get_or xs (3 * k) 0) × IsU64 (get_or xs (3 * k + 1) 0) × IsU64 (get_or xs (3 * k + 2) 0))
    → (i : ℕ) → i < 3 * n → IsU64 (get_or xs i 0)
wide_threes xs n f i h =
    let three = f (i / 3) (omega (arith, h)) in
    elim (lt_or_le (i % 3) 1) [
      | inl a ↦ let e : 3 * (i / 3) ≡ i = omega (arith, a) in subst (λ (j : ℕ). IsU64 (get_or xs j 0)) e three.0
      | inr a ↦ elim (lt_or_le (i % 3) 2) [
        | inl b ↦ let e : 3 * (i / 3) + 1 ≡ i = omega (arith, a, b) in subst (λ (j : ℕ). IsU64 (get_or xs j 0)) e three.1
        | inr b ↦ let e : 3 * (i / 3) + 2 ≡ i = omega (arith, b) in subst (λ (j : ℕ). IsU64 (get_or xs j 0)) e three.2
      ]
    ]

-- rows at the front of zeros
pub wide_rows : (xs : List ℕ) (n room : ℕ) → xs ≡ onto (take (3 * n) xs) (replicate room 0)
    → ((k : ℕ) → k < n → IsU64 (get_or xs (3 * k) 0) × IsU64 (get_or xs (3 * k + 1) 0) × IsU64 (get_or xs (3 * k + 2) 0)) → AllWide xs
unfolding onto
wide_rows xs n room e f = subst AllWide (sym e) (record {
  at = wide_append (take (3 * n) xs) (drop (length (take (3 * n) xs)) (replicate room 0))
      (wide_take (3 * n) xs (wide_threes xs n f)) (wide_drop (length (take (3 * n) xs)) (replicate room 0) (wide_zeros room));
})
