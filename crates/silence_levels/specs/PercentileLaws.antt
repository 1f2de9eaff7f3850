-- The index of a percentile lies inside the list, and the value at it is one of the values: the one whose key the sorted keys have there.
use Rattle.std.specs.Prelude.{◌≡◌, refl, Bool, true, List, [], ◌∷◌, map, ℕ, zero, suc, ◌-◌, ◌*◌, ◌≤◌, ◌<◌, Float, length, get_or}
use Rattle.std.proofs.Common.{◌∙◌, mul-le-mul_right, not-suc-le-zero, le_of_suc-le-suc, arith}
use Rattle.std.specs.Float.{binary32, nan}
use Rattle.std.specs.Float.Ieee.{fits}
use Rattle.std.proofs.lemmas.List.{length-map}
use Rattle.base_laws.specs.Tests.{holds}
use Rattle.base_terms.specs.Lists.{all_of}
use Rattle.base_code.specs.Elements.{all-at}
use Rattle.grid.specs.Values.{is_finite}
use Rattle.silence_levels.specs.Keys.{key_of, value_of, is_key}
use Rattle.silence_levels.specs.KeysLaws.{value_key, keys_back, values_fit}
use Rattle.silence_levels.specs.Sorted.{sorted_by, sorted}
use Rattle.silence_levels.specs.SortedLaws.{length-sorted, all-sorted, map-sorted}
use Rattle.silence_levels.specs.Percentile.{percentile_index, percentile_of}

-- ---- the index

-- the product is at most 100 for each value but one
pub index_product : (n p : ℕ) → p ≤ 100 → p * (n - 1) ≤ 100 * (n - 1)
index_product n p l = mul-le-mul_right (n - 1) l

-- the index lies inside the list
pub index_below : (n p : ℕ) → 0 < n → p ≤ 100 → percentile_index n p < n
unfolding percentile_index
index_below n p h l = omega (arith, index_product n p l)

-- ---- the value

-- a test that every value passes is passed by the percentile
pub percentile_passes : (test : Float → Bool) (values : List Float) (p : ℕ) → 0 < length values → p ≤ 100 → all_of test values ≡ true → test (percentile_of values p) ≡ true
unfolding percentile_of
percentile_passes test values p h l a =
    all-at test (sorted_by key_of values) (percentile_index (length values) p) nan
    (omega (arith, length-sorted key_of values, index_below (length values) p h l)) (all-sorted key_of test values ∙ a)

-- a key of the sorted list is that of a finite value
pub sorted_key : (keys : List ℕ) (rank : ℕ) → rank < length keys → all_of is_key keys ≡ true → is_finite (value_of (get_or (sorted keys) rank 0)) ≡ true
unfolding is_key
sorted_key keys rank l h = all-at is_key (sorted keys) rank 0 (omega (arith, length-sorted (λ (k : ℕ). k) keys)) (all-sorted (λ (k : ℕ). k) is_key keys ∙ h)

get_d_map : {A : Type 0} (f : A → ℕ) (xs : List A) (i : ℕ) (z : A) → i < length xs → get_or (map f xs) i 0 ≡ f (get_or xs i z)
get_d_map f [] i z l = absurd (not-suc-le-zero l)
get_d_map f (x ∷ xs) zero z l = refl
get_d_map f (x ∷ xs) (suc i) z l = get_d_map f xs i z (le_of_suc-le-suc l)

-- the value of the key at the index is the percentile
percentile_key : (values : List Float) (p : ℕ) → 0 < length values → p ≤ 100 → all_of (fits binary32) values ≡ true
    → value_of (get_or (sorted (map key_of values)) (percentile_index (length (map key_of values)) p) 0) ≡ percentile_of values p
unfolding percentile_of
percentile_key values p h l a =
    let i : ℕ = percentile_index (length values) p in
    let below : i < length (sorted_by key_of values) = omega (arith, length-sorted key_of values, index_below (length values) p h l) in
    let f = percentile_passes (fits binary32) values p h l a in
    rw (length-map values key_of, ← map-sorted key_of values, get_d_map key_of (sorted_by key_of values) i nan below)
    (value_key (get_or (sorted_by key_of values) i nan) (holds f))

-- the percentile of the values of some keys
pub percentile_of_keys : (keys : List ℕ) (p : ℕ) → 0 < length keys → p ≤ 100 → ((i : ℕ) → get_or keys i 0 < 4294967296) → all_of is_key keys ≡ true
    → value_of (get_or (sorted keys) (percentile_index (length keys) p) 0) ≡ percentile_of (map value_of keys) p
percentile_of_keys keys p h l b a =
    rw (keys_back keys b a) at (percentile_key (map value_of keys) p (omega (arith, length-map keys value_of)) l (values_fit keys))
