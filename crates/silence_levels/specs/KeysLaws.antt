-- A value comes back from its key, and collecting one frame after another gives the keys of the values with signal.
use Rattle.std.specs.Prelude.{◌≡◌, refl, Bool, true, false, cond, List, [], ◌∷◌, ◌++◌, map, ℕ, suc, ◌+◌, ◌-◌, ◌≤◌, ◌<◌, T, eqb, Float, get_or, drop, set}
use Rattle.std.proofs.Math.Path.{sym}
use Rattle.std.proofs.Common.{ap, ◌∙◌, inl, inr, append_assoc, append-nil, not-suc-le-zero, add-one, arith, length-set, length-append, length-drop, take-suc, drop-cons, take_at, length-take-le, lt-ltb, le-ltb, eq-eqb, ne_eqb}
use Rattle.std.proofs.lemmas.List.{map-append, length-map, set_at}
use Rattle.std.specs.List.{list_any}
use Rattle.std.specs.Float.{binary32, nan}
use Rattle.std.specs.Float.Ieee.{fits, to_bits, of_bits}
use Rattle.std.specs.Float.Ieee.Bits.{of_bits-to_bits, to_bits-lt, to_bits-of_bits, of_bits-fits, is_true}
use Rattle.std.proofs.Math.ListN.{length, take}
use Rattle.std.proofs.Math.Seq.{take_all}
use Rattle.std.proofs.lemmas.Bool.{not-true, not-false}
use Rattle.base_laws.specs.Tests.{lt_or_le, holds, tested}
use Rattle.base_terms.specs.Lists.{all_of}
use Rattle.base_code.specs.Elements.{all_parts}
use Rattle.grid.specs.Values.{is_finite}
use Rattle.grid.specs.ValuesLaws.{value_number}
use Rattle.silence_levels.specs.Keys.{place_of, pattern_of, key_of, value_of, is_key, with_signal, is_lost, any_signal, keys_collected, Collected}

-- ---- keys

pattern_place : (bits : ℕ) → bits < 4294967296 → pattern_of (place_of bits) ≡ bits
unfolding pattern_of place_of
pattern_place bits l =
    elim (lt_or_le bits 2147483648) [
      | inl h ↦ rw (lt-ltb bits 2147483648 h, le-ltb (bits + 2147483648) 2147483648 (omega arith)) (omega arith)
      | inr h ↦ rw (le-ltb bits 2147483648 h, lt-ltb (4294967295 - bits) 2147483648 (omega arith)) (omega arith)
    ]

-- a value comes back from its key
pub value_key : (x : Float) → T (fits binary32 x) → value_of (key_of x) ≡ x
unfolding value_of key_of
value_key x h = ap (of_bits binary32) (pattern_place (to_bits binary32 x) (to_bits-lt binary32 x h)) ∙ of_bits-to_bits binary32 x h

place_pattern : (place : ℕ) → place < 4294967296 → place_of (pattern_of place) ≡ place
unfolding pattern_of place_of
place_pattern place l =
    elim (lt_or_le place 2147483648) [
      | inl h ↦ rw (lt-ltb place 2147483648 h, le-ltb (4294967295 - place) 2147483648 (omega arith)) (omega arith)
      | inr h ↦ rw (le-ltb place 2147483648 h, lt-ltb (place - 2147483648) 2147483648 (omega arith)) (omega arith)
    ]

pattern_lt : (place : ℕ) → place < 4294967296 → pattern_of place < 4294967296
unfolding pattern_of
pattern_lt place l =
    elim (lt_or_le place 2147483648) [
      | inl h ↦ rw (lt-ltb place 2147483648 h) (omega arith)
      | inr h ↦ rw (le-ltb place 2147483648 h) (omega arith)
    ]

-- a key comes back from its value
key_value : (key : ℕ) → key < 4294967296 → is_key key ≡ true → key_of (value_of key) ≡ key
unfolding value_of key_of is_key
key_value key l h =
    ap place_of (to_bits-of_bits binary32 (pattern_of key) (pattern_lt key l) (value_number (of_bits binary32 (pattern_of key)) h)) ∙ place_pattern key l

-- values come back from their keys
pub values_back : (values : List Float) → all_of (fits binary32) values ≡ true → map value_of (map key_of values) ≡ values
values_back [] f = refl
values_back (v ∷ vs) f =
    let a = all_parts (fits binary32) v vs f in
    rw (value_key v (holds a.0), values_back vs a.1)

-- keys come back from their values
pub keys_back : (keys : List ℕ) → ((i : ℕ) → get_or keys i 0 < 4294967296) → all_of is_key keys ≡ true → map key_of (map value_of keys) ≡ keys
keys_back [] l h = refl
keys_back (k ∷ ks) l h =
    let a = all_parts is_key k ks h in
    rw (key_value k (l 0) a.0, keys_back ks (λ i. l (suc i)) a.1)

-- a key's value is an f32
pub values_fit : (keys : List ℕ) → all_of (fits binary32) (map value_of keys) ≡ true
unfolding all_of value_of
values_fit [] = refl
values_fit (k ∷ ks) = rw (is_true (fits binary32 (of_bits binary32 (pattern_of k))) (of_bits-fits binary32 (pattern_of k)), values_fit ks)

-- ---- the values with signal

with_signal-more : (vs : List Float) (fs : List ℕ) (v : Float) (f : ℕ) → length fs ≡ length vs → with_signal (vs ++ (v ∷ [])) (fs ++ (f ∷ [])) ≡ with_signal vs fs ++ cond (eqb f 0) (v ∷ []) []
unfolding with_signal
with_signal-more [] [] v f e = refl
with_signal-more [] (g ∷ fs) v f e = absurd (not-suc-le-zero {n = 0} (omega arith))
with_signal-more (w ∷ vs) [] v f e = absurd (not-suc-le-zero {n = 0} (omega arith))
with_signal-more (w ∷ vs) (g ∷ fs) v f e =
    let h = with_signal-more vs fs v f (omega arith) in
    elim (tested (eqb g 0)) [ inl t ↦ rw t (ap (λ (k : List Float). w ∷ k) h) | inr t ↦ rw t h ]

-- there are no more of them than values
pub with_signal-length : (vs : List Float) (fs : List ℕ) → length (with_signal vs fs) ≤ length vs
unfolding with_signal
with_signal-length [] fs = omega arith
with_signal-length (v ∷ vs) [] = omega arith
with_signal-length (v ∷ vs) (f ∷ fs) = elim (tested (eqb f 0)) [
  | inl e ↦ rw e (omega (arith, with_signal-length vs fs))
  | inr e ↦ rw e (omega (arith, with_signal-length vs fs))
]

-- one key more
put : (ks : List Float) (v : Float) (keys : List ℕ) (n : ℕ) → n ≡ length ks → n < length keys
    → set (map key_of ks ++ drop n keys) n (key_of v) ≡ map key_of (ks ++ (v ∷ [])) ++ drop (suc n) keys
put ks v keys n e l =
    rw (drop-cons keys n 0 l, set_at (map key_of ks) (get_or keys n 0) (drop (suc n) keys) (key_of v) n (length-map ks key_of ∙ sym e), map-append, append_assoc)

-- the keys of the values with signal before frame i stand in front, n of them: what holds while a loop that ends at `end` collects them
abbrev pub Collecting : List Float → List ℕ → List ℕ → ℕ → List ℕ → ℕ → ℕ → Type 0
Collecting values flags keys₀ end keys n i =
    (i ≤ length values) × (end ≡ length values) × (length flags ≡ length values) × (length keys ≡ length keys₀) × (n ≤ i)
    × (n ≡ length (with_signal (take i values) (take i flags))) × (keys ≡ map key_of (with_signal (take i values) (take i flags)) ++ drop n keys₀)

module _ (values : List Float) (flags keys₀ : List ℕ) (end : ℕ) where
  with_signal_suc : (i : ℕ) (z : Float) → i < length values → length flags ≡ length values
      → with_signal (take (suc i) values) (take (suc i) flags) ≡ with_signal (take i values) (take i flags) ++ cond (eqb (get_or flags i 0) 0) (get_or values i z ∷ []) []
  with_signal_suc i z l e =
      rw (take-suc values i z l, take-suc flags i 0 (omega arith))
      (with_signal-more (take i values) (take i flags) (get_or values i z) (get_or flags i 0)
      (omega (arith, length-take-le i values (omega arith), length-take-le i flags (omega arith))))

  -- frame i has signal
  pub collecting_next : (keys : List ℕ) (n i : ℕ) (z : Float) → end ≤ length keys₀ → i < end → get_or flags i 0 ≡ 0
      → Collecting values flags keys₀ end keys n i → Collecting values flags keys₀ end (set keys n (key_of (get_or values i z))) (n + 1) (i + 1)
  collecting_next keys n i z room l f (a, b, c, d, e, g, h) =
      let v : Float = get_or values i z in
      let s : with_signal (take (suc i) values) (take (suc i) flags) ≡ with_signal (take i values) (take i flags) ++ (v ∷ []) =
      rw (eq-eqb (get_or flags i 0) 0 f) at (with_signal_suc i z (omega arith) c) in
      let more = length-append (with_signal (take i values) (take i flags)) (v ∷ []) in (
        omega arith,
        b,
        c,
        length-set keys n (key_of v) ∙ d,
        omega arith,
        rw (add-one i, s) (omega arith),
        rw (add-one i, add-one n, s, h) (put (with_signal (take i values) (take i flags)) v keys₀ n g (omega arith)),
      )

  -- frame i has none
  pub collecting_skip : (keys : List ℕ) (n i : ℕ) → i < end → (get_or flags i 0 ≡ 0 → ⊥)
      → Collecting values flags keys₀ end keys n i → Collecting values flags keys₀ end keys n (i + 1)
  collecting_skip keys n i l f (a, b, c, d, e, g, h) =
      let s : with_signal (take (suc i) values) (take (suc i) flags) ≡ with_signal (take i values) (take i flags) =
      rw (ne_eqb (get_or flags i 0) 0 f, append-nil) at (with_signal_suc i nan (omega arith) c) in
      (omega arith, b, c, d, omega arith, rw (add-one, s) g, rw (add-one, s) h)

  -- every frame is seen
  pub collecting_done : (keys : List ℕ) (n i : ℕ) → end ≤ i → Collecting values flags keys₀ end keys n i → Collected values flags keys₀ keys n
  unfolding keys_collected
  collecting_done keys n i l (a, b, c, d, e, g, h) =
      let v : take i values ≡ values = take_all i values (omega arith) in
      let w : take i flags ≡ flags = take_all i flags (omega arith) in
      let m : n ≡ length (with_signal values flags) = rw (v, w) at g in
      record { count = m; list = rw (← m) (rw (v, w) at h) }

-- ---- what the values pass

none-with_signal : (vs : List Float) (fs : List ℕ) → all_of is_lost fs ≡ true → length (with_signal vs fs) ≡ 0
unfolding with_signal all_of is_lost
none-with_signal [] fs h = refl
none-with_signal (v ∷ vs) [] h = refl
none-with_signal (v ∷ vs) (f ∷ fs) h = elim (tested (eqb f 0)) [ inl e ↦ absurd (holds (rw e at h)) | inr e ↦ rw e (none-with_signal vs fs (rw e at h)) ]

some_with_signal : (vs : List Float) (fs : List ℕ) → length fs ≡ length vs → all_of is_lost fs ≡ false → 0 < length (with_signal vs fs)
unfolding with_signal all_of is_lost
some_with_signal [] [] e h = absurd (holds (sym h))
some_with_signal [] (f ∷ fs) e h = absurd (not-suc-le-zero {n = 0} (omega arith))
some_with_signal (v ∷ vs) [] e h = absurd (not-suc-le-zero {n = 0} (omega arith))
some_with_signal (v ∷ vs) (f ∷ fs) e h = elim (tested (eqb f 0)) [ inl t ↦ rw t (omega arith) | inr t ↦ rw t (some_with_signal vs fs (omega arith) (rw t at h)) ]

-- no frame has signal: no value is left
pub signal_none : (values : List Float) (flags : List ℕ) → any_signal flags ≡ false → length (with_signal values flags) ≡ 0
unfolding any_signal
signal_none values flags h = none-with_signal values flags (not-false (all_of is_lost flags) h)

-- a frame has signal: a value is left
pub signal_some : (values : List Float) (flags : List ℕ) → length flags ≡ length values → any_signal flags ≡ true → 0 < length (with_signal values flags)
unfolding any_signal
signal_some values flags l h = some_with_signal values flags l (not-true (all_of is_lost flags) h)

-- a test that every value passes is passed by every one with signal
pub with_signal-all : (test : Float → Bool) (values : List Float) (flags : List ℕ) → all_of test values ≡ true → all_of test (with_signal values flags) ≡ true
unfolding with_signal all_of
with_signal-all test [] flags h = refl
with_signal-all test (v ∷ vs) [] h = refl
with_signal-all test (v ∷ vs) (f ∷ fs) h = let a = all_parts test v vs h in elim (tested (eqb f 0)) [
  | inl e ↦ rw (e, a.0, with_signal-all test vs fs a.1)
  | inr e ↦ rw e (with_signal-all test vs fs a.1)
]

-- every value is an f32
pub fits_all : (values : List Float) → ((i : ℕ) → T (fits binary32 (get_or values i nan))) → all_of (fits binary32) values ≡ true
unfolding all_of
fits_all [] h = refl
fits_all (v ∷ vs) h = rw (is_true (fits binary32 v) (h 0), fits_all vs (λ i. h (suc i)))

-- the keys of finite values
pub keys_all : (values : List Float) → all_of (fits binary32) values ≡ true → all_of is_finite values ≡ true → all_of is_key (map key_of values) ≡ true
unfolding all_of is_key
keys_all [] f h = refl
keys_all (v ∷ vs) f h =
    let a = all_parts (fits binary32) v vs f in
    let b = all_parts is_finite v vs h in
    rw (value_key v (holds a.0), b.0, keys_all vs a.1 b.1)

-- how many values have signal does not depend on them
pub with_signal_same : (vs ws : List Float) (flags : List ℕ) → length vs ≡ length ws → length (with_signal vs flags) ≡ length (with_signal ws flags)
unfolding with_signal
with_signal_same [] [] flags e = refl
with_signal_same [] (w ∷ ws) flags e = absurd (not-suc-le-zero {n = 0} (omega arith))
with_signal_same (v ∷ vs) [] flags e = absurd (not-suc-le-zero {n = 0} (omega arith))
with_signal_same (v ∷ vs) (w ∷ ws) [] e = refl
with_signal_same (v ∷ vs) (w ∷ ws) (f ∷ fs) e = elim (tested (eqb f 0)) [
  | inl t ↦ rw t (ap suc (with_signal_same vs ws fs (omega arith)))
  | inr t ↦ rw t (with_signal_same vs ws fs (omega arith))
]

-- ---- the list that collecting leaves

-- it is as long as it was
pub collected-length : (values : List Float) (flags keys : List ℕ) → length values ≤ length keys → length (keys_collected values flags keys) ≡ length keys
unfolding keys_collected
collected-length values flags keys l =
    let k = with_signal-length values flags in
    simp (length-append, length-map, length-drop) (omega arith)

module _ {values : List Float} {flags keys₀ keys : List ℕ} {n : ℕ} (c : Collected values flags keys₀ keys n) where
  -- the front of the list lies inside it
  pub collected_count : length values ≤ length keys₀ → n ≤ length keys
  collected_count l =
      let k = with_signal-length values flags in
      let e = c.count in
      let m = ap length c.list ∙ collected-length values flags keys₀ l in
      omega arith

  collected-front : take n keys ≡ map key_of (with_signal values flags)
  unfolding keys_collected
  collected-front =
      rw c.list
      (take_at (map key_of (with_signal values flags)) (drop (length (with_signal values flags)) keys₀) n (length-map (with_signal values flags) key_of ∙ sym c.count))

  -- and is no longer than the values
  pub collected_few : length (take n keys) ≤ length values
  collected_few = rw (collected-front, length-map) (with_signal-length values flags)

  module _ (f : all_of (fits binary32) values ≡ true) where
    -- it holds keys of finite values
    pub collected_keys : all_of is_finite values ≡ true → all_of is_key (take n keys) ≡ true
    collected_keys h =
        rw collected-front (keys_all (with_signal values flags) (with_signal-all (fits binary32) values flags f) (with_signal-all is_finite values flags h))

    -- and its values are those with signal
    pub collected_values : map value_of (take n keys) ≡ with_signal values flags
    collected_values = rw collected-front (values_back (with_signal values flags) (with_signal-all (fits binary32) values flags f))

-- a frame has signal where some flag is 0
pub signal_is : (flags : List ℕ) → list_any (λ (flag : ℕ). eqb flag 0) flags ≡ any_signal flags
unfolding any_signal all_of is_lost
signal_is [] = refl
signal_is (f ∷ fs) = elim (tested (eqb f 0)) [ inl e ↦ rw e | inr e ↦ rw e (signal_is fs) ]
