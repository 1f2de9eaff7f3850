-- What was written is read back. `drop at s` is what stands ahead of a place; reading a number there moves it on.
use Rattle.std.specs.Prelude.{◌≡◌, refl, Bool, true, ℕ, zero, suc, ◌+◌, ◌*◌, ◌/◌, ◌%◌, ◌≤◌, ◌<◌, T, Float, length, get_or, take}
use Rattle.std.proofs.Common.{sym, ◌∙◌, add-zero, mul-zero, mul-suc, add_comm, arith, length-append, take_at, drop_at, drop-drop, get_or-drop}
use Rattle.std.proofs.Math.Path.{ap}
use mathlib.Core.List.{List, [], ◌∷◌, ◌++◌, append_assoc}
use Rattle.std.specs.Float.{binary32, binary64}
use Rattle.std.specs.Float.Ieee.{fits, of_bits, to_bits}
use Rattle.std.specs.Float.Ieee.Bits.{of_bits-to_bits, to_bits-lt}
use Rattle.std.proofs.Math.ListN.{drop}
use Rattle.base_laws.specs.Tests.{both, holds}
use Rattle.base_terms.specs.Lists.{tabulate, all_of}
use Rattle.base_terms.specs.Bytes.{bytes_of}
use Rattle.base_code.specs.FrontLaws.{tabulate-first}
use Rattle.numbers_in.specs.Numbers.{seven_bytes, number_of, number_at, byte_at, u16_at, u32_at, u64_at, f32_at, f64_at}
use Rattle.numbers_in.specs.Bytes.{f32_bytes, f64_bytes, all_bytes}

-- ---- one number

-- the first number that so many bytes do not hold
abbrev beyond : ℕ → ℕ
beyond zero = 1
beyond (suc size) = 256 * beyond size

-- there are as many as were asked for
pub bytes_length : (size n : ℕ) → length (bytes_of size n) ≡ size
unfolding bytes_of
bytes_length zero n = refl
bytes_length (suc size) n = ap suc (bytes_length size (n / 256))

number_bytes : (size n : ℕ) → beyond size ≤ 18446744073709551616 → n < beyond size → number_of (bytes_of size n) ≡ n
unfolding bytes_of number_of
number_bytes zero n b h = omega arith
number_bytes (suc size) n b h = step (beyond size) (number_of (bytes_of size (n / 256))) b h (λ x y. number_bytes size (n / 256) x y)
  where
    step : (m w : ℕ) → 256 * m ≤ 18446744073709551616 → n < 256 * m → (m ≤ 18446744073709551616 → n / 256 < m → w ≡ n / 256)
        → w % seven_bytes * 256 + n % 256 ≡ n
    step m w x y f = let e : w ≡ n / 256 = f (omega arith) (omega arith) in rw e (omega arith)

module _ (s : List ℕ) where
  -- so many bytes ahead of a place, and what is behind them
  number-ahead : (size n at : ℕ) (rest : List ℕ) → beyond size ≤ 18446744073709551616 → n < beyond size → drop at s ≡ bytes_of size n ++ rest
      → (number_at s at size ≡ n) × (drop (at + size) s ≡ rest)
  number-ahead size n at rest b h e = (
    ap (λ (xs : List ℕ). number_of (take size xs)) e ∙ ap number_of (take_at (bytes_of size n) rest size (bytes_length size n)) ∙ number_bytes size n b h,
    sym (drop-drop size at s) ∙ ap (drop size) e ∙ drop_at (bytes_of size n) rest size (bytes_length size n),
  )

  -- ---- a number that stands ahead of a place is read there, and what is behind it stands ahead of the next place

  pub u64_ahead : (n at : ℕ) (rest : List ℕ) → n < 18446744073709551616 → drop at s ≡ bytes_of 8 n ++ rest → (u64_at s at ≡ n) × (drop (at + 8) s ≡ rest)
  u64_ahead n at rest h e = number-ahead 8 n at rest (omega arith) h e

  pub u32_ahead : (n at : ℕ) (rest : List ℕ) → n < 4294967296 → drop at s ≡ bytes_of 4 n ++ rest → (u32_at s at ≡ n) × (drop (at + 4) s ≡ rest)
  u32_ahead n at rest h e = let p = number-ahead 4 n at rest (omega arith) h e in (rw p.0 (omega arith), p.1)

  pub u16_ahead : (n at : ℕ) (rest : List ℕ) → n < 65536 → drop at s ≡ bytes_of 2 n ++ rest → (u16_at s at ≡ n) × (drop (at + 2) s ≡ rest)
  u16_ahead n at rest h e = let p = number-ahead 2 n at rest (omega arith) h e in (rw p.0 (omega arith), p.1)

  pub byte_ahead : (n at : ℕ) (rest : List ℕ) → drop at s ≡ n ∷ rest → (byte_at s at ≡ n) × (drop (at + 1) s ≡ rest)
  byte_ahead n at rest e = (ap (λ (k : ℕ). get_or s k 0) (sym (add-zero at)) ∙ sym (get_or-drop at s 0 0) ∙ ap (λ (xs : List ℕ). get_or xs 0 0) e, sym (drop-drop 1 at s) ∙ ap (drop 1) e)

  pub f32_ahead : (x : Float) (at : ℕ) (rest : List ℕ) → T (fits binary32 x) → drop at s ≡ f32_bytes x ++ rest → (f32_at s at ≡ x) × (drop (at + 4) s ≡ rest)
  f32_ahead x at rest h e =
      let p = u32_ahead (to_bits binary32 x) at rest (to_bits-lt binary32 x h) e in
      (ap (of_bits binary32) p.0 ∙ of_bits-to_bits binary32 x h, p.1)

  pub f64_ahead : (x : Float) (at : ℕ) (rest : List ℕ) → T (fits binary64 x) → drop at s ≡ f64_bytes x ++ rest → (f64_at s at ≡ x) × (drop (at + 8) s ≡ rest)
  f64_ahead x at rest h e =
      let p = u64_ahead (to_bits binary64 x) at rest (to_bits-lt binary64 x h) e in
      (ap (of_bits binary64) p.0 ∙ of_bits-to_bits binary64 x h, p.1)

-- ---- a list of numbers

none : (at size : ℕ) → at + size * 0 ≡ at
none at size = rw (mul-zero) (add-zero at)

one_on : (at size n : ℕ) → at + size * suc n ≡ at + size + size * n
one_on at size n = go (size * suc n) (size * n) (mul-suc size n)
  where
    go : (p q : ℕ) → p ≡ q + size → at + p ≡ at + size + q
    go p q e = omega (arith, e)

module _ {A : Type 0} (s : List ℕ) (size : ℕ) (read : ℕ → A) (write : A → List ℕ) (ok : A → Bool)
    (step : (x : A) (at : ℕ) (rest : List ℕ) → T (ok x) → drop at s ≡ write x ++ rest → (read at ≡ x) × (drop (at + size) s ≡ rest)) where
  -- what stands ahead of a place is read one element after another
  pub list_ahead : (xs : List A) (at : ℕ) (rest : List ℕ) (f : ℕ → A) → all_of ok xs ≡ true → ((i : ℕ) → f i ≡ read (at + size * i)) → drop at s ≡ all_bytes write xs ++ rest
      → (tabulate f (length xs) ≡ xs) × (drop (at + size * length xs) s ≡ rest)
  unfolding all_bytes all_of tabulate
  list_ahead [] at rest f h g e = (refl, ap (λ (k : ℕ). drop k s) (none at size) ∙ e)
  list_ahead (x ∷ xs) at rest f h g e =
      let a = both (ok x) (all_of ok xs) h in
      let first = step x at (all_bytes write xs ++ rest) (holds a.0) (e ∙ append_assoc (write x) (all_bytes write xs) rest) in
      let others =
      list_ahead xs (at + size) rest (λ (i : ℕ). f (suc i)) a.1 (λ i. g (suc i) ∙ ap read (one_on at size i)) first.1
      in (
        tabulate-first f (length xs) ∙ ap (λ (y : A). y ∷ tabulate (λ (i : ℕ). f (suc i)) (length xs)) (g 0 ∙ ap read (none at size) ∙ first.0)
            ∙ ap (λ (ys : List A). x ∷ ys) others.0,
        ap (λ (k : ℕ). drop k s) (one_on at size (length xs)) ∙ others.1,
      )

-- elements of one size: so many bytes in all
pub all_bytes-length : {A : Type 0} (write : A → List ℕ) (size : ℕ) → ((x : A) → length (write x) ≡ size) → (xs : List A) → length (all_bytes write xs) ≡ size * length xs
unfolding all_bytes
all_bytes-length write size h [] = sym (mul-zero size)
all_bytes-length write size h (x ∷ xs) =
    length-append (write x) (all_bytes write xs) ∙ rw (h x, all_bytes-length write size h xs) (add_comm size (size * length xs) ∙ sym (mul-suc size (length xs)))
