-- The fewest digits that hold a number are those of `decimal_of`, and how many there are.
use Rattle.std.specs.Prelude.{ℕ, zero, suc, ◌+◌, ◌-◌, ◌*◌, ◌/◌, ◌%◌, ◌^◌, ◌≤◌, ◌<◌, ◌≡◌, refl, List, [], ◌∷◌, ◌++◌, length, get_or}
use Rattle.std.proofs.Common.{sym, ◌∙◌, append_assoc, append-nil, inl, inr, mod-eq_of_lt, pow-suc, div-lt_iff_lt-mul, le-div_iff_mul-le, arith, lt-ltb, le-ltb, length-append}
use Rattle.base_laws.specs.Tests.{lt_or_le}
use Rattle.io.specs.Digits.{last_digits, IsDigitCount, hex_digit_ascii}
use Rattle.listing.specs.Text.{digit_of, decimal_within, decimal_of}

-- the digits of `io::decimal` are these
glyph_is : (d : ℕ) → d < 10 → hex_digit_ascii d ≡ digit_of d
glyph_is d h = rw (lt-ltb d 10 h)

-- one digit
one_digit : (most n : ℕ) → n < 10 → decimal_within most n ≡ digit_of n ∷ []
unfolding decimal_within
one_digit zero n h = refl
one_digit (suc most) n h = rw (lt-ltb n 10 h)

-- more than one
more_digits : (most n : ℕ) → 10 ≤ n → decimal_within (suc most) n ≡ decimal_within most (n / 10) ++ (digit_of (n % 10) ∷ [])
unfolding decimal_within
more_digits most n h = rw (le-ltb n 10 h)

-- the same digits under every bound that is not below the number
within_same : (a b n : ℕ) → n ≤ a → n ≤ b → decimal_within a n ≡ decimal_within b n
within_same zero b n h k = one_digit zero n (omega arith) ∙ sym (one_digit b n (omega arith))
within_same (suc a) zero n h k = one_digit (suc a) n (omega arith) ∙ sym (one_digit zero n (omega arith))
within_same (suc a) (suc b) n h k = elim (lt_or_le n 10) [
  | inl l ↦ one_digit (suc a) n l ∙ sym (one_digit (suc b) n l)
  | inr g ↦ rw (more_digits a n g, more_digits b n g, within_same a b (n / 10) (omega arith) (omega arith))
]

-- a number below 10 in decimal
pub decimal_digit : (d : ℕ) → d < 10 → decimal_of d ≡ digit_of d ∷ []
unfolding decimal_of
decimal_digit d h = one_digit d d h

-- one more digit behind those of a number above 0
pub decimal_more : (n d : ℕ) → 0 < n → d < 10 → decimal_of (10 * n + d) ≡ decimal_of n ++ (digit_of d ∷ [])
unfolding decimal_of
decimal_more n d p h =
    let m = 10 * n + d - 1 in
    let whole : 10 * n + d ≡ suc m = omega arith in
    let front : suc m / 10 ≡ n = omega arith in
    let last : suc m % 10 ≡ d = omega arith in
    rw (whole, more_digits m (suc m) (omega arith), front, last, within_same m n n (omega arith) (omega arith))

-- no power of ten is 0
pow_pos : (k : ℕ) → 1 ≤ 10 ^ k
pow_pos zero = omega arith
pow_pos (suc k) = let h : 1 ≤ 10 ^ k = pow_pos k in let e : 10 ^ suc k ≡ 10 ^ k * 10 = pow-suc 10 k in omega arith

-- the digits of a number of k + 1 digits
spelled : (k most n : ℕ) → n ≤ most → n < 10 ^ suc k → (0 < k → 10 ^ k ≤ n) → last_digits 10 (suc k) n ≡ decimal_within most n
spelled zero most n m l g =
    let h : n < 10 = omega (arith, l) in
    rw (mod-eq_of_lt h, glyph_is n h, one_digit most n h)
spelled (suc k) zero n m l g = absurd (omega (arith, g (omega arith)))
spelled (suc k) (suc most) n m l g =
    let low : 10 ^ k * 10 ≤ n = rw pow-suc at (g (omega arith)) in
    let high : n < 10 ^ suc k * 10 = rw (pow-suc 10 (suc k)) at l in
    let ten : 10 ≤ n = omega (arith, low, pow_pos k) in
    rw (
      more_digits most n ten,
      ← spelled k most (n / 10) (omega arith) ((div-lt_iff_lt-mul (omega arith)).1 high) (λ h. (le-div_iff_mul-le (omega arith)).1 low),
      glyph_is (n % 10) (omega arith),
    )

-- one more and one fewer
suc_sub-one : (k : ℕ) → suc k - 1 ≡ k
suc_sub-one k = omega arith

-- "without leading zeros": the fewest digits, and at least one
pub decimal_is : (n k : ℕ) → IsDigitCount 10 1 n k → last_digits 10 k n ≡ decimal_of n
unfolding decimal_of
decimal_is n zero f = absurd (omega (arith, f.0))
decimal_is n (suc k) f = spelled k n n (omega arith) f.1 (λ h. rw (suc_sub-one k) at (f.2 (omega arith)))

-- as many digits as the power of ten says
within-fits : (k most n : ℕ) → n < 10 ^ suc k → length (decimal_within most n) ≤ suc k
unfolding decimal_within
within-fits k zero n l = omega arith
within-fits zero (suc most) n l = rw (lt-ltb n 10 (omega (arith, l))) (omega arith)
within-fits (suc k) (suc most) n l = elim (lt_or_le n 10) [
  | inl h ↦ rw (lt-ltb n 10 h) (omega arith)
  | inr h ↦
      let rest : length (decimal_within most (n / 10)) ≤ suc k = within-fits k most (n / 10) ((div-lt_iff_lt-mul (omega arith)).1 (rw (pow-suc 10 (suc k)) at l)) in
      rw (le-ltb n 10 h, length-append) (omega arith)
]

-- a number below 10 ^ (k + 1) has at most k + 1 digits
pub decimal_fits : (k n : ℕ) → n < 10 ^ suc k → length (decimal_of n) ≤ suc k
unfolding decimal_of
decimal_fits k n l = within-fits k n n l

-- no leading zero
first_digit : (most n : ℕ) (bytes : List ℕ) → 0 < n → n ≤ most → digit_of 0 < get_or (decimal_within most n ++ bytes) 0 0
unfolding decimal_within
first_digit zero n bytes p h = absurd (omega arith)
first_digit (suc most) n bytes p h = elim (lt_or_le n 10) [
  | inl l ↦ rw (lt-ltb n 10 l) (omega arith)
  | inr g ↦ rw (le-ltb n 10 g, append_assoc) (first_digit most (n / 10) (digit_of (n % 10) ∷ bytes) (omega arith) (omega arith))
]

-- a number above 0 does not begin with the digit 0
pub no_leading_zero : (n : ℕ) → 0 < n → digit_of 0 < get_or (decimal_of n) 0 0
unfolding decimal_of
no_leading_zero n p = rw append-nil at (first_digit n n [] p (omega arith))
