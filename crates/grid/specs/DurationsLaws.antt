-- A duration in samples as a float is at most its whole samples and one more, though it is rounded twice, and it never falls as the duration grows.
-- A second has 2 ^ 9 × 5 ^ 9 nanoseconds, so a product below 2 ^ 63 is not rounded above the next whole sample; a larger one may be, by less than half a
-- unit in the last place of the quotient, and the quotient is then rounded back. From 2 ^ 66 on that may fail (`samples_beyond`).
use Rattle.std.specs.Prelude.{◌≡◌, refl, false, ℕ, suc, ◌+◌, ◌*◌, ◌/◌, ◌^◌, ◌≤◌, ◌<◌, pos, T, Float}
use Rattle.std.proofs.Common.{sym, ap, subst, ◌∙◌, inl, inr, suc-le-suc, le_of_eq, lt_of_lt_of_le, lt_of_le_of_lt, mul_assoc, mul_comm, mul_right_comm, mul-le-mul, mul-le-mul_right, mul-lt-mul_of_pos_right, arith, lit≤, pow-add, pow_pos, pow_mono}
use Rattle.std.specs.Float.{Format, binary64}
use Rattle.std.specs.Float.Ieee.{prec, emax, low, span, climb, size, odd, units, round, div, of_int, lt, eq, le}
use Rattle.std.specs.Float.Ieee.Order.{drop, round_mono}
use Rattle.std.specs.Float.Ieee.Scale.{grid}
use Rattle.base_laws.specs.Tests.{lt_or_le}
use Rattle.base_laws.specs.Order.{float_le_trans}
use Rattle.base_laws.specs.Whole.{whole_mono}
use Rattle.base_laws.specs.Quotients.{float_div_mono}
use Rattle.base_laws.specs.Nearest.{last_place, last_place_least, whole-under, whole-near, round-near, float_div-under}
use Rattle.grid.specs.Limits.{nanos_per_sec}
use Rattle.grid.specs.Durations.{InSamples, samples_floor, samples_in}

-- a second has 2 ^ 9 times this many nanoseconds
abbrev odd_part : ℕ
odd_part = 5 ^ 9

-- ---- the product n of a duration and a rate, over the nanoseconds of a second, in any format of 53 digits that reaches 2 ^ 67

module _ (f : Format) (double : prec f ≡ 53) (far : 66 ≤ emax f) where
  -- n as a float, divided by that of 10^9
  abbrev quotient : ℕ → Float
  quotient n = div f (of_int f (pos n)) (of_int f (pos nanos_per_sec))

  -- where the product is rounded to v, at most t above m whole samples, and t is less than half a last place of the quotient, the quotient is m at most
  back_down : (n m v t : ℕ) → m < 2 ^ 37 → grid f n 1 ≤ v * 2 ^ low f → v ≤ m * nanos_per_sec + t → t < nanos_per_sec
      → 2 * (t * 2 ^ low f) < nanos_per_sec * last_place f (m * nanos_per_sec + t) nanos_per_sec → T (le (quotient n) (of_int f (pos m)))
  back_down n m v t h g l k half =
      let a = m * nanos_per_sec + t in
      let x = round f false v nanos_per_sec in
      let y = round f false a nanos_per_sec in
      let fine : v < 2 ^ suc (emax f) = lt_of_lt_of_le (small m v t h l k) (pow_mono (suc-le-suc far)) in
      let under : T (le (quotient n) x) = float_div-under f n nanos_per_sec v (lit≤ tt) (rw double (lit≤ tt)) g fine in
      let larger : T (le x y) = round_mono f v nanos_per_sec a nanos_per_sec (lit≤ tt) (lit≤ tt) (mul-le-mul_right nanos_per_sec l) in
      let near : T (le y (of_int f (pos m))) = round-near f m nanos_per_sec t (rw double (omega arith)) k half in
      float_le_trans (quotient n) x (of_int f (pos m)) under (float_le_trans x y (of_int f (pos m)) larger near)
    where
      small : (m v t : ℕ) → m < 2 ^ 37 → v ≤ m * nanos_per_sec + t → t < nanos_per_sec → v < 2 ^ 67
      small m v t h l k = omega arith

  -- below 2 ^ 62 the product is not rounded above m whole samples: 2 ^ 9 divides them
  few_digits : (n m : ℕ) → m < 2 ^ 37 → n < m * nanos_per_sec → n < 2 ^ 62 → T (le (quotient n) (of_int f (pos m)))
  few_digits n m h g l =
      back_down n m (odd_part * m * 2 ^ 9) 0 h (whole-under f n (odd_part * m) 9 (rw double l) (omega arith)) (omega arith) (lit≤ tt)
      (nothing (2 ^ low f) (last_place f (m * nanos_per_sec + 0) nanos_per_sec) (pow_pos (drop (prec f) ((m * nanos_per_sec + 0) * 2 ^ low f) nanos_per_sec)))
    where
      nothing : (z u : ℕ) → 0 < u → 2 * (0 * z) < nanos_per_sec * u
      nothing z u U = omega arith

  -- a product of 53 + j digits is rounded to b * 2 ^ j at most; what that is above m whole samples is less than half a last place of the quotient
  more_digits : (n m b t j : ℕ) → m < 2 ^ 37 → n < m * nanos_per_sec → 2 ^ (52 + j) ≤ n → n < 2 ^ (53 + j)
      → 2 * n < (2 * b + 1) * 2 ^ j → b * 2 ^ j ≤ m * nanos_per_sec + t → t < nanos_per_sec → 2 * (t * 2 ^ 30) < nanos_per_sec * 2 ^ j
      → T (le (quotient n) (of_int f (pos m)))
  more_digits n m b t j h g lo hi nearest above small half =
      let a = m * nanos_per_sec + t in
      let u = last_place f a nanos_per_sec in
      let z = 2 ^ low f in
      let digits : suc (52 + j) ≡ 53 + j = omega arith in
      let below : n < 2 ^ suc (52 + j) = lt_of_lt_of_le hi (le_of_eq (ap (λ (x : ℕ). 2 ^ x) (sym digits))) in
      let rounded : grid f n 1 ≤ b * 2 ^ j * z = whole-near f n b (52 + j) j (digits ∙ ap (λ (x : ℕ). x + j) (sym double)) lo below nearest in
      let least : 2 ^ (22 + j) * nanos_per_sec ≤ a = reaches (2 ^ j) (2 ^ (22 + j)) (2 ^ (52 + j)) (pow-add 2 22 j) (pow-add 2 52 j) lo in
      let place : z * 2 ^ suc (22 + j) ≤ u * 2 ^ 53 =
      subst (λ (p : ℕ). z * 2 ^ suc (22 + j) ≤ u * 2 ^ p) double (last_place_least f a nanos_per_sec (22 + j) (lit≤ tt) least) in
      let power : 2 ^ suc (22 + j) ≡ 2 ^ 23 * 2 ^ j = ap (λ (x : ℕ). 2 ^ x) further ∙ pow-add 2 23 j in
      back_down n m (b * 2 ^ j) t h rounded above small (halved z u (2 ^ j) (pow_pos (low f)) half (coarse z u (2 ^ j) (2 ^ suc (22 + j)) power place))
    where
      further : suc (22 + j) ≡ 23 + j
      further = omega arith

      -- the quotient has 23 + j digits at least
      reaches : (p q r : ℕ) → q ≡ 2 ^ 22 * p → r ≡ 2 ^ 52 * p → r ≤ n → q * nanos_per_sec ≤ m * nanos_per_sec + t
      reaches p q r d e l = omega arith

      -- the last place is worth 2 ^ (j - 30) at least
      coarse : (z u p q : ℕ) → q ≡ 2 ^ 23 * p → z * q ≤ u * 2 ^ 53 → z * p ≤ u * 2 ^ 30
      coarse z u p q e l =
          let s : z * q ≡ z * p * 2 ^ 23 = ap (λ (x : ℕ). z * x) (e ∙ mul_comm (2 ^ 23) p) ∙ sym (mul_assoc z p (2 ^ 23)) in
          omega arith

      -- so t is less than half of it
      halved : (z u p : ℕ) → 0 < z → 2 * (t * 2 ^ 30) < nanos_per_sec * p → z * p ≤ u * 2 ^ 30 → 2 * (t * z) < nanos_per_sec * u
      halved z u p Z l k =
          let s : 2 * (t * 2 ^ 30) * z < nanos_per_sec * p * z = mul-lt-mul_of_pos_right l Z in
          let v : 2 * (t * 2 ^ 30) * z ≡ 2 * (t * z) * 2 ^ 30 =
          mul_assoc 2 (t * 2 ^ 30) z ∙ ap (λ (x : ℕ). 2 * x) (mul_right_comm t (2 ^ 30) z) ∙ sym (mul_assoc 2 (t * z) (2 ^ 30)) in
          let w : nanos_per_sec * p * z ≡ nanos_per_sec * (z * p) = mul_assoc nanos_per_sec p z ∙ ap (λ (x : ℕ). nanos_per_sec * x) (mul_comm p z) in
          omega arith

  -- below 2 ^ 66 the quotient is at most the next whole number m of samples, by the number of digits of n;
  -- where j are dropped, the product is rounded to a multiple of 2 ^ j that is at most 2 ^ (j - 1) - 2 ^ 9 above m whole samples, themselves a multiple of 2 ^ 9
  next_whole : (n m : ℕ) → n < 2 ^ 66 → n < m * nanos_per_sec → m * nanos_per_sec ≤ n + nanos_per_sec → T (le (quotient n) (of_int f (pos m)))
  next_whole n m h g l =
      let most : m < 2 ^ 37 = omega arith in
      elim (lt_or_le n (2 ^ 62)) [
        | inl a ↦ few_digits n m most g a
        | inr b ↦ elim (lt_or_le n (2 ^ 63)) [
          | inl a ↦ more_digits n m (odd_part * m / 2) 0 10 most g b a (omega arith) (omega arith) (lit≤ tt) (lit≤ tt)
          | inr c ↦ elim (lt_or_le n (2 ^ 64)) [
            | inl a ↦ more_digits n m ((odd_part * m + 1) / 4) 512 11 most g c a (omega arith) (omega arith) (lit≤ tt) (lit≤ tt)
            | inr d ↦ elim (lt_or_le n (2 ^ 65)) [
              | inl a ↦ more_digits n m ((odd_part * m + 3) / 8) 1536 12 most g d a (omega arith) (omega arith) (lit≤ tt) (lit≤ tt)
              | inr e ↦ more_digits n m ((odd_part * m + 7) / 16) 3584 13 most g e h (omega arith) (omega arith) (lit≤ tt) (lit≤ tt)
            ]
          ]
        ]
      ]

-- ---- a duration in samples as a float

-- it never falls as the duration grows
pub samples_mono : (rate a b : ℕ) → a ≤ b → T (le (samples_in rate a) (samples_in rate b))
unfolding samples_in of_int round
samples_mono rate a b h =
    float_div_mono binary64 (of_int binary64 (pos (a * rate))) (of_int binary64 (pos (b * rate))) (of_int binary64 (pos nanos_per_sec)) tt
    (whole_mono binary64 (a * rate) (b * rate) (mul-le-mul_right rate h))

-- a product within the limits is below 2 ^ 66
pub samples_small : (rate ns : ℕ) → InSamples rate ns → ns * rate < 2 ^ 66
samples_small rate ns p = lt_of_le_of_lt (mul-le-mul p.time p.rate) (lit≤ tt)

-- below that it is at most the whole samples and one more
pub samples_within : (rate ns : ℕ) → ns * rate < 2 ^ 66 → T (le (samples_in rate ns) (of_int binary64 (pos (suc (samples_floor rate ns)))))
unfolding samples_in samples_floor
samples_within rate ns h = next_whole binary64 refl (lit≤ tt) (ns * rate) (suc (ns * rate / nanos_per_sec)) h (below (ns * rate)) (above (ns * rate))
  where
    below : (n : ℕ) → n < suc (n / nanos_per_sec) * nanos_per_sec
    below n = omega arith

    above : (n : ℕ) → suc (n / nanos_per_sec) * nanos_per_sec ≤ n + nanos_per_sec
    above n = omega arith

-- the bound is needed: the quotient of this product, 22,161,793,025 above 2 ^ 66, is rounded above the next whole sample
samples_beyond : le (samples_in 1 73786976316999999489) (of_int binary64 (pos (suc (samples_floor 1 73786976316999999489)))) ≡ false
unfolding samples_in samples_floor span climb size odd units round div lt eq le of_int
samples_beyond = refl
