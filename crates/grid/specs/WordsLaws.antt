-- A word has no bit of a mask exactly where none of its bytes has one, however many bytes it has: its bytes are its digits in base 256, and bits are compared digit by digit.
use Rattle.std.specs.Prelude.{◌≡◌, true, ◌&&◌, List, [], ◌∷◌, ℕ, zero, suc, ◌+◌, ◌*◌, ◌/◌, ◌%◌, ◌<◌, length, get_or, drop}
use Rattle.std.proofs.Math.Path.{refl}
use Rattle.std.proofs.Common.{ap, ◌∙◌, inl, inr, arith, drop_of_length-le, eqb-true, eq-eqb, ne_eqb}
use Rattle.std.proofs.Math.Arith.{bin_ind}
use Rattle.std.proofs.Math.Dec.{eqb}
use Rattle.std.specs.Int.Bits.{bit_and, bit_or, and_step, or_step, and_zero_r, or_add_and, and_le_l, and_le_r}
use Rattle.std.proofs.lemmas.Nat.{and_block}
use Rattle.std.proofs.lemmas.Bool.{eqb-false}
use Rattle.base_laws.specs.Tests.{tested}
use Rattle.base_terms.specs.Lists.{all_of}
use Rattle.base_terms.specs.Bytes.{bytes_of}
use Rattle.grid.specs.Words.{is_clear, mask_of}

-- ---- bits

-- a number that is 0 exactly where two others are, tested
zero_both : (x y z : ℕ) → (x ≡ 0 → y ≡ 0) → (x ≡ 0 → z ≡ 0) → (y ≡ 0 → z ≡ 0 → x ≡ 0) → eqb x 0 ≡ (eqb y 0 && eqb z 0)
zero_both x y z f g h =
    elim (tested (eqb y 0)) [
      | inl e ↦ elim (tested (eqb z 0)) [
        | inl k ↦ rw (e, k) (eq-eqb x 0 (h (eqb-true y 0 e) (eqb-true z 0 k)))
        | inr k ↦ rw (e, k) (ne_eqb x 0 (λ o. eqb-false z 0 k (g o)))
      ]
      | inr e ↦ rw e (ne_eqb x 0 (λ o. eqb-false y 0 e (f o)))
    ]

-- what two numbers have of a mask together is what one has and what the other has
pub and_or : (a b m : ℕ) → bit_and (bit_or a b) m ≡ bit_or (bit_and a m) (bit_and b m)
and_or a = bin_ind (λ (n : ℕ). (b m : ℕ) → bit_and (bit_or n b) m ≡ bit_or (bit_and n m) (bit_and b m)) (λ b m. refl) step a
  where
    step : (n : ℕ) → ((b m : ℕ) → bit_and (bit_or (n / 2) b) m ≡ bit_or (bit_and (n / 2) m) (bit_and b m)) → (b m : ℕ)
        → bit_and (bit_or n b) m ≡ bit_or (bit_and n m) (bit_and b m)
    step n ih b m =
        let x : bit_or n b / 2 ≡ bit_or (n / 2) (b / 2) = omega (arith, or_step n b) in
        let y : bit_and n m / 2 ≡ bit_and (n / 2) (m / 2) = omega (arith, and_step n m) in
        let z : bit_and b m / 2 ≡ bit_and (b / 2) (m / 2) = omega (arith, and_step b m) in
        let q : bit_and (bit_or n b / 2) (m / 2) ≡ bit_or (bit_and n m / 2) (bit_and b m / 2) = rw (x, y, z) (ih (b / 2) (m / 2)) in
        omega (arith, and_step (bit_or n b) m, or_step (bit_and n m) (bit_and b m), q, or_step n b, and_step n m, and_step b m)

module _ (mask : ℕ) where
  -- 0 has no bit of it
  pub clear_none : is_clear mask 0 ≡ true
  unfolding is_clear
  clear_none = refl

  -- two numbers laid over each other have no bit of it where neither has one
  pub clear_or : (a b : ℕ) → is_clear mask (bit_or a b) ≡ (is_clear mask a && is_clear mask b)
  unfolding is_clear
  clear_or a b = rw (and_or a b mask) (either (bit_and a mask) (bit_and b mask))
    where
      either : (x y : ℕ) → eqb (bit_or x y) 0 ≡ (eqb x 0 && eqb y 0)
      either x y =
          let sum = or_add_and x y in
          zero_both (bit_or x y) x y (λ e. omega (arith, e, sum, and_le_r x y)) (λ e. omega (arith, e, sum, and_le_l x y)) (λ e f. omega (arith, e, f, sum))

-- ---- digits

-- of the lowest digit and of the others, each by its own part of the mask
clear_digit : (mask others w : ℕ) → mask < 256 → is_clear (others * 256 + mask) w ≡ (is_clear mask (w % 256) && is_clear others (w / 256))
unfolding is_clear
clear_digit mask others w h = zero_both (bit_and w (others * 256 + mask)) (bit_and (w % 256) mask) (bit_and (w / 256) others) (λ e. omega (arith, e, parts)) (λ e. omega (arith, e, parts)) (λ e f. omega (arith, e, f, parts))
  where
    whole : w ≡ w / 256 * 256 + w % 256
    whole = omega arith

    parts : bit_and w (others * 256 + mask) ≡ bit_and (w / 256) others * 256 + bit_and (w % 256) mask
    parts = ap (λ (n : ℕ). bit_and n (others * 256 + mask)) whole ∙ and_block 8 (w / 256) others (w % 256) mask (omega arith) h

-- a word of any size has no bit of a mask at each of its bytes exactly where no byte has a bit of the mask
pub word_clear : (mask : ℕ) → mask < 256 → (size w : ℕ) → is_clear (mask_of size mask) w ≡ all_of (is_clear mask) (bytes_of size w)
unfolding mask_of bytes_of all_of
word_clear mask h zero w = unfold is_clear in rw and_zero_r
word_clear mask h (suc size) w = rw (clear_digit mask (mask_of size mask) w h, word_clear mask h size (w / 256))

-- the mask at each of eight bytes, as one product
pub mask_eight : (mask : ℕ) → mask * 0x0101_0101_0101_0101 ≡ mask_of 8 mask
unfolding mask_of
mask_eight mask = omega arith

-- ---- a word put together

-- the number that some bytes make
word_of : List ℕ → ℕ
word_of [] = 0
word_of (b ∷ bs) = word_of bs * 256 + b

-- whose bytes they are
word_bytes : (bs : List ℕ) → ((i : ℕ) → get_or bs i 0 < 256) → bytes_of (length bs) (word_of bs) ≡ bs
unfolding bytes_of word_of
word_bytes [] h = refl
word_bytes (b ∷ bs) h =
    let l : b < 256 = h 0 in
    let low : (word_of bs * 256 + b) % 256 ≡ b = omega arith in
    let high : (word_of bs * 256 + b) / 256 ≡ word_of bs = omega arith in
    rw (low, high, word_bytes bs (λ i. h (suc i)))

-- from a place on, the lowest of them is the byte there
word-from : (bs : List ℕ) (k : ℕ) → word_of (drop k bs) ≡ word_of (drop (suc k) bs) * 256 + get_or bs k 0
unfolding word_of
word-from [] zero = refl
word-from [] (suc k) = refl
word-from (b ∷ bs) zero = refl
word-from (b ∷ bs) (suc k) = word-from bs k

-- eight bytes, each times the value of its place
abbrev pub sum_of_eight : List ℕ → ℕ
sum_of_eight bs =
    get_or bs 0 0 + get_or bs 1 0 * 0x100 + get_or bs 2 0 * 0x1_0000 + get_or bs 3 0 * 0x100_0000 + get_or bs 4 0 * 0x1_0000_0000
    + get_or bs 5 0 * 0x100_0000_0000 + get_or bs 6 0 * 0x1_0000_0000_0000 + get_or bs 7 0 * 0x100_0000_0000_0000

-- their sum has them for its bytes
pub word_eight : (bs : List ℕ) → length bs ≡ 8 → ((i : ℕ) → get_or bs i 0 < 256) → bytes_of 8 (sum_of_eight bs) ≡ bs
word_eight bs e h = rw sum (rw e at (word_bytes bs h))
  where
    end : word_of (drop 8 bs) ≡ 0
    end = ap word_of (drop_of_length-le bs {i = 8} (omega (arith, e))) ∙ unfold word_of in refl

    sum : sum_of_eight bs ≡ word_of bs
    sum = omega (arith, end, word-from bs 0, word-from bs 1, word-from bs 2, word-from bs 3, word-from bs 4, word-from bs 5, word-from bs 6, word-from bs 7)
