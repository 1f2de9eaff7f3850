-- A number is folded from its highest byte down, or read at once where all its bytes are there; a list is copied from its first number on.
use Rattle.std.specs.Prelude.{◌≡◌, refl, List, [], ◌∷◌, ◌++◌, ℕ, zero, suc, ◌+◌, ◌*◌, ◌%◌, ◌≤◌, ◌<◌, length, get_or, take, drop, set, fold, reverse}
use Rattle.std.proofs.Math.Path.{sym}
use Rattle.std.proofs.Common.{◌∙◌, ap, inl, inr, add-one, arith, length-drop, length-take-le, drop_of_length-le, get_or-drop, take-suc, take_all}
use Rattle.std.proofs.Math.Seq.{take-nil}
use Rattle.std.proofs.lemmas.Grind.{reverse_onto}
use Rattle.std.proofs.lemmas.List.Sums.{fold_push}
use Rattle.std.proofs.lemmas.List.{get_or-take}
use Rattle.std.proofs.Math.ListN.{get_or-eq_default}
use Rattle.std.specs.Int.{w32, w64, from_le_bytes}
use Rattle.base_laws.specs.Tests.{lt_or_le}
use Rattle.base_terms.specs.Lists.{onto, tabulate}
use Rattle.base_code.specs.FrontLaws.{onto_nil, onto-all, tabulate-length, onto-tabulate_next}
use Rattle.numbers_in.specs.Numbers.{seven_bytes, number_of, number_at, byte_at, low, u32_at, u64_at}

-- a number with one more byte below it
abbrev pub with_byte : (w b : ℕ) → ℕ
with_byte w b = w % seven_bytes * 256 + b

-- the bytes from the highest down make the number
pub number_folded : (s : List ℕ) → fold with_byte 0 (reverse s) ≡ number_of s
unfolding number_of
number_folded [] = refl
number_folded (b ∷ bs) = ap (fold with_byte 0) (reverse_onto bs b []) ∙ fold_push with_byte 0 (reverse bs) b ∙ ap (λ (w : ℕ). with_byte w b) (number_folded bs)

module _ (s : List ℕ) where
  -- beyond the end nothing is there, which counts as 0
  pub number-beyond : (at size : ℕ) → length s ≤ at → 0 ≡ number_at s at size
  number-beyond at size h = rw (drop_of_length-le s h, take-nil) (unfold number_of in refl)

  -- only the bytes up to the end count
  pub number-rest : (at size : ℕ) → length s ≤ at + size → number_of (drop at s) ≡ number_at s at size
  number-rest at size h = rw (take_all size (drop at s) (rw length-drop (omega arith)))

-- ---- as many bytes as std makes a number of at once

-- from a place on, a number is what stands behind that place and the byte there
number-from : (bs : List ℕ) (k : ℕ) → number_of (drop k bs) ≡ with_byte (number_of (drop (suc k) bs)) (get_or bs k 0)
unfolding number_of
number-from [] zero = refl
number-from [] (suc k) = refl
number-from (b ∷ bs) zero = refl
number-from (b ∷ bs) (suc k) = number-from bs k

-- four bytes, each times the value of its place
abbrev sum_of_four : List ℕ → ℕ
sum_of_four bs = get_or bs 0 0 + get_or bs 1 0 * 0x100 + get_or bs 2 0 * 0x1_0000 + get_or bs 3 0 * 0x100_0000

-- eight bytes, each times the value of its place
abbrev sum_of_eight : List ℕ → ℕ
sum_of_eight bs =
    get_or bs 0 0 + get_or bs 1 0 * 0x100 + get_or bs 2 0 * 0x1_0000 + get_or bs 3 0 * 0x100_0000 + get_or bs 4 0 * 0x1_0000_0000
    + get_or bs 5 0 * 0x100_0000_0000 + get_or bs 6 0 * 0x1_0000_0000_0000 + get_or bs 7 0 * 0x100_0000_0000_0000

-- `u32::from_le_bytes` of four bytes is their number
pub four_number : (bs : List ℕ) → length bs ≡ 4 → ((i : ℕ) → get_or bs i 0 < 256) → from_le_bytes w32 bs ≡ low (number_of bs)
four_number bs e h = sum
  where
    end : number_of (drop 4 bs) ≡ 0
    end = ap number_of (drop_of_length-le bs {i = 4} (omega (arith, e))) ∙ unfold number_of in refl

    sum : sum_of_four bs ≡ low (number_of bs)
    sum = omega (arith, end, number-from bs 0, number-from bs 1, number-from bs 2, number-from bs 3, h 0, h 1, h 2, h 3)

-- `u64::from_le_bytes` of eight bytes is their number
pub eight_number : (bs : List ℕ) → length bs ≡ 8 → ((i : ℕ) → get_or bs i 0 < 256) → from_le_bytes w64 bs ≡ number_of bs
eight_number bs e h = sum
  where
    end : number_of (drop 8 bs) ≡ 0
    end = ap number_of (drop_of_length-le bs {i = 8} (omega (arith, e))) ∙ unfold number_of in refl

    sum : sum_of_eight bs ≡ number_of bs
    sum = omega (arith, end, number-from bs 0, number-from bs 1, number-from bs 2, number-from bs 3, number-from bs 4, number-from bs 5, number-from bs 6, number-from bs 7, h 0, h 1, h 2, h 3, h 4, h 5, h 6, h 7)

module _ (s : List ℕ) (h : (i : ℕ) → get_or s i 0 < 256) (at : ℕ) where
  -- there are as many as are taken, each below 256
  eight_of : (size : ℕ) → size ≤ length (drop at s) → (length (take size (drop at s)) ≡ size) × ((i : ℕ) → get_or (take size (drop at s)) i 0 < 256)
  eight_of size l = (
    length-take-le size (drop at s) l,
    λ i. elim (lt_or_le i size) [
      | inl k ↦ rw (get_or-take size (drop at s) i 0 k, get_or-drop) (h (at + i))
      | inr k ↦ let z : get_or (take size (drop at s)) i 0 ≡ 0 = get_or-eq_default (take size (drop at s)) 0 (rw (length-take-le size (drop at s) l) k) in omega (arith, z)
    ],
  )

  -- where four bytes are there, what std makes of them is the number at that place
  pub four_read : (four : List ℕ) → 4 ≤ length (drop at s) → four ≡ take 4 (drop at s) → from_le_bytes w32 four ≡ u32_at s at
  four_read four l e = let a = eight_of 4 l in rw e (four_number (take 4 (drop at s)) a.0 a.1)

  -- where eight are there, the same
  pub eight_read : (eight : List ℕ) → 8 ≤ length (drop at s) → eight ≡ take 8 (drop at s) → from_le_bytes w64 eight ≡ u64_at s at
  eight_read eight l e = let a = eight_of 8 l in rw e (eight_number (take 8 (drop at s)) a.0 a.1)

-- so many bytes from a place on are those that are read there
pub bytes_copied : (s : List ℕ) (at n : ℕ) → at + n ≤ length s → tabulate (λ (i : ℕ). byte_at s (at + i)) n ≡ take n (drop at s)
unfolding tabulate
bytes_copied s at zero h = refl
bytes_copied s at (suc n) h =
    ap (λ (bs : List ℕ). bs ++ (byte_at s (at + n) ∷ [])) (bytes_copied s at n (omega (arith, h)))
    ∙ ap (λ (b : ℕ). take n (drop at s) ++ (b ∷ [])) (sym (get_or-drop at s n 0))
    ∙ sym (take-suc (drop at s) n 0 (rw length-drop (omega (arith, h))))

-- ---- the values of a function, written to a list's front

module _ {A : Type 0} (f : ℕ → A) (list₀ : List A) where
  -- none is written yet
  pub copied_start : list₀ ≡ onto (tabulate f 0) list₀
  unfolding tabulate
  copied_start = sym (onto_nil list₀)

  -- one more is written
  pub copied_next : (list : List A) (i : ℕ) (v : A) → i < length list₀ → list ≡ onto (tabulate f i) list₀ → v ≡ f i → set list i v ≡ onto (tabulate f (i + 1)) list₀
  copied_next list i v h e g = rw (add-one, e, g) (onto-tabulate_next f list₀ i h)

  -- all n are written
  pub copied_done : (list : List A) (i n : ℕ) → i ≤ n → n ≤ i → list ≡ onto (tabulate f i) list₀ → list ≡ onto (tabulate f n) list₀
  copied_done list i n a b e = let z : i ≡ n = omega arith in rw (← z) e

  -- all of the first n places are written, and what stands behind them is as it was
  pub copied_whole : (items : List A) (n : ℕ) → n ≤ length list₀ → items ≡ onto (tabulate f n) (take n list₀) → items ++ drop n list₀ ≡ onto (tabulate f n) list₀
  unfolding onto
  copied_whole items n h e =
      ap (λ (xs : List A). xs ++ drop n list₀) (e ∙ onto-all (tabulate f n) (take n list₀) (length-take-le n list₀ h ∙ sym (tabulate-length f n)))
      ∙ ap (λ (k : ℕ). tabulate f n ++ drop k list₀) (sym (tabulate-length f n))
