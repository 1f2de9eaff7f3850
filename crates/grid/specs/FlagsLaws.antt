-- The tests of flag bytes as masks, of a byte, of a word and of a list, and what holds while a list is tested word by word.
use Rattle.std.specs.Prelude.{◌≡◌, Bool, ◌&&◌, ℕ, zero, suc, ◌+◌, ◌*◌, ◌/◌, ◌%◌, ◌≤◌, ◌<◌, length, get_or, take, drop}
use Rattle.std.proofs.Math.Path.{refl}
use Rattle.std.proofs.Common.{sym, ap, ◌∙◌, inl, inr, arith, zero-add, take-add, length-drop, length-take-le, get_or-drop, eq-eqb, ne_eqb, le-leb}
use Rattle.std.proofs.Math.Bool.{and-true}
use Rattle.std.proofs.lemmas.List.{get_or-take, take-append-drop}
use Rattle.std.proofs.Math.ListN.{get_or-eq_default}
use Rattle.std.specs.Int.{w64, from_le_bytes}
use Rattle.std.specs.List.{fold}
use Rattle.std.specs.Simd.{first_chunks}
use mathlib.Core.List.{List, [], ◌∷◌}
use Rattle.std.specs.Int.Bits.{bit_and, bit_or}
use Rattle.std.proofs.lemmas.Nat.Bits.{and_high}
use Rattle.std.proofs.lemmas.Nat.{and_mask}
use Rattle.std.proofs.lemmas.Bool.{lt-leb}
use Rattle.base_laws.specs.Tests.{lt_or_le}
use Rattle.base_terms.specs.Lists.{all_of}
use Rattle.base_terms.specs.Bytes.{bytes_of}
use Rattle.base_code.specs.ListsLaws.{all_append, and_assoc}
use Rattle.grid.specs.Values.{is_flag, is_unflagged}
use Rattle.grid.specs.Words.{is_clear, mask_of}
use Rattle.grid.specs.WordsLaws.{clear_none, clear_or, word_clear, mask_eight, word_eight}

-- ---- a byte

-- of bytes the test asks the same as the mask
abbrev pub ByMask : (ℕ → Bool) → ℕ → Type 0
ByMask p mask = (b : ℕ) → b < 256 → is_clear mask b ≡ p b

-- 0 and 1 have none of the seven higher bits, and no other byte is so
pub flag_mask : ByMask is_flag 254
unfolding is_flag is_clear
flag_mask b h =
    let q : b / 2 < 128 = omega arith in
    let r : b / 2 % 128 ≡ b / 2 = omega (arith, q) in
    let m : bit_and b 254 ≡ b / 2 * 2 = and_high b 7 1 ∙ ap (λ (n : ℕ). n * 2) r in
    elim (lt_or_le 1 b) [
      | inl l ↦ rw (m, lt-leb b 1 l) (ne_eqb (b / 2 * 2) 0 (λ e. omega (arith, e, l)))
      | inr l ↦ rw (m, le-leb b 1 l) (eq-eqb (b / 2 * 2) 0 (omega (arith, l)))
    ]

-- 0 has no bit at all, and no other byte is so
pub unflagged_mask : ByMask is_unflagged 255
unfolding is_unflagged is_clear
unflagged_mask b h =
    let m : bit_and b 255 ≡ b % 256 = and_mask b 8 in
    let e : b % 256 ≡ b = omega arith in
    rw (m, e)

-- ---- a list of bytes, and a word

-- a digit in base 256 is below 256
bytes_below : (size w i : ℕ) → get_or (bytes_of size w) i 0 < 256
unfolding bytes_of
bytes_below zero w i = omega arith
bytes_below (suc size) w zero = omega arith
bytes_below (suc size) w (suc i) = bytes_below size (w / 256) i

module _ (p : ℕ → Bool) (mask : ℕ) (by : ByMask p mask) where
  -- every byte passes the one test where every byte passes the other
  pub all_by_mask : (bytes : List ℕ) → ((i : ℕ) → get_or bytes i 0 < 256) → all_of (is_clear mask) bytes ≡ all_of p bytes
  unfolding all_of
  all_by_mask [] h = refl
  all_by_mask (b ∷ bs) h = rw (by b (h 0), all_by_mask bs (λ i. h (suc i)))

  -- a word of any size passes exactly where each of its bytes does
  pub word_passes : mask < 256 → (size w : ℕ) → is_clear (mask_of size mask) w ≡ all_of p (bytes_of size w)
  word_passes h size w = word_clear mask h size w ∙ all_by_mask (bytes_of size w) (bytes_below size w)

-- S-4: a word passes exactly where each of its eight bytes is 0 or 1
pub flag_word : (w : ℕ) → is_clear 0xfefe_fefe_fefe_fefe w ≡ all_of is_flag (bytes_of 8 w)
flag_word w = unfold mask_of in word_passes is_flag 254 flag_mask (omega arith) 8 w

-- and a word of scores exactly where each of its eight bytes is 0
pub unflagged_word : (w : ℕ) → is_clear 0xffff_ffff_ffff_ffff w ≡ all_of is_unflagged (bytes_of 8 w)
unflagged_word w = unfold mask_of in word_passes is_unflagged 255 unflagged_mask (omega arith) 8 w

-- ---- a list, word by word

-- the word that `u64::from_le_bytes` makes of eight bytes has these for its bytes
pub eight_back : (eight : List ℕ) → length eight ≡ 8 → ((i : ℕ) → get_or eight i 0 < 256) → bytes_of 8 (from_le_bytes w64 eight) ≡ eight
eight_back eight e h = word_eight eight e h

-- a word of eight bytes laid over what is laid so far
abbrev pub laid : (seen : ℕ) (word : List ℕ) → ℕ
laid seen word = bit_or seen (from_le_bytes w64 word)

module _ (mask : ℕ) (below : mask < 256) where
  -- the bytes of a word of eight are those that it was made of
  word_laid : (word : List ℕ) → length word ≡ 8 → ((i : ℕ) → get_or word i 0 < 256) → is_clear (mask_of 8 mask) (from_le_bytes w64 word) ≡ all_of (is_clear mask) word
  word_laid word e h = word_clear mask below 8 (from_le_bytes w64 word) ∙ ap (all_of (is_clear mask)) (eight_back word e h)

  -- n words laid over what is laid so far have no bit of the mask where neither they nor that has one
  pub overlaid-from : (n seen : ℕ) (bytes : List ℕ) → 8 * n ≤ length bytes → ((i : ℕ) → get_or bytes i 0 < 256)
      → is_clear (mask_of 8 mask) (fold laid seen (first_chunks 8 n bytes)) ≡ (is_clear (mask_of 8 mask) seen && all_of (is_clear mask) (take (8 * n) bytes))
  overlaid-from zero seen bytes l h = unfold all_of in sym (and-true (is_clear (mask_of 8 mask) seen))
  overlaid-from (suc n) seen bytes l h =
      let more : 8 * suc n ≡ 8 + 8 * n = omega arith in
      overlaid-from n (laid seen (take 8 bytes)) (drop 8 bytes) (rw length-drop (omega (arith, l))) (λ i. rw get_or-drop (h (8 + i)))
      ∙ rw (
        clear_or (mask_of 8 mask) seen (from_le_bytes w64 (take 8 bytes)),
        word_laid (take 8 bytes) (length-take-le 8 bytes (omega (arith, l))) first,
        more,
        take-add 8 (8 * n) bytes,
        all_append (is_clear mask) (take 8 bytes) (take (8 * n) (drop 8 bytes)),
      ) (sym (and_assoc (is_clear (mask_of 8 mask) seen) (all_of (is_clear mask) (take 8 bytes)) (all_of (is_clear mask) (take (8 * n) (drop 8 bytes)))))
    where
      first : (i : ℕ) → get_or (take 8 bytes) i 0 < 256
      first i = elim (lt_or_le i 8) [
        | inl k ↦ rw (get_or-take 8 bytes i 0 k) (h i)
        | inr k ↦ let e : get_or (take 8 bytes) i 0 ≡ 0 = get_or-eq_default (take 8 bytes) 0 (rw (length-take-le 8 bytes (omega (arith, l))) k) in omega (arith, e)
      ]

-- the first i words, laid over each other, pass where their bytes do: what holds while one word after another is laid so
abbrev pub Overlaid : (mask : ℕ) (bytes : List ℕ) (seen i : ℕ) → Type 0
Overlaid mask bytes seen i = is_clear (mask_of 8 mask) seen ≡ all_of (is_clear mask) (take (8 * i) bytes)

module _ (mask : ℕ) (bytes : List ℕ) where
  -- no word is laid yet
  pub overlaid_start : Overlaid mask bytes 0 0
  unfolding all_of
  overlaid_start = clear_none (mask_of 8 mask)

  -- one more is
  pub overlaid_next : (seen w i : ℕ) → mask < 256 → bytes_of 8 w ≡ take 8 (drop (8 * i) bytes) → Overlaid mask bytes seen i → Overlaid mask bytes (bit_or seen w) (i + 1)
  overlaid_next seen w i h e l =
      let next : 8 * (i + 1) ≡ 8 * i + 8 = omega arith in
      rw (clear_or (mask_of 8 mask) seen w, l, word_clear mask h 8 w, e, next, take-add (8 * i) 8 bytes) (sym (all_append (is_clear mask) (take (8 * i) bytes) (take 8 (drop (8 * i) bytes))))

  -- n more are
  pub overlaid_more : (n seen i : ℕ) → mask < 256 → ((j : ℕ) → get_or bytes j 0 < 256) → 8 * (i + n) ≤ length bytes
      → Overlaid mask bytes seen i → Overlaid mask bytes (fold laid seen (first_chunks 8 n (drop (8 * i) bytes))) (i + n)
  overlaid_more n seen i m h l o =
      let ahead = drop (8 * i) bytes in
      let more : 8 * (i + n) ≡ 8 * i + 8 * n = omega arith in
      overlaid-from mask m n seen ahead (rw length-drop (omega (arith, l))) (λ j. rw get_or-drop (h (8 * i + j)))
      ∙ rw (o, more, take-add (8 * i) (8 * n) bytes) (sym (all_append (is_clear mask) (take (8 * i) bytes) (take (8 * n) ahead)))

  -- all are, and tested
  pub overlaid_tested : (seen words : ℕ) (ok : Bool) → ok ≡ is_clear (mask * 0x0101_0101_0101_0101) seen → Overlaid mask bytes seen words → ok ≡ all_of (is_clear mask) (take (8 * words) bytes)
  overlaid_tested seen words ok e l = e ∙ rw (mask_eight mask) l

module _ (mask : ℕ) (below : mask < 256) where
  -- all words of a list, laid over each other and tested together, and the bytes behind them one by one: that tests every byte
  pub overlaid : (bytes : List ℕ) → ((i : ℕ) → get_or bytes i 0 < 256)
      → (is_clear (mask * 0x0101_0101_0101_0101) (fold laid 0 (first_chunks 8 (length bytes / 8) bytes)) && all_of (is_clear mask) (drop (length bytes / 8 * 8) bytes))
      ≡ all_of (is_clear mask) bytes
  overlaid bytes h =
      let n = length bytes / 8 in
      let same : n * 8 ≡ 8 * n = omega arith in
      let words : Overlaid mask bytes (fold laid 0 (first_chunks 8 n bytes)) n = rw (zero-add n) at (overlaid_more mask bytes n 0 0 below h (omega arith) (overlaid_start mask bytes)) in
      rw (overlaid_tested mask bytes (fold laid 0 (first_chunks 8 n bytes)) n _ refl words, same)
      (sym (all_append (is_clear mask) (take (8 * n) bytes) (drop (8 * n) bytes)) ∙ ap (all_of (is_clear mask)) (take-append-drop (8 * n) bytes))
