-- Why the digits lead to the k-th smallest key: the keys below a block, with the counts of the digits passed, are the keys below the digit's own block.
use Rattle.std.specs.Prelude.{◌≡◌, Bool, cond, ltb, length, get_or, take, drop, set, replicate}
use Rattle.std.proofs.Math.Path.{refl, sym, ap}
use Rattle.std.proofs.Common.{◌∙◌, inl, inr, not-suc-le-zero, le_of_suc-le-suc, le-div_iff_mul-le, div-lt_iff_lt-mul, mul_assoc, mul_comm, add-one, drop_of_length-le, pow_pos, pow-add, take_all}
use Rattle.std.proofs.Math.Bool.{true, false}
use mathlib.Core.List.{List, [], ◌∷◌, ◌++◌}
use Prim.Native.Nat.{ℕ, zero, suc, ◌+◌, ◌-◌, ◌*◌, ◌/◌, ◌%◌, ◌^◌, ◌≤◌, ◌<◌}
use native.Mathlib.Omega.{arith}
use Rattle.std.proofs.Math.Dec.{eqb}
use Rattle.std.proofs.lemmas.Nat.{shr_le}
use Rattle.std.proofs.lemmas.List.{set-get_or}
use Rattle.std.proofs.Math.Seq.{take-suc, length-take-le}
use borrow.Author.Tests.{lt-ltb, le-ltb, eq-eqb, ne_eqb, eqb-true, eqb-false}
use Rattle.base_laws.specs.Tests.{lt_or_le, tested}
use Rattle.silence_levels.specs.declared.select.Place.{Place}
use Rattle.silence_levels.specs.declared.select.Block.{Block}
use Rattle.silence_levels.specs.Sorted.{sorted, count_of, belows}
use Rattle.silence_levels.specs.SortedLaws.{ranked_sorted}
use Rattle.silence_levels.specs.Select.{hits, hits_from, counts_of, total_count, with_digit, with_prefix, DigitFound, Narrowed}

-- ---- walking over a table of counts

total-drop : (cs : List ℕ) (d : ℕ) → total_count (drop d cs) ≡ get_or cs d 0 + total_count (drop (suc d) cs)
unfolding total_count
total-drop [] zero = refl
total-drop [] (suc d) = refl
total-drop (c ∷ cs) zero = refl
total-drop (c ∷ cs) (suc d) = total-drop cs d

total-take : (cs : List ℕ) (d : ℕ) → total_count (take (suc d) cs) ≡ total_count (take d cs) + get_or cs d 0
unfolding total_count
total-take [] zero = refl
total-take [] (suc d) = refl
total-take (c ∷ cs) zero = omega arith
total-take (c ∷ cs) (suc d) = let h = total-take cs d in omega arith

in_table : (cs : List ℕ) (d left : ℕ) → left < total_count (drop d cs) → d < length cs
unfolding total_count
in_table cs d left h =
    elim (lt_or_le d (length cs)) [ inl l ↦ l | inr l ↦ absurd (not-suc-le-zero (rw (drop_of_length-le cs {i = d} l) at h)) ]

-- the counts before the digit are passed, and what is left of the rank lies among the others
abbrev pub DigitSought : List ℕ → ℕ → ℕ → ℕ → Type 0
DigitSought counts rank digit left = (left < total_count (drop digit counts)) × (total_count (take digit counts) + left ≡ rank) × (digit < length counts)

module _ (counts : List ℕ) (rank : ℕ) where
  -- no count is passed yet
  pub digit_starts : rank < total_count counts → DigitSought counts rank 0 rank
  unfolding total_count
  digit_starts h = (h, omega arith, in_table counts 0 rank h)

  -- the count at the digit is passed
  pub digit_next : (digit left : ℕ) → get_or counts digit 0 ≤ left → DigitSought counts rank digit left → DigitSought counts rank (digit + 1) (left - get_or counts digit 0)
  digit_next digit left l (a, b, c) =
      let d = total-drop counts digit in
      let t = total-take counts digit in
      let more : left - get_or counts digit 0 < total_count (drop (suc digit) counts) = omega arith in
      rw add-one (more, omega arith, in_table counts (suc digit) (left - get_or counts digit 0) more)

  -- what is left of the rank is below the count at the digit: the rank falls on it
  pub digit_done : (digit left : ℕ) → length counts ≡ 2048 → left < get_or counts digit 0 → DigitSought counts rank digit left → DigitFound counts rank (with_digit digit left)
  digit_done digit left e l (a, b, c) = record { digit = omega arith; passed = b; within = l }

-- ---- counting one key more

count_more : (p : ℕ → Bool) (xs : List ℕ) (x : ℕ) → count_of p (xs ++ (x ∷ [])) ≡ count_of p xs + cond (p x) 1 0
unfolding count_of
count_more p [] x = omega arith
count_more p (y ∷ ys) x = let h = count_more p ys x in omega arith

-- what one key adds
pub one_at_most : (b : Bool) → cond b 1 0 ≤ 1
one_at_most true = omega arith
one_at_most false = omega arith

count_length : (p : ℕ → Bool) (xs : List ℕ) → count_of p xs ≤ length xs
unfolding count_of
count_length p [] = omega arith
count_length p (x ∷ xs) = let h = count_length p xs in let o = one_at_most (p x) in omega arith

module _ (shift : ℕ) where
  no_hits : (q n : ℕ) → replicate n 0 ≡ hits_from [] shift q n
  unfolding hits_from count_of
  no_hits q zero = refl
  no_hits q (suc n) = ap (λ (l : List ℕ). 0 ∷ l) (no_hits (suc q) n)

  hits_at : (keys : List ℕ) (q n d : ℕ) → d < n → get_or (hits_from keys shift q n) d 0 ≡ hits keys shift (q + d)
  unfolding hits_from
  hits_at keys q zero d l = absurd (not-suc-le-zero l)
  hits_at keys q (suc n) zero l = ap (hits keys shift) (omega arith)
  hits_at keys q (suc n) (suc d) l = hits_at keys (suc q) n d (le_of_suc-le-suc l) ∙ ap (hits keys shift) (omega arith)

  length-hits : (keys : List ℕ) (q n : ℕ) → length (hits_from keys shift q n) ≡ n
  unfolding hits_from
  length-hits keys q zero = refl
  length-hits keys q (suc n) = ap suc (length-hits keys (suc q) n)

  -- a key of no block changes nothing
  miss : (keys : List ℕ) (x q n : ℕ) → ((d : ℕ) → d < n → x / 2 ^ shift ≡ q + d → ⊥) → hits_from (keys ++ (x ∷ [])) shift q n ≡ hits_from keys shift q n
  unfolding hits_from
  miss keys x q zero f = refl
  miss keys x q (suc n) f =
      let z : eqb (x / 2 ^ shift) q ≡ false = ne_eqb (x / 2 ^ shift) q (λ e. f 0 (omega arith) (omega arith)) in
      let c : hits (keys ++ (x ∷ [])) shift q ≡ hits keys shift q + 0 = rw z at (count_more (λ (y : ℕ). eqb (y / 2 ^ shift) q) keys x) in
      let h : hits (keys ++ (x ∷ [])) shift q ≡ hits keys shift q = omega arith in
      rw (h, miss keys x (suc q) n (λ d l e. f (suc d) (omega arith) (omega arith)))

  -- a key of block q + d adds one there
  hit : (keys : List ℕ) (x q n d : ℕ) → x / 2 ^ shift ≡ q + d
      → set (hits_from keys shift q n) d (get_or (hits_from keys shift q n) d 0 + 1) ≡ hits_from (keys ++ (x ∷ [])) shift q n
  unfolding hits_from
  hit keys x q zero d e = refl
  hit keys x q (suc n) zero e =
      let o : eqb (x / 2 ^ shift) q ≡ true = eq-eqb (x / 2 ^ shift) q (omega arith) in
      let c : hits (keys ++ (x ∷ [])) shift q ≡ hits keys shift q + 1 = rw o at (count_more (λ (y : ℕ). eqb (y / 2 ^ shift) q) keys x) in
      rw (c, miss keys x (suc q) n (λ d l f. omega arith))
  hit keys x q (suc n) (suc d) e =
      let z : eqb (x / 2 ^ shift) q ≡ false = ne_eqb (x / 2 ^ shift) q (λ f. omega arith) in
      let c : hits (keys ++ (x ∷ [])) shift q ≡ hits keys shift q + 0 = rw z at (count_more (λ (y : ℕ). eqb (y / 2 ^ shift) q) keys x) in
      let h : hits (keys ++ (x ∷ [])) shift q ≡ hits keys shift q = omega arith in
      rw h (ap (λ (l : List ℕ). hits keys shift q ∷ l) (hit keys x (suc q) n d (omega arith)))

counts_at : (keys : List ℕ) (shift p d : ℕ) → d < 2048 → get_or (counts_of keys shift p) d 0 ≡ hits keys shift (p * 2048 + d)
unfolding counts_of
counts_at keys shift p d l = hits_at shift keys (p * 2048) 2048 d l

-- the table has a count for each digit
pub length_counts : (keys : List ℕ) (shift p : ℕ) → length (counts_of keys shift p) ≡ 2048
unfolding counts_of
length_counts keys shift p = length-hits shift keys (p * 2048) 2048

-- the counts are those of the keys before i: what holds while a loop that ends at `end` counts one key after another
abbrev pub DigitsCounted : List ℕ → ℕ → ℕ → ℕ → List ℕ → ℕ → Type 0
DigitsCounted keys shift prefix end counts i = (i ≤ length keys) × (end ≡ length keys) × (counts ≡ counts_of (take i keys) shift prefix)

module _ (keys : List ℕ) (shift prefix end : ℕ) where
  -- no key is counted yet
  pub counted_starts : end ≡ length keys → DigitsCounted keys shift prefix end (replicate 2048 0) 0
  unfolding counts_of
  counted_starts e = (omega arith, e, no_hits shift (prefix * 2048) 2048)

  -- the key at i has another prefix
  pub counted_miss : (counts : List ℕ) (i : ℕ) → i < end → (get_or keys i 0 / 2 ^ shift / 2048 ≡ prefix → ⊥)
      → DigitsCounted keys shift prefix end counts i → DigitsCounted keys shift prefix end counts (i + 1)
  unfolding counts_of
  counted_miss counts i l n (a, b, c) = (
    omega arith,
    b,
    rw (add-one, take-suc keys i 0 (omega arith))
        (c ∙ sym (miss shift (take i keys) (get_or keys i 0) (prefix * 2048) 2048 (λ d m e. n (omega arith)))),
  )

  -- it has this prefix
  pub counted_hit : (counts : List ℕ) (i : ℕ) → i < end → get_or keys i 0 / 2 ^ shift / 2048 ≡ prefix
      → DigitsCounted keys shift prefix end counts i
      → DigitsCounted keys shift prefix end (set counts (get_or keys i 0 / 2 ^ shift % 2048) (get_or counts (get_or keys i 0 / 2 ^ shift % 2048) 0 + 1)) (i + 1)
  unfolding counts_of
  counted_hit counts i l n (a, b, c) = (
    omega arith,
    b,
    rw (add-one i, take-suc keys i 0 (omega arith), c)
        (hit shift (take i keys) (get_or keys i 0) (prefix * 2048) 2048 (get_or keys i 0 / 2 ^ shift % 2048) (omega arith)),
  )

  -- it adds 1 or 0, by its prefix
  pub counted_adds : (counts : List ℕ) (i r : ℕ) → i < end → r ≡ cond (eqb (get_or keys i 0 / 2 ^ shift / 2048) prefix) 1 0
      → DigitsCounted keys shift prefix end counts i
      → DigitsCounted keys shift prefix end (set counts (get_or keys i 0 / 2 ^ shift % 2048) (get_or counts (get_or keys i 0 / 2 ^ shift % 2048) 0 + r)) (i + 1)
  counted_adds counts i r l e h = elim (tested (eqb (get_or keys i 0 / 2 ^ shift / 2048) prefix)) [
    | inl q ↦ rw (rw q at e) (counted_hit counts i l (eqb-true (get_or keys i 0 / 2 ^ shift / 2048) prefix q) h)
    | inr q ↦
        let same : get_or counts (get_or keys i 0 / 2 ^ shift % 2048) 0 + r ≡ get_or counts (get_or keys i 0 / 2 ^ shift % 2048) 0 = omega (arith, rw q at e) in
        rw (same, set-get_or) (counted_miss counts i l (eqb-false (get_or keys i 0 / 2 ^ shift / 2048) prefix q) h)
  ]

  -- no count is larger than the number of keys
  pub counted_small : (counts : List ℕ) (i d : ℕ) → d < 2048 → i < end → DigitsCounted keys shift prefix end counts i → get_or counts d 0 < length keys
  unfolding counts_of
  counted_small counts i d l m (a, b, c) =
      let e = hits_at shift (take i keys) (prefix * 2048) 2048 d l in
      let n = count_length (λ (x : ℕ). eqb (x / 2 ^ shift) (prefix * 2048 + d)) (take i keys) in
      let t = length-take-le i keys a in
      rw c (omega arith)

  -- every key is counted
  pub counted_done : (counts : List ℕ) (i : ℕ) → end ≤ i → DigitsCounted keys shift prefix end counts i → counts ≡ counts_of keys shift prefix
  counted_done counts i l (a, b, c) = c ∙ ap (λ (k : List ℕ). counts_of k shift prefix) (take_all i keys (omega arith))

-- ---- from one digit to the next

-- a block that a key falls in has no higher number than a key can have
pub hit_small : (most : ℕ) (keys : List ℕ) (shift q : ℕ) → ((i : ℕ) → get_or keys i 0 < most) → 0 < hits keys shift q → q < most
unfolding count_of
hit_small most [] shift q h l = absurd (not-suc-le-zero l)
hit_small most (x ∷ xs) shift q h l =
    elim (lt_or_le 0 (hits xs shift q)) [
      | inl m ↦ hit_small most xs shift q (λ i. h (suc i)) m
      | inr m ↦ elim (lt_or_le q most) [
        | inl n ↦ n
        | inr n ↦
            let k : x < most = h 0 in
            let d : x / 2 ^ shift ≤ x = shr_le x shift in
            let z : eqb (x / 2 ^ shift) q ≡ false = ne_eqb (x / 2 ^ shift) q (λ e. omega arith) in
            let c : 0 < 0 + hits xs shift q = rw z at l in
            omega arith
      ]
    ]

-- a key stands below block q, in it, or above it
place : (x q w : ℕ) → 0 < w → cond (ltb x (q * w)) 1 0 + cond (eqb (x / w) q) 1 0 ≡ cond (ltb x (suc q * w)) 1 0
place x q w p =
    elim (lt_or_le (x / w) q) [
      | inl l ↦
          let a : x < q * w = (div-lt_iff_lt-mul p).0 l in
          let b : x < suc q * w = (div-lt_iff_lt-mul p).0 (omega arith) in
          rw (lt-ltb x (q * w) a, lt-ltb x (suc q * w) b, ne_eqb (x / w) q (λ e. omega arith))
      | inr l ↦
          let a : q * w ≤ x = (le-div_iff_mul-le p).0 l in
          elim (lt_or_le q (x / w)) [
            | inl m ↦
                let b : suc q * w ≤ x = (le-div_iff_mul-le p).0 m in
                rw (le-ltb x (q * w) a, le-ltb x (suc q * w) b, ne_eqb (x / w) q (λ e. omega arith))
            | inr m ↦
                let b : x < suc q * w = (div-lt_iff_lt-mul p).0 (omega arith) in
                rw (le-ltb x (q * w) a, lt-ltb x (suc q * w) b, eq-eqb (x / w) q (omega arith))
          ]
    ]

-- the keys below block q, and those in it, are the keys below the next block
belows_next : (keys : List ℕ) (shift q : ℕ) → belows (q * 2 ^ shift) keys + hits keys shift q ≡ belows (suc q * 2 ^ shift) keys
unfolding count_of
belows_next [] shift q = refl
belows_next (x ∷ xs) shift q =
    let h = belows_next xs shift q in
    let p = place x q (2 ^ shift) (pow_pos shift) in
    omega arith

belows-passed : (keys : List ℕ) (shift q n d : ℕ) → d ≤ n → belows (q * 2 ^ shift) keys + total_count (take d (hits_from keys shift q n)) ≡ belows ((q + d) * 2 ^ shift) keys
unfolding total_count hits_from
belows-passed keys shift q n zero l = let e : q + 0 ≡ q = omega arith in rw e (omega arith)
belows-passed keys shift q zero (suc d) l = absurd (not-suc-le-zero l)
belows-passed keys shift q (suc n) (suc d) l =
    let h = belows-passed keys shift (suc q) n d (le_of_suc-le-suc l) in
    let s = belows_next keys shift q in
    let e : q + suc d ≡ suc q + d = omega arith in
    rw e (omega arith)

-- 11 bits more are 2048 blocks
wider : (shift p : ℕ) → p * 2 ^ (shift + 11) ≡ p * 2048 * 2 ^ shift
wider shift p = ap (λ (k : ℕ). p * k) (pow-add 2 shift 11 ∙ mul_comm (2 ^ shift) 2048) ∙ sym (mul_assoc p 2048 (2 ^ shift))

module _ (keys : List ℕ) (shift : ℕ) where
  counts_passed : (p d : ℕ) → d ≤ 2048 → belows (p * 2 ^ (shift + 11)) keys + total_count (take d (counts_of keys shift p)) ≡ belows ((p * 2048 + d) * 2 ^ shift) keys
  unfolding counts_of
  counts_passed p d l = rw (wider shift p) (belows-passed keys shift (p * 2048) 2048 d l)

  -- the table's sum is the number of keys in the block
  pub counts_total : (p : ℕ) → total_count (counts_of keys shift p) ≡ hits keys (shift + 11) p
  counts_total p =
      let t : take 2048 (counts_of keys shift p) ≡ counts_of keys shift p = take_all 2048 (counts_of keys shift p) (omega (arith, length_counts keys shift p)) in
      let a = rw t at (counts_passed p 2048 (omega arith)) in
      let e : suc p * 2048 ≡ p * 2048 + 2048 = omega arith in
      let b = rw (wider shift (suc p), e) at (belows_next keys (shift + 11) p) in
      omega arith

  -- the digit's block is the next one
  pub narrowed : (block : Block) (place : Place) → DigitFound (counts_of keys shift block.prefix) block.rank place
      → Narrowed keys shift block (with_prefix (block.prefix * 2048 + place.digit) place.rank)
  narrowed block place w =
      let e : get_or (counts_of keys shift block.prefix) place.digit 0 ≡ hits keys shift (block.prefix * 2048 + place.digit) =
      counts_at keys shift block.prefix place.digit w.digit in
      let l = w.digit in
      let h = counts_passed block.prefix place.digit (omega arith) in
      let r = w.passed in
      let i = w.within in
      record { rank = omega arith; within = omega arith }

  -- its number is no higher than a key can be
  pub narrowed_small : (most : ℕ) (p : ℕ) (rank : ℕ) (place : Place) → ((i : ℕ) → get_or keys i 0 < most) → DigitFound (counts_of keys shift p) rank place → p * 2048 + place.digit < most
  narrowed_small most p rank place h w =
      let e = counts_at keys shift p place.digit w.digit in
      let i = w.within in
      hit_small most keys shift (p * 2048 + place.digit) h (omega arith)

-- ---- the three digits of a key

no_belows : (keys : List ℕ) → belows 0 keys ≡ 0
unfolding count_of
no_belows [] = refl
no_belows (x ∷ xs) = rw (le-ltb x 0 (omega arith)) (let h = no_belows xs in omega arith)

all-belows : (most : ℕ) (keys : List ℕ) → ((i : ℕ) → get_or keys i 0 < most) → belows most keys ≡ length keys
unfolding count_of
all-belows most [] h = refl
all-belows most (x ∷ xs) h = rw (lt-ltb x most (h 0)) (let g = all-belows most xs (λ i. h (suc i)) in omega arith)

-- every key is in the one block above 33 bits
whole_block : (keys : List ℕ) → ((i : ℕ) → get_or keys i 0 < 4294967296) → hits keys 33 0 ≡ length keys
whole_block keys h =
    let n = belows_next keys 33 0 in
    let z : belows (0 * 2 ^ 33) keys ≡ 0 = no_belows keys in
    let a : belows (1 * 2 ^ 33) keys ≡ length keys = all-belows 8589934592 keys (λ i. let l = h i in omega arith) in
    omega arith

-- so the first table counts them all
pub first-total : (keys : List ℕ) → ((i : ℕ) → get_or keys i 0 < 4294967296) → total_count (counts_of keys 22 0) ≡ length keys
first-total keys h = counts_total keys 22 0 ∙ whole_block keys h

-- the next passes find the rank in the first digit's block
pub first-within : (keys : List ℕ) (rank : ℕ) (first : Place) → DigitFound (counts_of keys 22 0) rank first → first.rank < hits keys (11 + 11) first.digit
first-within keys rank first w =
    let o : 0 * 2048 + first.digit ≡ first.digit = omega arith in
    rw o at (narrowed keys 22 (with_prefix 0 rank) first w).within

-- a block of single numbers is the key at the rank
pub selected : (keys : List ℕ) (rank : ℕ) (first : Place) (second last : Block) → DigitFound (counts_of keys 22 0) rank first
    → Narrowed keys 11 (with_prefix first.digit first.rank) second → Narrowed keys 0 second last → last.prefix ≡ get_or (sorted keys) rank 0
selected keys rank first second last w b d =
    let a = narrowed keys 22 (with_prefix 0 rank) first w in
    let z : belows (0 * 2 ^ 33) keys ≡ 0 = no_belows keys in
    let o : 0 * 2048 + first.digit ≡ first.digit = omega arith in
    let f = rw o at a.rank in
    let e : belows (last.prefix * 2 ^ 0) keys + last.rank ≡ rank = omega (arith, f, b.rank, d.rank) in
    let p : last.prefix * 2 ^ 0 ≡ last.prefix = omega arith in
    let q : suc last.prefix * 2 ^ 0 ≡ suc last.prefix = omega arith in
    let f : belows last.prefix keys + last.rank ≡ rank = rw p at e in
    let n : belows last.prefix keys + hits keys 0 last.prefix ≡ belows (suc last.prefix) keys = rw (p, q) at (belows_next keys 0 last.prefix) in
    let w = d.within in
    sym (ranked_sorted keys rank last.prefix (record { below = omega arith; reached = omega arith }))
