-- Laws of the first start: what stands before it is over the limit, all from it on may start, and it rises with the candidate where the piece ends.
use Rattle.std.specs.Prelude.{◌≡◌, Bool, not, List, leb, length, set}
use Rattle.std.proofs.Common.{◌∙◌, le_refl, le_trans, lt_of_lt_of_le, add-one, get_or-set_other}
use Rattle.std.proofs.Math.Logic.{inl, inr}
use Prim.Native.Nat.{ℕ, zero, suc, ◌+◌, ◌-◌, ◌≤◌, ◌<◌}
use native.Mathlib.Omega.{arith}
use Rattle.std.specs.Float.Ieee.Bits.{is_true, is_false}
use Rattle.std.proofs.Math.Dec.{T, not_T, leb→le, nleb→lt}
use Rattle.std.proofs.Math.ListN.{get_or, length-set}
use Rattle.std.proofs.Math.Seq.{get_or-set_same}
use Rattle.base_laws.specs.Tests.{passes, lt_or_le}
use Rattle.path_pieces.specs.Pieces.{piece_length, is_within, may_start}
use Rattle.path_pieces.specs.Domain.{Candidates}
use Rattle.path_pieces.specs.DomainLaws.{piece_longer}
use Rattle.path_pieces.specs.PredecessorLaws.{within_is, start_next, start_within, start_none}
use Rattle.path_by_count_rows.specs.First.{first_passing, first_start, FirstStarts}

-- ---- the first that passes

module _ (test : ℕ → Bool) where
  -- the range is empty
  pub first-none : (i n : ℕ) → n ≡ 0 → i ≡ first_passing test i n
  unfolding first_passing
  first-none i n e = rw e

  -- the index passes
  pub first-here : (i to : ℕ) → i < to → T (test i) → i ≡ first_passing test i (to - i)
  unfolding first_passing
  first-here i to h t =
      let e : to - i ≡ suc (to - suc i) = omega arith in
      rw (e, is_true (test i) t)

  -- it does not
  pub first-after : (i to : ℕ) → i < to → T (not (test i)) → first_passing test (suc i) (to - suc i) ≡ first_passing test i (to - i)
  unfolding first_passing
  first-after i to h t =
      let e : to - i ≡ suc (to - suc i) = omega arith in
      rw (e, is_false (test i) t)

  -- any number do not
  pub first_skip : (i to : ℕ) → i ≤ to → ((k : ℕ) → k < i → T (not (test k))) → first_passing test i (to - i) ≡ first_passing test 0 to
  first_skip zero to h f = let e : to - 0 ≡ to = omega arith in rw e
  first_skip (suc i) to h f = first-after i to h (f i (le_refl (suc i))) ∙ first_skip i to (omega arith) (λ k g. f k (omega arith))

  go : (n from : ℕ) → (from ≤ first_passing test from n) × (first_passing test from n ≤ from + n)
      × ((k : ℕ) → from ≤ k → k < first_passing test from n → T (not (test k)))
      × (first_passing test from n < from + n → T (test (first_passing test from n)))
  unfolding first_passing
  go zero from = (le_refl from, omega arith, (λ k a b. absurd (omega arith)), λ h. absurd (omega arith))
  go (suc n) from =
      let after = first_passing test (suc from) n in
      elim (passes (test from)) [
        | inl t ↦ rw (is_true (test from) t) (le_refl from, omega arith, (λ k a b. absurd (omega arith)), λ h. t)
        | inr t ↦
            let g = go n (suc from) in
            rw (is_false (test from) t) (
              omega (arith, g.0),
              omega (arith, g.1),
              (λ k a b. elim (lt_or_le from k) [ inl m ↦ g.2 k m b | inr m ↦ let e : from ≡ k = omega arith in rw e at t ]),
              λ h. g.3 (omega arith),
            )
      ]

  -- it is at most the end
  pub first_high : (to : ℕ) → first_passing test 0 to ≤ to
  first_high to = omega (arith, (go to 0).1)

  -- what stands before it fails
  pub first_fails : (to k : ℕ) → k < first_passing test 0 to → T (not (test k))
  first_fails to k h = (go to 0).2 k (omega arith) h

  -- where there is one it passes
  pub first_passes : (to : ℕ) → first_passing test 0 to < to → T (test (first_passing test 0 to))
  first_passes to h = (go to 0).3 (omega arith)

-- ---- within the limit

module _ (limit : ℕ) (left right : List ℕ) where
  -- a piece over the limit is not within it
  pub within_no : (j i : ℕ) → limit < piece_length left right i j → T (not (is_within limit left right j i))
  unfolding is_within
  within_no j i h = not_T (leb (piece_length left right i j) limit) (λ (t : T (leb (piece_length left right i j) limit)).
      let g = leb→le (piece_length left right i j) limit t in omega arith)

  -- and a piece that is not within the limit is over it
  pub over_is : (j i : ℕ) → T (not (is_within limit left right j i)) → limit < piece_length left right i j
  unfolding is_within
  over_is j i t = nleb→lt (piece_length left right i j) limit t

  -- it is before j
  pub first_start_high : (j : ℕ) → first_start limit left right j ≤ j - 1
  unfolding first_start
  first_start_high j = first_high (is_within limit left right j) (j - 1)

  -- a piece from before it is over the limit
  pub first_start-over : (j i : ℕ) → i < first_start limit left right j → limit < piece_length left right i j
  unfolding first_start
  first_start-over j i h = over_is j i (first_fails (is_within limit left right j) (j - 1) i h)

  -- document 01's "piece rule" leaves nothing before it
  pub first_start-none : (j i : ℕ) → i < first_start limit left right j → T (not (may_start limit left right j i))
  unfolding first_start
  first_start-none j i h = start_none limit left right j i (first_fails (is_within limit left right j) (j - 1) i h) (omega (arith, first_start_high j))

  module _ (ok : Candidates left right) where
    -- from it on every piece may
    pub first_start-all : (j i : ℕ) → j < length left → first_start limit left right j ≤ i → i < j → T (may_start limit left right j i)
    unfolding first_start
    first_start-all j i h f g = elim (lt_or_le (suc i) j) [
      | inr m ↦ start_next limit left right j i (omega arith)
      | inl m ↦
          let first = first_start limit left right j in
          start_within limit left right j i (le_trans (piece_longer ok first i j f (omega arith))
          (within_is limit left right j first (first_passes (is_within limit left right j) (j - 1) (omega arith))))
    ]

    -- a piece that ends further on is no shorter
    pub piece_later : (i j : ℕ) → suc j < length left → piece_length left right i j ≤ piece_length left right i (suc j)
    unfolding piece_length
    piece_later i j h = omega (arith, ok.inside j (omega arith), ok.apart j h)

-- ---- the list of first starts, filled from the left: p is the first start of the candidate before j

-- what holds before candidate j's is sought
pub record Starting (limit : ℕ) (left right first : List ℕ) (p j : ℕ) : Type 0 where
  pub each : length first ≡ length left
  pub low : p < j
  pub high : j ≤ length left
  pub over : (i : ℕ) → i < p → j < length left → limit < piece_length left right i j
  pub start : (i : ℕ) → i < j → get_or first i 0 ≡ first_start limit left right i

module _ {limit : ℕ} {left right : List ℕ} (ok : Candidates left right) where
  -- at candidate 1
  pub starting : (first : List ℕ) → length first ≡ length left → Starting limit left right (set first 0 0) 0 1
  unfolding first_start first_passing
  starting first e = record {
    each = length-set first 0 0 ∙ e;
    low = omega arith;
    high = ok.some;
    over = λ i h g. absurd (omega arith);
    start = λ i h.
        let z : 0 ≡ i = omega arith in
        let f : get_or (set first 0 0) 0 0 ≡ 0 = get_or-set_same first 0 0 0 (omega (arith, e, ok.some)) in
        rw (← z) f;
  }

  -- the search from p finds the first start
  pub starting_found : {first : List ℕ} {p j : ℕ} → j < length left → Starting limit left right first p j
      → first_passing (is_within limit left right j) p (j - 1 - p) ≡ first_start limit left right j
  unfolding first_start
  starting_found {first} {p} {j} h s =
      first_skip (is_within limit left right j) p (j - 1) (omega (arith, s.low)) (λ k g. within_no limit left right j k (s.over k g h))

  -- one more
  pub starting_next : {first : List ℕ} {p j : ℕ} (r : ℕ) → j < length left → r ≡ first_passing (is_within limit left right j) p (j - 1 - p)
      → Starting limit left right first p j → Starting limit left right (set first j r) r (j + 1)
  starting_next {first} {p} {j} r h e s =
      let is : r ≡ first_start limit left right j = e ∙ starting_found h s in
      record {
        each = length-set first j r ∙ s.each;
        low = omega (arith, is, first_start_high limit left right j, s.low);
        high = omega arith;
        over = λ i g k.
            let o : limit < piece_length left right i j = first_start-over limit left right j i (omega (arith, is)) in
            let l : suc j < length left = omega arith in
            rw add-one (lt_of_lt_of_le o (piece_later limit left right ok i j l));
        start = λ i g. elim (lt_or_le i j) [
          | inl m ↦ get_or-set_other first j i r 0 (λ (q : i ≡ j). omega arith) ∙ s.start i m
          | inr m ↦ let z : j ≡ i = omega arith in rw (← z) (get_or-set_same first j r 0 (omega (arith, s.each)) ∙ is)
        ];
      }

  -- all
  pub starting_done : {first : List ℕ} {p j : ℕ} → length left ≤ j → Starting limit left right first p j → FirstStarts limit left right first
  starting_done h s = record { each = s.each; start = λ i g. s.start i (omega arith) }
