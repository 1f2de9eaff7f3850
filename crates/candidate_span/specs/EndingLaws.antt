-- What a search for the first silence that does not end before a boundary goes by: the list in pairs, one for each silence.
use Rattle.std.specs.Prelude.{◌≡◌, List, [], ℕ, ◌≤◌, ◌<◌, Bool, true, false, ltb, length, get_or}
use Rattle.std.proofs.Common.{inl, inr, arith, lt-ltb, ltb-true, ltb-false}
use Rattle.std.specs.Simd.{first_chunks}
use Rattle.std.specs.List.Sorted.{IsPartitionedBy, IsPartitionPoint}
use Rattle.base_laws.specs.Tests.{lt_or_le}
use Rattle.candidate_span.specs.Listed.{silence_count, end_at}
use Rattle.candidate_span.specs.ListedLaws.{Listed, listed-own, listed_apart, pair_at}
use Rattle.candidate_span.specs.Ending.{EndsRise, FirstEnding}

-- the silences of a recording end one after another
pub listed_rise : (n : ℕ) (ss : List ℕ) → Listed n ss → EndsRise ss
listed_rise n ss l = record { rise = λ (i j : ℕ) (h : i < j) (m : j < silence_count ss). omega (arith, listed_apart l i j h m, listed-own l j m) }

-- the silence of this pair ends before boundary k
abbrev pub ends_before : ℕ → List ℕ → Bool
ends_before k pair = ltb (get_or pair 1 0) k

module _ (ss : List ℕ) (k : ℕ) (pairs : List (List ℕ)) (is : pairs ≡ first_chunks 2 (silence_count ss) ss) (many : length pairs ≡ silence_count ss) where
  ends : (i : ℕ) (d : List ℕ) → i < length pairs → get_or (get_or pairs i d) 1 0 ≡ end_at ss i
  ends i d h = rw is (pair_at (silence_count ss) ss i 1 d (omega (arith, many)) (omega arith) (omega arith))

  -- as ends rise, the silences that end before k come first
  pub ends_parted : EndsRise ss → IsPartitionedBy (ends_before k) pairs
  ends_parted r i j d h l t = elim (lt_or_le i j) [
    | inl q ↦ lt-ltb (get_or (get_or pairs i d) 1 0) k (omega (arith, ends i d (omega arith), ends j d l, r.rise i j q (omega (arith, many)), ltb-true (get_or (get_or pairs j d) 1 0) k t))
    | inr q ↦ let e : i ≡ j = omega arith in rw e t
  ]

  -- so where they end is the first that does not end before k
  pub ends_first : (i : ℕ) → i ≤ length pairs → IsPartitionPoint (λ y. ends_before k y ≡ true) (λ y. ends_before k y ≡ false) pairs i → FirstEnding ss k i
  ends_first i h p = record {
    within = omega (arith, many);
    before = λ (j : ℕ) (l : j < i). omega (arith, ends j [] (omega arith), ltb-true (get_or (get_or pairs j []) 1 0) k (p.0 j [] (omega arith) l));
    from = λ (j : ℕ) (a : i ≤ j) (b : j < silence_count ss). omega (arith, ends j [] (omega (arith, many)), ltb-false (get_or (get_or pairs j []) 1 0) k (p.1 j [] a (omega (arith, many))));
  }
