-- What the domain gives: ends and lengths are in order and within bounds, scores compare as a total preorder, and one more piece or cut keeps their order.
-- Past the minimum and the target the length cost rises: it is then the bound of all longer lengths.
use Rattle.std.specs.Prelude.{◌≡◌, ◌⊎◌, not, List, ℕ, zero, suc, ◌≤◌, ◌<◌, ltb, pos, Float, length, get_or}
use Rattle.std.proofs.Common.{ap, le_trans, le_of_eq, le_of_suc-le-suc, lit≤}
use Rattle.std.proofs.Math.Path.{subst}
use Rattle.std.proofs.Math.Logic.{inl, inr}
use Rattle.std.proofs.Math.Bool.{true, false}
use native.Mathlib.Omega.{arith}
use borrow.Author.Tests.{lt-ltb, le-ltb, eq-eqb}
use Rattle.std.proofs.Math.Dec.{T}
use Rattle.std.specs.Float.{nan}
use Rattle.std.specs.Float.Ieee.{binary64, le, lt, of_int}
use Rattle.base_laws.specs.Tests.{same_test, holds, lt_or_le, tested}
use Rattle.base_laws.specs.Order.{float_le_refl, float_le-lt_trans}
use Rattle.base_laws.specs.Whole.{whole_mono}
use Rattle.base_terms.specs.Floats.{nought, nonneg}
use Rattle.base_laws.specs.Nonneg.{nought-nonneg, nonneg-number}
use Rattle.base_laws.specs.Clamp.{clamp_below}
use Rattle.base_laws.specs.Sums.{float_add-nonneg}
use Rattle.base_terms.specs.Lengths.{length_cost, length_bound}
use Rattle.base_laws.specs.Lengths.{length_whole, length_cost-nonneg, length_bound_least}
use Rattle.base_terms.specs.Scores.{score_le}
use Rattle.base_laws.specs.Scores.{score-over, score_bound, score_refl, score-total, score_trans, score_lt_is, score_lt-le, score_piece, score-cut}
use Rattle.base_terms.specs.Limits.{max_len}
use Rattle.path_pieces.specs.Pieces.{no_score, piece_length, length_cost_of, IsShort, passes_target, over_of, with_piece, with_cut, with_cut_at, at_most, less_than}
use Rattle.path_pieces.specs.PiecesLaws.{over_mono}
use Rattle.path_pieces.specs.Domain.{Candidates, Costs, Preferred}
use Rattle.path_pieces.specs.declared.lengths.Lengths.{Lengths}
use Rattle.path_pieces.specs.declared.score.Score.{Score}

-- ---- ends and lengths

-- a length that is not below the minimum is followed by no longer one that is
long_stays : (l : Lengths) (len more : ℕ) → len ≤ more → IsShort l len ≡ false → IsShort l more ≡ false
long_stays l len more h e =
    let x = of_int binary64 (pos len) in
    let y = of_int binary64 (pos more) in
    same_test (lt y l.min) false (λ t. subst T e (float_le-lt_trans x y l.min (whole_mono binary64 len more h) t)) (λ t. absurd t)

module _ {left right : List ℕ} (ok : Candidates left right) where
  -- right ends are in order
  pub rights_rise : (i j : ℕ) → i ≤ j → j < length left → get_or right i 0 ≤ get_or right j 0
  rights_rise i zero h k = let e : i ≡ zero = omega arith in le_of_eq (ap (λ (n : ℕ). get_or right n 0) e)
  rights_rise i (suc j) h k = elim (lt_or_le i (suc j)) [
    | inl l ↦ le_trans (rights_rise i j (le_of_suc-le-suc l) (omega arith)) (le_trans (ok.apart j k) (ok.inside (suc j) k))
    | inr g ↦ let e : i ≡ suc j = omega arith in le_of_eq (ap (λ (n : ℕ). get_or right n 0) e)
  ]

  -- the right end of a candidate is not above the left end of a later one
  pub ends_rise : (i j : ℕ) → i < j → j < length left → get_or right i 0 ≤ get_or left j 0
  ends_rise i zero h k = absurd (omega arith)
  ends_rise i (suc j) h k = le_trans (rights_rise i j (le_of_suc-le-suc h) (omega arith)) (ok.apart j k)

  -- a left end is within the bound
  pub left_bounded : (j : ℕ) → j < length left → get_or left j 0 ≤ max_len
  left_bounded j h = le_trans (ok.inside j h) (ok.bounded j h)

  -- so is a piece's length
  pub piece_bounded : (i j : ℕ) → j < length left → piece_length left right i j ≤ max_len
  unfolding piece_length
  piece_bounded i j h = omega (arith, left_bounded j h)

  -- a piece that starts further back is no shorter
  pub piece_longer : (i k j : ℕ) → i ≤ k → k < length left → piece_length left right k j ≤ piece_length left right i j
  unfolding piece_length
  piece_longer i k j h l = omega (arith, rights_rise i k h l)

  -- so where a piece is not below the minimum, none from further back is
  pub piece_long : (l : Lengths) (i k j : ℕ) → i ≤ k → k < length left → IsShort l (piece_length left right k j) ≡ false
      → IsShort l (piece_length left right i j) ≡ false
  piece_long l i k j h g e = long_stays l (piece_length left right k j) (piece_length left right i j) (piece_longer i k j h g) e

-- ---- scores in order: a score whose cost is not negative is a number's

-- at most itself
pub at_most_refl : (a : Score) → T (nonneg a.cost) → T (at_most a a)
at_most_refl a p = score_refl a.over a.cost (nonneg-number a.cost p)

-- at most chains
pub at_most_trans : (a b c : Score) → T (at_most a b) → T (at_most b c) → T (at_most a c)
at_most_trans a b c h k = score_trans a.over a.cost b.over b.cost c.over c.cost h k

-- of two, one is at most the other
pub at_most-total : (a b : Score) → T (nonneg a.cost) → T (nonneg b.cost) → T (at_most a b) ⊎ T (at_most b a)
at_most-total a b p q =
    score-total a.over a.cost b.over b.cost (nonneg-number a.cost p) (nonneg-number b.cost q)

-- better is not at least
pub less_than_is : (a b : Score) → T (nonneg a.cost) → T (nonneg b.cost) → less_than a b ≡ not (at_most b a)
less_than_is a b p q =
    score_lt_is a.over a.cost b.over b.cost (nonneg-number a.cost p) (nonneg-number b.cost q)

-- better is at most
pub less_at_most : (a b : Score) → T (less_than a b) → T (at_most a b)
less_at_most a b h = score_lt-le a.over a.cost b.over b.cost h

-- a score that is at most another has no more pieces over the limit
pub over-le : (a b : Score) → T (at_most a b) → a.over ≤ b.over
over-le a b h = score-over a.over a.cost b.over b.cost h

-- ---- one more piece

module _ {l : Lengths} (ok : Preferred l) where
  -- a length's cost is not negative
  pub length_nonneg : (len : ℕ) → len ≤ max_len → T (nonneg (length_cost_of l len))
  unfolding length_cost_of
  length_nonneg len h = length_cost-nonneg ok.preferences (length_whole binary64 len (le_trans h (lit≤ tt)))

  -- nor is the cost after one more piece
  pub piece_nonneg : (s : Score) (len : ℕ) → len ≤ max_len → T (nonneg s.cost) → T (nonneg (with_piece l s len).cost)
  unfolding with_piece
  piece_nonneg s len h p = float_add-nonneg binary64 s.cost (length_cost_of l len) p (length_nonneg len h)

  -- the same piece keeps the order
  pub piece_keeps : (s t : Score) (len : ℕ) → len ≤ max_len → T (nonneg s.cost) → T (at_most s t) → T (at_most (with_piece l s len) (with_piece l t len))
  unfolding with_piece
  piece_keeps s t len h p k =
      score_piece binary64 s.over s.cost t.over t.cost (over_of l.limit len) (length_cost_of l len) p (length_nonneg len h) k

  -- past the minimum and the target, a longer piece costs no less
  pub length_rises : (len more : ℕ) → len ≤ more → more ≤ max_len → IsShort l len ≡ false → passes_target l len ≡ true
      → T (le (length_cost_of l len) (length_cost_of l more))
  unfolding length_cost_of
  length_rises len more h g e p =
      let x = of_int binary64 (pos len) in
      let y = of_int binary64 (pos more) in
      let r : T (le x y) = whole_mono binary64 len more h in
      let y_ok = length_whole binary64 more (le_trans g (lit≤ tt)) in
      subst (λ (z : Float). T (le z (length_cost binary64 l.weights.target l.weights.short l.min l.target y)))
      (bound_is x y r e (long_stays l len more h e) p)
      (length_bound_least ok.preferences x y y_ok r (float_le_refl y (nonneg-number y y_ok.length_nonneg)))
    where
      bound_is : (x y : Float) → T (le x y) → lt x l.min ≡ false → lt y l.min ≡ false → lt l.target x ≡ true
          → length_bound binary64 l.weights.target l.weights.short l.min l.target x y
          ≡ length_cost binary64 l.weights.target l.weights.short l.min l.target x
      bound_is x y r e e' p = unfold length_bound length_cost in rw (clamp_below l.target x y (holds p) r, e, e')

  -- so the piece alone is at most any score with a longer one
  pub piece_alone : (s : Score) (len more : ℕ) → T (nonneg s.cost) → len ≤ more → more ≤ max_len → IsShort l len ≡ false → passes_target l len ≡ true
      → T (at_most (with_piece l no_score len) (with_piece l s more))
  unfolding with_piece
  piece_alone s len more q h g e p =
      score_bound binary64 0 nought s.over s.cost (over_of l.limit len) (over_of l.limit more) (length_cost_of l len) (length_cost_of l more)
      nought-nonneg (length_nonneg len (le_trans h g)) (over_mono l.limit len more h) (length_rises len more h g e p) none_least
    where
      none_least : T (score_le 0 nought s.over s.cost)
      none_least = elim (lt_or_le 0 s.over) [
        | inl k ↦ rw (lt-ltb 0 s.over k) tt
        | inr k ↦ let z : 0 ≡ s.over = omega arith in rw (le-ltb 0 s.over k, eq-eqb 0 s.over z) q
      ]

-- ---- one more cut

-- the cost after it is not negative
pub cut-nonneg : (s : Score) (cut : Float) → T (nonneg s.cost) → T (nonneg cut) → T (nonneg (with_cut s cut).cost)
unfolding with_cut
cut-nonneg s cut p q = float_add-nonneg binary64 s.cost cut p q

-- the same cut keeps the order
pub cut_keeps : (s t : Score) (cut : Float) → T (nonneg s.cost) → T (nonneg cut) → T (at_most s t) → T (at_most (with_cut s cut) (with_cut t cut))
unfolding with_cut
cut_keeps s t cut p q h = score-cut binary64 s.over s.cost t.over t.cost cut p q h

-- ---- the cut at a candidate, where there is one

module _ {cut : List Float} {n : ℕ} (ok : Costs cut n) (j : ℕ) (h : j < n) where
  -- it keeps the cost from being negative
  pub cut_at-nonneg : (s : Score) → T (nonneg s.cost) → T (nonneg (with_cut_at cut j s).cost)
  unfolding with_cut_at
  cut_at-nonneg s p = elim (tested (ltb (suc j) (length cut))) [ inl e ↦ rw e (cut-nonneg s (get_or cut j nan) p (ok.cost_nonneg j h)) | inr e ↦ rw e p ]

  -- and keeps the order
  pub cut_at-keeps : (s t : Score) → T (nonneg s.cost) → T (at_most s t) → T (at_most (with_cut_at cut j s) (with_cut_at cut j t))
  unfolding with_cut_at
  cut_at-keeps s t p k = elim (tested (ltb (suc j) (length cut))) [ inl e ↦ rw e (cut_keeps s t (get_or cut j nan) p (ok.cost_nonneg j h) k) | inr e ↦ rw e k ]
