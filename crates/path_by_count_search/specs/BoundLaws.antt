-- The bound is at most every score of its range: its parts are in order, and one more piece keeps the order of scores.
use Rattle.std.specs.Prelude.{ℕ, ◌≤◌, T, pos}
use Rattle.std.proofs.Common.{le_trans, lit≤}
use Rattle.std.specs.Float.Ieee.{binary64, of_int, le}
use Rattle.base_terms.specs.Floats.{nonneg}
use Rattle.base_laws.specs.Sums.{float_add-nonneg}
use Rattle.base_laws.specs.Whole.{whole_mono}
use Rattle.base_laws.specs.Lengths.{length_whole, length_bound-nonneg, length_bound_least}
use Rattle.base_laws.specs.Scores.{score_bound}
use Rattle.base_terms.specs.Limits.{max_len}
use Rattle.path_pieces.specs.Pieces.{length_cost_of, over_of, with_piece, at_most}
use Rattle.path_pieces.specs.PiecesLaws.{over_mono}
use Rattle.path_pieces.specs.Domain.{Preferred}
use Rattle.path_pieces.specs.declared.lengths.Lengths.{Lengths}
use Rattle.path_pieces.specs.declared.score.Score.{Score}
use Rattle.path_by_count_search.specs.Bound.{length_bound_of, with_bound}

module _ {l : Lengths} (ok : Preferred l) where
  -- the bound of a length's cost is not negative
  pub length_bound_fine : (shortest longest : ℕ) → shortest ≤ longest → longest ≤ max_len → T (nonneg (length_bound_of l shortest longest))
  unfolding length_bound_of
  length_bound_fine a b h k =
      length_bound-nonneg ok.preferences (of_int binary64 (pos b)) (length_whole binary64 a (le_trans h (le_trans k (lit≤ tt)))) (whole_mono binary64 a b h)

  -- so is that of a score
  pub bound_nonneg : (s : Score) (shortest longest : ℕ) → shortest ≤ longest → longest ≤ max_len → T (nonneg s.cost)
      → T (nonneg (with_bound l s shortest longest).cost)
  unfolding with_bound
  bound_nonneg s a b h k p = float_add-nonneg binary64 s.cost (length_bound_of l a b) p (length_bound_fine a b h k)

  -- it is at most the cost of each length between
  pub length_bound_below : (shortest len longest : ℕ) → shortest ≤ len → len ≤ longest → longest ≤ max_len
      → T (le (length_bound_of l shortest longest) (length_cost_of l len))
  unfolding length_bound_of length_cost_of
  length_bound_below a len b h g k =
      length_bound_least ok.preferences (of_int binary64 (pos a)) (of_int binary64 (pos b)) (length_whole binary64 len (le_trans g (le_trans k (lit≤ tt))))
      (whole_mono binary64 a len h) (whole_mono binary64 len b g)

  -- the bound is at most what a piece of a length between gives, after a score that is no less
  pub bound_least : (s t : Score) (shortest len longest : ℕ) → shortest ≤ len → len ≤ longest → longest ≤ max_len → T (nonneg s.cost) → T (at_most s t)
      → T (at_most (with_bound l s shortest longest) (with_piece l t len))
  unfolding with_bound with_piece
  bound_least s t a len b h g k p m =
      score_bound binary64 s.over s.cost t.over t.cost (over_of l.limit a) (over_of l.limit len) (length_bound_of l a b) (length_cost_of l len) p
      (length_bound_fine a b (le_trans h g) k) (over_mono l.limit a len h) (length_bound_below a len b h g k) m
