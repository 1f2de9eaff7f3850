-- Laws of the walk back over the predecessors of a candidate: how it starts, goes on and ends. Pieces get no shorter on the way, so one that is not below
-- the minimum is followed by no other that is.
use Rattle.std.specs.Prelude.{◌≡◌, Bool, true, false, not, List, ℕ, ◌-◌, ◌≤◌, ◌<◌, T, Float, Some}
use Rattle.std.proofs.Common.{subst, arith, T_not}
use Rattle.std.specs.Float.Ieee.{lt, le}
use Rattle.base_laws.specs.Tests.{same_test, holds, both}
use Rattle.base_laws.specs.Order.{float_not_lt, float_le_not_lt}
use Rattle.base_terms.specs.Floats.{nonneg}
use Rattle.base_laws.specs.Nonneg.{nonneg-number}
use Rattle.base_laws.specs.Scores.{score_lt-le_trans}
use Rattle.path_pieces.specs.Pieces.{no_score, piece_length, is_within, IsShort, passes_target, with_piece, arrival, score_at, less_than}
use Rattle.path_pieces.specs.DomainLaws.{piece_bounded, piece_longer, piece_long, piece_nonneg, piece_alone, less_than_is}
use Rattle.path_pieces.specs.declared.lengths.Lengths.{Lengths}
use Rattle.path_pieces.specs.declared.score.Score.{Score}
use Rattle.path_pieces.specs.declared.best.Best.{Best}
use Rattle.path_pieces.specs.Least.{or_better, entry}
use Rattle.path_pieces.specs.LeastLaws.{least_worse, so_far_start, so_far_next, so_far_stop, so_far_done}
use Rattle.path_pieces.specs.PredecessorLaws.{within_yes, within_none}
use Rattle.path_by_length_search.specs.Backward.{Scored, Costed, Walked, Long, is_beyond}

-- ---- one candidate more

-- costs that are no NaN: one is at most the other where the other is not below it
pub cost_at_most : (x y : Float) → T (nonneg x) → T (nonneg y) → le x y ≡ not (lt y x)
cost_at_most x y p q = same_test (le x y) (not (lt y x)) (float_le_not_lt y x) (float_not_lt y x (nonneg-number y q) (nonneg-number x p))

module _ {l : Lengths} {left right over : List ℕ} {cost : List Float} {j : ℕ} (ok : Scored left right over cost j) (costed : Costed l cost j) where
  abbrev test : ℕ → Bool
  test = is_within l.limit left right j

  abbrev score : ℕ → Score
  score = arrival l left right (score_at over cost) j

  -- the score through a candidate before j is no NaN
  pub score-number : (k : ℕ) → k < j → T (nonneg (score k).cost)
  score-number k h =
      piece_nonneg costed.preferred (score_at over cost k) (piece_length left right k j) (piece_bounded ok.candidates k j ok.inside) (costed.cost_nonneg k h)

  -- the walk starts just before j
  pub walked_first : (from : ℕ) → from < j → piece_length left right (j - 1) j ≤ l.limit → Walked l left right over cost from j (entry score (j - 1)) (j - 1)
  walked_first from h g = record {
    so_far = so_far_next test score from j _ j h (within_yes l.limit left right j (j - 1) g) (so_far_start test score from j);
    number = score-number (j - 1) (omega arith);
  }

  module _ {from : ℕ} {best : Best} {i : ℕ} (w : Walked l left right over cost from j best i) where
    -- it goes on by one candidate
    pub walked_next : (next : Best) → from < i → piece_length left right (i - 1) j ≤ l.limit → Some next ≡ or_better (entry score (i - 1)) (Some best)
        → T (nonneg next.score.cost) → Walked l left right over cost from j next (i - 1)
    walked_next next h g e p = record {
      so_far = rw e (so_far_next test score from j (Some best) i h (within_yes l.limit left right j (i - 1) g) w.so_far);
      number = p;
    }

    -- it ends where a piece is over the limit
    pub walked_stop : from ≤ j → from < i → l.limit < piece_length left right (i - 1) j → Walked l left right over cost from j best from
    walked_stop g h o = record {
      so_far = (
        g,
        omega arith,
        so_far_stop test score from j (Some best) i h
            (λ k m. within_none l.limit left right j (i - 1) ok.candidates (omega (arith, w.so_far.0, ok.inside)) o k (omega arith)) w.so_far,
      );
      number = w.number;
    }

    -- or where no candidate is left
    pub walked_done : from ≤ j → i ≤ from → Walked l left right over cost from j best from
    walked_done g h = record {
      so_far = (g, omega arith, so_far_done test score from j (Some best) i h w.so_far);
      number = w.number;
    }

    -- or where the rest can do no better
    pub walked_beyond : from ≤ j → from < i → IsShort l (piece_length left right (i - 1) j) ≡ false
        → is_beyond l best.score (piece_length left right (i - 1) j) ≡ true → Walked l left right over cost from j best from
    walked_beyond g h e b =
        let len = piece_length left right (i - 1) j in
        let alone = with_piece l no_score len in
        let (p, q) = both (passes_target l len) (less_than best.score alone) b in
        record {
          so_far = (
            g,
            omega arith,
            least_worse test score from i j best (omega arith) w.so_far.0 w.so_far.2
                (λ k a m.
                let low = piece_alone costed.preferred (score_at over cost k) len (piece_length left right k j) (costed.cost_nonneg k (omega (arith, w.so_far.0)))
                (piece_longer ok.candidates k (i - 1) j (omega arith) (omega (arith, w.so_far.0, ok.inside)))
                (piece_bounded ok.candidates k j ok.inside) e p in
                subst T (less_than_is best.score (score k) w.number (score-number k (omega (arith, w.so_far.0))))
                (score_lt-le_trans best.score.over best.score.cost alone.over alone.cost (score k).over (score k).cost (holds q) low)),
          );
          number = w.number;
        }

    -- ---- the pieces below the minimum are passed

    -- where one is over the limit
    pub long_over : from < i → l.limit < piece_length left right (i - 1) j → Long l left right from j i
    long_over h o = record {
      none_short = λ k a b t. absurd
          (T_not (test k) (within_none l.limit left right j (i - 1) ok.candidates (omega (arith, w.so_far.0, ok.inside)) o k (omega arith)) t);
    }

    -- where one is not below it
    pub long_met : from < i → IsShort l (piece_length left right (i - 1) j) ≡ false → Long l left right from j i
    long_met h e = record {
      none_short = λ k a b t. piece_long ok.candidates l k (i - 1) j (omega arith) (omega (arith, w.so_far.0, ok.inside)) e;
    }

-- where no candidate is left
pub long_none : (l : Lengths) (left right : List ℕ) (from j i : ℕ) → i ≤ from → Long l left right from j i
long_none l left right from j i h = record { none_short = λ k a b t. absurd (omega arith) }

-- in a part of the candidates
pub long_part : {l : Lengths} {left right : List ℕ} {from j i : ℕ} (from' i' : ℕ) → from ≤ from' → i' ≤ i → Long l left right from j i → Long l left right from' j i'
long_part from' i' h g ok = record { none_short = λ k a b t. ok.none_short k (omega arith) (omega arith) t }

-- the same walk towards another end
pub walked_from : {l : Lengths} {left right over : List ℕ} {cost : List Float} {from j : ℕ} {best : Best} {i : ℕ} (from' : ℕ) → from' ≤ i
    → Walked l left right over cost from j best i → Walked l left right over cost from' j best i
walked_from from' h w = record { so_far = (w.so_far.0, omega arith, w.so_far.2); number = w.number }
