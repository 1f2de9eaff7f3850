-- What the walk back from a candidate over its predecessors needs and leaves: the best of those passed, and that the rest are not below the minimum.
use Rattle.std.specs.Prelude.{◌≡◌, Bool, false, ◌&&◌, List, ℕ, ◌≤◌, ◌<◌, T, Float, length, get_or, Some}
use Rattle.std.specs.Float.{nan}
use Rattle.base_terms.specs.Floats.{nonneg}
use Rattle.path_pieces.specs.Pieces.{no_score, piece_length, is_within, IsShort, passes_target, with_piece, arrival, score_at, less_than}
use Rattle.path_pieces.specs.Domain.{Candidates, Preferred}
use Rattle.path_pieces.specs.declared.lengths.Lengths.{Lengths}
use Rattle.path_pieces.specs.declared.score.Score.{Score}
use Rattle.path_pieces.specs.declared.best.Best.{Best}
use Rattle.path_pieces.specs.Least.{BestSoFar}

-- what the search for a predecessor of candidate j reads: candidates in order, and a score for each before j, of no more pieces over the limit than there are pieces
pub record Scored (left right over : List ℕ) (cost : List Float) (j : ℕ) : Type 0 where
  pub candidates : Candidates left right
  pub inside : j < length left
  pub overs : j ≤ length over
  pub costs : j ≤ length cost
  pub few : (k : ℕ) → k < j → get_or over k 0 ≤ k

-- the costs of the scores before candidate j are not negative, nor is that of a length
pub record Costed (l : Lengths) (cost : List Float) (j : ℕ) : Type 0 where
  pub preferred : Preferred l
  pub cost_nonneg : (k : ℕ) → k < j → T (nonneg (get_or cost k nan))

module _ (l : Lengths) (left right : List ℕ) where
  -- `best` is the best predecessor of candidate j among the candidates from i on whose piece is within the limit
  pub record Walked (over : List ℕ) (cost : List Float) (from j : ℕ) (best : Best) (i : ℕ) : Type 0 where
    pub so_far : BestSoFar (is_within l.limit left right j) (arrival l left right (score_at over cost) j) from j (Some best) i
    pub number : T (nonneg best.score.cost)

  -- of the candidates from..i, none has a piece to j within the limit that is below the minimum
  pub record Long (from j i : ℕ) : Type 0 where
    pub none_short : (k : ℕ) → from ≤ k → k < i → T (is_within l.limit left right j k) → IsShort l (piece_length left right k j) ≡ false

-- past the target, a piece of this length alone is worse than the best so far
abbrev pub is_beyond : Lengths → Score → ℕ → Bool
is_beyond l best len = passes_target l len && less_than best (with_piece l no_score len)
