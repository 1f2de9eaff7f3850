-- Where a piece that ends at a given place may start: candidates in order, with the scores of a row of the table.
use Rattle.std.specs.Prelude.{ℕ, ◌+◌, ◌-◌, ◌≤◌, ◌<◌, List, T, Float, length, get_or}
use Rattle.std.specs.Float.{nan}
use Rattle.base_terms.specs.Floats.{nonneg}
use Rattle.base_terms.specs.Limits.{max_len}
use Rattle.path_pieces.specs.Limits.{max_index}
use Rattle.path_pieces.specs.Pieces.{length_weights, with_piece, score_at}
use Rattle.path_pieces.specs.Domain.{Preferred}
use Rattle.path_pieces.specs.declared.lengths.Lengths.{Lengths}
use Rattle.path_pieces.specs.declared.score.Score.{Score}

-- the score of a path that comes from candidate i where the piece ends at the place `end`, and the score of candidate i stands at index base + i of two lists
abbrev pub arrival_at : Lengths → List ℕ → List ℕ → List Float → ℕ → ℕ → ℕ → Score
arrival_at l right over cost base end i = with_piece l (score_at over cost (base + i)) (end - get_or right i 0)

-- the preferences that a search holds: all that a length's cost looks at, without the weights of a cut
abbrev pub lengths_held : Lengths → Lengths
lengths_held l =
    record { min = l.min; target = l.target; limit = l.limit; weights = length_weights l.weights.target l.weights.short }

-- the candidates below `to`, none behind the place `end`, and their scores
pub record Starts (l : Lengths) (right over : List ℕ) (cost : List Float) (base to end : ℕ) : Type 0 where
  pub preferred : Preferred l
  pub rights : to ≤ length right
  pub rise : (i k : ℕ) → i ≤ k → k < to → get_or right i 0 ≤ get_or right k 0
  pub behind : (i : ℕ) → i < to → get_or right i 0 ≤ end
  pub bounded : end ≤ max_len
  pub overs : base + to ≤ length over
  pub costs : base + to ≤ length cost
  pub few : (i : ℕ) → i < to → get_or over (base + i) 0 ≤ max_index
  pub fine : (i : ℕ) → i < to → T (nonneg (get_or cost (base + i) nan))

-- one of them: its right end at index i, and its own score at index `node`
pub record Start (right over : List ℕ) (cost : List Float) (node i end : ℕ) : Type 0 where
  pub in_right : i < length right
  pub in_over : node < length over
  pub in_cost : node < length cost
  pub behind : get_or right i 0 ≤ end
  pub bounded : end ≤ max_len
  pub few : get_or over node 0 ≤ max_index
