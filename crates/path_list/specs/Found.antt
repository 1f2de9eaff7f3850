-- What is claimed of a path that the operation found: that it is document 01's best path. Theorems proves it of every answer.
-- `before` is what the output held, `after` what it holds; s is the answer, the path's score and the number of its candidates, which stand at the front of the output.
use Rattle.std.specs.Prelude.{◌≡◌, List, ℕ, ◌≤◌, Float, length, take}
use Rattle.base_terms.specs.Lists.{onto}
use Rattle.path_pieces.specs.declared.lengths.Lengths.{Lengths}
use Rattle.path_rules.specs.Paths.{path_score}
use Rattle.path_rules.specs.BestPath.{BestPathByLength, BestPathByCount}
use Rattle.path_rules.specs.declared.solved.Solved.{Solved}

-- the path stands at the front of the output, and nothing beyond it has changed
pub record PathWritten (before after : List ℕ) (s : Solved) : Type 0 where
  pub fits : s.len ≤ length before
  pub written : after ≡ onto (take s.len after) before

-- document 01's path by length
pub record FoundByLength (l : Lengths) (left right : List ℕ) (cost : List Float) (before after : List ℕ) (s : Solved) : Type 0 where
  pub output : PathWritten before after s
  -- allowed, of least score, and the one path of the tie rule
  pub best : BestPathByLength l left right cost (take s.len after)
  -- its score, added left to right, is the one answered
  pub score : path_score l left right cost (take s.len after) ≡ s.score

-- document 01's path by count
pub record FoundByCount (count : ℕ) (l : Lengths) (left right : List ℕ) (cost : List Float) (before after : List ℕ) (s : Solved) : Type 0 where
  pub output : PathWritten before after s
  pub best : BestPathByCount l left right cost count (take s.len after)
  pub score : path_score l left right cost (take s.len after) ≡ s.score
