-- A path that is held in work memory.
use Rattle.std.specs.Prelude.{◌≡◌, List, ℕ, length, take, drop}
use Rattle.base_terms.specs.Lists.{onto}
use Rattle.path_pieces.specs.declared.score.Score.{Score}
use Rattle.path_rules.specs.declared.solved.Solved.{Solved}

-- the answer is the score of the path `best` and the number of its candidates; the path stands from `at` on, nothing is written beyond it, and what
-- stands before the search's part is as it was
pub record PathHeld (search at : ℕ) (best : List ℕ) (score : Score) (work₀ work : List ℕ) (answer : Solved) : Type 0 where
  pub score_is : answer.score ≡ score
  pub count_is : answer.len ≡ length best
  pub held : drop at work ≡ onto best (drop at work₀)
  pub before : take search work ≡ take search work₀
  pub same : length work ≡ length work₀
