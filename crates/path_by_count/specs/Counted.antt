-- What the search by count needs and leaves.
use Rattle.std.specs.Prelude.{◌≡◌, List, ℕ, ◌≤◌, Float, length}
use Rattle.base_terms.specs.Layout.{end_by_count}
use Rattle.base_terms.specs.Lists.{onto}
use Rattle.path_pieces.specs.Domain.{Searchable}
use Rattle.path_pieces.specs.declared.lengths.Lengths.{Lengths}
use Rattle.path_pieces.specs.declared.score.Score.{Score}
use Rattle.path_rules.specs.Paths.{last_candidate}
use Rattle.path_by_count.specs.Table.{best_with, way_with, best_path_by_count, best_score_by_count}
use Rattle.path_rules.specs.declared.solved.Solved.{Solved}
use Rattle.path_by_count_rows.specs.Rows.{behind}
use Rattle.path_by_count.specs.Walk.{way_in, Back}

-- candidates, and two lists with room for the tree and the entries behind it; the costs of the cuts are there already
pub record TreeRoom (l : Lengths) (left right : List ℕ) (over : List ℕ) (cost : List Float) : Type 0 where
  pub domain : Searchable l left right (behind (length left) cost)
  pub overs : end_by_count (length left) ≤ length over
  pub costs : end_by_count (length left) ≤ length cost

module _ (l : Lengths) (left right : List ℕ) (cut : List Float) where
  -- the score of the best path of some pieces to the last candidate, and parents that lead back along it
  pub record FoundCounted (parent : List ℕ) (pieces : ℕ) (score : Score) : Type 0 where
    pub is : score ≡ best_with l left right cut pieces (last_candidate left)
    pub back : Back parent (length left) pieces
    pub way : way_in parent (length left) pieces (last_candidate left) ≡ way_with l left right cut pieces (last_candidate left)

  -- the score and the number of candidates of the path by count, which is written to the front of the last list
  pub record SolutionByCount (count : ℕ) (path₀ path : List ℕ) (answer : Solved) : Type 0 where
    pub score : answer.score ≡ best_score_by_count l left right cut count
    pub count_is : answer.len ≡ length (best_path_by_count l left right cut count)
    pub written : path ≡ onto (best_path_by_count l left right cut count) path₀
