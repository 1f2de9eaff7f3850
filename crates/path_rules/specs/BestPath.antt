-- Document 01's best path, all of it: allowed, of least score, and the one that follows the tie rule. Each search has a file Theorems that shows it of the path found.
use Rattle.std.specs.Prelude.{◌≡◌, List, ℕ, suc, T, Float, length}
use Rattle.path_pieces.specs.Pieces.{at_most}
use Rattle.path_pieces.specs.declared.lengths.Lengths.{Lengths}
use Rattle.path_pieces.specs.declared.score.Score.{Score}
use Rattle.path_rules.specs.Paths.{piece_count, PathByLength, PathByCount, path_score}
use Rattle.path_rules.specs.Ties.{OwnBest, TieRule, OwnBestByCount, TieRuleByCount}

module _ (l : Lengths) (left right : List ℕ) (cost : List Float) where
  -- by length
  pub record BestPathByLength (path : List ℕ) : Type 0 where
    -- from the first candidate to the last, each piece allowed
    pub allowed : PathByLength l.limit left right path
    -- its score, added left to right, is the least of all allowed paths
    pub least : (other : List ℕ) → PathByLength l.limit left right other → T (at_most (path_score l left right cost path) (path_score l left right cost other))
    -- there are own best scores; by whatever own best scores it follows the tie rule, and no other path does
    pub scored : (own : ℕ → Score) × OwnBest l left right cost own
    pub tie : {own : ℕ → Score} → OwnBest l left right cost own → TieRule l left right own path
    pub only : {own : ℕ → Score} → OwnBest l left right cost own → (other : List ℕ) → TieRule l left right own other → other ≡ path

  -- by count
  pub record BestPathByCount (count : ℕ) (path : List ℕ) : Type 0 where
    -- from the first candidate to the last, in min(count, last index) pieces, each allowed
    pub allowed : PathByCount count l.limit left right path
    pub least : (other : List ℕ) → PathByCount count l.limit left right other → T (at_most (path_score l left right cost path) (path_score l left right cost other))
    pub scored : (own : ℕ → ℕ → Score) × OwnBestByCount l left right cost own
    pub tie : {own : ℕ → ℕ → Score} → OwnBestByCount l left right cost own → TieRuleByCount l left right own path
    pub only : {own : ℕ → ℕ → Score} → OwnBestByCount l left right cost own → (other : List ℕ) → TieRuleByCount l left right own other
        → length other ≡ suc (piece_count left count) → other ≡ path
