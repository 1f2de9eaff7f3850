-- The table by count: at each candidate the best score with an exact number of pieces, where the last of them starts, and the path that the table gives.
-- In words: with one piece a path comes from the first candidate, whatever its length; with k + 1 pieces the best score at j is the least of the best scores with k pieces before it,
-- at the candidates from k on, which k pieces can reach, each plus an allowed piece from there, and then the cut at j.
use Rattle.std.specs.Prelude.{List, [], ◌∷◌, ◌++◌, ℕ, zero, suc, Float}
use Rattle.path_pieces.specs.Pieces.{piece_length, no_score, with_piece, with_cut_at}
use Rattle.path_pieces.specs.declared.lengths.Lengths.{Lengths}
use Rattle.path_pieces.specs.declared.score.Score.{Score}
use Rattle.path_pieces.specs.Least.{found_score, found_index, predecessor_of}
use Rattle.path_rules.specs.Paths.{piece_count, last_candidate}

module _ (l : Lengths) (left right : List ℕ) (cut : List Float) where
  -- document 01's "best" of candidate j with exactly k pieces, the cut at j included
  unfoldable pub best_with : ℕ → ℕ → Score
  best_with zero j = no_score
  best_with (suc zero) j = with_cut_at cut j (with_piece l no_score (piece_length left right 0 j))
  best_with (suc (suc k)) j = with_cut_at cut j (found_score (predecessor_of l left right (best_with (suc k)) (suc k) j))

  -- where the last of the k pieces starts
  unfoldable pub parent_with : ℕ → ℕ → ℕ
  parent_with zero j = 0
  parent_with (suc zero) j = 0
  parent_with (suc (suc k)) j = found_index (predecessor_of l left right (best_with (suc k)) (suc k) j)

  -- the path of k pieces to candidate j
  unfoldable pub way_with : ℕ → ℕ → List ℕ
  way_with zero j = j ∷ []
  way_with (suc k) j = way_with k (parent_with (suc k) j) ++ (j ∷ [])

  -- document 01's path by count, of min(count, last index) pieces to the last candidate
  unfoldable pub best_path_by_count : ℕ → List ℕ
  best_path_by_count count = way_with (piece_count left count) (last_candidate left)

  -- document 01's score of it
  unfoldable pub best_score_by_count : ℕ → Score
  best_score_by_count count = best_with (piece_count left count) (last_candidate left)
