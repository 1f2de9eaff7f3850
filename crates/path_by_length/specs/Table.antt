-- The table by length: at each candidate the best score, and where the last piece of the best path to it starts; and the path that the table gives.
-- In words: the best score at j is the least of the best scores before it, each plus the piece from there, and then the cut at j.
use Rattle.std.specs.Prelude.{List, [], ◌∷◌, ◌++◌, ℕ, zero, suc, ◌≤◌, ◌<◌, Float, get_or}
use Rattle.path_pieces.specs.Pieces.{no_score, with_cut_at}
use Rattle.path_pieces.specs.declared.lengths.Lengths.{Lengths}
use Rattle.path_pieces.specs.declared.score.Score.{Score}
use Rattle.path_pieces.specs.Least.{found_score, found_index, predecessor_of}
use Rattle.path_rules.specs.Paths.{last_candidate}

module _ (l : Lengths) (left right : List ℕ) (cut : List Float) where
  -- the best score at candidate j, from those of the candidates before it
  unfoldable pub next_score : (ℕ → Score) → ℕ → Score
  next_score own zero = no_score
  next_score own (suc j) = with_cut_at cut (suc j) (found_score (predecessor_of l left right own 0 (suc j)))

  -- the best scores at the first n candidates
  unfoldable pub table_of : ℕ → List Score
  table_of zero = []
  table_of (suc n) = let t = table_of n in t ++ (next_score (λ i. get_or t i no_score) n ∷ [])

  -- document 01's "own best score" of candidate j, the cut at j included
  unfoldable pub best_score : ℕ → Score
  best_score j = get_or (table_of (suc j)) j no_score

  -- its number of pieces over the limit
  abbrev pub best_over : ℕ → ℕ
  best_over j = (best_score j).over

  -- its cost
  abbrev pub best_cost : ℕ → Float
  best_cost j = (best_score j).cost

  -- where the last piece of the best path to candidate j starts
  unfoldable pub parent_of : ℕ → ℕ
  parent_of j = found_index (predecessor_of l left right best_score 0 j)

-- ---- the way back

-- the candidates on the way back from j, the first one first, in at most n steps
unfoldable pub way_back : (ℕ → ℕ) → ℕ → ℕ → List ℕ
way_back parent zero j = j ∷ []
way_back parent (suc n) zero = 0 ∷ []
way_back parent (suc n) (suc j) = way_back parent n (parent (suc j)) ++ (suc j ∷ [])

-- the path to candidate j that the parents give
abbrev pub way_to : (ℕ → ℕ) → ℕ → List ℕ
way_to parent j = way_back parent j j

-- each parent up to `last` is an earlier candidate
abbrev pub Falling : (ℕ → ℕ) → ℕ → Type 0
Falling parent last = (j : ℕ) → 0 < j → j ≤ last → parent j < j

-- document 01's path by length: the path of the table, from the first candidate to the last
unfoldable pub best_path : Lengths → List ℕ → List ℕ → List Float → List ℕ
best_path l left right cut = way_to (parent_of l left right cut) (last_candidate left)
