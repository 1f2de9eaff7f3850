-- Document 01's "path": which pieces are allowed, which lists of candidates are paths, what a path scores, and which path is best, by length and by count.
-- The limit is an argument of every definition, alone or in the length preferences.
use Rattle.std.specs.Prelude.{◌≡◌, ◌⊎◌, List, [], ◌∷◌, ℕ, suc, ◌+◌, ◌-◌, ◌<◌, min, T, Float, length}
use Rattle.path_pieces.specs.Pieces.{piece_length, may_start, over_of, no_score, with_piece, with_cut_at, at_most}
use Rattle.path_pieces.specs.declared.lengths.Lengths.{Lengths}
use Rattle.path_pieces.specs.declared.score.Score.{Score}

-- ---- pieces

-- document 01's "piece rule", by length: a piece from candidate i to candidate j is allowed
abbrev pub Allowed : ℕ → List ℕ → List ℕ → ℕ → ℕ → Type 0
Allowed limit left right i j = (i < j) × T (may_start limit left right j i)

-- by count "the first piece may have any length"
abbrev pub AllowedByCount : ℕ → List ℕ → List ℕ → ℕ → ℕ → Type 0
AllowedByCount limit left right i j = (i < j) × ((i ≡ 0) ⊎ T (may_start limit left right j i))

-- ---- paths: lists of candidates

-- from candidate i on: each piece follows the rule, and the last one ends at `last`
abbrev pub Onward : (ℕ → ℕ → Type 0) → ℕ → List ℕ → ℕ → Type 0
Onward rule i [] last = i ≡ last
Onward rule i (j ∷ rest) last = rule i j × Onward rule j rest last

-- from the first candidate to `last`
abbrev pub Path : (ℕ → ℕ → Type 0) → List ℕ → ℕ → Type 0
Path rule [] last = ⊥
Path rule (i ∷ rest) last = (i ≡ 0) × Onward rule i rest last

-- the last candidate
abbrev pub last_candidate : List ℕ → ℕ
last_candidate left = length left - 1

-- document 01's "path" by length: from the first candidate to the last
abbrev pub PathByLength : ℕ → List ℕ → List ℕ → List ℕ → Type 0
PathByLength limit left right path = Path (Allowed limit left right) path (last_candidate left)

-- a path by count of k pieces, one fewer than candidates, to candidate j
abbrev pub PathWith : ℕ → List ℕ → List ℕ → ℕ → ℕ → List ℕ → Type 0
PathWith limit left right k j path = Path (AllowedByCount limit left right) path j × (length path ≡ suc k)

-- document 01's number of pieces by count: min(count, last index)
abbrev pub piece_count : List ℕ → ℕ → ℕ
piece_count left count = min count (last_candidate left)

-- document 01's "path" by count
abbrev pub PathByCount : ℕ → ℕ → List ℕ → List ℕ → List ℕ → Type 0
PathByCount count limit left right path = PathWith limit left right (piece_count left count) (last_candidate left) path

-- ---- how many pieces are over the limit

module _ (limit : ℕ) (left right : List ℕ) where
  -- from candidate i on
  unfoldable pub over_from : ℕ → List ℕ → ℕ
  over_from i [] = 0
  over_from i (j ∷ rest) = over_of limit (piece_length left right i j) + over_from j rest

  -- document 01's "number of pieces over the limit" of a path
  unfoldable pub over_count : List ℕ → ℕ
  over_count [] = 0
  over_count (i ∷ rest) = over_from i rest

-- ---- scores

module _ (l : Lengths) (left right : List ℕ) (cut : List Float) where
  -- a path's score s at candidate i becomes this at candidate j: the piece is added, and then the cut
  abbrev pub step : Score → ℕ → ℕ → Score
  step s i j = with_cut_at cut j (with_piece l s (piece_length left right i j))

  -- from the score s at candidate i on, piece by piece
  unfoldable pub score_from : Score → ℕ → List ℕ → Score
  score_from s i [] = s
  score_from s i (j ∷ rest) = score_from (step s i j) j rest

  -- document 01's "score" of a path: added left to right, each piece's and then the cut's, none after the last piece
  unfoldable pub path_score : List ℕ → Score
  path_score [] = no_score
  path_score (i ∷ rest) = score_from no_score i rest

  -- document 01's "best": allowed, and at most the score of every allowed path
  pub record BestByLength (path : List ℕ) : Type 0 where
    pub allowed : PathByLength l.limit left right path
    pub least : (other : List ℕ) → PathByLength l.limit left right other → T (at_most (path_score path) (path_score other))

  -- the same among the paths by count
  pub record BestByCount (count : ℕ) (path : List ℕ) : Type 0 where
    pub allowed : PathByCount count l.limit left right path
    pub least : (other : List ℕ) → PathByCount count l.limit left right other → T (at_most (path_score path) (path_score other))
