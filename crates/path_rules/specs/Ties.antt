-- Document 01's "tie rule": of each candidate its own best score, and by these the one start that a piece may have, by length and by count.
use Rattle.std.specs.Prelude.{◌≡◌, List, [], ◌∷◌, ℕ, zero, suc, ◌≤◌, ◌<◌, T, Float, length}
use Rattle.path_pieces.specs.Pieces.{may_start, arrival, at_most}
use Rattle.path_pieces.specs.declared.lengths.Lengths.{Lengths}
use Rattle.path_pieces.specs.declared.score.Score.{Score}
use Rattle.path_pieces.specs.Least.{LowestLeast}
use Rattle.path_rules.specs.Paths.{Allowed, Path, last_candidate, PathWith, path_score}

-- ---- own best scores

module _ (l : Lengths) (left right : List ℕ) (cut : List Float) where
  -- document 01's "own best score" of each candidate: the score of an allowed path to it, and at most the score of every one
  pub record OwnBest (own : ℕ → Score) : Type 0 where
    pub path : ℕ → List ℕ
    pub allowed : (j : ℕ) → j < length left → Path (Allowed l.limit left right) (path j) j
    pub attained : (j : ℕ) → j < length left → path_score l left right cut (path j) ≡ own j
    pub least : (j : ℕ) (other : List ℕ) → j < length left → Path (Allowed l.limit left right) other j
        → T (at_most (own j) (path_score l left right cut other))

  -- document 01's "own best score" of each candidate "with one piece fewer": that of k pieces, for each k that can reach it
  pub record OwnBestByCount (own : ℕ → ℕ → Score) : Type 0 where
    pub path : ℕ → ℕ → List ℕ
    pub allowed : (k j : ℕ) → 0 < k → k ≤ j → j < length left → PathWith l.limit left right k j (path k j)
    pub attained : (k j : ℕ) → 0 < k → k ≤ j → j < length left → path_score l left right cut (path k j) ≡ own k j
    pub least : (k j : ℕ) (other : List ℕ) → 0 < k → k ≤ j → j < length left → PathWith l.limit left right k j other
        → T (at_most (own k j) (path_score l left right cut other))

-- ---- by length

module _ (l : Lengths) (left right : List ℕ) where
  -- document 01's "tie rule" for the piece from i to j: i is the lowest candidate whose own best score, plus this piece, is least among
  -- the allowed pieces
  abbrev pub Chosen : (ℕ → Score) → ℕ → ℕ → Type 0
  Chosen own i j = LowestLeast (may_start l.limit left right j) (arrival l left right own j) 0 j i

  -- "reading from the end, each piece starts" there
  abbrev pub TieRule : (ℕ → Score) → List ℕ → Type 0
  TieRule own path = Path (Chosen own) path (last_candidate left)

-- ---- by count: `own k` is the best score of each candidate with k pieces

module _ (l : Lengths) (left right : List ℕ) where
  -- document 01's "tie rule" for the piece from i to j after k pieces: the first piece starts at the first candidate, and a later one at the lowest
  -- candidate whose own best score with k pieces, plus this piece, is least among the allowed pieces
  abbrev pub ChosenByCount : (ℕ → ℕ → Score) → ℕ → ℕ → ℕ → Type 0
  ChosenByCount own zero i j = i ≡ 0
  ChosenByCount own (suc k) i j = LowestLeast (may_start l.limit left right j) (arrival l left right (own (suc k)) j) (suc k) j i

  -- from candidate i on, after k pieces
  abbrev pub TieOnward : (ℕ → ℕ → Score) → ℕ → ℕ → List ℕ → ℕ → Type 0
  TieOnward own k i [] last = i ≡ last
  TieOnward own k i (j ∷ rest) last = ChosenByCount own k i j × TieOnward own (suc k) j rest last

  -- from the first candidate to `last`
  abbrev pub TiePath : (ℕ → ℕ → Score) → List ℕ → ℕ → Type 0
  TiePath own [] last = ⊥
  TiePath own (i ∷ rest) last = (i ≡ 0) × TieOnward own 0 i rest last

  -- "reading from the end, each piece starts" there
  abbrev pub TieRuleByCount : (ℕ → ℕ → Score) → List ℕ → Type 0
  TieRuleByCount own path = TiePath own path (last_candidate left)
