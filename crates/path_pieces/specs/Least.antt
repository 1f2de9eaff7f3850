-- "The lowest candidate whose score is least" among those of a range that pass a test: the choice that document 01's tie rule makes.
use Rattle.std.specs.Prelude.{◌≡◌, Bool, cond, not, ◌&&◌, ◌||◌, List, ℕ, zero, suc, ◌-◌, ◌≤◌, ◌<◌, min, T, ltb, Option, Some, None}
use Rattle.path_pieces.specs.Pieces.{may_start, no_score, arrival, at_most, less_than, equal_to}
use Rattle.path_pieces.specs.declared.best.Best.{Best}
use Rattle.path_pieces.specs.declared.lengths.Lengths.{Lengths}
use Rattle.path_pieces.specs.declared.score.Score.{Score}

-- ---- what was found

-- the score that was found; that of a path without pieces where nothing was
abbrev pub found_score : Option Best → Score
found_score None = no_score
found_score (Some b) = b.score

-- its index; 0 where nothing was
abbrev pub found_index : Option Best → ℕ
found_index None = 0
found_index (Some b) = b.at

-- ---- the choice

-- the candidate a, unless what was found after it is better
abbrev pub or_better : Best → Option Best → Option Best
or_better a None = Some a
or_better a (Some b) = cond (at_most a.score b.score) (Some a) (Some b)

-- the candidate i with its score
abbrev pub entry : (ℕ → Score) → ℕ → Best
entry score i = record { score = score i; at = i }

-- of the n candidates from `from` on, the lowest that passes the test and has the least score
unfoldable pub lowest_least : (ℕ → Bool) → (ℕ → Score) → ℕ → ℕ → Option Best
lowest_least test score from zero = None
lowest_least test score from (suc n) =
    let after = lowest_least test score (suc from) n in cond (test from) (or_better (entry score from) after) after

-- ---- which of two comes first

-- a has a better score than b, or an equal one and a lower index
unfoldable pub ahead_of : Best → Best → Bool
ahead_of a b = less_than a.score b.score || (equal_to a.score b.score && ltb a.at b.at)

-- ---- the same in words

-- i is the lowest of the candidates from `from` up to `to` that pass the test and have the least score
pub record LowestLeast (test : ℕ → Bool) (score : ℕ → Score) (from to i : ℕ) : Type 0 where
  pub low : from ≤ i
  pub high : i < to
  pub passed : T (test i)
  pub least : (k : ℕ) → from ≤ k → k < to → T (test k) → T (at_most (score i) (score k))
  pub lowest : (k : ℕ) → from ≤ k → k < i → T (test k) → T (less_than (score i) (score k))

-- what an answer says of its range
abbrev pub Answers : (ℕ → Bool) → (ℕ → Score) → ℕ → ℕ → Option Best → Type 0
Answers test score from to None = (k : ℕ) → from ≤ k → k < to → T (not (test k))
Answers test score from to (Some b) = (b.score ≡ score b.at) × LowestLeast test score from to b.at

-- walking back from j to `from`: the answer so far is that for the candidates from i on
abbrev pub BestSoFar : (ℕ → Bool) → (ℕ → Score) → ℕ → ℕ → Option Best → ℕ → Type 0
BestSoFar test score from j best i = (i ≤ j) × (min from j ≤ i) × (best ≡ lowest_least test score i (j - i))

-- ---- the best predecessor

-- document 01's choice of where a piece to candidate j starts, from candidate `from` on: the lowest candidate whose own score plus an allowed piece to j is least.
-- Scores are compared before the cut at j is added
unfoldable pub predecessor_of : Lengths → List ℕ → List ℕ → (ℕ → Score) → ℕ → ℕ → Option Best
predecessor_of l left right own from j = lowest_least (may_start l.limit left right j) (arrival l left right own j) from (j - from)
