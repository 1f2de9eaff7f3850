-- The lowest least of a range of which every candidate may be chosen, and the order of candidates behind it.
use Rattle.std.specs.Prelude.{Bool, true, cond, ℕ, ◌-◌, ◌≤◌, T, Option, Some}
use Rattle.path_pieces.specs.Pieces.{at_most}
use Rattle.path_pieces.specs.Least.{lowest_least, Answers, ahead_of}
use Rattle.path_pieces.specs.declared.best.Best.{Best}
use Rattle.path_pieces.specs.declared.score.Score.{Score}

-- every candidate passes
abbrev pub every : ℕ → Bool
every i = true

-- of the candidates from `from` up to `to`, the lowest that has the least score
abbrev pub least_in : (ℕ → Score) → ℕ → ℕ → Option Best
least_in score from to = lowest_least every score from (to - from)

-- the same in words, of a candidate with its score
abbrev pub IsLeast : (ℕ → Score) → ℕ → ℕ → Best → Type 0
IsLeast score from to b = Answers every score from to (Some b)

-- ---- which of two comes first

-- the one that comes first; the second where neither is ahead
abbrev pub ahead_best : Best → Best → Best
ahead_best a b = cond (ahead_of a b) a b

-- b does not come before a: a is as good as b, and not later where b is as good as a
pub record Before (a b : Best) : Type 0 where
  pub better : T (at_most a.score b.score)
  pub earlier : T (at_most b.score a.score) → a.at ≤ b.at
