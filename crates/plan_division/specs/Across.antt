-- What demand 3 needs of a plan's candidates: they run from one end of the span to the other, each apart from the next, those between the ends are places of the span,
-- and every dropped gap is one of them.
use Rattle.std.specs.Prelude.{◌≡◌, ℕ, suc, ◌-◌, ◌≤◌, ◌<◌, length}
use mathlib.Core.List.{List, Memᴰ}
use Rattle.candidate_span.specs.Gaps.{Cut}
use Rattle.candidate_span.specs.Span.{Span}
use Rattle.division.specs.Division.{Place}
use Rattle.candidates.specs.declared.candidate.Candidate.{Candidate}
use Rattle.plan_division.specs.Along.{ends_at}

-- a candidate has its left end at boundary k
pub record HasLeft (cs : List Candidate) (k : ℕ) : Type 0 where
  pub number : ℕ
  pub counted : number < length cs
  pub at : (ends_at cs number).left ≡ k

-- a candidate between the ends is the cut k
pub record HasCut (cs : List Candidate) (k : Cut) : Type 0 where
  pub number : ℕ
  pub after : 0 < number
  pub before : suc number < length cs
  pub is : ends_at cs number ≡ k

-- candidates from one end of the span to the other
pub record Across (s : Span) (cs : List Candidate) : Type 0 where
  pub some : 2 ≤ length cs
  pub starts : (ends_at cs 0).right ≡ s.first
  pub stops : (ends_at cs (length cs - 1)).left ≡ s.last
  pub inside : (i : ℕ) → i < length cs → (ends_at cs i).left ≤ (ends_at cs i).right
  pub apart : (i j : ℕ) → i < j → j < length cs → (ends_at cs i).right < (ends_at cs j).left
  pub placed : (i : ℕ) → 0 < i → suc i < length cs → Place s (ends_at cs i)
  pub gaps : (k : Cut) → Memᴰ k s.gaps → HasLeft cs k.left
